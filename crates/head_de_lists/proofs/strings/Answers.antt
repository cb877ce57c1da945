-- `head_de_lists::strings` meets its contract.
use Rattle.head_de.specs.Values.{got}
use Rattle.head_de_lists.specs.Lists.{list_at}
use mathlib.Core.Path.{sym, ap, ◌∙◌}
use Rattle.head_de_lists.proofs.strings.Goals as goal

pub returns-in-Passed : goal.returns-in-Passed
unfolding list_at
returns-in-Passed c = rw (sym c.delimiter.ensures ∙ c.in-Passed.is) c.strings_from.ensures

pub returns-in-Closed : goal.returns-in-Closed
unfolding list_at
returns-in-Closed c = rw (sym c.delimiter.ensures ∙ c.in-Closed.is) (ap (λ l. got l c.args.c.at) c.none.ensures)

pub returns-in-Missing : goal.returns-in-Missing
unfolding list_at
returns-in-Missing c = rw (sym c.delimiter.ensures ∙ c.in-Missing.is) c.strings_from-in-Missing.ensures
