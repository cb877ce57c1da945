-- `head_de::Cursor::pair` meets its contract.
use Rattle.std.proofs.lemmas.Result.{err_from_is_err_and}
use Rattle.head_de.specs.Values.{pair_at}
use mathlib.Core.Path.{sym, ◌∙◌}
use Rattle.head_de.proofs.Cursor.pair.Goals as goal

pub returns-in_err-first : goal.returns-in_err-first
unfolding pair_at
returns-in_err-first c =
    let p = err_from_is_err_and c.from_residual.result c.from_residual.ensures.1 in
    rw (p.1, p.2, sym c.element.ensures ∙ c.in_err-first.was)

pub returns-in_err-second : goal.returns-in_err-second
unfolding pair_at
returns-in_err-second c =
    let p = err_from_is_err_and c.from_residual-in_err-second.result c.from_residual-in_err-second.ensures.1 in
    rw (p.1, p.2, sym c.element.ensures ∙ c.in_ok-first.was, sym c.element-2.ensures ∙ c.in_err-second.was)

pub returns : goal.returns
unfolding pair_at
returns c = rw (sym c.element.ensures ∙ c.in_ok-first.was, sym c.element-2.ensures ∙ c.in_ok-second.was)
