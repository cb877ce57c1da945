-- `link_alone::last_judged`: by what was judged.
use mathlib.Core.Path.{sym, ap, ◌∙◌}
use Rattle.std.specs.Prelude.{Ok}
use Rattle.link_alone.specs.Alone.{ended}
use Rattle.link_alone.proofs.last_judged.Goals as goal

pub returns-in-Ok : goal.returns-in-Ok
returns-in-Ok c = ap Ok c.both.ensures ∙ sym (ap (ended c.args.fits) c.in-Ok.is)

pub returns-in-Err : goal.returns-in-Err
returns-in-Err c = sym (ap (ended c.args.fits) c.in-Err.is)
