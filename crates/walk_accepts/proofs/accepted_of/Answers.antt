-- `walk_accepts::accepted_of`: by what was judged.
use mathlib.Core.Path.{sym, ap, ◌∙◌}
use mathlib.Core.Bool.{Bool, cond}
use Rattle.std.specs.Prelude.{Ok, Err}
use Rattle.error.specs.declared.Refusal.TheVariants as refusal
use Rattle.walk_accepts.specs.Accepting.{accepted_of}
use Rattle.walk_accepts.proofs.accepted_of.Goals as goal

pub returns-then-fits : goal.returns-then-fits
returns-then-fits c = sym (ap (accepted_of c.args.tree) c.in-Ok.is ∙ ap (λ (b : Bool). cond b (Ok tt) (Err refusal.OtherRows)) c.if-fits.true)

pub returns-else-fits : goal.returns-else-fits
returns-else-fits c = sym (ap (accepted_of c.args.tree) c.in-Ok.is ∙ ap (λ (b : Bool). cond b (Ok tt) (Err refusal.OtherRows)) c.if-fits.false)

pub returns-in-Err : goal.returns-in-Err
returns-in-Err c = sym (ap (accepted_of c.args.tree) c.in-Err.is)
