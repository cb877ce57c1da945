-- `link_names::key_after`: by the key, then by the name.
use mathlib.Core.Path.{sym, ap, ◌∙◌}
use mathlib.Core.Bool.{Bool, cond}
use Rattle.written.specs.Bytes.{same}
use Rattle.link_names.proofs.Laws.{key_other}
use Rattle.link_names.proofs.key_after.Goals as goal

pub returns-then-before-key : goal.returns-then-before-key
returns-then-before-key c = key_other c.args.s.now c.args.start c.args.name.now c.requires.0 c.requires.1 c.if-before-key.true

pub returns-then-same_name : goal.returns-then-same_name
returns-then-same_name c = sym (ap (λ (b : Bool). cond b 0 c.args.before) (ap (same c.args.name.now) (sym c.name_at.ensures) ∙ sym c.same_name.ensures ∙ c.if-same_name.true))

pub returns-else-same_name : goal.returns-else-same_name
returns-else-same_name c = sym (ap (λ (b : Bool). cond b 0 c.args.before) (ap (same c.args.name.now) (sym c.name_at.ensures) ∙ sym c.same_name.ensures ∙ c.if-same_name.false))
