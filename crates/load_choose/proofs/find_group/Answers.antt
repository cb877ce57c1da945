-- `load_choose::find_group` meets its contract.
use Prim.Native.Nat.{◌-◌}
use Rattle.written.specs.Bytes.{same}
use Rattle.text_parts.specs.Parts.{bytes_of}
use Rattle.load_choose.proofs.Search.{down_none, down_here, down_on}
use native.Mathlib.Omega.{arith}
use mathlib.Core.Path.{refl, sym, ap, ◌∙◌}
use Rattle.load_choose.proofs.find_group.Goals as goal

pub loop-k-init : goal.loop-k-init
loop-k-init c = record { within = omega arith; same = refl }

pub overflow_mul-step : goal.overflow_mul-step
overflow_mul-step c = omega (arith, c.requires (c.loop-k.k - 1) (omega (arith, c.loop-k-test.true, c.loop-k.invariant.within)))

pub overflow_add-at : goal.overflow_add-at
overflow_add-at c = omega (arith, c.requires (c.loop-k.k - 1) (omega (arith, c.loop-k-test.true, c.loop-k.invariant.within)))

pub span_at-name-requires : goal.span_at-name-requires
span_at-name-requires c = c.requires (c.loop-k.k - 1) (omega (arith, c.loop-k-test.true, c.loop-k.invariant.within))

pub returns-then-same_part : goal.returns-then-same_part
returns-then-same_part c = down_here _ c.loop-k.invariant c.loop-k-test.true (sym (ap (λ y. same (bytes_of c.args.file.now y) (bytes_of c.args.file.now c.args.x)) c.span_at-name.ensures) ∙ sym c.same_part.ensures ∙ c.if-same_part.true)

pub loop-k-preserved : goal.loop-k-preserved
loop-k-preserved c = down_on _ c.loop-k.invariant c.loop-k-test.true (sym (ap (λ y. same (bytes_of c.args.file.now y) (bytes_of c.args.file.now c.args.x)) c.span_at-name.ensures) ∙ sym c.same_part.ensures ∙ c.if-same_part.false)

pub returns : goal.returns
returns c = down_none c.loop-k.invariant (omega arith)
