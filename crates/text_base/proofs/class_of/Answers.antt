-- `text_base::class_of`: each set has the bytes of its class, at each of the 256.
use Rattle.std.proofs.Common.{◌≡◌, ℕ, ◌<◌, Bool, sym, refl, ◌∙◌, arith}
use Rattle.written.specs.Bytes.{letter, digit, wildcard, mark, one_of}
use Rattle.text_base.specs.Classes.{in_set, class_of}
use Rattle.text_base.proofs.Keys.{same_at}
use Rattle.text_base.proofs.class_of.Goals as goal

letters : (b : ℕ) → b < 256 → {r x : Bool} → r ≡ in_set 0 576460743847706622 b → r ≡ x → letter b ≡ x
unfolding in_set letter
letters b h e t = sym (same_at (in_set 0 576460743847706622) letter 256 0 refl b (omega arith) (omega arith)) ∙ sym e ∙ t

digits : (b : ℕ) → b < 256 → {r x : Bool} → r ≡ in_set 287948901175001088 0 b → r ≡ x → digit b ≡ x
unfolding in_set digit
digits b h e t = sym (same_at (in_set 287948901175001088 0) digit 256 0 refl b (omega arith) (omega arith)) ∙ sym e ∙ t

wildcards : (b : ℕ) → b < 256 → {r x : Bool} → r ≡ in_set 9223376434901286912 0 b → r ≡ x → wildcard b ≡ x
unfolding in_set wildcard one_of
wildcards b h e t = sym (same_at (in_set 9223376434901286912 0) wildcard 256 0 refl b (omega arith) (omega arith)) ∙ sym e ∙ t

marks : (b : ℕ) → b < 256 → {r x : Bool} → r ≡ in_set 2594258558585405440 1152921507828072449 b → r ≡ x → mark b ≡ x
unfolding in_set mark one_of
marks b h e t = sym (same_at (in_set 2594258558585405440 1152921507828072449) mark 256 0 refl b (omega arith) (omega arith)) ∙ sym e ∙ t

pub returns-then-in_set : goal.returns-then-in_set
unfolding class_of
returns-then-in_set c = rw (letters c.args.b (omega arith) c.in_set.ensures c.if-in_set.true)

pub returns-then-in_set-2 : goal.returns-then-in_set-2
unfolding class_of
returns-then-in_set-2 c =
    rw (
      letters c.args.b (omega arith) c.in_set.ensures c.if-in_set.false,
      digits c.args.b (omega arith) c.in_set-2.ensures c.if-in_set-2.true,
    )

pub returns-then-in_set-3 : goal.returns-then-in_set-3
unfolding class_of
returns-then-in_set-3 c =
    rw (
      letters c.args.b (omega arith) c.in_set.ensures c.if-in_set.false,
      digits c.args.b (omega arith) c.in_set-2.ensures c.if-in_set-2.false,
      wildcards c.args.b (omega arith) c.in_set-3.ensures c.if-in_set-3.true,
    )

pub returns-then-in_set-4 : goal.returns-then-in_set-4
unfolding class_of
returns-then-in_set-4 c =
    rw (
      letters c.args.b (omega arith) c.in_set.ensures c.if-in_set.false,
      digits c.args.b (omega arith) c.in_set-2.ensures c.if-in_set-2.false,
      wildcards c.args.b (omega arith) c.in_set-3.ensures c.if-in_set-3.false,
      marks c.args.b (omega arith) c.in_set-4.ensures c.if-in_set-4.true,
    )

pub returns : goal.returns
unfolding class_of
returns c =
    rw (
      letters c.args.b (omega arith) c.in_set.ensures c.if-in_set.false,
      digits c.args.b (omega arith) c.in_set-2.ensures c.if-in_set-2.false,
      wildcards c.args.b (omega arith) c.in_set-3.ensures c.if-in_set-3.false,
      marks c.args.b (omega arith) c.in_set-4.ensures c.if-in_set-4.false,
    )
