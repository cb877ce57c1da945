-- `text_base::is_name`: printed ASCII at once, and of the other bytes all that are below the space but for the newline.
use Rattle.std.proofs.Common.{◌≡◌, ℕ, ◌<◌, ◌≤◌, true, not, eqb, ltb, ◌⊎◌, sym, inl, inr, ⊎_elim, arith, le-ltb, ne_eqb, le-leb, leb-true}
use borrow.Author.Tests.{lt-leb}
use Rattle.written.specs.Bytes.{in_name, blank}
use Rattle.text_base.proofs.is_name.Goals.{else-b-gt32-via-then-b-gt32+else-b-le127, else-b-gt32-via-else-b-gt32}
use Rattle.text_base.proofs.is_name.Goals as goal

printed : (b : ℕ) → 32 < b → b ≤ 127 → in_name b ≡ true
unfolding in_name blank
printed b h l = rw (le-leb b 127 l, ne_eqb b 32 (λ e. omega arith), ne_eqb b 10 (λ e. omega arith))

control : (b : ℕ) → b < 32 → not (eqb b 10) ≡ in_name b
unfolding in_name blank
control b h = rw (le-leb b 127 (omega arith), ne_eqb b 32 (λ e. omega arith))

other : (b : ℕ) → 32 ≤ b → (b ≤ 32) ⊎ (127 < b) → ltb b 32 ≡ in_name b
unfolding in_name blank
other b h w = rw (le-ltb b 32 h) (⊎_elim (λ l. let e : b ≡ 32 = omega arith in rw e) (λ g. rw (lt-leb b 127 g)) w)

pub returns-then-b-le127 : goal.returns-then-b-le127
returns-then-b-le127 c = sym (printed _ c.if-b-gt32.true (leb-true _ _ c.if-b-le127.true-raw))

pub returns-then-b-lt32 : goal.returns-then-b-lt32
returns-then-b-lt32 c = control _ c.if-b-lt32.true

pub returns-else-b-lt32 : goal.returns-else-b-lt32
returns-else-b-lt32 c = other _ c.if-b-lt32.false (elim c.else-b-gt32.branch [ else-b-gt32-via-then-b-gt32+else-b-le127 w ↦ inr w.if-b-le127.false | else-b-gt32-via-else-b-gt32 w ↦ inl w.if-b-gt32.false ])
