-- `text_base::is_letter`: `a` to `z` at once, and behind that only the other range can hold.
use Rattle.std.proofs.Common.{◌≡◌, ℕ, ◌<◌, ◌≤◌, Bool, true, false, ◌||◌, leb, ◌⊎◌, sym, refl, inl, inr, ⊎_elim, arith, le-leb, leb-true}
use borrow.Author.Tests.{lt-leb}
use Rattle.written.specs.Bytes.{letter}
use Rattle.text_base.proofs.is_letter.Goals.{else-b-ge97-via-then-b-ge97+else-b-le122, else-b-ge97-via-else-b-ge97}
use Rattle.text_base.proofs.is_letter.Goals as goal

small : (b : ℕ) → 97 ≤ b → b ≤ 122 → letter b ≡ true
unfolding letter
small b h l = rw (le-leb 65 b (omega arith), lt-leb b 90 (omega arith), le-leb 97 b h, le-leb b 122 l)

large : (b : ℕ) → 65 ≤ b → (b < 97) ⊎ (122 < b) → leb b 90 ≡ letter b
unfolding letter
large b h w = rw (le-leb 65 b h) (⊎_elim (λ l. rw (lt-leb 97 b l) (go (leb b 90))) (λ g. rw (le-leb 97 b (omega arith), lt-leb b 90 (omega arith), lt-leb b 122 g)) w)
  where
    go : (x : Bool) → x ≡ (x || false)
    go true = refl
    go false = refl

neither : (b : ℕ) → b < 65 → leb 65 b ≡ letter b
unfolding letter
neither b h = rw (lt-leb 65 b h, lt-leb 97 b (omega arith))

pub returns-then-b-le122 : goal.returns-then-b-le122
returns-then-b-le122 c = sym (small _ c.if-b-ge97.true (leb-true _ _ c.if-b-le122.true-raw))

pub returns-then-b-ge65 : goal.returns-then-b-ge65
returns-then-b-ge65 c = large _ c.if-b-ge65.true (elim c.else-b-ge97.branch [ else-b-ge97-via-then-b-ge97+else-b-le122 w ↦ inr w.if-b-le122.false | else-b-ge97-via-else-b-ge97 w ↦ inl w.if-b-ge97.false ])

pub returns-else-b-ge65 : goal.returns-else-b-ge65
returns-else-b-ge65 c = neither _ c.if-b-ge65.false
