-- What is written is not refused, and a refusal has one number: so the two calls have one answer each, and the buffer one content.
use mathlib.Core.Path.{◌≡◌, refl, sym, ap, ◌∙◌}
use mathlib.Core.List.{List, ◌++◌}
use Prim.Native.Nat.{ℕ, ◌≤◌, min}
use native.Mathlib.Omega.{arith}
use lib.ListN.{length, drop}
use Rattle.written.specs.Linking.{Row}
use Rattle.written.specs.Writing.{ReadBack, Written, Unwritten, NotWritten, Measured, Wrote}
use Rattle.written_back.proofs.OneText.{written_once}
use Rattle.written_back.proofs.Inside.{written_inside, written_even}

module _ {d : List ℕ} {Q P T R : List Row} where
  -- what is written is read back by its own text
  pub written_back : {w : List ℕ} → Written d Q P T R w → ReadBack d Q P T R
  written_back {w} x = record { s = w; i = 0; t = x.t; l = x.l; says = x.says; rows = x.rows }

  pub unwritten_never : {w : List ℕ} {n : ℕ} → Written d Q P T R w → Unwritten d Q P T R n → ⊥
  unwritten_never x (Unwritten.outside o) = written_inside x o
  unwritten_never x (Unwritten.odd_byte n o) = written_even x o
  unwritten_never x (Unwritten.unread n m u) = u (written_back x)

  pub written_never : {w : List ℕ} {room n : ℕ} → Written d Q P T R w → length w ≤ room → NotWritten d Q P T R room n → ⊥
  written_never x l (NotWritten.unwritten u) = unwritten_never x u
  written_never x l (NotWritten.no_room y s) = omega (arith, ap length (written_once x y))

  pub unwritten_once : {n m : ℕ} → Unwritten d Q P T R n → Unwritten d Q P T R m → n ≡ m
  unwritten_once (Unwritten.outside o) (Unwritten.outside p) = refl
  unwritten_once (Unwritten.outside o) (Unwritten.odd_byte n p) = absurd (n o)
  unwritten_once (Unwritten.outside o) (Unwritten.unread n m u) = absurd (n o)
  unwritten_once (Unwritten.odd_byte n o) (Unwritten.outside p) = absurd (n p)
  unwritten_once (Unwritten.odd_byte n o) (Unwritten.odd_byte m p) = refl
  unwritten_once (Unwritten.odd_byte n o) (Unwritten.unread m k u) = absurd (k o)
  unwritten_once (Unwritten.unread n m u) (Unwritten.outside p) = absurd (n p)
  unwritten_once (Unwritten.unread n m u) (Unwritten.odd_byte k p) = absurd (m p)
  unwritten_once (Unwritten.unread n m u) (Unwritten.unread k l v) = refl

  pub not_written_once : {room n m : ℕ} → NotWritten d Q P T R room n → NotWritten d Q P T R room m → n ≡ m
  not_written_once (NotWritten.unwritten u) (NotWritten.unwritten v) = unwritten_once u v
  not_written_once (NotWritten.unwritten u) (NotWritten.no_room y s) = absurd (unwritten_never y u)
  not_written_once (NotWritten.no_room x l) (NotWritten.unwritten v) = absurd (unwritten_never x v)
  not_written_once (NotWritten.no_room x l) (NotWritten.no_room y s) = refl

  -- ---- the two calls

  pub measured_once : {c e n m : ℕ} → Measured d Q P T R c n → Measured d Q P T R e m → (c ≡ e) × (n ≡ m)
  measured_once (Measured.done x p) (Measured.done y q) = (refl, p ∙ ap (λ (w : List ℕ). min (length w) 18446744073709551615) (written_once x y) ∙ sym q)
  measured_once (Measured.done x p) (Measured.refused u) = absurd (unwritten_never x u)
  measured_once (Measured.refused u) (Measured.done y q) = absurd (unwritten_never y u)
  measured_once (Measured.refused u) (Measured.refused v) = (unwritten_once u v, refl)

  pub wrote_once : {b e f : List ℕ} {c g n m : ℕ} → Wrote d Q P T R b c n e → Wrote d Q P T R b g m f → (c ≡ g) × (n ≡ m) × (e ≡ f)
  wrote_once {b} (Wrote.done x l p q) (Wrote.done y k r s) =
      let z = written_once x y in (refl, p ∙ ap length z ∙ sym r, q ∙ ap (λ (w : List ℕ). w ++ drop (length w) b) z ∙ sym s)
  wrote_once (Wrote.done x l p q) (Wrote.refused u e) = absurd (written_never x l u)
  wrote_once (Wrote.refused u e) (Wrote.done y k r s) = absurd (written_never y k u)
  wrote_once (Wrote.refused u e) (Wrote.refused v f) = (not_written_once u v, refl, e ∙ sym f)
