-- The laws of a trailer's end: room, the last three numbers, the sum.
use mathlib.Core.Path.{◌≡◌, refl, sym, ap, ap₂, ◌∙◌}
use mathlib.Core.Bool.{Bool, true, false, ◌&&◌}
use mathlib.Core.List.{List, [], ◌∷◌, ◌++◌, append_assoc}
use Prim.Native.Nat.{ℕ, ◌+◌, ◌-◌, ◌*◌, ◌%◌, ◌^◌, ◌≤◌, ◌<◌}
use native.Mathlib.Omega.{arith}
use borrow.Author.Tests.{le-leb, lt-leb, leb-true, leb-false}
use lib.Dec.{leb, eqb}
use lib.ListN.{length, take, drop, length-append}
use lib.Seq.{sets, sets-eq, take_at, take-length, length-take-le}
use Rattle.written.specs.Blocks.{little_endian, total}
use Rattle.written.specs.Trailer.{sum32}
use Rattle.written_trailer.proofs.Trailing.{total-append}
use Rattle.laws.proofs.Tables.{sets_over}
use Rattle.pdf_blocks.specs.Values.{word_at}
use Rattle.trail_last.specs.Last.{has_room, summed_of}

-- ---- room

module _ (bytes buffer file : ℕ) where
  pub room_short : buffer < bytes → false ≡ has_room bytes buffer file
  unfolding has_room
  room_short l = rw (lt-leb bytes buffer l)

  pub room_long : 16777216 < file → false ≡ has_room bytes buffer file
  unfolding has_room
  room_long l = go (leb bytes buffer) (lt-leb (file + bytes) 16777216 (omega arith))
    where
      go : (a : Bool) {b : Bool} → b ≡ false → false ≡ a && b
      go true e = sym e
      go false e = refl

  pub room_as : bytes ≤ buffer → file ≤ 16777216 → leb bytes (16777216 - file) ≡ has_room bytes buffer file
  unfolding has_room
  room_as a b = go (leb bytes (16777216 - file)) refl ∙ sym (ap (λ (x : Bool). x && leb (file + bytes) 16777216) (le-leb bytes buffer a))
    where
      go : (x : Bool) → leb bytes (16777216 - file) ≡ x → leb bytes (16777216 - file) ≡ leb (file + bytes) 16777216
      go true e = let l = leb-true bytes (16777216 - file) e in e ∙ sym (le-leb (file + bytes) 16777216 (omega arith))
      go false e = let l = leb-false bytes (16777216 - file) e in e ∙ sym (lt-leb (file + bytes) 16777216 (omega arith))

  pub room_fits : has_room bytes buffer file ≡ true → (bytes ≤ buffer) × (file + bytes ≤ 16777216)
  unfolding has_room
  room_fits h = go (leb bytes buffer) refl h
    where
      go : (x : Bool) → leb bytes buffer ≡ x → x && leb (file + bytes) 16777216 ≡ true → (bytes ≤ buffer) × (file + bytes ≤ 16777216)
      go true e h = (leb-true bytes buffer e, leb-true (file + bytes) 16777216 h)
      go false e h = let u : ◌≡◌ {A = ℕ} 0 1 = cc in absurd (omega arith)

-- ---- the last three numbers

module _ (file t : List ℕ) (n : ℕ) (room : 12 * n + 12 ≤ length t) where
  abbrev L : ℕ
  L = length file

  front : (y : ℕ) → take (12 * n + 8) (sets t (12 * n) (little_endian (n ∷ L ∷ y ∷ []))) ≡ take (12 * n) t ++ little_endian (n ∷ L ∷ [])
  unfolding little_endian
  front y =
      let rest : List ℕ = drop (12 * n + 12) t in
      let p : List ℕ = take (12 * n) t in
      let a : List ℕ = little_endian (n ∷ L ∷ []) in
      let b : List ℕ = little_endian (y ∷ []) in
      let e : sets t (12 * n) (a ++ b) ≡ (p ++ a) ++ (b ++ rest) =
      sets-eq (a ++ b) t (12 * n) room ∙ ap (λ (l : List ℕ). l ++ rest) (sym (append_assoc p a b)) ∙ append_assoc (p ++ a) b rest in
      ap (take (12 * n + 8)) e ∙ take_at (p ++ a) (b ++ rest) (12 * n + 8) (length-append p a ∙ ap (λ (x : ℕ). x + 8) (length-take-le (12 * n) t (omega arith)))

  summed_up : (p : List ℕ) {x y : ℕ} → x ≡ (0 + total (take (length file) file)) % 2 ^ 32 → y ≡ (x + total p) % 2 ^ 32 → y ≡ sum32 (file ++ p)
  unfolding sum32
  summed_up p {x} {y} e f = go (total file) (total p) (e ∙ ap (λ (l : List ℕ). (0 + total l) % 2 ^ 32) (take-length file)) f ∙ sym (ap (λ (k : ℕ). k % 2 ^ 32) (total-append file p))
    where
      go : (a b : ℕ) → x ≡ (0 + a) % 2 ^ 32 → y ≡ (x + b) % 2 ^ 32 → y ≡ (a + b) % 2 ^ 32
      go a b e f = omega arith

  pub last_stored : {t₁ t₂ : List ℕ} {x y : ℕ} → t₁ ≡ sets t (12 * n) (little_endian (n ∷ length file ∷ 0 ∷ [])) → x ≡ (0 + total (take (length file) file)) % 2 ^ 32
      → y ≡ (x + total (take (12 * n + 8) t₁)) % 2 ^ 32 → t₂ ≡ sets t₁ (12 * n) (little_endian (n ∷ length file ∷ y ∷ []))
      → t₂ ≡ sets t (12 * n) (little_endian (n ∷ length file ∷ sum32 (file ++ (take (12 * n) t ++ little_endian (n ∷ length file ∷ []))) ∷ []))
  unfolding little_endian
  last_stored {t₁} {t₂} {x} {y} e f g h =
      let p = ap (take (12 * n + 8)) e ∙ front 0 in
      let s = summed_up (take (12 * n) t ++ little_endian (n ∷ L ∷ [])) f (g ∙ ap (λ (l : List ℕ). (x + total l) % 2 ^ 32) p) in
      h ∙ ap (λ (l : List ℕ). sets l (12 * n) (little_endian (n ∷ L ∷ y ∷ []))) e
      ∙ sets_over (little_endian (n ∷ L ∷ 0 ∷ [])) (little_endian (n ∷ L ∷ y ∷ [])) t (12 * n) (omega arith)
      ∙ ap (λ (z : ℕ). sets t (12 * n) (little_endian (n ∷ L ∷ z ∷ []))) s

pub summed_as : (s : List ℕ) {w x : ℕ} → w ≡ word_at s (length s - 4) → x ≡ (0 + total (take (length s - 4) s)) % 2 ^ 32 → eqb w x ≡ summed_of s
unfolding summed_of sum32
summed_as s {w} {x} e f =
    let z : (0 + total (take (length s - 4) s)) % 2 ^ 32 ≡ total (take (length s - 4) s) % 2 ^ 32 = ap (λ (k : ℕ). k % 2 ^ 32) (zero (total (take (length s - 4) s))) in
    ap₂ (λ (a b : ℕ). eqb a b) e (f ∙ z)
  where
    zero : (k : ℕ) → 0 + k ≡ k
    zero k = omega arith
