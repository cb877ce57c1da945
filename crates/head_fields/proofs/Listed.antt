-- The names of a table in one text, a space behind each: the number of the name that a key is, read off the text, is that of the field in the table.
--
use mathlib.Core.Path.{◌≡◌, refl, ap, ◌∙◌}
use mathlib.Core.Bool.{Bool, true, false, not, ◌&&◌, cond}
use mathlib.Core.List.{List, [], ◌∷◌, ◌++◌}
use Prim.Native.Nat.{ℕ, suc, ◌+◌, ◌≤◌, ◌<◌}
use native.Mathlib.Numerals.{add-one}
use native.Mathlib.Omega.{arith}
use native.Mathlib.Decide.{dec_lt, ℕ_discrete}
use borrow.Author.Tests.{eq-eqb, ne_eqb, lt-ltb, le-ltb, not-true}
use lib.Dec.{eqb}
use lib.ListN.{length, get_or, drop, drop_of_length-le}
use lib.Seq.{drop-cons}
use Rattle.written.specs.Bytes.{same}
use Rattle.written.specs.HeaderText.{Field}
use Rattle.written.proofs.Tests.{both}
use Rattle.head_fields.specs.Names.{one_more, name_index}
use Rattle.head_fields.specs.Fields.{field_index}

-- no space in a name
abbrev pub plain : List ℕ → Bool
plain [] = true
plain (b ∷ v) = not (eqb b 32) && plain v

abbrev pub plain_names : List Field → Bool
plain_names [] = true
plain_names (f ∷ T) = plain f.name && plain_names T

abbrev pub listed : List Field → List ℕ
listed [] = []
listed (f ∷ T) = f.name ++ (32 ∷ listed T)

-- ---- one byte more

module _ (w : List ℕ) (m b : ℕ) where
  pub more_same : m < length w → eqb b (get_or w m 0) ≡ true → one_more w m b ≡ m + 1
  unfolding one_more
  more_same h e = rw (lt-ltb m (length w) h, e)

  pub more_differs : m < length w → eqb b (get_or w m 0) ≡ false → one_more w m b ≡ length w + 1
  unfolding one_more
  more_differs h e = rw (lt-ltb m (length w) h, e)

  pub more_past : length w ≤ m → one_more w m b ≡ length w + 1
  unfolding one_more
  more_past h = rw (le-ltb m (length w) h)

-- ---- the loop: n names are passed, and the name at i has been the first m bytes of w so far

pub record Seeking (w s : List ℕ) (n m i : ℕ) : Type 0 where
  pub answer : n + name_index w m (drop i s) ≡ name_index w 0 s
  pub passed : n ≤ i
  pub within : i ≤ length s

pub seeking_none : (w s : List ℕ) → Seeking w s 0 0 0
seeking_none w s = record { answer = omega arith; passed = omega arith; within = omega arith }

module _ (w s : List ℕ) (n m i : ℕ) (k : Seeking w s n m i) where
  pub seeking_end : length s ≤ i → n ≡ name_index w 0 s
  unfolding name_index
  seeking_end h = let e : name_index w m (drop i s) ≡ 0 = rw (drop_of_length-le s {i = i} h) in omega (arith, e, k.answer)

  module _ (h : i < length s) where
    pub seeking_here : get_or s i 0 ≡ 32 → m ≡ length w → n ≡ name_index w 0 s
    unfolding name_index
    seeking_here b l =
        let e : name_index w m (drop i s) ≡ 0 = rw (drop-cons s i 0 h, eq-eqb (get_or s i 0) 32 b, eq-eqb m (length w) l) in
        omega (arith, e, k.answer)

    pub seeking_next : get_or s i 0 ≡ 32 → (m ≡ length w → ⊥) → (n' m' : ℕ) → n' ≡ n + 1 → m' ≡ 0 → Seeking w s n' m' (i + 1)
    unfolding name_index
    seeking_next b l n' m' p q =
        let e : name_index w m (drop i s) ≡ suc (name_index w 0 (drop (i + 1) s)) =
        rw (drop-cons s i 0 h, eq-eqb (get_or s i 0) 32 b, ne_eqb m (length w) l, add-one)
        in
        let f : name_index w m' (drop (i + 1) s) ≡ name_index w 0 (drop (i + 1) s) = ap (λ (x : ℕ). name_index w x (drop (i + 1) s)) q in
        record { answer = omega (arith, e, f, p, k.answer); passed = omega (arith, p, k.passed); within = omega arith }

    pub seeking_on : (get_or s i 0 ≡ 32 → ⊥) → (n' m' : ℕ) → n' ≡ n → m' ≡ one_more w m (get_or s i 0) → Seeking w s n' m' (i + 1)
    unfolding name_index
    seeking_on b n' m' p q =
        let e : name_index w m (drop i s) ≡ name_index w (one_more w m (get_or s i 0)) (drop (i + 1) s) =
        rw (drop-cons s i 0 h, ne_eqb (get_or s i 0) 32 b, add-one)
        in
        let f : name_index w m' (drop (i + 1) s) ≡ name_index w (one_more w m (get_or s i 0)) (drop (i + 1) s) =
        ap (λ (x : ℕ). name_index w x (drop (i + 1) s)) q
        in
        record { answer = omega (arith, e, f, p, k.answer); passed = omega (arith, p, k.passed); within = omega arith }

-- ---- one name

-- past a byte that differs the name is not w
lost : (w v t : List ℕ) (m : ℕ) → length w < m → plain v ≡ true → name_index w m (v ++ (32 ∷ t)) ≡ suc (name_index w 0 t)
unfolding name_index
lost w [] t m l p = rw (ne_eqb m (length w) (λ e. omega arith))
lost w (b ∷ v) t m l p =
    let q = both (not (eqb b 32)) (plain v) p in
    let n : length w < length w + 1 = omega arith in
    rw (not-true (eqb b 32) q.0, more_past w m b (omega arith)) (lost w v t (length w + 1) n q.1)

met : (w v t : List ℕ) (m : ℕ) → m ≤ length w → plain v ≡ true → name_index w m (v ++ (32 ∷ t)) ≡ cond (same v (drop m w)) 0 (suc (name_index w 0 t))
unfolding name_index same
met w [] t m l p = elim (dec_lt m (length w)) [
  | yes h ↦ rw (drop-cons w m 0 h, ne_eqb m (length w) (λ e. omega arith))
  | no h ↦ rw (drop_of_length-le w {i = m} (omega arith), eq-eqb m (length w) (omega arith))
]
met w (b ∷ v) t m l p =
    let q = both (not (eqb b 32)) (plain v) p in
    let n : length w < length w + 1 = omega arith in
    let off : name_index w (length w + 1) (v ++ (32 ∷ t)) ≡ suc (name_index w 0 t) = lost w v t (length w + 1) n q.1 in
    elim (dec_lt m (length w)) [
      | yes h ↦ elim (ℕ_discrete b (get_or w m 0)) [
        | yes e ↦
            let x = eq-eqb b (get_or w m 0) e in
            rw (not-true (eqb b 32) q.0, more_same w m b h x, drop-cons w m 0 h, x, ← add-one m) (met w v t (m + 1) (omega arith) q.1)
        | no e ↦ let x = ne_eqb b (get_or w m 0) e in rw (not-true (eqb b 32) q.0, more_differs w m b h x, drop-cons w m 0 h, x) off
      ]
      | no h ↦ let k : length w ≤ m = omega arith in rw (not-true (eqb b 32) q.0, more_past w m b k, drop_of_length-le w {i = m} k) off
    ]

-- ---- the table

pub index_listed : (T : List Field) (w : List ℕ) → plain_names T ≡ true → name_index w 0 (listed T) ≡ field_index T w
unfolding name_index field_index
index_listed [] w p = refl
index_listed (f ∷ T) w p =
    let q = both (plain f.name) (plain_names T) p in
    met w f.name (listed T) 0 (omega arith) q.0 ∙ ap (λ (n : ℕ). cond (same f.name w) 0 (suc n)) (index_listed T w q.1)
