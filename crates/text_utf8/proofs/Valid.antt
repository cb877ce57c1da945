-- `Valid` is the answer exactly where the bytes are characters, one after the other; `Bad p` exactly where the first bad sequence starts at p.
use mathlib.Core.Path.{◌≡◌, refl, sym, ap, ◌∙◌, subst}
use mathlib.Core.Bool.{Bool, true, false, cond, ◌&&◌}
use mathlib.Core.List.{List, [], ◌∷◌, ◌++◌, Memᴰ}
use mathlib.Core.Logic.{◌↔◌}
use Prim.Native.Nat.{ℕ, zero, suc, ◌+◌, ◌≤◌, ◌<◌}
use native.Mathlib.Nat.{not-suc-le-zero, le_of_suc-le-suc, le_refl}
use native.Mathlib.Omega.{arith}
use borrow.Author.Tests.{leb-true}
use lib.Dec.{leb}
use lib.ListN.{length, take, drop, length-append, length-drop, take-append-drop}
use lib.Seq.{drop-append_seam, take-add, drop-drop}
use Rattle.std.specs.declared.result.Result.{Result}
use Rattle.std.specs.Prelude.{Ok, Err}
use Rattle.written.specs.Rfc3629.{Range, ◌⋯◌, table, Fit, none, one, Char, row, Octets, end, more, FirstBad}
use Rattle.written_apart.proofs.ApartFile.{octets_never, first_bad_one}
use Rattle.text_utf8.specs.Widths.{starts, width, holds}
use Rattle.text_utf8.specs.Check.{scan, check_of}
use Rattle.text_utf8.proofs.Rows.{inside, decides, all_at}
use Rattle.text_utf8.proofs.Scan.{on, off, skip, width-le}

-- ---- from characters to `Valid`

fit_starts : {r : List Range} {c : List ℕ} (s : List ℕ) → Fit r c → starts r (c ++ s) ≡ true
unfolding starts
fit_starts s none = refl
fit_starts s (one {lo = lo} {hi = hi} {b = b} p q f) = simp (inside lo hi b p q, fit_starts s f)

fit_length : {r : List Range} {c : List ℕ} → Fit r c → length r ≡ length c
fit_length none = refl
fit_length (one p q f) = ap suc (fit_length f)

abbrev filled : List Range → Bool
filled [] = false
filled (r ∷ rs) = true

width_of : {r : List Range} {c : List ℕ} (s : List ℕ) → Memᴰ r table → Fit r c → width table (c ++ s) ≡ length c
unfolding table
width_of s m none = absurd (all_at filled table [] tt m)
width_of s m (one {lo = lo} {hi = hi} {b = b} {r = r} {c = c} p q f) =
    decides table (lo ⋯ hi ∷ r) b (c ++ s) tt m (p, q)
    ∙ ap (λ (x : Bool). cond x (suc (length r)) 0) (fit_starts s (one p q f))
    ∙ ap suc (fit_length f)

empty : {r : List Range} → Memᴰ r table → Fit r [] → ⊥
unfolding table
empty m none = all_at filled table [] tt m

-- a character at the front is passed over
pass : (c s : List ℕ) (i : ℕ) → Char c → scan 0 i (c ++ s) ≡ scan 0 (i + length c) s
pass [] s i (row m f) = absurd (empty m f)
pass (b ∷ c) s i (row m f) =
    let e : i + 1 + length c ≡ i + suc (length c) = omega arith in
    on i b (length c) (c ++ s) (width_of s m f)
    ∙ skip (length c) (i + 1) (c ++ s) (omega (arith, length-append c s))
    ∙ rw (drop-append_seam c s, e)

pub complete : {s : List ℕ} → Octets s → (i : ℕ) → scan 0 i s ≡ (Ok tt)
unfolding scan
complete end i = refl
complete (more {c = c} {s = s} h o) i = pass c s i h ∙ complete o (i + length c)

-- ---- from `Valid` to characters

split_true : (a b : Bool) → (a && b) ≡ true → (a ≡ true) × (b ≡ true)
split_true true b e = (refl, e)
split_true false b e = let z : ◌≡◌ {A = ℕ} 0 1 = cc in let no : ⊥ = omega arith in absurd no

starts_fit : (r : List Range) (s : List ℕ) → starts r s ≡ true → Fit r (take (length r) s)
unfolding starts
starts_fit [] s e = none
starts_fit (r ∷ rs) [] e = let z : ◌≡◌ {A = ℕ} 0 1 = cc in let no : ⊥ = omega arith in absurd no
starts_fit (lo ⋯ hi ∷ rs) (b ∷ s) e =
    let p = split_true (holds (lo ⋯ hi) b) (starts rs s) e in
    let q = split_true (leb lo b) (leb b hi) p.0 in
    one (leb-true lo b q.0) (leb-true b hi q.1) (starts_fit rs s p.1)

-- the row that gave the width
Found : List (List Range) → List ℕ → ℕ → Type 0
Found rows s k = (r : List Range) × Memᴰ r rows × (starts r s ≡ true) × (length r ≡ suc k)

found : (rows : List (List Range)) (s : List ℕ) (k : ℕ) → width rows s ≡ suc k → Found rows s k
unfolding width Found
found [] s k e = let no : ⊥ = omega arith in absurd no
found (r ∷ rows) s k e = go (starts r s) refl e (λ h. found rows s k h)
  where
    go : (x : Bool) → starts r s ≡ x → cond x (length r) (width rows s) ≡ suc k → (width rows s ≡ suc k → Found rows s k) → Found (r ∷ rows) s k
    go true p h g = (r, Memᴰ.head refl, p, h)
    go false p h g = let f = g h in (f.0, Memᴰ.tail f.1, f.2, f.3)

-- n bounds the length of s
sound : (n i : ℕ) (s : List ℕ) → length s ≤ n → scan 0 i s ≡ (Ok tt) → Octets s
unfolding Found
sound zero i [] h e = end
sound zero i (b ∷ s) h e = absurd (not-suc-le-zero h)
sound (suc n) i [] h e = end
sound (suc n) i (b ∷ s) h e = go (width table (b ∷ s)) refl (λ j t g. sound n j t g)
  where
    go : (w : ℕ) → width table (b ∷ s) ≡ w → ((j : ℕ) (t : List ℕ) → length t ≤ n → scan 0 j t ≡ (Ok tt) → Octets t) → Octets (b ∷ s)
    go zero p rest = let q : Err i ≡ (Ok tt) = sym (off i b s p) ∙ e in let z : ◌≡◌ {A = ℕ} 0 1 = cc in let no : ⊥ = omega arith in absurd no
    go (suc k) p rest =
        let f = found table (b ∷ s) k p in
        let room : suc k ≤ suc (length s) = subst (λ (x : ℕ). x ≤ suc (length s)) p (width-le table (b ∷ s)) in
        let char : Char (take (suc k) (b ∷ s)) = row f.1 (subst (λ (x : ℕ). Fit f.0 (take x (b ∷ s))) f.3 (starts_fit f.0 (b ∷ s) f.2)) in
        let left : scan 0 (i + 1 + k) (drop k s) ≡ (Ok tt) = sym (on i b k s p ∙ skip k (i + 1) s (le_of_suc-le-suc room)) ∙ e in
        subst Octets (take-append-drop (suc k) (b ∷ s)) (more char (rest (i + 1 + k) (drop k s) (omega (arith, length-drop k s, h)) left))

pub valid : (s : List ℕ) → (check_of s ≡ (Ok tt)) ↔ Octets s
unfolding check_of
valid s = (sound (length s) 0 s (le_refl (length s)), λ o. complete o 0)

-- ---- `Bad`

pub record First (i p : ℕ) (s : List ℕ) : Type 0 where
  pub far : ℕ
  pub place : p ≡ i + far
  pub inside : far < length s
  pub before : Octets (take far s)
  pub nothing : width table (drop far s) ≡ 0

first : (n i p : ℕ) (s : List ℕ) → length s ≤ n → scan 0 i s ≡ Err p → First i p s
unfolding scan Found
first zero i p [] h e = let z : ◌≡◌ {A = ℕ} 0 1 = cc in let no : ⊥ = omega arith in absurd no
first zero i p (b ∷ s) h e = absurd (not-suc-le-zero h)
first (suc n) i p [] h e = let z : ◌≡◌ {A = ℕ} 0 1 = cc in let no : ⊥ = omega arith in absurd no
first (suc n) i p (b ∷ s) h e = go (width table (b ∷ s)) refl (λ j t g. first n j p t g)
  where
    go : (w : ℕ) → width table (b ∷ s) ≡ w → ((j : ℕ) (t : List ℕ) → length t ≤ n → scan 0 j t ≡ Err p → First j p t) → First i p (b ∷ s)
    go zero q rest =
        let same : Err i ≡ Err p = sym (off i b s q) ∙ e in
        let here : i ≡ p = cc in
        record { far = 0; place = omega arith; inside = omega arith; before = end; nothing = q }
    go (suc k) q rest =
        let f = found table (b ∷ s) k q in
        let room : suc k ≤ suc (length s) = subst (λ (x : ℕ). x ≤ suc (length s)) q (width-le table (b ∷ s)) in
        let char : Char (take (suc k) (b ∷ s)) = row f.1 (subst (λ (x : ℕ). Fit f.0 (take x (b ∷ s))) f.3 (starts_fit f.0 (b ∷ s) f.2)) in
        let left : scan 0 (i + 1 + k) (drop k s) ≡ Err p = sym (on i b k s q ∙ skip k (i + 1) s (le_of_suc-le-suc room)) ∙ e in
        let r = rest (i + 1 + k) (drop k s) (omega (arith, length-drop k s, h)) left in
        record {
          far = suc k + r.far;
          place = omega (arith, r.place);
          inside = omega (arith, r.inside, length-drop k s);
          before = rw (take-add (suc k) r.far (b ∷ s)) (more char r.before);
          nothing = rw (← drop-drop r.far (suc k) (b ∷ s)) r.nothing;
        }

-- where no row applies, no character starts
no_char : (s c t : List ℕ) → width table s ≡ 0 → Char c → s ≡ c ++ t → ⊥
no_char s [] t w (row m f) e = empty m f
no_char s (b ∷ c) t w (row m f) e = omega (arith, ap (λ (l : List ℕ). width table l) e, width_of t m f, w)

first_bad : (s : List ℕ) (p : ℕ) → check_of s ≡ Err p → FirstBad s p
unfolding check_of
first_bad s p e =
    let f = first (length s) 0 p s (le_refl (length s)) e in
    let q : f.far ≡ p = omega (arith, f.place) in
    record {
      inside = omega (arith, f.inside);
      before = subst (λ (n : ℕ). Octets (take n s)) q f.before;
      here = λ c t h g. no_char (drop p s) c t (subst (λ (n : ℕ). width table (drop n s) ≡ 0) q f.nothing) h g;
    }

-- `Bad p` is the answer exactly where the first bad sequence starts at p
pub bad : (s : List ℕ) (p : ℕ) → (check_of s ≡ Err p) ↔ FirstBad s p
bad s p = (first_bad s p, λ f. back f (check_of s) refl)
  where
    back : FirstBad s p → (a : Result Unit ℕ) → check_of s ≡ a → check_of s ≡ Err p
    back f (Ok tt) e = absurd (octets_never ((valid s).0 e) f)
    back f (Err q) e = e ∙ ap Err (first_bad_one (first_bad s q e) f)
