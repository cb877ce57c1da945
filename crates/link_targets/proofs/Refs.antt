-- References as the work has them, leaves gathered, lines numbered, ids in order.
use mathlib.Core.Path.{◌≡◌, refl, sym, ap, ◌∙◌, subst}
use mathlib.Core.Bool.{Bool, true, false, cond}
use mathlib.Core.List.{List, [], ◌++◌, append-nil, append_assoc}
use Prim.Native.Nat.{ℕ, zero, suc, ◌+◌, ◌-◌, ◌*◌, ◌≤◌, ◌<◌}
use native.Mathlib.Decide.{dec_lt}
use native.Mathlib.Nat.{add-zero}
use native.Mathlib.Numerals.{add-one}
use native.Mathlib.Omega.{arith}
use borrow.Author.Tests.{eq-eqb, ne_eqb, eqb-true}
use lib.Dec.{eqb}
use lib.IntN.{ℤ}
use lib.ListN.{length, set, length-set, length-append}
use lib.Seq.{sets, length-sets}
use Rattle.written.specs.Said.{Ref, node, pdf}
use Rattle.laws.proofs.Tables.{sets-append}
use Rattle.link_order.specs.Keys.{id_key, id_at}
use Rattle.link_search.specs.Found.{count_from}
use Rattle.written.specs.Linking.{pdf_of}
use Rattle.link_targets.specs.Lines.{ref_of, ref_at, lines_from, pdfs_of}
use Rattle.text_parts.specs.Parts.{nat_of}
use Rattle.link_targets.specs.Targets.{order_from}

module _ (k v : ℤ) where
  pub is_node : nat_of k ≡ 0 → ref_of k v ≡ node v
  unfolding ref_of
  is_node e = rw (eq-eqb (nat_of k) 0 e)

  pub is_pdf : (nat_of k ≡ 0 → ⊥) → ref_of k v ≡ pdf (nat_of v)
  unfolding ref_of
  is_pdf d = rw (ne_eqb (nat_of k) 0 d)

-- what pushing a reference does to the rows
module _ (k v : ℤ) (rows : List ℕ) (at : ℕ) where
  pub pushed_none : nat_of k ≡ 0 → (rows ≡ sets rows at (pdf_of (ref_of k v))) × (at ≡ at + length (pdf_of (ref_of k v)))
  pushed_none e = rw (is_node k v e) (refl, sym (add-zero at))

  pub pushed_one : (nat_of k ≡ 0 → ⊥) → (n : ℕ) → n ≡ nat_of v → (set rows at n ≡ sets rows at (pdf_of (ref_of k v))) × (at + 1 ≡ at + length (pdf_of (ref_of k v)))
  pushed_one d n e = rw (is_pdf k v d, ← e) (refl, refl)

  pub room_one : (nat_of k ≡ 0 → ⊥) → at + length (pdf_of (ref_of k v)) ≤ length rows → at < length rows
  room_one d h = omega (arith, ap (λ (r : Ref). length (pdf_of r)) (is_pdf k v d))

-- ---- the leaves of lines

-- those of one line
pub one_line : (w : List ℤ) (k : ℕ) → pdfs_of (lines_from w k 1) ≡ pdf_of (ref_at w (6 * k + 1)) ++ pdf_of (ref_at w (6 * k + 3))
unfolding pdfs_of lines_from
one_line w k = ap (λ (l : List ℕ). pdf_of (ref_at w (6 * k + 1)) ++ l) (append-nil (pdf_of (ref_at w (6 * k + 3))))

-- those of a line and of the lines after it
pub more_lines : (w : List ℤ) (k n : ℕ) → pdfs_of (lines_from w k (suc n)) ≡ pdfs_of (lines_from w k 1) ++ pdfs_of (lines_from w (suc k) n)
unfolding pdfs_of lines_from
more_lines w k n = sym (append_assoc (pdf_of (ref_at w (6 * k + 1))) (pdf_of (ref_at w (6 * k + 3))) (pdfs_of (lines_from w (suc k) n))) ∙ ap (λ (l : List ℕ). l ++ pdfs_of (lines_from w (suc k) n)) (sym (one_line w k))

-- two pushes, one after the other
pub pushed_both : (rows : List ℕ) (at : ℕ) (p q : List ℕ) {l rows₁ rows₂ : List ℕ} {mid end : ℕ} → l ≡ p ++ q → (rows₁ ≡ sets rows at p) × (mid ≡ at + length p) → (rows₂ ≡ sets rows₁ mid q) × (end ≡ mid + length q)
    → (rows₂ ≡ sets rows at l) × (end ≡ at + length l)
pushed_both rows at p q {l} {rows₁} {rows₂} {mid} {end} e a b =
    (b.0 ∙ ap (λ (x : List ℕ). sets x mid q) a.0 ∙ ap (λ (k : ℕ). sets (sets rows at p) k q) a.1 ∙ sets-append rows at p q ∙ ap (sets rows at) (sym e), omega (arith, a.1, b.1, length-append p q, ap length e))

-- what is left to gather from line k on
abbrev pub rest : List ℤ → ℕ → ℕ → List ℕ
rest w n k = pdfs_of (lines_from w k (n - k))

pub rest_more : (w : List ℤ) (n k : ℕ) → k < n → rest w n k ≡ pdfs_of (lines_from w k 1) ++ rest w n (k + 1)
rest_more w n k h =
    let e : n - k ≡ suc (n - (k + 1)) = omega arith in
    let f : k + 1 ≡ suc k = omega arith in
    ap (λ (m : ℕ). pdfs_of (lines_from w k m)) e ∙ more_lines w k (n - (k + 1)) ∙ ap (λ (j : ℕ). pdfs_of (lines_from w k 1) ++ pdfs_of (lines_from w j (n - (k + 1)))) (sym f)

pub rest_none : (w : List ℤ) (n k : ℕ) → n ≤ k → rest w n k ≡ []
unfolding pdfs_of lines_from
rest_none w n k h = let e : n - k ≡ 0 = omega arith in ap (λ (m : ℕ). pdfs_of (lines_from w k m)) e

-- what is gathered: what is left, stored from `end` on, gives the rows with all of them
pub record Gathering (w : List ℤ) (n : ℕ) (rows₀ : List ℕ) (at : ℕ) (rows : List ℕ) (line end : ℕ) : Type 0 where
  pub within : line ≤ n
  pub long : length rows ≡ length rows₀
  pub stored : sets rows end (rest w n line) ≡ sets rows₀ at (pdfs_of (lines_from w 0 n))
  pub ends : end + length (rest w n line) ≡ at + length (pdfs_of (lines_from w 0 n))

module _ (w : List ℤ) (n : ℕ) (rows₀ : List ℕ) (at : ℕ) where
  module _ (rows : List ℕ) (line end : ℕ) (g : Gathering w n rows₀ at rows line end) where
    pub gather_room : line < n → at + length (pdfs_of (lines_from w 0 n)) ≤ length rows₀ → end + length (pdfs_of (lines_from w line 1)) ≤ length rows
    gather_room h r = omega (arith, g.ends, g.long, ap length (rest_more w n line h), length-append (pdfs_of (lines_from w line 1)) (rest w n (line + 1)))

    pub gather_more : line < n → (rows₁ : List ℕ) (end₁ : ℕ) → (rows₁ ≡ sets rows end (pdfs_of (lines_from w line 1))) × (end₁ ≡ end + length (pdfs_of (lines_from w line 1))) → Gathering w n rows₀ at rows₁ (line + 1) end₁
    gather_more h rows₁ end₁ p =
        let one = pdfs_of (lines_from w line 1) in
        record {
          within = omega arith;
          long = ap length p.0 ∙ length-sets rows end (pdfs_of (lines_from w line 1)) ∙ g.long;
          stored =
              ap (λ (l : List ℕ). sets l end₁ (rest w n (line + 1))) p.0 ∙ ap (λ (k : ℕ). sets (sets rows end one) k (rest w n (line + 1))) p.1
              ∙ sets-append rows end one (rest w n (line + 1)) ∙ ap (sets rows end) (sym (rest_more w n line h)) ∙ g.stored;
          ends = omega (arith, p.1, g.ends, ap length (rest_more w n line h), length-append one (rest w n (line + 1)));
        }

    pub gather_done : n ≤ line → (rows ≡ sets rows₀ at (pdfs_of (lines_from w 0 n))) × (end ≡ at + length (pdfs_of (lines_from w 0 n)))
    gather_done h = (sym (ap (sets rows end) (rest_none w n line h)) ∙ g.stored, omega (arith, g.ends, ap length (rest_none w n line h)))

-- ---- 0, 1, .. in front

pub record Numbering (n : ℕ) (rows₀ rows : List ℕ) (k : ℕ) : Type 0 where
  pub within : k ≤ n
  pub long : length rows ≡ length rows₀
  pub stored : sets rows k (count_from k (n - k)) ≡ sets rows₀ 0 (count_from 0 n)

module _ (n : ℕ) (rows₀ : List ℕ) where
  pub number_more : (rows : List ℕ) (k : ℕ) → Numbering n rows₀ rows k → k < n → Numbering n rows₀ (set rows k k) (k + 1)
  unfolding count_from
  number_more rows k p h =
      let e : n - k ≡ suc (n - (k + 1)) = omega arith in
      record {
        within = omega arith;
        long = length-set rows k k ∙ p.long;
        stored = ap (λ (j : ℕ). sets (set rows k k) j (count_from j (n - (k + 1)))) (add-one k) ∙ sym (ap (λ (m : ℕ). sets rows k (count_from k m)) e) ∙ p.stored;
      }

  pub number_done : (rows : List ℕ) (k : ℕ) → Numbering n rows₀ rows k → n ≤ k → rows ≡ sets rows₀ 0 (count_from 0 n)
  unfolding count_from
  number_done rows k p h = let e : n - k ≡ 0 = omega arith in sym (ap (λ (m : ℕ). sets rows k (count_from k m)) e) ∙ p.stored

-- ---- ids in order

module _ (w : List ℤ) (n : ℕ) where
  pub order_on : (k : ℕ) → k < n → id_key (id_at w k) + k ≡ 9223372036854775808 → order_from w k (n - k) ≡ order_from w (k + 1) (n - (k + 1))
  unfolding order_from
  order_on k h q =
      let e : n - k ≡ suc (n - (k + 1)) = omega arith in
      ap (order_from w k) e ∙ rw (eq-eqb (id_key (id_at w k) + k) 9223372036854775808 q) (ap (λ (j : ℕ). order_from w j (n - (k + 1))) (sym (add-one k)))

  pub order_off : (k : ℕ) → k < n → (id_key (id_at w k) + k ≡ 9223372036854775808 → ⊥) → order_from w k (n - k) ≡ false
  unfolding order_from
  order_off k h q =
      let e : n - k ≡ suc (n - (k + 1)) = omega arith in
      ap (order_from w k) e ∙ rw (ne_eqb (id_key (id_at w k) + k) 9223372036854775808 q)

  pub order_end : (k : ℕ) → n ≤ k → order_from w k (n - k) ≡ true
  unfolding order_from
  order_end k h = let e : n - k ≡ 0 = omega arith in ap (order_from w k) e

  -- where they are in order each is what its line says
  pub order_at : (k m : ℕ) → order_from w k m ≡ true → (j : ℕ) → k ≤ j → j < k + m → id_key (id_at w j) + j ≡ 9223372036854775808
  unfolding order_from
  order_at k zero e j h l = absurd (omega arith)
  order_at k (suc m) e j h l = go (eqb (id_key (id_at w k) + k) 9223372036854775808) refl e (λ q. order_at (suc k) m q j) (dec_lt k j)
    where
      go : (b : Bool) → eqb (id_key (id_at w k) + k) 9223372036854775808 ≡ b → cond b (order_from w (suc k) m) false ≡ true
          → (order_from w (suc k) m ≡ true → suc k ≤ j → j < suc k + m → id_key (id_at w j) + j ≡ 9223372036854775808) → Dec (k < j) → id_key (id_at w j) + j ≡ 9223372036854775808
      go true p q r (yes i) = r q i (omega arith)
      go true p q r (no i) = let s : k ≡ j = omega arith in subst (λ (x : ℕ). id_key (id_at w x) + x ≡ 9223372036854775808) s (eqb-true (id_key (id_at w k) + k) 9223372036854775808 p)
      go false p q r d = let u : ◌≡◌ {A = ℕ} 0 1 = cc in absurd (omega arith)
