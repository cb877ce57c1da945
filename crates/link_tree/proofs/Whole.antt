-- The stages of linking a tree, put together.
use mathlib.Core.Path.{◌≡◌, refl, sym, ap, ap₂, ◌∙◌, subst}
use mathlib.Core.Bool.{Bool, true, false, cond}
use mathlib.Core.List.{List, [], ◌∷◌}
use Prim.Native.Nat.{ℕ, zero, suc, ◌+◌, ◌-◌, ◌*◌, ◌≤◌, ◌<◌}
use native.Mathlib.Omega.{arith}
use borrow.Rule.Slice.PartMut.{put_mid}
use lib.IntN.{ℤ}
use lib.ListN.{length, get_or, take, drop, length-append}
use lib.Seq.{sets, length-sets}
use Rattle.error.specs.declared.LineFault.{LineFault}
use Rattle.error.specs.declared.LinkFault.{LinkFault}
use Rattle.link_tree.specs.declared.Sides.{Sides}
use Rattle.std.specs.declared.result.Result.{Result}
use Rattle.std.specs.Prelude.{Ok, Err}
use Rattle.laws.proofs.Tables.{part-sets, part_back, sets_whole, sets_under, sets_at, drop-sets}
use Rattle.link_order.specs.Keys.{key_of, id_key, id_at}
use Rattle.link_sort.specs.Sorted.{sorted}
use Rattle.link_sort.proofs.Index.{length-sorted}
use Rattle.link_search.specs.Found.{count_from}
use Rattle.link_search.proofs.Last.{length-count}
use Rattle.link_targets.specs.Lines.{WorkLine, line_in, lines_from, pdfs_of}
use Rattle.link_targets.specs.Targets.{target_of, order_from, Ready, in_order, by_index, Rows}
use Rattle.link_rows.specs.Rows.{leaf_rows, line_rows}
use Rattle.link_tree.specs.Steps.{step_of, first, outcome, goals_of, goals}
use Rattle.link_tree.specs.Linked.{leaves_of, step_in, record_rows, link_outcome, linked_rows}

-- ---- leaves and index

pub length_leaves : (w : List ℤ) (n : ℕ) → length (leaves_of w n) ≡ length (pdfs_of (lines_from w 0 n))
unfolding leaves_of
length_leaves w n = length-sorted (key_of (λ x. 0)) (pdfs_of (lines_from w 0 n))

-- numbers stored, and their part sorted in place
pub sorted_part : (key : ℕ → ℕ) (t : List ℕ) (a e : ℕ) (xs : List ℕ) → a + length xs ≤ length t → e ≡ a + length xs → {t₁ part₁ : List ℕ} → t₁ ≡ sets t a xs
    → part₁ ≡ sorted key (take (e - a) (drop a t₁)) → put_mid a (e - a) t₁ part₁ ≡ sets t a (sorted key xs)
sorted_part key t a e xs h q {t₁} {part₁} p r =
    let z : e - a ≡ length xs = omega arith in
    let s : part₁ ≡ sorted key xs = r ∙ ap₂ (λ m l. sorted key (take m (drop a l))) z p ∙ ap (sorted key) (part-sets t a xs h) in
    ap (λ (m : ℕ). put_mid a m t₁ part₁) z ∙ ap₂ (λ l y. put_mid a (length xs) l y) p s ∙ part_back t a xs (sorted key xs) (sym (length-sorted key xs)) h

module _ (w : List ℤ) (n leaves : ℕ) (rows₀ : List ℕ) (m : leaves ≡ length (pdfs_of (lines_from w 0 n))) (room : length rows₀ ≡ 4 * n + 4 * leaves) where
  index : List ℕ
  index = sorted (key_of (λ e. id_key (id_at w e))) (count_from 0 n)

  length_index : length index ≡ n
  unfolding index
  length_index = length-sorted (key_of (λ e. id_key (id_at w e))) (count_from 0 n) ∙ length-count 0 n

  many : length (leaves_of w n) ≡ leaves
  many = length_leaves w n ∙ sym m

  module _ (rows₁ : List ℕ) (p : rows₁ ≡ sets rows₀ (4 * n) (leaves_of w n)) (rows₂ : List ℕ) (q : rows₂ ≡ cond (order_from w 0 n) rows₁ (sets rows₁ 0 (sorted (key_of (λ e. id_key (id_at w e))) (count_from 0 n)))) where
    size₁ : length rows₁ ≡ length rows₀
    size₁ = ap length p ∙ length-sets rows₀ (4 * n) (leaves_of w n)

    pub size₂ : length rows₂ ≡ length rows₀
    size₂ = ap length q ∙ go (order_from w 0 n) ∙ size₁
      where
        go : (b : Bool) → length (cond b rows₁ (sets rows₁ 0 (sorted (key_of (λ e. id_key (id_at w e))) (count_from 0 n)))) ≡ length rows₁
        go true = refl
        go false = length-sets rows₁ 0 (sorted (key_of (λ e. id_key (id_at w e))) (count_from 0 n))

    behind : drop (4 * n) rows₂ ≡ drop (4 * n) rows₁
    unfolding index
    behind = ap (drop (4 * n)) q ∙ go (order_from w 0 n)
      where
        go : (b : Bool) → drop (4 * n) (cond b rows₁ (sets rows₁ 0 (sorted (key_of (λ e. id_key (id_at w e))) (count_from 0 n)))) ≡ drop (4 * n) rows₁
        go true = refl
        go false = drop-sets index rows₁ 0 (4 * n) (omega (arith, length_index))

    -- the leaves stand behind the lines
    pub leaves_there : take leaves (drop (4 * n) rows₂) ≡ leaves_of w n
    leaves_there =
        ap (take leaves) behind ∙ ap (λ (l : List ℕ). take leaves (drop (4 * n) l)) p
        ∙ ap (λ (k : ℕ). take k (drop (4 * n) (sets rows₀ (4 * n) (leaves_of w n)))) (sym many) ∙ part-sets rows₀ (4 * n) (leaves_of w n) (omega (arith, many))

    pub rows_ready : (o : Bool) → o ≡ order_from w 0 n → Rows w n leaves o rows₂
    unfolding leaves_of index
    rows_ready o e =
        record {
          room = omega (arith, size₂);
          ready = subst (λ (b : Bool). Ready w n (take n rows₂) b) (sym e) (go (order_from w 0 n) refl);
          ascends = record { of = pdfs_of (lines_from w 0 n); is = leaves_there };
        }
      where
        go : (b : Bool) → order_from w 0 n ≡ b → Ready w n (take n rows₂) b
        go true u = in_order u
        go false u =
            let f : take n rows₂ ≡ index =
            ap (take n) (q ∙ ap (λ (b : Bool). cond b rows₁ (sets rows₁ 0 index)) u) ∙ ap (λ (k : ℕ). take k (sets rows₁ 0 index)) (sym length_index)
            ∙ part-sets rows₁ 0 index (omega (arith, length_index, size₁)) in
            let l : length (take n rows₂) ≡ n = ap length f ∙ length_index in
            by_index (record { is = f ∙ ap (λ (k : ℕ). sorted (key_of (λ e. id_key (id_at w e))) (count_from 0 k)) (sym l) }) l

-- ---- records

goals-length : (S : WorkLine → Result Sides LinkFault) (k : ℕ) (ls : List WorkLine) → outcome S k ls ≡ (Ok tt) → length (goals S ls) ≡ 2 * length ls
unfolding outcome goals
goals-length S k [] e = refl
goals-length S k (l ∷ ls) e = go (S l) e (goals-length S (suc k) ls)
  where
    go : (s : Result Sides LinkFault) → first k s (outcome S (suc k) ls) ≡ (Ok tt) → (outcome S (suc k) ls ≡ (Ok tt) → length (goals S ls) ≡ 2 * length ls) → length (goals_of s (goals S ls)) ≡ 2 * suc (length ls)
    go (Ok q) e r = omega (arith, r e)
    go (Err f) e r = let u : ◌≡◌ {A = ℕ} 0 1 = cc in absurd (omega arith)

pub length_lines : (w : List ℤ) (k n : ℕ) → length (lines_from w k n) ≡ n
unfolding lines_from
length_lines w k zero = refl
length_lines w k (suc n) = ap suc (length_lines w (suc k) n)

-- rows made of what stands at `at` are rows made of the goals that stand there
lines_records : (w : List ℤ) (rows : List ℕ) (at : ℕ) (m k : ℕ) (G : List ℕ) → length G ≡ 2 * m → ((i : ℕ) → i < 2 * m → get_or rows (at + 2 * k + i) 0 ≡ get_or G i 0)
    → line_rows w rows at k m ≡ record_rows (lines_from w k m) G
unfolding line_rows record_rows lines_from
lines_records w rows at zero k G h f = refl
lines_records w rows at (suc m) k [] h f = absurd (omega arith)
lines_records w rows at (suc m) k (y ∷ []) h f = absurd (omega arith)
lines_records w rows at (suc m) k (y ∷ n ∷ G) h f =
    let a : at + 2 * k + 0 ≡ at + 2 * k = omega arith in
    let u : get_or rows (at + 2 * k) 0 ≡ y = ap (λ (i : ℕ). get_or rows i 0) (sym a) ∙ f 0 (omega arith) in
    let v : get_or rows (at + 2 * k + 1) 0 ≡ n = f 1 (omega arith) in
    rw (u, v)
    (ap (λ (l : List ℕ). 0 ∷ ((line_in w k).question - 1) ∷ y ∷ n ∷ l)
    (lines_records w rows at m (suc k) G (omega arith)
    (λ i l. let e : at + 2 * suc k + i ≡ at + 2 * k + suc (suc i) = omega arith in ap (λ (j : ℕ). get_or rows j 0) e ∙ f (suc (suc i)) (omega arith))))

length_records : (ls : List WorkLine) (G : List ℕ) → length G ≡ 2 * length ls → length (record_rows ls G) ≡ 4 * length ls
unfolding record_rows
length_records [] G h = refl
length_records (l ∷ ls) [] h = absurd (omega arith)
length_records (l ∷ ls) (y ∷ []) h = absurd (omega arith)
length_records (l ∷ ls) (y ∷ n ∷ G) h = omega (arith, length_records ls G (omega arith))

length-leaf_rows : (ps : List ℕ) → length (leaf_rows ps) ≡ 4 * length ps
unfolding leaf_rows
length-leaf_rows [] = refl
length-leaf_rows (p ∷ ps) = omega (arith, length-leaf_rows ps)

-- a record has four words: one for each line and for each PDF reference
pub length_linked : (w : List ℤ) (n : ℕ) → link_outcome w n ≡ (Ok tt) → length (linked_rows w n) ≡ 4 * (n + length (pdfs_of (lines_from w 0 n)))
unfolding linked_rows link_outcome
length_linked w n d =
    let ls = lines_from w 0 n in
    let G = goals (step_in w n) ls in
    omega
    (arith, length-append (record_rows ls G) (leaf_rows (leaves_of w n)), length_records ls G (goals-length (step_in w n) 0 ls d), length-leaf_rows (leaves_of w n), length_leaves w n, length_lines w 0 n)

module _ (w : List ℤ) (n leaves : ℕ) (rows₂ : List ℕ) (m : leaves ≡ length (pdfs_of (lines_from w 0 n))) (room : length rows₂ ≡ 4 * n + 4 * leaves) (there : take leaves (drop (4 * n) rows₂) ≡ leaves_of w n) where
  -- what was resolved by the leaves that stand there was resolved by the tree's own
  pub outcome_is : {r : Result Unit LineFault} → r ≡ outcome (step_of (target_of w n (take leaves (drop (4 * n) rows₂)))) 0 (lines_from w 0 n) → r ≡ link_outcome w n
  unfolding link_outcome
  outcome_is e = e ∙ ap (λ (l : List ℕ). outcome (step_of (target_of w n l)) 0 (lines_from w 0 n)) there

  pub rows_linked : link_outcome w n ≡ (Ok tt) → {rows₃ rows₄ rows₅ : List ℕ} → rows₃ ≡ sets rows₂ (2 * n) (goals (step_of (target_of w n (take leaves (drop (4 * n) rows₂)))) (lines_from w 0 n))
      → rows₄ ≡ sets rows₃ (4 * n) (leaf_rows (take leaves (drop (4 * n) rows₃))) → rows₅ ≡ sets rows₄ 0 (line_rows w rows₄ (2 * n) 0 n) → rows₅ ≡ linked_rows w n
  unfolding linked_rows link_outcome
  rows_linked d {rows₃} {rows₄} {rows₅} a b c =
      let ls = lines_from w 0 n in
      let G = goals (step_in w n) ls in
      let B = leaf_rows (leaves_of w n) in
      let A = record_rows ls G in
      let count : length ls ≡ n = length_lines w 0 n in
      let g : length G ≡ 2 * n = goals-length (step_in w n) 0 ls d ∙ ap (λ (k : ℕ). 2 * k) count in
      let a' : rows₃ ≡ sets rows₂ (2 * n) G = a ∙ ap (λ (l : List ℕ). sets rows₂ (2 * n) (goals (step_of (target_of w n l)) ls)) there in
      let s₃ : length rows₃ ≡ 4 * n + 4 * leaves = ap length a' ∙ length-sets rows₂ (2 * n) G ∙ room in
      let t₃ : take leaves (drop (4 * n) rows₃) ≡ leaves_of w n = ap (λ (l : List ℕ). take leaves (drop (4 * n) l)) a' ∙ ap (take leaves) (drop-sets G rows₂ (2 * n) (4 * n) (omega arith)) ∙ there in
      let b' : rows₄ ≡ sets rows₃ (4 * n) B = b ∙ ap (λ (l : List ℕ). sets rows₃ (4 * n) (leaf_rows l)) t₃ in
      let la : length A ≡ 4 * n = length_records ls G (g ∙ ap (λ (k : ℕ). 2 * k) (sym count)) ∙ ap (λ (k : ℕ). 4 * k) count in
      let lb : length B ≡ 4 * leaves = length-leaf_rows (leaves_of w n) ∙ ap (λ (k : ℕ). 4 * k) (length_leaves w n ∙ sym m) in
      let at : (i : ℕ) → i < 2 * n → get_or rows₄ (2 * n + 2 * 0 + i) 0 ≡ get_or G i 0 = λ i h.
      let z : 2 * n + 2 * 0 + i ≡ 2 * n + i = omega arith in
      ap (λ (j : ℕ). get_or rows₄ j 0) z ∙ ap (λ (l : List ℕ). get_or l (2 * n + i) 0) b' ∙ sets_under B rows₃ (4 * n) (2 * n + i) 0 (omega arith)
      ∙ ap (λ (l : List ℕ). get_or l (2 * n + i) 0) a' ∙ sets_at G rows₂ (2 * n) i 0 (omega arith) (omega arith) in
      c ∙ ap (sets rows₄ 0) (lines_records w rows₄ (2 * n) n 0 G g at)
      ∙ ap (λ (l : List ℕ). sets l 0 A) (b' ∙ ap (λ (k : ℕ). sets rows₃ k B) (sym la))
      ∙ sets_whole A B rows₃ (omega arith)
