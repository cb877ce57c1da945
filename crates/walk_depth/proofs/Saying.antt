-- What `judge` and `depth_said` answer, in `written`'s words.
use mathlib.Core.Path.{◌≡◌, sym, ap, ◌∙◌, subst}
use mathlib.Core.Bool.{Bool, true, false, cond}
use mathlib.Core.List.{List}
use Prim.Native.Nat.{ℕ, ◌*◌, ◌/◌, ◌≤◌, ◌<◌}
use native.Mathlib.Nat.{div-lt_iff_lt-mul, mul_comm}
use native.Mathlib.Decide.{dec_lt}
use native.Mathlib.Omega.{arith}
use borrow.Author.Tests.{eq-eqb, ne_eqb}
use lib.IntN.{ℤ, pos}
use lib.ListN.{length, replicate, length-replicate}
use Rattle.std.specs.declared.option.Option.{Option}
use Rattle.std.specs.Prelude.{Some, None}
use Rattle.written.specs.Linking.{Row}
use Rattle.written.specs.Depths as depths
use Rattle.written.specs.Depths.{DepthSaid, TreeDepth}
use Rattle.written_depth.proofs.Deepest.{depth_deep}
use Rattle.written_depth.proofs.Paths.{tree_depth_once}
use Rattle.table_rows.specs.Rows.{tree_there, tree_first, tree_records, tree_table, record_table}
use Rattle.table_rows.proofs.Stand.{tree_there_lem, tree_missing}
use Rattle.walk_reach.specs.Seeing.{tree_records_of}
use Rattle.walk_reach.specs.Reaching.{Reaches}
use Rattle.walk_depth.specs.Climbing.{Deepest}
use Rattle.walk_depth.specs.Said.{AllGood, said_as, JudgedAs, work_after, DepthSays}
use Rattle.walk_depth.specs.declared.Depth.{Depth}

-- work that was made zero
pub zeroed : (m : ℕ) {w : List ℤ} → w ≡ replicate m (pos 0) → w ≡ replicate (length w) (pos 0)
zeroed m {w} e = e ∙ ap (λ (m : ℕ). replicate m (pos 0)) (sym (ap length e ∙ length-replicate m (pos 0)))

-- ---- the records of a tree

module _ {rows : List Row} where
  pub all_good : {b : Bool} → Reaches rows b → b ≡ true → AllGood rows
  all_good (Reaches.all_good f) e = f
  all_good (Reaches.one_bad m g) e = let z : ◌≡◌ {A = ℕ} 0 1 = cc in absurd (omega arith)

  pub judged_bad : {b : Bool} {r : Depth} → Reaches rows b → b ≡ false → r ≡ (record { number = 24; answer = 0; questions = 0 }) → JudgedAs rows r
  judged_bad (Reaches.all_good f) e q = let z : ◌≡◌ {A = ℕ} 0 1 = cc in absurd (omega arith)
  judged_bad (Reaches.one_bad m g) e q = subst (JudgedAs rows) (sym q) (depths.Depth.bad m g)

  pub judged-found : {x : Option ℕ} {d : ℕ} {r : Depth} → AllGood rows → Deepest rows x → x ≡ Some d → r ≡ (record { number = 0; answer = 1; questions = d }) → JudgedAs rows r
  judged-found {d = d} g (Deepest.found {d = e} h) p q = let z : e ≡ d = cc in subst (JudgedAs rows) (sym q) (subst (λ (m : ℕ). depths.Depth rows (depths.deep m)) z (depth_deep g h))
  judged-found g (Deepest.round h) p q = let z : ◌≡◌ {A = ℕ} 0 1 = cc in absurd (omega arith)

  pub judged_round : {x : Option ℕ} {r : Depth} → AllGood rows → Deepest rows x → x ≡ None → r ≡ (record { number = 0; answer = 0; questions = 0 }) → JudgedAs rows r
  judged_round g (Deepest.found h) p q = let z : ◌≡◌ {A = ℕ} 0 1 = cc in absurd (omega arith)
  judged_round g (Deepest.round h) p q = subst (JudgedAs rows) (sym q) (depths.Depth.round g h)

  -- 20 is told of the work alone
  never_20 : {x : DepthSaid} → depths.Depth rows x → x.number ≡ 20 → ⊥
  never_20 (depths.Depth.bad m g) e = omega arith
  never_20 (depths.Depth.round f r) e = omega arith
  never_20 (depths.Depth.deepest f r p all) e = omega arith

-- ---- the call

work_kept : (w : List ℤ) (n : ℕ) → n ≡ 20 → w ≡ work_after w n
unfolding work_after
work_kept w n e = sym (ap (λ (b : Bool). cond b w (replicate (length w) (pos 0))) (eq-eqb n 20 e))

work_zero : (w : List ℤ) (n : ℕ) → (n ≡ 20 → ⊥) → replicate (length w) (pos 0) ≡ work_after w n
unfolding work_after
work_zero w n d = sym (ap (λ (b : Bool). cond b w (replicate (length w) (pos 0))) (ne_eqb n 20 d))

-- four numbers a record
pub enough : (w : List ℤ) {count : ℕ} → count ≤ length w / 4 → 4 * count ≤ length w
enough w {count} h = go (dec_lt (length w) (4 * count))
  where
    go : Dec (length w < 4 * count) → 4 * count ≤ length w
    go (no l) = omega arith
    go (yes l) = let u : length w / 4 < count = (div-lt_iff_lt-mul {k = 4} {x = length w} {y = count} (omega arith)).1 (omega (arith, mul_comm 4 count)) in absurd (omega arith)

module _ (T R : List ℕ) (t : ℕ) {w : List ℤ} where
  pub says_missing : {r : Depth} {w' : List ℤ} → tree_there T t ≡ false → r ≡ (record { number = 24; answer = 0; questions = 0 }) → w' ≡ replicate (length w) (pos 0) → DepthSays T R t w r w'
  says_missing {r} e q z =
      record {
        answered = subst (λ (x : Depth). TreeDepth (tree_table T) (record_table R) (length w) t (said_as x)) (sym q) (TreeDepth.missing (tree_missing T t e));
        work = z ∙ work_zero w r.number (λ n. let u : r.number ≡ 24 = ap (λ (x : Depth). x.number) q in omega arith);
      }

  pub says_short : {r : Depth} {count : ℕ} → tree_there T t ≡ true → count ≡ tree_records T t → length w / 4 < count → r ≡ (record { number = 20; answer = 0; questions = 0 }) → DepthSays T R t w r w
  says_short {r} {count} e c h q =
      let l : length w < count * 4 = (div-lt_iff_lt-mul {k = 4} {x = length w} {y = count} (omega arith)).0 h in
      record {
        answered = subst (λ (x : Depth). TreeDepth (tree_table T) (record_table R) (length w) t (said_as x)) (sym q) (TreeDepth.short (tree_there_lem T t e) (omega arith));
        work = work_kept w r.number (ap (λ (x : Depth). x.number) q);
      }

  pub says_there : {r : Depth} {first count : ℕ} {w' : List ℤ} → tree_there T t ≡ true → count ≡ tree_records T t → first ≡ tree_first T t → 4 * count ≤ length w
      → JudgedAs (tree_records_of R first count) r → w' ≡ replicate (length w) (pos 0) → DepthSays T R t w r w'
  says_there {r} {first} {count} e c f h j z =
      record {
        answered =
            TreeDepth.there (tree_there_lem T t e) (omega arith)
            (subst (λ (m : ℕ). JudgedAs (tree_records_of R m (tree_records T t)) r) f (subst (λ (m : ℕ). JudgedAs (tree_records_of R first m) r) c j));
        work = z ∙ work_zero w r.number (never_20 j);
      }

-- ---- what is promised fixes the answer and the work

-- the three numbers back
from_said : DepthSaid → Depth
from_said x = record { number = x.number; answer = x.answer; questions = x.questions }

pub says_once : {T R : List ℕ} {t : ℕ} {w w₁ w₂ : List ℤ} {r s : Depth} → DepthSays T R t w r w₁ → DepthSays T R t w s w₂ → (r ≡ s) × (w₁ ≡ w₂)
unfolding from_said
says_once {w = w} {r = r} {s = s} x y =
    let e : r ≡ s = ap from_said (tree_depth_once x.answered y.answered) in
    (e, x.work ∙ ap (λ (d : Depth). work_after w d.number) e ∙ sym y.work)
