-- The walk over the text itself (02, Wish 12): its count is exact and bounded, over linked rows it ends as the walk over tables, and in one way.
use mathlib.Core.Path.{◌≡◌, refl, sym, ap, ◌∙◌, subst}
use mathlib.Core.Bool.{Bool}
use mathlib.Core.List.{List, [], ◌∷◌, ◌++◌, map, Forall₂}
use Prim.Native.Nat.{ℕ, suc, ◌+◌, ◌-◌, ◌*◌, ◌≤◌}
use native.Mathlib.Nat.{mul-suc, mul-one}
use native.Mathlib.Omega.{arith}
use lib.ListN.{length}
use Rattle.written.specs.Said.{pdf, Line, Body, lone, braces, Question}
use Rattle.written.specs.Linking.{Nth, here, LastQuestion, alone, alike, Row, leaf, branch, LineRow, row, ToLeaf, Linked}
use Rattle.written.specs.Walks.{chosen, is_yes, Outcome, Loaded, afterwards, Ending, Written, Answers, as_loaded}
use Rattle.written.specs.Meter.{Metered, at, refused, before, reading, Along, Over}
use Rattle.written.proofs.Walk.{last_once, nth-append, paired, both, to_pdf, to_node, no_row, no_single, single_once, loaded_once, walks}

-- ---- the lines read

abbrev pub lines_in : Body → ℕ
lines_in (lone r) = 0
lines_in (braces ls) = length ls

module _ {qs : List Question} {bytes : List ℕ} where
  -- from a line on: all lines, for each question but the last
  pub along_read : {ls : List Line} {k m n a r : ℕ} {e : Metered} → Along qs bytes ls k m e → e ≡ at n a r → length ls + r ≡ length ls * a
  along_read (Along.unanswered h q f) e = let z : ◌≡◌ {A = ℕ} 0 1 = cc in absurd (omega arith)
  along_read (Along.met h q b) e = let z : ◌≡◌ {A = ℕ} 0 1 = cc in absurd (omega arith)
  along_read {ls} {a = a} {r = r} (Along.ends h q b c) e =
      let z : 1 ≡ a = cc in
      let y : 0 ≡ r = cc in
      let w : length ls + r ≡ length ls = omega arith in
      w ∙ sym (mul-one (length ls)) ∙ ap (λ n. length ls * n) z
  along_read {ls} {n = n} {a = a} {r = r} (Along.goes {e = x} h q b c i f) e = go x refl e (λ p s t w. along_read {n = p} {a = s} {r = t} f w)
    where
      go : (u : Metered) → x ≡ u → before (length ls) u ≡ at n a r → ((p s t : ℕ) → x ≡ at p s t → length ls + t ≡ length ls * s) → length ls + r ≡ length ls * a
      go (at p s t) w e g =
          let z : suc s ≡ a = cc in
          let y : length ls + t ≡ r = cc in
          let v : length ls + t ≡ length ls * s = g p s t w in
          let k : length ls + r ≡ length ls * s + length ls = omega arith in
          k ∙ sym (mul-suc (length ls) s) ∙ ap (λ n. length ls * n) z
      go (refused c) w e g = let z : ◌≡◌ {A = ℕ} 0 1 = cc in absurd (omega arith)

  -- at most the tree's lines times one more than the questions asked
  pub over_read : {t : Body} {m n a r : ℕ} {e : Metered} → Over qs bytes t m e → e ≡ at n a r → r ≤ lines_in t * (a + 1)
  over_read {r = r} Over.alone e = let y : 0 ≡ r = cc in omega arith
  over_read {a = a} {r = r} (Over.alike h i) e = let y : 1 ≡ r = cc in let z : 0 ≡ a = cc in let q : 1 * (a + 1) ≡ a + 1 = omega arith in omega arith
  over_read Over.empty e = let z : ◌≡◌ {A = ℕ} 0 1 = cc in absurd (omega arith)
  over_read {n = n} {a = a} {r = r} (Over.lines {l = l} {ls = ls} {e = x} o f) e = go x refl e
    where
      go : (u : Metered) → x ≡ u → reading 1 u ≡ at n a r → r ≤ length (l ∷ ls) * (a + 1)
      go (at p s t) w e =
          let z : s ≡ a = cc in
          let y : 1 + t ≡ r = cc in
          let v : length (l ∷ ls) + t ≡ length (l ∷ ls) * s = along_read f w in
          let k : length (l ∷ ls) * suc s ≡ length (l ∷ ls) * s + length (l ∷ ls) = mul-suc (length (l ∷ ls)) s in
          let j : length (l ∷ ls) * suc s ≡ length (l ∷ ls) * (a + 1) = ap (λ n. length (l ∷ ls) * n) (omega arith) in
          omega (arith, v, k, j)
      go (refused c) w e = let z : ◌≡◌ {A = ℕ} 0 1 = cc in absurd (omega arith)

-- ---- the walk over the text is the walk over linked records

abbrev pub outcome_of : Metered → Outcome
outcome_of (at n a r) = Outcome.at n a
outcome_of (refused c) = Outcome.refused c

as_before : (k : ℕ) (e : Metered) → afterwards (outcome_of e) ≡ outcome_of (before k e)
as_before k (at n a r) = refl
as_before k (refused c) = refl

as_reading : (k : ℕ) (e : Metered) → outcome_of e ≡ outcome_of (reading k e)
as_reading k (at n a r) = refl
as_reading k (refused c) = refl

module _ {qs : List Question} {ls : List Line} {rows front : List Row} (leaves : List ℕ)
    (linked : Forall₂ (LineRow qs (ToLeaf ls rows)) ls front) (split : rows ≡ front ++ map leaf leaves) where
  record Met (k : ℕ) (l : Line) : Type 0 where
    q : ℕ
    y : ℕ
    n : ℕ
    asks : LastQuestion qs l.question q
    stands : Nth rows k (branch q y n)
    goes_on : (b : Bool) → ToLeaf ls rows (chosen b l.yes l.no) (chosen b y n)

  meets : {k : ℕ} {l : Line} → Nth ls k l → Met k l
  meets {k} {l} h = let p = paired linked h in go p.1 p.2
    where
      go : {r : Row} → Nth front k r → LineRow qs (ToLeaf ls rows) l r → Met k l
      go f (row {q = q} {y = y} {n = n} a t u) =
          record { q = q; y = y; n = n; asks = a; stands = subst (λ rs. Nth rs k (branch q y n)) (sym split) (nth-append (map leaf leaves) f); goes_on = λ b. both b t u }

  pub along_loaded : {bytes : List ℕ} {k m : ℕ} {e : Metered} → Along qs bytes ls k m e → Loaded bytes rows k m (outcome_of e)
  along_loaded {bytes} (Along.unanswered h a f) =
      let w = meets h in
      Loaded.unanswered w.stands (λ b g. f b (subst (λ q. Nth bytes q b) (last_once w.asks a) g))
  along_loaded {bytes} (Along.met {b = b} h a g) = let w = meets h in Loaded.met w.stands (subst (λ q. Nth bytes q b) (last_once a w.asks) g)
  along_loaded {bytes} (Along.ends {b = b} h a g c) =
      let w = meets h in
      Loaded.goes w.stands (subst (λ q. Nth bytes q b) (last_once a w.asks) g) (Loaded.leaf (to_pdf (w.goes_on (is_yes b)) c))
  along_loaded {bytes} (Along.goes {k = k} {m = m} {b = b} {e = e} h a g c i f) =
      let w = meets h in
      let v = last_once i (to_node (w.goes_on (is_yes b)) c) in
      subst (Loaded bytes rows k (suc m)) (as_before (length ls) e)
      (Loaded.goes w.stands (subst (λ q. Nth bytes q b) (last_once a w.asks) g) (subst (λ z. Loaded bytes rows z m (outcome_of e)) v (along_loaded f)))

-- whatever answers there are and whatever the limit is
pub over_loaded : {qs : List Question} {bytes : List ℕ} {t : Body} {rows : List Row} {m : ℕ} {e : Metered} → Linked qs t rows → Over qs bytes t m e → Loaded bytes rows 0 m (outcome_of e)
over_loaded {bytes = bytes} {m = m} (Linked.single {n = n} s) (Over.alone {n = k}) =
    let c : pdf n ≡ pdf k = single_once s alone in
    let q : n ≡ k = cc in
    subst (λ i. Loaded bytes (leaf n ∷ []) 0 m (Outcome.at i 0)) q (Loaded.leaf here)
over_loaded {bytes = bytes} {m = m} (Linked.single {n = n} s) (Over.alike {n = k} a b) =
    let c : pdf n ≡ pdf k = single_once s (alike a b) in
    let q : n ≡ k = cc in
    subst (λ i. Loaded bytes (leaf n ∷ []) 0 m (Outcome.at i 0)) q (Loaded.leaf here)
over_loaded (Linked.single s) Over.empty = absurd (no_single s)
over_loaded (Linked.single {n = n} s) (Over.lines o f) = absurd (o (pdf n) s)
over_loaded Linked.empty Over.empty = Loaded.outside (λ r h. no_row h)
over_loaded (Linked.lines ns o l s) (Over.alike {n = n} a b) = absurd (o (pdf n) (alike a b))
over_loaded {bytes = bytes} {rows = rows} {m = m} (Linked.lines ns o l s) (Over.lines {e = e} o' f) =
    subst (Loaded bytes rows 0 m) (as_reading 1 e) (along_loaded ns l s f)

-- ---- how many lines, exactly, and that it ends in one way

-- the first line, and all lines for each question but the last; a lone reference has none
abbrev pub read_in : Body → ℕ → ℕ
read_in (lone r) a = 0
read_in (braces ls) a = 1 + (length ls * a - length ls)

pub over_exact : {qs : List Question} {bytes : List ℕ} {t : Body} {m n a r : ℕ} {e : Metered} → Over qs bytes t m e → e ≡ at n a r → r ≡ read_in t a
over_exact {r = r} Over.alone e = let y : 0 ≡ r = cc in sym y
over_exact {a = a} {r = r} (Over.alike h i) e = let y : 1 ≡ r = cc in let z : 0 ≡ a = cc in omega arith
over_exact Over.empty e = let z : ◌≡◌ {A = ℕ} 0 1 = cc in absurd (omega arith)
over_exact {n = n} {a = a} {r = r} (Over.lines {l = l} {ls = ls} {e = x} o f) e = go x refl e
  where
    go : (u : Metered) → x ≡ u → reading 1 u ≡ at n a r → r ≡ 1 + (length (l ∷ ls) * a - length (l ∷ ls))
    go (at p s t) w e =
        let z : s ≡ a = cc in
        let y : 1 + t ≡ r = cc in
        let v : length (l ∷ ls) + t ≡ length (l ∷ ls) * s = along_read f w in
        let k : length (l ∷ ls) * s ≡ length (l ∷ ls) * a = ap (λ n. length (l ∷ ls) * n) z in
        omega (arith, v, k)
    go (refused c) w e = let z : ◌≡◌ {A = ℕ} 0 1 = cc in absurd (omega arith)

pub over_once : {qs : List Question} {bytes : List ℕ} {t : Body} {rows : List Row} {m : ℕ} {e f : Metered} → Linked qs t rows → Over qs bytes t m e → Over qs bytes t m f → e ≡ f
over_once {t = t} {e = e} {f = f} l x y = go e f refl refl (loaded_once (over_loaded l x) (over_loaded l y))
  where
    go : (u v : Metered) → e ≡ u → f ≡ v → outcome_of u ≡ outcome_of v → e ≡ f
    go (at n a r) (at p b s) i j h =
        let k : n ≡ p = cc in
        let q : a ≡ b = cc in
        let c : r ≡ s = over_exact x i ∙ ap (read_in t) q ∙ sym (over_exact y j) in
        let w : at n a r ≡ at p b s = cc in
        i ∙ w ∙ sym j
    go (at n a r) (refused c) i j h = cc
    go (refused c) (at n a r) i j h = cc
    go (refused c) (refused d) i j h = let k : c ≡ d = cc in i ∙ ap refused k ∙ sym j

-- with an answer for every question it ends as the written walk
pub over_written : {qs : List Question} {answer : ℕ → Bool} {bytes : List ℕ} {t : Body} {rows : List Row} {m : ℕ} {w : Metered} {e : Ending}
    → Answers qs answer bytes → Linked qs t rows → Over qs bytes t m w → Written qs answer t m e → outcome_of w ≡ as_loaded e
over_written given l x y = loaded_once (over_loaded l x) (walks given l y)
