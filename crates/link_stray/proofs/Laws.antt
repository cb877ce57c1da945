-- The laws of the first line that leads nowhere: one line, then those behind it.
use mathlib.Core.Path.{◌≡◌, refl, sym, ap, ◌∙◌, subst₂}
use mathlib.Core.Bool.{Bool, true, false, cond, ◌||◌}
use mathlib.Core.List.{List, [], ◌∷◌}
use Prim.Native.Nat.{ℕ, suc, ◌+◌, ◌-◌, ◌≤◌, ◌<◌}
use native.Mathlib.Numerals.{add-one}
use native.Mathlib.Omega.{arith}
use lib.ListN.{length}
use Rattle.std.specs.Prelude.{Some, None}
use Rattle.tree_line.specs.Lines.{line_step_at, lines_at}
use Rattle.tree_line.specs.declared.Line.{Line}
use Rattle.tree_line.specs.declared.LineStep.{LineStep}
use Rattle.tree_line.specs.declared.LineStep.TheVariants as step
use Rattle.tree_survey_lines.proofs.Counting.{items_next, items_last, items_broken, next_in}
use Rattle.link_stray.specs.Stray.{first_from, strays, stray_of}
use Rattle.link_stray.specs.declared.Stray.{Stray}
use Rattle.link_stray.specs.declared.Stray.TheVariants.{Astray, Next, Clean}

-- ---- tests joined by or

pub or_first : {a : Bool} (b : Bool) → a ≡ true → true ≡ (a || b)
or_first b e = sym (ap (λ (x : Bool). x || b) e)

pub or_second : {a b r : Bool} → a ≡ false → r ≡ b → r ≡ (a || b)
or_second {a} {b} e q = q ∙ sym (ap (λ (x : Bool). x || b) e)

-- ---- the first of a list

module _ {A : Type 0} (p : A → Bool) (k : ℕ) where
  first_here : {x : A} {xs ys : List A} {b : Bool} → ys ≡ x ∷ xs → b ≡ p x → b ≡ true → Some k ≡ first_from p k ys
  unfolding first_from
  first_here {x} {xs} e h t = sym (ap (first_from p k) e ∙ ap (λ (b : Bool). cond b (Some k) (first_from p (suc k) xs)) (sym h ∙ t))

  first_on : {x : A} {xs ys : List A} {b : Bool} → ys ≡ x ∷ xs → b ≡ p x → b ≡ false → first_from p (k + 1) xs ≡ first_from p k ys
  unfolding first_from
  first_on {x} {xs} e h t = ap (λ (i : ℕ). first_from p i xs) (add-one k) ∙ sym (ap (first_from p k) e ∙ ap (λ (b : Bool). cond b (Some k) (first_from p (suc k) xs)) (sym h ∙ t))

  first_end : {x : A} {ys : List A} {b : Bool} → ys ≡ x ∷ [] → b ≡ p x → b ≡ false → None ≡ first_from p k ys
  unfolding first_from
  first_end {x} e h t = sym (ap (first_from p k) e ∙ ap (λ (b : Bool). cond b (Some k) None) (sym h ∙ t))

  first_none : {ys : List A} → ys ≡ [] → None ≡ first_from p k ys
  unfolding first_from
  first_none e = sym (ap (first_from p k) e)

-- ---- one line

-- as it is judged
module _ (ls : List Line) where
  pub stray_next : {l : Line} {j : ℕ} {x : LineStep} {b : Bool} (t : Bool) → step.Next l j ≡ x → b ≡ strays ls l → b ≡ t → cond t Astray (Next j) ≡ stray_of ls x
  stray_next {j = j} t e h q = ap (λ (b : Bool). cond b Astray (Next j)) (sym q ∙ h) ∙ ap (stray_of ls) e

  pub stray_last : {l : Line} {j : ℕ} {x : LineStep} {b : Bool} (t : Bool) → step.Last l j ≡ x → b ≡ strays ls l → b ≡ t → cond t Astray Clean ≡ stray_of ls x
  stray_last t e h q = ap (λ (b : Bool). cond b Astray Clean) (sym q ∙ h) ∙ ap (stray_of ls) e

-- ---- line after line

module _ (s : List ℕ) (ls : List Line) where
  -- what the line at i, the k-th, says of the first
  data Tells (i k : ℕ) : Stray → Type 0 where
    astray : Some k ≡ first_from (strays ls) k (lines_at s i).items → Tells i k Astray
    on : {j : ℕ} → first_from (strays ls) (k + 1) (lines_at s j).items ≡ first_from (strays ls) k (lines_at s i).items → 3 + i ≤ j → j ≤ length s → Tells i k (Next j)
    clean : None ≡ first_from (strays ls) k (lines_at s i).items → Tells i k Clean

  tells : (i k : ℕ) → Tells i k (stray_of ls (line_step_at s i))
  tells i k = go (line_step_at s i) refl
    where
      ahead : (l : Line) (j : ℕ) → step.Next l j ≡ line_step_at s i → (b : Bool) → b ≡ strays ls l → Tells i k (cond b Astray (Next j))
      ahead l j e true h = astray (first_here (strays ls) k (items_next s i e) h refl)
      ahead l j e false h = on (first_on (strays ls) k (items_next s i e) h refl) (next_in s i e).0 (next_in s i e).1

      at_end : (l : Line) (j : ℕ) → step.Last l j ≡ line_step_at s i → (b : Bool) → b ≡ strays ls l → Tells i k (cond b Astray Clean)
      at_end l j e true h = astray (first_here (strays ls) k (items_last s i e) h refl)
      at_end l j e false h = clean (first_end (strays ls) k (items_last s i e) h refl)

      go : (x : LineStep) → x ≡ line_step_at s i → Tells i k (stray_of ls x)
      go (step.Next l j) e = ahead l j e (strays ls l) refl
      go (step.Last l j) e = at_end l j e (strays ls l) refl
      go step.Broken e = clean (first_none (strays ls) k (items_broken s i e))

  -- at the k-th line, which was judged
  pub record Going (first k : ℕ) (w : Stray) : Type 0 where
    pub i : ℕ
    pub same : first_from (strays ls) k (lines_at s i).items ≡ first_from (strays ls) 0 (lines_at s first).items
    pub few : k ≤ i
    pub judged : w ≡ stray_of ls (line_step_at s i)

  pub going_none : {first : ℕ} {w : Stray} → w ≡ stray_of ls (line_step_at s first) → Going first 0 w
  going_none {first} h = record { i = first; same = refl; few = omega arith; judged = h }

  module _ {first k : ℕ} {w : Stray} (g : Going first k w) where
    pub going_astray : w ≡ Astray → Some k ≡ first_from (strays ls) 0 (lines_at s first).items
    going_astray e = go (tells g.i k) (sym g.judged ∙ e)
      where
        go : {x : Stray} → Tells g.i k x → x ≡ Astray → Some k ≡ first_from (strays ls) 0 (lines_at s first).items
        go (astray h) e = h ∙ g.same
        go (on h a b) e = let y : ◌≡◌ {A = ℕ} 0 1 = cc in absurd (omega arith)
        go (clean h) e = let y : ◌≡◌ {A = ℕ} 0 1 = cc in absurd (omega arith)

    pub going_clean : w ≡ Clean → None ≡ first_from (strays ls) 0 (lines_at s first).items
    going_clean e = go (tells g.i k) (sym g.judged ∙ e)
      where
        go : {x : Stray} → Tells g.i k x → x ≡ Clean → None ≡ first_from (strays ls) 0 (lines_at s first).items
        go (astray h) e = let y : ◌≡◌ {A = ℕ} 0 1 = cc in absurd (omega arith)
        go (on h a b) e = let y : ◌≡◌ {A = ℕ} 0 1 = cc in absurd (omega arith)
        go (clean h) e = h ∙ g.same

    module _ {j : ℕ} (e : w ≡ Next j) where
      pub going_up : (k + 3 ≤ j) × (j ≤ length s)
      going_up = go (tells g.i k) (sym g.judged ∙ e)
        where
          go : {x : Stray} → Tells g.i k x → x ≡ Next j → (k + 3 ≤ j) × (j ≤ length s)
          go (astray h) e = let y : ◌≡◌ {A = ℕ} 0 1 = cc in absurd (omega arith)
          go (on {j = m} h a b) e = let q : m ≡ j = cc in (omega (arith, g.few), omega arith)
          go (clean h) e = let y : ◌≡◌ {A = ℕ} 0 1 = cc in absurd (omega arith)

      pub going_on : {v : Stray} → v ≡ stray_of ls (line_step_at s j) → Going first (k + 1) v
      going_on h = record { i = j; same = go (tells g.i k) (sym g.judged ∙ e); few = omega (arith, going_up.0); judged = h }
        where
          go : {x : Stray} → Tells g.i k x → x ≡ Next j → first_from (strays ls) (k + 1) (lines_at s j).items ≡ first_from (strays ls) 0 (lines_at s first).items
          go (astray h) e = let y : ◌≡◌ {A = ℕ} 0 1 = cc in absurd (omega arith)
          go (on {j = m} h a b) e = let q : j ≡ m = cc in ap (λ (x : ℕ). first_from (strays ls) (k + 1) (lines_at s x).items) q ∙ h ∙ g.same
          go (clean h) e = let y : ◌≡◌ {A = ℕ} 0 1 = cc in absurd (omega arith)

  -- how far it still has to go
  abbrev pub room_behind : Stray → ℕ
  room_behind (Next j) = suc (length s - j)
  room_behind Astray = 0
  room_behind Clean = 0

  pub less_behind : {j : ℕ} {w v : Stray} → w ≡ Next j → j ≤ length s → v ≡ stray_of ls (line_step_at s j) → room_behind v < room_behind w
  less_behind {j} e h q = subst₂ (λ (a b : Stray). room_behind a < room_behind b) (sym q) (sym e) (go (tells j 0))
    where
      go : {x : Stray} → Tells j 0 x → room_behind x < suc (length s - j)
      go (astray h) = omega arith
      go (on h a b) = omega arith
      go (clean h) = omega arith
