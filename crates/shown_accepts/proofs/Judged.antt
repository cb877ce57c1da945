-- What is judged of a tree's lines: the first fault, or whether every line's row stands in its place.
use mathlib.Core.Path.{◌≡◌, subst}
use mathlib.Core.Bool.{Bool, true, ◌&&◌}
use mathlib.Core.List.{List, ◌∷◌, Forall₂}
use Prim.Native.Nat.{ℕ, zero, suc, ◌+◌, ◌<◌}
use native.Mathlib.Omega.{arith}
use Rattle.error.specs.declared.LineFault.{LineFault}
use Rattle.std.specs.Prelude.{Ok, Err}
use Rattle.link_alone.specs.declared.LineLink.{LineLink}
use Rattle.std.specs.declared.result.Result.{Result}
use Rattle.written.specs.Said as said
use Rattle.written.specs.Said.{Question, QuestionPlace}
use Rattle.written.specs.Linking.{Nth, here, there, Fault}
use Rattle.written.proofs.Walk.{no_row}
use Rattle.laws.proofs.Every.{both, first_of, second_of}
use Rattle.tree_line.specs.declared.Line as code
use Rattle.error.specs.Numbers.{fault_number, line_fault}
use Rattle.error.specs.declared.LinkFault.{LinkFault}
use Rattle.link_alone.specs.Alone.{judged_line, onward, judged_lines}
use Rattle.link_fits.specs.Fits.{row_fits}
use Rattle.shown_accepts.proofs.Lines.{LineSaid, QuestionSaid, Links, goes, fails, line_links, no_fault}
use Rattle.shown_accepts.proofs.Rows.{Fits, fits_row, row_fits_lem}

module _ (R s : List ℕ) {qs : List Question} {ps : List QuestionPlace} (asks : Forall₂ (QuestionSaid s) qs ps) {ls : List said.Line} {cs : List code.Line} (lines : Forall₂ (LineSaid s) ls cs) where
  abbrev Fit : said.Line → ℕ → Type 0
  Fit l k = Fits R s asks lines l k

  -- no line of the rest has a fault before m
  abbrev Clean : List said.Line → ℕ → Type 0
  Clean rest m = (j : ℕ) (e : said.Line) (n : ℕ) → j < m → Nth rest j e → ¬ Fault qs ls e n

  -- the rest of the lines, from number k on, after those before fitted or not
  pub data Judges (rest : List said.Line) (k : ℕ) (b : Bool) : Result Bool LineFault → Type 0 where
    told : {c : Bool} → ((m : ℕ) (l : said.Line) (n : ℕ) → Nth rest m l → ¬ Fault qs ls l n)
        → (c ≡ true → (b ≡ true) × ((m : ℕ) (l : said.Line) → Nth rest m l → Fit l (k + m)))
        → (b ≡ true → ((m : ℕ) (l : said.Line) → Nth rest m l → Fit l (k + m)) → c ≡ true) → Judges rest k b (Ok c)
    fault_at : {g : LinkFault} {m : ℕ} {l : said.Line} → Nth rest m l → Fault qs ls l (fault_number g) → Clean rest m → Judges rest k b (Err (line_fault g (k + m)))

  -- one line more in front, which has no fault and fits where f says so
  module _ {l : said.Line} {rest : List said.Line} {k : ℕ} {f : Bool} (clean : (n : ℕ) → ¬ Fault qs ls l n) (to : f ≡ true → Fit l k) (from : Fit l k → f ≡ true) where
    clean_on : {m : ℕ} → Clean rest m → Clean (l ∷ rest) (suc m)
    clean_on {m} g zero e n h (here) = clean n
    clean_on {m} g (suc j) e n h (there o) = g j e n (omega arith) o

    each : {m : ℕ} {e : said.Line} → Fit l k → ((m : ℕ) (e : said.Line) → Nth rest m e → Fit e (suc k + m)) → Nth (l ∷ rest) m e → Fit e (k + m)
    each {e = e} a g here = let z : k ≡ k + 0 = omega arith in subst (Fit e) z a
    each {e = e} a g (there {k = m} o) = let z : suc k + m ≡ k + suc m = omega arith in subst (Fit e) z (g m e o)

    faultless : {m n : ℕ} {e : said.Line} → ((m : ℕ) (e : said.Line) (n : ℕ) → Nth rest m e → ¬ Fault qs ls e n) → Nth (l ∷ rest) m e → ¬ Fault qs ls e n
    faultless {n = n} g here = clean n
    faultless {n = n} {e = e} g (there {k = m} o) = g m e n o

    in_front : {b : Bool} {r : Result Bool LineFault} → Judges rest (suc k) (b && f) r → Judges (l ∷ rest) k b r
    in_front {b} (told {c = c} g p q) =
        told (λ m e n o. faultless g o)
        (λ h. let w = p h in (first_of b f w.0, λ m e o. each (to (second_of b f w.0)) w.1 o))
        (λ h w. let y : k + 0 ≡ k = omega arith in
        q (both h (from (subst (Fit l) y (w 0 l here)))) (λ m e o. let z : k + suc m ≡ suc k + m = omega arith in subst (Fit e) z (w (suc m) e (there o))))
    in_front {b} (fault_at {g = g} {m = m} h t w) = let z : k + suc m ≡ suc k + m = omega arith in subst (λ (i : ℕ). Judges (l ∷ rest) k b (Err (line_fault g i))) z (fault_at (there h) t (clean_on w))

  pub judges : {rest : List said.Line} {crest : List code.Line} → Forall₂ (LineSaid s) rest crest → (k : ℕ) (b : Bool) → Judges rest k b (judged_lines s ps cs R k b crest)
  unfolding judged_lines
  judges Forall₂.nil k b = told (λ m l n h. absurd (no_row h)) (λ h. (h, λ m l o. absurd (no_row o))) (λ h w. h)
  judges (Forall₂.cons {a = l} {b = c} {l₁ = rest} {l₂ = crest} h t) k b = go (line_links s asks lines h) (λ x. judges t (suc k) (b && x))
    where
      go : {a : Result LineLink LinkFault} → Links s asks lines l a → ((x : Bool) → Judges rest (suc k) (b && x) (judged_lines s ps cs R (suc k) (b && x) crest))
          → Judges (l ∷ rest) k b (onward (λ x. judged_lines s ps cs R (suc k) (b && x) crest) (judged_line R k a))
      go (goes {q = q} {y = y} {n = n} u v e w g) f =
          in_front (λ m. no_fault s asks lines u v e w g) (fits_row R s asks lines k u v w) (row_fits_lem R s asks lines k u v w) (f (row_fits R k q y n))
      go (fails {g = g} d) f = let z : k + 0 ≡ k = omega arith in subst (λ (i : ℕ). Judges (l ∷ rest) k b (Err (line_fault g i))) z (fault_at here d (λ j e n i o. absurd (omega arith)))
