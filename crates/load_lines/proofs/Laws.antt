-- Lines stored one after the other: what is left, stored, gives the work with all of them.
use mathlib.Core.Path.{◌≡◌, refl, sym, ap, ◌∙◌}
use mathlib.Core.List.{List, append-nil}
use Prim.Native.Nat.{ℕ, ◌+◌, ◌*◌, ◌≤◌}
use native.Mathlib.Omega.{arith}
use lib.IntN.{ℤ}
use lib.ListN.{length}
use lib.Seq.{sets, length-sets}
use Rattle.laws.proofs.Tables.{sets-append}
use Rattle.tree_line.specs.Lines.{line_step_at, lines_at}
use Rattle.tree_line.specs.declared.Line.{Line}
use Rattle.tree_line.specs.declared.LineStep.TheVariants as answer
use Rattle.tree_survey_lines.proofs.Counting.{items_next, items_last, items_broken}
use Rattle.load_lines.specs.Words.{asked_at, words_of, line_words}

module _ (s questions : List ℕ) (n at : ℕ) (work₀ : List ℤ) where
  -- the words of the lines from i on
  abbrev pub words : ℕ → List ℤ
  words i = line_words s questions n (lines_at s i).items

  abbrev pub ask : Line → ℤ
  ask l = asked_at s questions n l.start l.len

  pub record Lining (work : List ℤ) (i word : ℕ) : Type 0 where
    pub long : length work ≡ length work₀
    pub room : word + 6 * length (lines_at s i).items ≤ length work₀
    pub stored : sets work word (words i) ≡ sets work₀ 0 (words at)

  pub line_none : 6 * length (lines_at s at).items ≤ length work₀ → Lining work₀ at 0
  line_none h = record { long = refl; room = omega arith; stored = refl }

  module _ (work : List ℤ) (i word : ℕ) (p : Lining work i word) where
    module _ {l : Line} {j : ℕ} (e : answer.Next l j ≡ line_step_at s i) where
      pub next_room : word + 6 ≤ length work
      next_room = omega (arith, p.room, p.long, ap length (items_next s i e))

      pub line_more : (q : ℤ) → q ≡ ask l → (work₁ : List ℤ) → work₁ ≡ sets work word (words_of l q) → Lining work₁ j (word + 6)
      unfolding line_words
      line_more q qe work₁ u =
          let v : work₁ ≡ sets work word (words_of l (ask l)) = u ∙ ap (λ (x : ℤ). sets work word (words_of l x)) qe in
          record {
            long = ap length u ∙ length-sets work word (words_of l q) ∙ p.long;
            room = omega (arith, p.room, ap length (items_next s i e));
            stored =
                ap (λ (t : List ℤ). sets t (word + 6) (words j)) v ∙ sets-append work word (words_of l (ask l)) (words j)
                ∙ sym (ap (λ (ls : List Line). sets work word (line_words s questions n ls)) (items_next s i e)) ∙ p.stored;
          }

    module _ {l : Line} {j : ℕ} (e : answer.Last l j ≡ line_step_at s i) where
      pub last_room : word + 6 ≤ length work
      last_room = omega (arith, p.room, p.long, ap length (items_last s i e))

      pub line_last : (q : ℤ) → q ≡ ask l → (work₁ : List ℤ) → work₁ ≡ sets work word (words_of l q) → work₁ ≡ sets work₀ 0 (words at)
      unfolding line_words
      line_last q qe work₁ u =
          u ∙ ap (λ (x : ℤ). sets work word (words_of l x)) qe ∙ ap (sets work word) (sym (append-nil (words_of l (ask l))))
          ∙ sym (ap (λ (ls : List Line). sets work word (line_words s questions n ls)) (items_last s i e)) ∙ p.stored

    pub line_broken : answer.Broken ≡ line_step_at s i → work ≡ sets work₀ 0 (words at)
    unfolding line_words
    line_broken e = sym (ap (λ (ls : List Line). sets work word (line_words s questions n ls)) (items_broken s i e)) ∙ p.stored
