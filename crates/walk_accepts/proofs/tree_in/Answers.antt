-- `walk_accepts::tree_in`: the tree of that number from where the first one stands.
use mathlib.Core.Path.{◌≡◌, refl, sym, ap, ◌∙◌}
use Prim.Native.Nat.{ℕ, ◌+◌}
use native.Mathlib.Omega.{arith}
use lib.ListN.{length}
use Rattle.text_parts.specs.Parts.{read_to}
use Rattle.std.specs.Prelude.{Ok, Err}
use Rattle.laws.specs.Steps.{Ending, done_at, broken_at, Reading}
use Rattle.laws.specs.Totals.{total}
use Rattle.written.specs.Said.{QuestionPlace}
use Rattle.tree_survey_questions.specs.Counts.{pattern_count, questions_ended, questions_counted, questions_of}
use Rattle.walk_accepts.specs.Accepting.{found_tree, in_text}
use Rattle.walk_accepts.proofs.tree_in.Goals as goal

counted : (r : Reading QuestionPlace) (n m e : ℕ) → Ok (read_to (questions_of n m) e) ≡ questions_counted 0 0 r → r.ending ≡ done_at e
unfolding questions_counted
counted r n m e h = go r.ending refl h
  where
    go : (d : Ending) → r.ending ≡ d → Ok (read_to (questions_of n m) e) ≡ questions_ended (0 + length r.items) (0 + total pattern_count r.items) d → r.ending ≡ done_at e
    go (done_at x) q h = let u : e ≡ x = grind arith in q ∙ ap done_at (sym u)
    go (broken_at x) q h = let u : ◌≡◌ {A = ℕ} 0 1 = cc in absurd (omega arith)

not_counted : (r : Reading QuestionPlace) (e : ℕ) → Err e ≡ questions_counted 0 0 r → r.ending ≡ broken_at e
unfolding questions_counted
not_counted r e h = go r.ending refl h
  where
    go : (d : Ending) → r.ending ≡ d → Err e ≡ questions_ended (0 + length r.items) (0 + total pattern_count r.items) d → r.ending ≡ broken_at e
    go (done_at x) q h = let u : ◌≡◌ {A = ℕ} 0 1 = cc in absurd (omega arith)
    go (broken_at x) q h = let u : e ≡ x = cc in q ∙ ap broken_at (sym u)

pub returns-in-Some : goal.returns-in-Some
returns-in-Some c = ap found_tree (sym c.in-Some.is ∙ c.find_tree.ensures) ∙ sym (ap (in_text c.args.s.now c.args.tree) (counted _ _ _ _ (sym c.in-Ok.is ∙ c.survey_questions.ensures)))

pub returns-in-None : goal.returns-in-None
returns-in-None c = ap found_tree (sym c.in-None.is ∙ c.find_tree.ensures) ∙ sym (ap (in_text c.args.s.now c.args.tree) (counted _ _ _ _ (sym c.in-Ok.is ∙ c.survey_questions.ensures)))

pub returns-in-Err : goal.returns-in-Err
returns-in-Err c = sym (ap (in_text c.args.s.now c.args.tree) (not_counted _ _ (sym c.in-Err.is ∙ c.survey_questions.ensures)))
