-- What a plan of one tree says of the questions, the tree and the values.
use mathlib.Core.Path.{◌≡◌, refl, sym, ap, ◌∙◌, subst}
use mathlib.Core.Bool.{Bool, true, false, cond}
use mathlib.Core.List.{List}
use Prim.Native.Nat.{ℕ, ◌+◌, ◌*◌, ◌<◌}
use native.Mathlib.Omega.{arith}
use lib.ListN.{length, take}
use Rattle.tree_survey_questions.specs.declared.Questions.{Questions}
use Rattle.text_parts.specs.declared.Read.{Read}
use Rattle.written.specs.Blocks.{total}
use Rattle.laws.specs.Totals as totals
use Rattle.laws.specs.Steps.{Step, next, last, broken}
use Rattle.error.specs.declared.Refusal.TheVariants as refusal
use Rattle.head_record.specs.declared.Header.{Header}
use Rattle.head_record_fits.specs.Fits.{record_fits}
use Rattle.tree_question.specs.Questions.{questions_at}
use Rattle.tree_survey_questions.specs.Counts.{pattern_count, questions_counted}
use Rattle.tree_body.specs.Trees.{Tree, head_at, after_tree, tree_followed, tree_step_at}
use Rattle.tree_body.specs.declared.TreeStep.{TreeStep}
use Rattle.tree_body.specs.declared.TreeStep.TheVariants as after
use Rattle.tree_survey.specs.Survey.{body_records, body_lines, tree_negative, tree_records, tree_lines, tree_surveyed}
use Rattle.tree_survey.proofs.Whole.{asked}
use Rattle.pdf_blocks.specs.Values.{word_at, block_at}
use Rattle.load_choose.specs.Chosen.{chosen_of}
use Rattle.load_range.specs.Ranges.{within_of}
use Rattle.load_choose.specs.declared.Which.{Which}
use Rattle.load_questions.specs.Words.{Done}
use Rattle.load_trees.specs.Trees.{head_body, head_end, Whole}
use Rattle.load_trees.proofs.Loop.{stands}
use Rattle.load_plan.proofs.Same.{same_read}
use Rattle.load_plan.specs.Plans.{read_as, plan_for, data_of}
use Rattle.load_plan.specs.declared.Plan.{Plan}
use Rattle.trail_find.specs.Rows.{trail_at, offsets_at, nth_of}
use Rattle.trail_plan.specs.Plans.{tree_for, asked_for, tree_text_of, with_tree, values_from, entries_for, entries_of, block_in, block_of, row_in, text_in, RowOf, tree_of, chosen_tree, trail_tree, tree_planned, SoundTree}
use Rattle.trail_plan.proofs.Laws.{block_size, row_of}
use Rattle.load_range.specs.declared.Bounds.{Bounds}
use Rattle.load_choose.specs.declared.Chosen.{Chosen}
use Rattle.error.specs.declared.Refusal.{Refusal}
use Rattle.load_plan.specs.declared.Text.{Text}
use Rattle.trail_find.specs.declared.Trail.{Trail}
use Rattle.std.specs.Prelude.{Err, None, Ok, Some, Option, Result}

-- a tree that was surveyed
pub record WasTree (s : List ℕ) (i f g q p n r l : ℕ) : Type 0 where
  pub same_place : g ≡ f
  pub one : n ≡ 1
  pub read : Done (questions_at s i)
  pub asked : q ≡ length (questions_at s i).items
  pub patterns : p ≡ totals.total pattern_count (questions_at s i).items
  pub whole : Whole s (head_at s f)
  pub records : r ≡ body_records (head_body s (head_at s f))
  pub lines : l ≡ body_lines (head_body s (head_at s f))

pub was_tree : (s : List ℕ) (i f : ℕ) {g q p n r l : ℕ} → read_as g q p n r l ≡ tree_text_of s i f → WasTree s i f g q p n r l
unfolding tree_text_of
was_tree s i f {g} {q} {p} {n} {r} {l} h = go (questions_counted 0 0 (questions_at s i)) refl h
  where
    R : Result Text Refusal
    R = read_as g q p n r l

    go : (u : Result (Read Questions) ℕ) → u ≡ questions_counted 0 0 (questions_at s i) → R ≡ asked_for s f u → WasTree s i f g q p n r l
    go (Err j) e h = let u : ◌≡◌ {A = ℕ} 0 1 = cc in absurd (omega arith)
    go (Ok o) e h = grown (tree_step_at s f) refl h
      where
        -- a step that is not broken stands on its head
        made : (t : Tree) → ((j : ℕ) → ¬ (tree_step_at s f ≡ broken j)) → ((x : Tree) (a : TreeStep) → tree_step_at s f ≡ tree_followed s x a → x ≡ t) → R ≡ read_as f o.value.questions o.value.patterns 1 (tree_records t) (tree_lines t) → WasTree s i f g q p n r l
        made t z only h =
            let w = stands s f z in
            let y : w.0 ≡ t = only w.0 (after_tree s (head_end s (head_at s f))) w.1.follows in
            let b : t.body ≡ head_body s (head_at s f) = sym (ap (λ (x : Tree). x.body) y) ∙ w.1.body in
            let k = asked (questions_at s i) o.value.questions o.value.patterns o.next e in
            let same = same_read h in
            let v₁ : g ≡ f = same.0 in
            let v₂ : q ≡ o.value.questions = same.1 in
            let v₃ : p ≡ o.value.patterns = same.2 in
            let v₄ : n ≡ 1 = same.3 in
            let v₅ : r ≡ tree_records t = same.4 in
            let v₆ : l ≡ tree_lines t = same.5 in
            record {
              same_place = v₁;
              one = v₄;
              read = record { end = o.next; done = k.done };
              asked = v₂ ∙ sym k.count;
              patterns = v₃ ∙ sym k.patterns;
              whole = w.1.whole;
              records = v₅ ∙ ap body_records b;
              lines = v₆ ∙ ap body_lines b;
            }

        grown : (u : Step Tree) → tree_step_at s f ≡ u → R ≡ tree_for f o.value.questions o.value.patterns (tree_surveyed u) → WasTree s i f g q p n r l
        grown (broken j) e' h = let u : ◌≡◌ {A = ℕ} 0 1 = cc in absurd (omega arith)
        grown (next t j) e' h = pick (tree_negative t) h
          where
            only : (x : Tree) (a : TreeStep) → tree_step_at s f ≡ tree_followed s x a → x ≡ t
            only x (after.Next k) v = let z : next x k ≡ next t j = sym v ∙ e' in cc
            only x after.End v = let z = sym v ∙ e' in let u : ◌≡◌ {A = ℕ} 0 1 = cc in absurd (omega arith)
            only x (after.Broken k) v = let z = sym v ∙ e' in let u : ◌≡◌ {A = ℕ} 0 1 = cc in absurd (omega arith)

            never : (k : ℕ) → ¬ (tree_step_at s f ≡ broken k)
            never k v = let z = sym v ∙ e' in let u : ◌≡◌ {A = ℕ} 0 1 = cc in absurd (omega arith)

            pick : (b : Bool) → R ≡ cond b (Err refusal.State) (read_as f o.value.questions o.value.patterns 1 (tree_records t) (tree_lines t)) → WasTree s i f g q p n r l
            pick true h = let u : ◌≡◌ {A = ℕ} 0 1 = cc in absurd (omega arith)
            pick false h = made t never only h
        grown (last t j) e' h = pick (tree_negative t) h
          where
            only : (x : Tree) (a : TreeStep) → tree_step_at s f ≡ tree_followed s x a → x ≡ t
            only x (after.Next k) v = let z = sym v ∙ e' in let u : ◌≡◌ {A = ℕ} 0 1 = cc in absurd (omega arith)
            only x after.End v = let z : last x (length s) ≡ last t j = sym v ∙ e' in cc
            only x (after.Broken k) v = let z = sym v ∙ e' in let u : ◌≡◌ {A = ℕ} 0 1 = cc in absurd (omega arith)

            never : (k : ℕ) → ¬ (tree_step_at s f ≡ broken k)
            never k v = let z = sym v ∙ e' in let u : ◌≡◌ {A = ℕ} 0 1 = cc in absurd (omega arith)

            pick : (b : Bool) → R ≡ cond b (Err refusal.State) (read_as f o.value.questions o.value.patterns 1 (tree_records t) (tree_lines t)) → WasTree s i f g q p n r l
            pick true h = let u : ◌≡◌ {A = ℕ} 0 1 = cc in absurd (omega arith)
            pick false h = made t never only h

module _ (d : List ℕ) (p : Plan) where
  -- the block's entries
  entries_sound : (z : List ℕ) (o : Plan) (n k : ℕ) → Ok p ≡ entries_of z o n k
      → (p ≡ with_tree o (values_from z o.block o.width n k) (word_at z (o.block + 4 * k))) × ((e : ℕ) × (Some e ≡ block_at n o.width z o.block))
  unfolding entries_of
  entries_sound z o n k h = go (block_at n o.width z o.block) refl h
    where
      go : (b : Option ℕ) → b ≡ block_at n o.width z o.block → Ok p ≡ entries_for z o n k b
          → (p ≡ with_tree o (values_from z o.block o.width n k) (word_at z (o.block + 4 * k))) × ((e : ℕ) × (Some e ≡ block_at n o.width z o.block))
      go (Some m) e h = let u : p ≡ with_tree o (values_from z o.block o.width n k) (word_at z (o.block + 4 * k)) = cc in (u, (m, e))
      go None e h = let u : ◌≡◌ {A = ℕ} 0 1 = cc in absurd (omega arith)

  pub tree_sound : (u v x y w n k : ℕ) (o : Option ℕ) → RowOf n k o → Ok p ≡ tree_of d u v x y w n k o → SoundTree d p
  unfolding tree_of
  tree_sound u v x y w n k o inside h = go (within_of u v (length d)) h
    where
      in_block : (a e f g q r t m l : ℕ) → WasTree (take e d) a f g q r t m l → k < n → (b : Option Bounds) → Ok p ≡ block_in d a e g q r t m l w n k b → SoundTree d p
      in_block a e f g q r t m l t' i None h = let z : ◌≡◌ {A = ℕ} 0 1 = cc in absurd (omega arith)
      in_block a e f g q r t m l t' i (Some p) h =
          let record { start = b; end = c } = p in
          let z = entries_sound (take c d) (plan_for a e g q r t m l w b c) n k h in
          let k' = block_size n w (take c d) b k z.1.0 i z.1.1 in
          subst (SoundTree d) (sym z.0)
          (record {
            asked = t'.read;
            questions = t'.asked;
            patterns = t'.patterns;
            whole = subst (λ (g : ℕ). Whole (take e d) (head_at (take e d) g)) (sym t'.same_place) t'.whole;
            trees = t'.one;
            records = t'.records ∙ ap (λ (g : ℕ). body_records (head_body (take e d) (head_at (take e d) g))) (sym t'.same_place);
            lines = t'.lines ∙ ap (λ (g : ℕ). body_lines (head_body (take e d) (head_at (take e d) g))) (sym t'.same_place);
            values = k'.values;
          })

      in_text : (a e f : ℕ) → k < n → (t : Result Text Refusal) → t ≡ tree_text_of (take e d) a f → Ok p ≡ block_of d a e t x y w n k → SoundTree d p
      in_text a e f i (Err r) j h = let z : ◌≡◌ {A = ℕ} 0 1 = cc in absurd (omega arith)
      in_text a e f i (Ok b) j h = let record { first = g; questions = q; patterns = r; trees = t; records = m; lines = l } = b in in_block a e f g q r t m l (was_tree (take e d) a f j) i (within_of x y (length d)) h

      in_row : (a e : ℕ) (z : Option ℕ) → o ≡ z → Ok p ≡ row_in d a e x y w n k z → SoundTree d p
      in_row a e None i h = let z : ◌≡◌ {A = ℕ} 0 1 = cc in absurd (omega arith)
      in_row a e (Some f) i h = in_text a e f (inside.inside f i) (tree_text_of (take e d) a f) refl h

      go : (b : Option Bounds) → Ok p ≡ text_in d x y w n k o b → SoundTree d p
      go None h = let z : ◌≡◌ {A = ℕ} 0 1 = cc in absurd (omega arith)
      go (Some b) h = let record { start = a; end = e } = b in in_row a e o refl h

pub needs_sound : (s : List ℕ) (h : Header) (which : Which) (m k : ℕ) (p : Plan) → Ok p ≡ tree_planned s h which m k → SoundTree (data_of s h) p
unfolding tree_planned
needs_sound s h which m k p e = go (record_fits (length s) h) e
  where
    chose : (os : List ℕ) (c : Result Chosen Refusal) → Ok p ≡ chosen_tree (data_of s h) os k c → SoundTree (data_of s h) p
    chose os (Err r) e = let z : ◌≡◌ {A = ℕ} 0 1 = cc in absurd (omega arith)
    chose os (Ok m) e = let record { tree_from = u; tree_to = v; pdf_from = x; pdf_to = y; width = w } = m in tree_sound (data_of s h) p u v x y w (length os) k (nth_of os k) (row_of os k refl refl) e

    trailed : (t : Result Trail Refusal) → Ok p ≡ trail_tree s h which m k t → SoundTree (data_of s h) p
    trailed (Err r) e = let z : ◌≡◌ {A = ℕ} 0 1 = cc in absurd (omega arith)
    trailed (Ok t) e = let record { begin = b; count = c } = t in chose (offsets_at s m b c) (chosen_of s h which) e

    go : (b : Bool) → Ok p ≡ cond b (trail_tree s h which m k (trail_at s h.data_len)) (Err refusal.Range) → SoundTree (data_of s h) p
    go true e = trailed (trail_at s h.data_len) e
    go false e = let z : ◌≡◌ {A = ℕ} 0 1 = cc in absurd (omega arith)
