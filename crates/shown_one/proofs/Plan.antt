-- The plan of tree k, where the rows reach the text's trees: that of the whole model, with this tree alone.
use mathlib.Core.Path.{◌≡◌, refl, sym, ap, ap₂, ◌∙◌, subst}
use mathlib.Core.Bool.{Bool, true, false, cond}
use mathlib.Core.List.{List, [], ◌∷◌, map}
use Prim.Native.Nat.{ℕ, suc, ◌+◌, ◌*◌, ◌<◌}
use native.Mathlib.Omega.{arith}
use lib.IntN.{ℤ, pos, negsuc}
use lib.ListN.{length, take}
use Rattle.text_parts.specs.Parts.{read_to}
use Rattle.written.specs.Said as said
use Rattle.written.specs.Said.{Text, Layout}
use Rattle.written.specs.TreeText.{Says, without, with_questions, trees}
use Rattle.written.specs.Linking.{Nth, here, there}
use Rattle.written.specs.Tables.{Negative, negative}
use Rattle.written.specs.Blocks.{total}
use Rattle.laws.specs.Totals as totals
use Rattle.error.specs.declared.Refusal.TheVariants as refusal
use Rattle.head_record.specs.declared.Header.{Header}
use Rattle.head_record_fits.specs.Fits.{record_fits}
use Rattle.tree_question.specs.Questions.{questions_at}
use Rattle.tree_survey_questions.specs.Counts.{pattern_count, questions_ended, questions_counted, questions_of}
use Rattle.tree_body.specs.Trees.{Tree, tree_of, tree_step_at}
use Rattle.tree_survey.proofs.Said.{same_length}
use Rattle.tree_survey.specs.Survey as survey
use Rattle.tree_survey.specs.Survey.{tree_negative, tree_records, tree_lines, tree_surveyed}
use Rattle.pdf_blocks.specs.Values.{word_at, block_at}
use Rattle.load_choose.specs.Chosen.{chosen, asked, chosen_of}
use Rattle.load_range.specs.Ranges.{bounds, within_of}
use Rattle.load_choose.specs.declared.Which.{Which}
use Rattle.load_plan.specs.Plans.{read_as, text_of, with_entries, entries_for, entries_of, plan_for, block_in, block_of, plan_in, plan_of, data_of, planned_for, planned}
use Rattle.load_plan.specs.declared.Plan.{Plan}
use Rattle.load_plan.proofs.Laws.{Was, was, needs_sound}
use Rattle.trail_find.specs.Rows.{nth_of}
use Rattle.trail_plan.specs.Plans.{tree_for, with_tree, values_from, tree_planned}
use Rattle.trail_plan.proofs.Laws.{text_asked, entries_fit, block_inside, tree_there, needs_tree}
use Rattle.shown_text.proofs.Text.{trees_are}
use Rattle.shown_load.specs.Stored.{Chose}
use Rattle.shown_one.specs.One.{star_of, Reaching}
use Rattle.shown_one.proofs.Steps.{Stepped, goes, ends, stepped, nth_trees}
use Rattle.load_range.specs.declared.Bounds.{Bounds}
use Rattle.load_plan.specs.declared.Text.{Text as Counted}
use Rattle.load_choose.specs.declared.Chosen.{Chosen}
use Rattle.error.specs.declared.Refusal.{Refusal}
use Rattle.std.specs.Prelude.{Err, None, Ok, Some, Option, Result}

clash : {A : Type 0} → ◌≡◌ {A = ℕ} 0 1 → A
clash e = absurd (omega arith)

-- ---- the stages of a plan

pub record Stages (s : List ℕ) (h : Header) (which : Which) (p : Plan) : Type 0 where
  pub u : ℕ
  pub v : ℕ
  pub x : ℕ
  pub y : ℕ
  pub fits : record_fits (length s) h ≡ true
  pub chose : chosen u v x y p.width ≡ chosen_of s h which
  pub text : bounds p.text p.text_end ≡ within_of u v (length (data_of s h))
  pub block : bounds p.block p.block_end ≡ within_of x y (length (data_of s h))

module _ (s : List ℕ) (h : Header) (which : Which) (p : Plan) where
  entries_are : (z : List ℕ) (o : Plan) → Ok p ≡ entries_of z o → (n : ℕ) × (p ≡ with_entries o n)
  unfolding entries_of
  entries_are z o h = go (block_at o.trees o.width z o.block) h
    where
      go : (b : Option ℕ) → Ok p ≡ entries_for o b → (n : ℕ) × (p ≡ with_entries o n)
      go (Some n) h = (n, (let e : p ≡ with_entries o n = cc in e))
      go None h = clash cc

  -- a record that doesn't fit chooses nothing
  fits-chosen : {u v x y w : ℕ} → chosen u v x y w ≡ chosen_of s h which → record_fits (length s) h ≡ true
  unfolding chosen_of
  fits-chosen {u} {v} {x} {y} {w} i = go (record_fits (length s) h) refl i
    where
      go : (b : Bool) → record_fits (length s) h ≡ b → chosen u v x y w ≡ cond b (asked s h which) (Err refusal.Range) → record_fits (length s) h ≡ true
      go true e i = e
      go false e i = clash cc

  pub stages : Ok p ≡ planned s h which → Stages s h which p
  unfolding planned plan_of
  stages g = chose (chosen_of s h which) refl g
    where
      d : List ℕ
      d = data_of s h

      made : (u v x y w a e f q r n m l b c : ℕ) → chosen u v x y w ≡ chosen_of s h which → bounds a e ≡ within_of u v (length d) → bounds b c ≡ within_of x y (length d)
          → Ok p ≡ entries_of (take c d) (plan_for a e f q r n m l w b c) → Stages s h which p
      made u v x y w a e f q r n m l b c i j k g =
          let z = entries_are (take c d) (plan_for a e f q r n m l w b c) g in
          let P = z.1 in
          record {
            u = u;
            v = v;
            x = x;
            y = y;
            fits = fits-chosen i;
            chose = ap (λ (w : ℕ). chosen u v x y w) (ap (λ (p : Plan). p.width) P) ∙ i;
            text = ap₂ (λ (a e : ℕ). bounds a e) (ap (λ (p : Plan). p.text) P) (ap (λ (p : Plan). p.text_end) P) ∙ j;
            block = ap₂ (λ (b c : ℕ). bounds b c) (ap (λ (p : Plan). p.block) P) (ap (λ (p : Plan). p.block_end) P) ∙ k;
          }

      in_block : (u v x y w a e f q r n m l : ℕ) → chosen u v x y w ≡ chosen_of s h which → bounds a e ≡ within_of u v (length d) → (b : Option Bounds) → b ≡ within_of x y (length d)
          → Ok p ≡ block_in d a e f q r n m l w b → Stages s h which p
      in_block u v x y w a e f q r n m l i j None k g = clash cc
      in_block u v x y w a e f q r n m l i j (Some t) k g = let record { start = b; end = c } = t in made u v x y w a e f q r n m l b c i j k g

      in_text : (u v x y w a e : ℕ) → chosen u v x y w ≡ chosen_of s h which → bounds a e ≡ within_of u v (length d) → (t : Result Counted Refusal) → Ok p ≡ block_of d a e t x y w → Stages s h which p
      in_text u v x y w a e i j (Err r) g = clash cc
      in_text u v x y w a e i j (Ok t) g = let record { first = f; questions = q; patterns = r; trees = n; records = m; lines = l } = t in in_block u v x y w a e f q r n m l i j (within_of x y (length d)) refl g

      in_range : (u v x y w : ℕ) → chosen u v x y w ≡ chosen_of s h which → (b : Option Bounds) → b ≡ within_of u v (length d) → Ok p ≡ plan_in d x y w b → Stages s h which p
      in_range u v x y w i None j g = clash cc
      in_range u v x y w i (Some b) j g = let record { start = a; end = e } = b in in_text u v x y w a e i j (text_of (take e d) a) g

      chose : (c : Result Chosen Refusal) → c ≡ chosen_of s h which → Ok p ≡ planned_for d c → Stages s h which p
      chose (Err r) i g = clash cc
      chose (Ok m) i g = let record { tree_from = u; tree_to = v; pdf_from = x; pdf_to = y; width = w } = m in in_range u v x y w i (within_of u v (length d)) refl g

-- ---- the rows of the model

nth-star : {us : List said.TreePlace} {k : ℕ} {y : said.TreePlace} → Nth us k y → nth_of (map star_of us) k ≡ Some y.star
unfolding nth_of map
nth-star here = refl
nth-star (there h) = nth-star h

length_stars : (us : List said.TreePlace) → length (map star_of us) ≡ length us
unfolding map
length_stars [] = refl
length_stars (u ∷ us) = ap suc (length_stars us)

natural_at : {ts : List said.Tree} {k : ℕ} {x : said.Tree} → ¬ Negative ts → Nth ts k x → survey.negative x.state ≡ false
natural_at {x = x} n h = go x.state refl
  where
    go : (z : ℤ) → x.state ≡ z → survey.negative z ≡ false
    go (pos m) e = refl
    go (negsuc m) e = absurd (n (negative h e))

pub as_many : {s : List ℕ} {i : ℕ} {t : Text} {l : Layout} → Says s i t l → length t.trees ≡ length l.trees
as_many (without (trees b p e)) = same_length p
as_many (with_questions q (trees b p e)) = same_length p

-- ---- the plan of one tree

abbrev pub one_plan : List ℕ → Plan → Tree → ℕ → Plan
one_plan d p z k =
    with_tree (plan_for p.text p.text_end z.star p.questions p.patterns 1 (tree_records z) (tree_lines z) p.width p.block p.block_end)
    (values_from (take p.block_end d) p.block p.width p.trees k) (word_at (take p.block_end d) (p.block + 4 * k))

module _ (s : List ℕ) (h : Header) (which : Which) {p : Plan} {t : Text} {l : Layout} (c : Chose s h which p t l) where
  abbrev S : List ℕ
  S = take p.text_end (data_of s h)

  abbrev W : Was S p.text p.first p.questions p.patterns p.trees p.records p.lines
  W = was S p.text (needs_sound s h which p c.plan).text

  module _ {k : ℕ} {x : said.Tree} {y : said.TreePlace} (i : Nth t.trees k x) (j : Nth l.trees k y) where
    pub at_tree : length S < 9223372036854775808 → Stepped S y.star (tree_of x y)
    at_tree short = stepped S k p.first (subst (λ (l : List Tree). Nth l k (tree_of x y)) (sym (trees_are c.says W.begins short)) (nth_trees i j))

    surveyed : {z : Tree} → Stepped S y.star z → tree_negative z ≡ false → read_as y.star p.questions p.patterns 1 (tree_records z) (tree_lines z) ≡ tree_for y.star p.questions p.patterns (tree_surveyed (tree_step_at S y.star))
    surveyed {z} (goes e) n =
        ap (λ (b : Bool). cond b (Err refusal.State) (read_as y.star p.questions p.patterns 1 (tree_records z) (tree_lines z))) (sym n)
        ∙ ap (λ u. tree_for y.star p.questions p.patterns (tree_surveyed u)) (sym e)
    surveyed {z} (ends e) n =
        ap (λ (b : Bool). cond b (Err refusal.State) (read_as y.star p.questions p.patterns 1 (tree_records z) (tree_lines z))) (sym n)
        ∙ ap (λ u. tree_for y.star p.questions p.patterns (tree_surveyed u)) (sym e)

    counted : Ok (read_to (questions_of p.questions p.patterns) p.first) ≡ questions_counted 0 0 (questions_at S p.text)
    unfolding questions_counted
    counted =
        let a : p.questions ≡ 0 + length (questions_at S p.text).items = omega (arith, W.asked) in
        let b : p.patterns ≡ 0 + totals.total pattern_count (questions_at S p.text).items = omega (arith, W.patterns) in
        (λ z. questions_ended (a z) (b z) (sym W.begins z))

    -- the tree load plans just this tree
    pub tree_planned_lem : length S < 9223372036854775808 → {m : ℕ} → Reaching s h m l → Ok (one_plan (data_of s h) p (tree_of x y) k) ≡ tree_planned s h which m k
    tree_planned_lem short {m} r =
        let g = stages s h which p c.plan in
        let n : p.trees ≡ length (map star_of l.trees) = many ∙ sym (length_stars l.trees) in
        let b = (needs_sound s h which p c.plan).block in
        needs_tree s h which m k g.fits r.rows g.chose refl (n ∙ ap length (sym r.stars)) refl
        (tree_there (data_of s h) g.u g.v g.x g.y p.width p.trees k _ g.text (ap (λ (os : List ℕ). nth_of os k) r.stars ∙ nth-star j) refl
        (text_asked S p.text y.star counted refl (surveyed (at_tree short) (natural_at c.natural i)))
        (block_inside (data_of s h) p.text p.text_end g.x g.y p.width p.trees k y.star p.questions p.patterns 1 (tree_records (tree_of x y)) (tree_lines (tree_of x y)) refl g.block refl
        (entries_fit (take p.block_end (data_of s h)) (plan_for p.text p.text_end y.star p.questions p.patterns 1 (tree_records (tree_of x y)) (tree_lines (tree_of x y)) p.width p.block p.block_end) p.trees k (sym b) refl refl)))
      where
        many : p.trees ≡ length l.trees
        many = c.trees ∙ as_many c.says
