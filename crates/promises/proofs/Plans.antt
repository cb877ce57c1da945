-- What a plan says, in the words of the record that the file says: the model stands where it says, and every count is what its text and its block say. So nothing of a
-- plan need be believed.
use mathlib.Core.Path.{◌≡◌, refl, sym, ap, ◌∙◌, subst}
use mathlib.Core.List.{List}
use Prim.Native.Nat.{ℕ, ◌+◌, ◌*◌, ◌≤◌}
use native.Mathlib.Omega.{arith}
use lib.ListN.{length, take, drop}
use Rattle.written.specs.HeaderText.{Range}
use Rattle.written.specs.Record as record_of
use Rattle.written.specs.Said.{Text, Layout}
use Rattle.written.specs.TreeText as tree
use Rattle.written.specs.Tables.{Negative}
use Rattle.written.specs.Blocks as block
use Rattle.written.specs.Blocks.{rows_from, total as total_of}
use Rattle.laws.specs.Totals.{total, largest}
use Rattle.head_record.specs.Record.{header_record}
use Rattle.head_record.specs.declared.Header.{Header}
use Rattle.head_de.proofs.Sound.{Bytes}
use Rattle.tree_survey.specs.Said.{said_patterns, said_tree_records, said_tree_lines}
use Rattle.pdf_widen.specs.Widening.{widen_of}
use Rattle.pdf_blocks.specs.Values.{words_at, values_at, block_at}
use Rattle.pdf_blocks.proofs.Joined.{Small, fits_block}
use Rattle.load_choose.specs.Chosen.{chosen_of}
use Rattle.load_range.specs.Ranges.{within_of}
use Rattle.load_choose.proofs.Joined.{chosen_so}
use Rattle.load_plan.specs.Plans as plans
use Rattle.load_plan.specs.Plans.{text_of, with_entries, entries_for, entries_of, plan_for, block_in, block_of, plan_in, plan_of, planned_for, planned}
use Rattle.load_plan.specs.declared.Plan.{Plan}
use Rattle.load_plan.proofs.Laws.{Was, was, needs_sound}
use Rattle.load_model.proofs.Laws.{length_values}
use Rattle.written.specs.Models as models
use Rattle.written.specs.Models.{data_of, Within, Placed}
use Rattle.shown_models.proofs.Chosen.{record_arrays, data_is, which_of, Placing, at, wide, nowhere, choice-placed}
use Rattle.shown_load.proofs.Refused.{within_is}
use Rattle.shown_load.proofs.Texts as texts
use Rattle.shown_load.proofs.Texts.{small_take, small_drop}
use Rattle.load_range.specs.declared.Bounds.{Bounds}
use Rattle.load_plan.specs.declared.Text.{Text as Counted}
use Rattle.load_choose.specs.declared.Chosen.{Chosen}
use Rattle.error.specs.declared.Refusal.{Refusal}
use Rattle.std.specs.Prelude.{Err, None, Ok, Some, Option, Result}

-- ---- a plan stands in the ranges that were chosen

pub record Where (d : List ℕ) (p : Plan) (u v x y k : ℕ) : Type 0 where
  pub text_inside : (u ≤ v + 1) × (v + 1 ≤ length d)
  pub text : p.text ≡ u
  pub text_end : p.text_end ≡ v + 1
  pub block_inside : (x ≤ y + 1) × (y + 1 ≤ length d)
  pub block : p.block ≡ x
  pub block_end : p.block_end ≡ y + 1
  pub width : p.width ≡ k

clash : {A : Type 0} → ◌≡◌ {A = ℕ} 0 1 → A
clash e = absurd (omega arith)

module _ (d : List ℕ) (u v x y k : ℕ) (p : Plan) where
  entries_where : (z : List ℕ) (o : Plan) → Ok p ≡ entries_of z o → (n : ℕ) × (p ≡ with_entries o n)
  unfolding entries_of
  entries_where z o h = go (block_at o.trees o.width z o.block) h
    where
      go : (b : Option ℕ) → Ok p ≡ entries_for o b → (n : ℕ) × (p ≡ with_entries o n)
      go (Some n) h = (n, (let e : p ≡ with_entries o n = cc in e))
      go None h = clash (cc)

  plan_where : Ok p ≡ plan_of d u v x y k → Where d p u v x y k
  unfolding plan_of
  plan_where h = go (within_of u v (length d)) refl h
    where
      in_block : (a e f q r n m l : ℕ) → (u ≤ v + 1) × (v + 1 ≤ length d) × (a ≡ u) × (e ≡ v + 1) → (b : Option Bounds) → within_of x y (length d) ≡ b → Ok p ≡ block_in d a e f q r n m l k b → Where d p u v x y k
      in_block a e f q r n m l i None j h = clash (cc)
      in_block a e f q r n m l i (Some t) j h =
          let record { start = b; end = c } = t in
          let w = within_is x y (length d) j in
          let z = entries_where (take c d) (plan_for a e f q r n m l k b c) h in
          record {
            text_inside = (i.0, i.1);
            text = ap (λ (p : Plan). p.text) z.1 ∙ i.2;
            text_end = ap (λ (p : Plan). p.text_end) z.1 ∙ i.3;
            block_inside = (w.0, w.1);
            block = ap (λ (p : Plan). p.block) z.1 ∙ w.2;
            block_end = ap (λ (p : Plan). p.block_end) z.1 ∙ w.3;
            width = ap (λ (p : Plan). p.width) z.1;
          }

      in_text : (a e : ℕ) → (u ≤ v + 1) × (v + 1 ≤ length d) × (a ≡ u) × (e ≡ v + 1) → (t : Result Counted Refusal) → Ok p ≡ block_of d a e t x y k → Where d p u v x y k
      in_text a e i (Err r) h = clash (cc)
      in_text a e i (Ok t) h = let record { first = f; questions = q; patterns = r; trees = n; records = m; lines = l } = t in in_block a e f q r n m l i (within_of x y (length d)) refl h

      go : (b : Option Bounds) → within_of u v (length d) ≡ b → Ok p ≡ plan_in d x y k b → Where d p u v x y k
      go None j h = clash (cc)
      go (Some b) j h = let record { start = a; end = e } = b in in_text a e (within_is u v (length d) j) (text_of (take e d) a) h

-- ---- in the words of the record

pub record PlanSaid (s : List ℕ) (h : record_of.Header) (m : models.Model) (p : Plan) : Type 0 where
  pub text_at : Range
  pub block_range : Range
  pub text : Text
  pub layout : Layout
  pub rows : List block.Row
  pub values : List ℕ
  pub placed : Placed s h m text_at block_range p.width
  pub narrow : p.width ≤ 4096
  pub text_inside : Within text_at (data_of s h)
  pub text_says : tree.Says (take (text_at.to + 1) (data_of s h)) text_at.from text layout
  pub natural : ¬ Negative text.trees
  pub block_inside : Within block_range (data_of s h)
  pub block_says : block.Block (widen_of 8 23 11 52) (length text.trees) p.width (drop block_range.from (take (block_range.to + 1) (data_of s h))) rows values
  pub questions : p.questions ≡ length text.questions
  pub patterns : p.patterns ≡ total said_patterns text.questions
  pub trees : p.trees ≡ length text.trees
  pub records : p.records ≡ total said_tree_records text.trees
  pub lines : p.lines ≡ largest said_tree_lines 0 text.trees
  pub entries : p.entries * p.width ≡ length values
  -- the same at the plan's own places
  pub own_says : tree.Says (take p.text_end (plans.data_of s (header_record h))) p.text text layout
  pub own_block : block.Block (widen_of 8 23 11 52) p.trees p.width (drop p.block (take p.block_end (plans.data_of s (header_record h)))) rows values

module _ {s : List ℕ} (bytes : Bytes s) {h : record_of.Header} (says : record_of.Says s h) (m : models.Model) where
  pub placing : Placing s h m (chosen_of s (header_record h) (which_of m))
  placing = choice-placed s h says m (chosen_so s (header_record h) (record_arrays h) (which_of m))

  D-small : Small (plans.data_of s (header_record h))
  D-small = small_take (header_record h).data_len (drop (header_record h).data_start s) (small_drop (header_record h).data_start s bytes.below)

  module _ (p : Plan) (e : Ok p ≡ planned s (header_record h) (which_of m)) where
    abbrev D : List ℕ
    D = plans.data_of s (header_record h)

    pub plan_said : PlanSaid s h m p
    unfolding planned
    plan_said = go (chosen_of s (header_record h) (which_of m)) placing e
      where
        known : Was (take p.text_end D) p.text p.first p.questions p.patterns p.trees p.records p.lines
        known = was (take p.text_end D) p.text (needs_sound s (header_record h) (which_of m) p e).text

        B : List ℕ
        B = take p.block_end D

        -- n trees have these rows and values, in the bytes l from i on
        Blocked : ℕ → List ℕ → ℕ → Type 0
        Blocked n l i =
            block.Block (widen_of 8 23 11 52) n p.width (drop i l) (rows_from p.width 0 (words_at B p.block p.trees))
            (values_at B (p.block + 4 * p.trees) p.width (total_of (words_at B p.block p.trees)))

        made : (t b : Range) (k : ℕ) → Placed s h m t b k → k ≤ 4096 → Where D p t.from t.to b.from b.to k → PlanSaid s h m p
        made t b k stands narrow w =
            let spoken = texts.spoken (take p.text_end D) p.text known in
            let c = texts.counted (take p.text_end D) p.text known in
            let f = fits_block B (small_take p.block_end D D-small) p.trees p.width p.block (sym (needs_sound s (header_record h) (which_of m) p e).block) in
            let n = length spoken.text.trees in
            record {
              text_at = t;
              block_range = b;
              text = spoken.text;
              layout = spoken.layout;
              rows = rows_from p.width 0 (words_at B p.block p.trees);
              values = values_at B (p.block + 4 * p.trees) p.width (total_of (words_at B p.block p.trees));
              placed = subst (λ (n : ℕ). Placed s h m t b n) (sym w.width) stands;
              narrow = subst (λ (n : ℕ). n ≤ 4096) (sym w.width) narrow;
              text_inside = subst (Within t) (data_is s h) (record { order = w.text_inside.0; ends = w.text_inside.1 });
              text_says =
                  subst (λ (d : List ℕ). tree.Says (take (t.to + 1) d) t.from spoken.text spoken.layout) (data_is s h)
                  (subst (λ (n : ℕ). tree.Says (take n D) t.from spoken.text spoken.layout) w.text_end
                  (subst (λ (n : ℕ). tree.Says (take p.text_end D) n spoken.text spoken.layout) w.text spoken.says));
              natural = texts.natural (take p.text_end D) p.text known;
              block_inside = subst (Within b) (data_is s h) (record { order = w.block_inside.0; ends = w.block_inside.1 });
              block_says =
                  subst (λ (d : List ℕ). Blocked n (take (b.to + 1) d) b.from) (data_is s h)
                  (subst (λ (e : ℕ). Blocked n (take e D) b.from) w.block_end (subst (Blocked n B) w.block (subst (λ (n : ℕ). Blocked n B p.block) c.1 f.1)));
              questions = c.0;
              patterns = c.3;
              trees = c.1;
              records = c.2;
              lines = c.4;
              entries = ap (λ (n : ℕ). n * p.width) f.0 ∙ sym (length_values B (p.block + 4 * p.trees) p.width (total_of (words_at B p.block p.trees)));
              own_says = spoken.says;
              own_block = f.1;
            }

        go : (c : Result Chosen Refusal) → Placing s h m c → Ok p ≡ planned_for D c → PlanSaid s h m p
        go c (at {t = t} {b = b} {w = k} q n) e = made t b k q n (plan_where D t.from t.to b.from b.to k p e)
        go c (wide q n) e = clash (cc)
        go c (nowhere u z) e = clash (cc)
