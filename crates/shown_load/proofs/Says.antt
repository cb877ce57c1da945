-- Demand 2 of a load that comes to linking: where it is done, every row and value is what the text and the block say; where linking is refused, so is what the text
-- says, with that number, tree and line. Demand 3: over the tables cut to the returned counts, the walk ends as the written walk of the text.
-- Assumes that the file is a slice: its length below 2^63, its elements bytes.
use mathlib.Core.Path.{◌≡◌, refl, sym, ap, ap₂, ◌∙◌, subst}
use mathlib.Core.List.{List, flatten}
use Prim.Native.Nat.{ℕ, ◌+◌, ◌*◌, ◌^◌, ◌≤◌, ◌<◌}
use native.Mathlib.Omega.{arith}
use lib.ListN.{length, get_or, take, drop}
use lib.Seq.{sets}
use Rattle.written.specs.Said as said
use Rattle.written.specs.Linking.{Nth, Row}
use Rattle.written.specs.Tables.{TreeRows, folded, ModelRefused, Negative}
use Rattle.written.proofs.Folded.{Wide, wide_text, wide_folded, length-folded}
use Rattle.written.specs.Blocks as block
use Rattle.written.specs.Blocks.{rows_from, total as total_of}
use Rattle.pdf_widen.specs.Widening.{widen_of}
use Rattle.laws.specs.Totals.{total}
use Rattle.tree_question.specs.Questions.{questions_at}
use Rattle.load_questions.specs.Words.{pattern_words}
use Rattle.written.specs.Walks.{Ending, Written, is_yes}
use Rattle.laws.proofs.Tables.{part-sets}
use Rattle.error.specs.Numbers.{number_of, place_of, line_of}
use Rattle.error.specs.declared.Refusal.{Refusal}
use Rattle.error.specs.declared.Refusal.TheVariants as refusal
use Rattle.head_record.specs.declared.Header.{Header}
use Rattle.load_choose.specs.declared.Which.{Which}
use Rattle.tree_survey.specs.Said.{said_tree_records}
use Rattle.tree_survey.proofs.Joined.{Spoken}
use Rattle.pdf_blocks.specs.Values.{words_at, values_at}
use Rattle.pdf_blocks.proofs.Joined.{Small, length_rows, length_words, fits_block}
use Rattle.pdf_values.specs.Folded.{with_blocks}
use Rattle.pdf_values.proofs.Folded.{fold_stored}
use Rattle.load_text.specs.Text.{words_at as question_words_at, end_at, trees_stored, records_stored, kept}
use Rattle.load_plan.specs.Plans.{data_of, planned}
use Rattle.load_plan.specs.declared.Plan.{Plan}
use Rattle.load_plan.proofs.Laws.{Was, was, needs_sound}
use Rattle.load_model.specs.Load.{loaded, Tables, After, answer_for, blocks_of, kept_trees, filled, load_of}
use Rattle.load_model.proofs.Laws.{part_short, take_short}
use Rattle.shown_text.specs.Refusals as IsRefused-as
use Rattle.shown_text.proofs.Text.{text_questions, text_patterns, text_done, text_refused}
use Rattle.shown_text.proofs.Walks.{bytes_answer}
use Rattle.tree_survey.proofs.Rows.{rows_counted}
use Rattle.table_rows.proofs.Stand.{length-flat}
use Rattle.table_rows.proofs.Fours.{fours_model}
use Rattle.walk.proofs.Demand.{flat_walk}
use Rattle.walk.specs.Walking.{walk_of}
use Rattle.walk.specs.Answer.{answer_of, ending_answer}
use Rattle.shown_load.specs.Stored.{Chose, Stored, Unlinked}
use Rattle.shown_load.proofs.Texts as text
use Rattle.shown_load.proofs.Texts.{small_take, small_drop}
use Rattle.shown_load.proofs.Numbers.{Way, kept as untouched, written, way}
use Rattle.load_trees.specs.declared.TreeFault.{TreeFault}
use Rattle.std.specs.Prelude.{Err, Ok, Result, ⊤}

module _ (s : List ℕ) (h : Header) (which : Which) (short : length s < 2 ^ 63) (small : Small s) where
  -- ---- the text of a plan

  module _ (p : Plan) (e : Ok p ≡ planned s h which) where
    abbrev pub S : List ℕ
    S = take p.text_end (data_of s h)

    abbrev B : List ℕ
    B = take p.block_end (data_of s h)

    abbrev pub read : Was S p.text p.first p.questions p.patterns p.trees p.records p.lines
    read = was S p.text (needs_sound s h which p e).text

    pub S-short : length S < 2 ^ 63
    S-short = omega (arith, take_short p.text_end (data_of s h), part_short s h.data_start h.data_len)

    B-small : Small B
    B-small = small_take p.block_end (data_of s h) (small_take h.data_len (drop h.data_start s) (small_drop h.data_start s small))

    abbrev pub spoken : Spoken S p.text
    spoken = text.spoken S p.text read

    natural : ¬ Negative spoken.text.trees
    natural = text.natural S p.text read

    counted : (p.questions ≡ length spoken.text.questions) × (p.trees ≡ length spoken.text.trees) × (p.records ≡ total said_tree_records spoken.text.trees)
    counted = let c = text.counted S p.text read in (c.0, c.1, c.2)

    pub chose : Chose s h which p spoken.text spoken.layout
    chose = record { plan = e; says = spoken.says; natural = natural; questions = counted.0; trees = counted.1 }

    -- ---- the block of a plan

    block_said : (p.entries ≡ total_of (words_at B p.block p.trees))
        × block.Block (widen_of 8 23 11 52) p.trees p.width (drop p.block B) (rows_from p.width 0 (words_at B p.block p.trees)) (values_at B (p.block + 4 * p.trees) p.width (total_of (words_at B p.block p.trees)))
    block_said = fits_block B B-small p.trees p.width p.block (sym (needs_sound s h which p e).block)

  -- ---- the ways of linking

  module _ (L : Tables) where
    module _ (p : Plan) (e : Ok p ≡ planned s h which) where
      stored : end_at (S p e) p.text p.first ≡ Ok tt → Stored s h which L (filled (data_of s h) p L)
      unfolding filled
      stored d =
          let m = read p e in
          let T = spoken p e in
          let k = text_done T.says m.begins (S-short p e) (natural p e) d in
          let z = block_said p e in
          record {
            p = p;
            t = T.text;
            l = T.layout;
            chose = chose p e;
            tree_rows = k.0;
            record_rows = k.1;
            block_rows = blocks_of p (B p e);
            read = values_at (B p e) (p.block + 4 * p.trees) p.width (total_of (words_at (B p e) p.block p.trees));
            linked = k.2;
            block = z.1;
            tree_count = (counted p e).1 ∙ sym (rows_counted k.2).0;
            block_count = blocks k.2;
            record_count = (counted p e).2 ∙ sym (rows_counted k.2).1;
            counts = ap (answer_for p) d;
            at_questions = ap (λ (o : Result ⊤ TreeFault). kept o L.questions (question_words_at (S p e) p.text)) d ∙ ap (sets L.questions 0) (text_questions T.says m.begins (S-short p e));
            at_patterns = ap (λ (o : Result ⊤ TreeFault). kept o L.patterns (pattern_words (questions_at (S p e) p.text).items)) d ∙ ap (sets L.patterns 0) (text_patterns T.says m.begins (S-short p e));
            at_trees =
                ap (λ (o : Result ⊤ TreeFault). kept_trees o L.trees (trees_stored (S p e) p.text p.first) (blocks_of p (B p e))) d
                ∙ ap (λ (l : List ℕ). with_blocks (sets L.trees 0 l) 0 (blocks_of p (B p e))) k.3
                ∙ fold_stored L.trees 0 k.0 (blocks_of p (B p e)) (wide_text k.2) (blocks k.2);
            at_records = ap (λ (o : Result ⊤ TreeFault). kept o L.records (records_stored (S p e) p.text p.first)) d ∙ ap (sets L.records 0) k.4;
            at_values =
                ap (λ (o : Result ⊤ TreeFault). kept o L.values (values_at (B p e) (p.block + 4 * p.trees) p.width p.entries)) d
                ∙ ap (λ (j : ℕ). sets L.values 0 (values_at (B p e) (p.block + 4 * p.trees) p.width j)) z.0;
            at_work = refl;
          }
        where
          -- a block row for each tree
          blocks : {trees records : List Row} → TreeRows (spoken p e).text.questions 0 (spoken p e).text.trees trees records → length (blocks_of p (B p e)) ≡ length trees
          blocks r = length_rows p.width 0 (words_at (B p e) p.block p.trees) ∙ length_words (B p e) p.block p.trees ∙ (counted p e).1 ∙ sym (rows_counted r).0

      abbrev of : Refusal → Type 0
      of y = ModelRefused (spoken p e).text.questions (spoken p e).text.trees (number_of y) (place_of y) (line_of y)

      -- what linking refuses, in the text's words
      pub refused : (o : Result ⊤ TreeFault) → end_at (S p e) p.text p.first ≡ o → (y : Refusal) → answer_for p o ≡ Err y
          → ModelRefused (spoken p e).text.questions (spoken p e).text.trees (number_of y) (place_of y) (line_of y)
      refused (Ok _) d y k = let u : ◌≡◌ {A = ℕ} 0 1 = cc in absurd (omega arith)
      refused (Err l) d y k = let record { fault = g; tree = i; line = j } = l in let u : refusal.Unlinked g i j ≡ y = cc in subst of u (text_refused (spoken p e).says (read p e).begins (S-short p e) (natural p e) d IsRefused-as.refused)

      unlinked : (o : Result ⊤ TreeFault) → end_at (S p e) p.text p.first ≡ o → (y : Refusal) → answer_for p o ≡ Err y → Unlinked s h which y
      unlinked o d y k = record { p = p; t = (spoken p e).text; l = (spoken p e).layout; chose = chose p e; refused = refused o d y k }

    -- ---- every load

    -- where it is done, the tables hold what the text and the block say
    pub load_stored : {n₁ n₂ n₃ n₄ n₅ : ℕ} → (load_of s h which L).answer ≡ loaded n₁ n₂ n₃ n₄ n₅ → Stored s h which L (load_of s h which L)
    unfolding filled
    load_stored {n₁} {n₂} {n₃} {n₄} {n₅} k = go (load_of s h which L) (way s h which L) k
      where
        ended : (p : Plan) (e : Ok p ≡ planned s h which) (o : Result ⊤ TreeFault) → end_at (S p e) p.text p.first ≡ o → answer_for p o ≡ loaded n₁ n₂ n₃ n₄ n₅
            → Stored s h which L (filled (data_of s h) p L)
        ended p e (Ok _) d k = stored p e d
        ended p e (Err l) d k = let u : ◌≡◌ {A = ℕ} 0 1 = cc in absurd (omega arith)

        go : (x : After) → Way s h which L x → x.answer ≡ loaded n₁ n₂ n₃ n₄ n₅ → Stored s h which L x
        go x (untouched y n) k = let u : ◌≡◌ {A = ℕ} 0 1 = cc in absurd (omega arith)
        go x (written p e m) k = ended p e (end_at (S p e) p.text p.first) refl k

    -- where linking is refused, so is what the text says
    pub load_unlinked : (y : Refusal) → (load_of s h which L).answer ≡ Err y → 20 < number_of y → Unlinked s h which y
    unfolding filled
    load_unlinked y k l = go (load_of s h which L) (way s h which L) k
      where
        go : (x : After) → Way s h which L x → x.answer ≡ Err y → Unlinked s h which y
        go x (untouched z n) k = let u : z ≡ y = cc in let m : number_of z ≡ number_of y = ap number_of u in absurd (omega arith)
        go x (written p e m) k = unlinked p e (end_at (S p e) p.text p.first) refl y k

-- ---- demand 3

-- rows that stand in the front of a table are the table, cut to them
pub cut_rows : {w : ℕ} (t : List ℕ) (rows : List Row) (n : ℕ) {t₁ : List ℕ} → Wide w rows → n ≡ length rows → w * n ≤ length t → t₁ ≡ sets t 0 (flatten rows) → take (w * n) t₁ ≡ flatten rows
cut_rows {w} t rows n f e h u =
    let l : w * n ≡ length (flatten rows) = ap (λ (m : ℕ). w * m) e ∙ sym (length-flat rows f) in
    ap₂ take l u ∙ part-sets t 0 (flatten rows) (omega (arith, l, h))

-- whatever a load has stored: every tree, every assignment of a byte to each question, every limit; over the tables cut to the rows that the load returned
module _ {s : List ℕ} {h : Header} {which : Which} {L : Tables} {x : After} (k : Stored s h which L x) (room : 6 * k.p.trees ≤ length L.trees) (room-records : 4 * k.p.records ≤ length L.records) where
  pub load_walks : {i : ℕ} {tree : said.Tree} → Nth k.t.trees i tree → (bytes : List ℕ) → length k.t.questions ≤ length bytes → (m : ℕ)
      → (e : Ending) × Written k.t.questions (λ n. is_yes (get_or bytes n 0)) tree.body m e
      × (answer_of (walk_of (take (6 * k.p.trees) x.tables.trees) (take (4 * k.p.records) x.tables.records) i bytes m) ≡ ending_answer e)
  load_walks {i} h bytes n m =
      let F = folded k.tree_rows k.block_rows in
      let many : k.p.trees ≡ length F = k.tree_count ∙ sym (length-folded k.tree_rows k.block_rows (sym k.block_count)) in
      let T = cut_rows L.trees F k.p.trees (wide_folded k.tree_rows k.block_rows (wide_text k.linked)) many room k.at_trees in
      let R = cut_rows L.records k.record_rows k.p.records (fours_model k.linked) k.record_count room-records k.at_records in
      flat_walk (bytes_answer k.t.questions bytes n) k.linked k.block_rows k.block_count h m (ap₂ (λ (T R : List ℕ). walk_of T R i bytes m) T R)
