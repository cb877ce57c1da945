-- Demand 3 used on a small model, by computation: a repeated id, a repeated QS name, a bare leaf, empty braces and a tree that goes round.
use Rattle.load_model.proofs.Same.{same_loaded}
use mathlib.Core.Path.{◌≡◌, refl}
use mathlib.Core.Bool.{true, false}
use mathlib.Core.List.{List, [], ◌∷◌}
use Prim.Native.Nat.{ℕ}
use lib.IntN.{pos}
use lib.ListN.{length, replicate}
use Rattle.head_record.specs.Empty.{range, empty_global, empty_header}
use Rattle.head_record.specs.declared.Header.{Header}
use Rattle.load_choose.specs.declared.Which.TheVariants.{Duration}
use Rattle.written.specs.Blocks.{little_endian, total, rows_from, paired}
use Rattle.written.specs.Bytes.{bytes, one_of, same, letter, digit, wildcard, mark, in_pattern, in_word, blank, space_or_tab, in_name, byte_at, between, decimal}
use Rattle.laws.specs.Runs.{run, stop}
use Rattle.laws.specs.Steps.{read_from, read}
use Rattle.laws.specs.Totals.{larger, total as total_laws, largest, any_of}
use Rattle.laws.specs.Wholes.{eq_z}
use Rattle.text_base.specs.Classes.{class_of}
use Rattle.text_numbers.specs.Answers.{unsigned_of, unsigned_from, unsigned_at, signed_at, pattern_of, pattern_at}
use Rattle.head_record.specs.Empty.{empty_global, empty_stream, empty_position, empty_header}
use Rattle.head_record.specs.Lists.{filled}
use Rattle.head_record.specs.Record.{global_record, stream_record, position_record, header_record}
use Rattle.head_record_fits.specs.Fits.{each, counted, span_fits, global_fits, stream_fits, position_fits, record_fits}
use Rattle.head_brackets.specs.Rows.{split_of, key_row, row_at, rows_from as rows_from_groups, rows_at, row_line_at, over, no_names, names_with, known_from, known_in}
use Rattle.table_rows.specs.Rows.{rows_from as rows_from_rows, tree_table, record_table}
use Rattle.link_order.specs.Keys.{key_of, name_key, name_at, id_at}
use Rattle.text_parts.specs.Parts.{part_inside}
use Rattle.link_order.specs.Sides.{side_of}
use Rattle.link_sort.specs.Sorted.{insert, sorted}
use Rattle.link_search.specs.Found.{last_below, first_from, count_from}
use Rattle.link_targets.specs.Lines.{ref_of, lines_from, pdfs_of}
use Rattle.link_targets.specs.Targets.{target_of, order_from}
use Rattle.link_rows.specs.Rows.{leaf_rows, line_rows}
use Rattle.link_tree.specs.Linked.{leaves_of, record_rows, link_outcome, linked_rows}
use Rattle.link_tree.specs.Steps.{step_question, outcome, goals}
use Rattle.load_choose.specs.Chosen.{model_of, stream_model, gv_model, named, numbered, chosen_of}
use Rattle.load_range.specs.Ranges.{within_of}
use Rattle.tree_question.specs.Questions.{past_qs, starts_question, head_at, after_pattern, pattern_step_at, item_at, after_question, patterns_at, question_step_at, questions_at}
use Rattle.tree_survey_questions.specs.Counts.{patterns_counted, questions_counted}
use Rattle.text_spaces.specs.Spaces.{name_of, name_at as name_at_base_spaces, past_byte, newline_at, parting_at, line_parting_at, close_at}
use Rattle.tree_reference.specs.References.{digits_from, pdf_of, pdf_at, bare_at, quoted_at, reference_at}
use Rattle.tree_line.specs.Lines.{yes_at, branches_at, line_at, after_line, line_step_at, lines_at}
use Rattle.tree_survey_lines.specs.Counts.{records_of, lines_counted, lines_surveyed}
use Rattle.tree_body.specs.Trees.{past_star, number_at, state_at, body_at, head_at as head_at_tree, after_tree, tree_step_at, trees_at}
use Rattle.tree_survey.specs.Said.{said_records, said_survey}
use Rattle.tree_survey.specs.Survey.{text_at, trees_counted, survey_of, survey_at}
use Rattle.pdf_widen.specs.Widening.{widen_fields, widen_of}
use Rattle.pdf_blocks.specs.Values.{words_at, block_at, pairs_at, entry_at, values_at}
use Rattle.pdf_values.specs.Folded.{with_blocks}
use Rattle.load_lines.specs.Words.{asked_at, line_words}
use Rattle.load_tree.specs.Bodies.{link_result}
use Rattle.load_trees.specs.Trees.{trees_end, tree_words, record_words, work_after}
use Rattle.load_questions.specs.Words.{span_words, pattern_words, question_words, row_at as row_at_model_questions}
use Rattle.load_plan.specs.Plans.{text_of, entries_of, plan_of, planned}
use Rattle.load_model.specs.Load.{loaded, room_for, filled as filled_model, load_of}
use mathlib.Core.Path.{sym, ◌∙◌}
use mathlib.Core.Bool.{Bool, ◌&&◌}
use Prim.Native.Nat.{zero, suc, ◌*◌, ◌≤◌}
use native.Mathlib.Omega.{arith}
use lib.Dec.{ltb}
use lib.ListN.{get_or, take}
use borrow.Author.Tests.{ltb-true}
use Rattle.written.specs.Said.{Tree}
use Rattle.written.specs.Linking.{Nth}
use Rattle.written.specs.Walks.{Ending, Written, is_yes}
use Rattle.written.proofs.Tests.{both}
use Rattle.pdf_blocks.proofs.Joined.{Small}
use Rattle.load_model.specs.Load.{Tables, lent, After}
use Rattle.walk.specs.Walking.{walk_of}
use Rattle.walk.specs.Answer.{answer_of, ending_answer}
use Rattle.shown_load.specs.Stored.{Stored}
use Rattle.shown_load.proofs.Says.{load_stored, load_walks}

-- every number is a byte
unfoldable All256 : List ℕ → Bool
All256 [] = true
All256 (b ∷ s) = ltb b 0x100 && All256 s

abbrev data_bytes : List ℕ
data_bytes = 81 ∷ 83 ∷ 32 ∷ 65 ∷ 32 ∷ 123 ∷ 97 ∷ 125 ∷ 10 ∷ 81 ∷ 83 ∷ 32 ∷ 65 ∷ 32 ∷ 123 ∷ 98 ∷ 125 ∷ 10 ∷ 81 ∷ 83 ∷ 32 ∷ 66 ∷ 32 ∷ 123 ∷ 99 ∷ 125 ∷ 10 ∷ 123 ∷ 42 ∷ 125 ∷ 91 ∷ 50 ∷ 93 ∷ 123 ∷ 32 ∷ 48 ∷ 32 ∷ 65 ∷ 32 ∷ 45 ∷ 49 ∷ 32 ∷ 112 ∷ 95 ∷ 51 ∷ 10 ∷ 45 ∷ 49 ∷ 32 ∷ 66 ∷ 32 ∷ 48 ∷ 32 ∷ 112 ∷ 95 ∷ 49 ∷ 10 ∷ 45 ∷ 49 ∷ 32 ∷ 65 ∷ 32 ∷ 48 ∷ 32 ∷ 112 ∷ 95 ∷ 50 ∷ 32 ∷ 125 ∷ 10 ∷ 123 ∷ 42 ∷ 125 ∷ 91 ∷ 51 ∷ 93 ∷ 100 ∷ 95 ∷ 49 ∷ 10 ∷ 123 ∷ 42 ∷ 125 ∷ 91 ∷ 52 ∷ 93 ∷ 123 ∷ 32 ∷ 125 ∷ 3 ∷ 0 ∷ 0 ∷ 0 ∷ 1 ∷ 0 ∷ 0 ∷ 0 ∷ 0 ∷ 0 ∷ 0 ∷ 0 ∷ 0 ∷ 0 ∷ 128 ∷ 63 ∷ 0 ∷ 0 ∷ 0 ∷ 64 ∷ 0 ∷ 0 ∷ 128 ∷ 63 ∷ 0 ∷ 0 ∷ 0 ∷ 64 ∷ 0 ∷ 0 ∷ 128 ∷ 63 ∷ 0 ∷ 0 ∷ 0 ∷ 64 ∷ 0 ∷ 0 ∷ 128 ∷ 63 ∷ 0 ∷ 0 ∷ 0 ∷ 64 ∷ []

-- the tree text is bytes 0 to 88, the block 89 to 132
abbrev record₁ : Header
record₁ =
    record {
      global =
          record {
            hts_voice_version = empty_global.hts_voice_version;
            sampling_frequency = 48000;
            frame_period = 240;
            num_states = 1;
            num_streams = 0;
            stream_type = empty_global.stream_type;
            stream_type_count = 0;
            fullcontext_format = empty_global.fullcontext_format;
            fullcontext_version = empty_global.fullcontext_version;
            gv_off_context = empty_global.gv_off_context;
            gv_off_context_count = 0;
            comment = empty_global.comment;
            has_comment = false;
          };
      streams = empty_header.streams;
      stream_count = 0;
      duration_pdf = range 89 132;
      duration_tree = range 0 88;
      positions = empty_header.positions;
      position_count = 0;
      data_start = 0;
      data_len = 133;
    }

-- every table filled with sevens before, that of the trees with five numbers more than its rows need
abbrev before : Tables
before = lent (replicate 12 7) (replicate 6 7) (replicate 23 7) (replicate 28 7) (replicate 8 7) (replicate 18 (pos 7))

abbrev after : After
after = load_of data_bytes record₁ Duration before

pub loads : after.answer ≡ loaded 3 3 3 7 8
unfolding little_endian total rows_from paired bytes one_of same letter digit wildcard mark in_pattern in_word blank space_or_tab in_name byte_at between decimal run stop read_from read larger total_laws largest any_of eq_z class_of unsigned_of unsigned_from unsigned_at signed_at pattern_of pattern_at empty_global empty_stream empty_position empty_header filled global_record stream_record position_record header_record each counted span_fits global_fits stream_fits position_fits record_fits split_of key_row row_at rows_from_groups rows_at row_line_at over no_names names_with known_from known_in rows_from_rows tree_table record_table key_of name_key part_inside name_at id_at side_of insert sorted last_below first_from count_from ref_of lines_from pdfs_of target_of order_from leaf_rows line_rows leaves_of record_rows link_outcome linked_rows step_question outcome goals within_of model_of stream_model gv_model named numbered chosen_of past_qs starts_question head_at after_pattern pattern_step_at item_at after_question patterns_at question_step_at questions_at patterns_counted questions_counted name_of name_at_base_spaces past_byte newline_at parting_at line_parting_at close_at digits_from pdf_of pdf_at bare_at quoted_at reference_at yes_at branches_at line_at after_line line_step_at lines_at records_of lines_counted lines_surveyed past_star number_at state_at body_at head_at_tree after_tree tree_step_at trees_at said_records said_survey text_at trees_counted survey_of survey_at widen_fields widen_of words_at block_at with_blocks pairs_at entry_at values_at asked_at line_words link_result trees_end tree_words record_words work_after span_words pattern_words question_words row_at_model_questions text_of entries_of plan_of planned room_for filled_model load_of
loads = refl

-- the last of two lines with id -1, the last of two questions named A; blocks of three entries, of one and of none
pub tree_table_lem : after.tables.trees ≡ 2 ∷ 0 ∷ 6 ∷ 3 ∷ 0 ∷ 3 ∷ 3 ∷ 6 ∷ 1 ∷ 0 ∷ 6 ∷ 1 ∷ 4 ∷ 7 ∷ 0 ∷ 0 ∷ 8 ∷ 0 ∷ 7 ∷ 7 ∷ 7 ∷ 7 ∷ 7 ∷ []
unfolding little_endian total rows_from paired bytes one_of same letter digit wildcard mark in_pattern in_word blank space_or_tab in_name byte_at between decimal run stop read_from read larger total_laws largest any_of eq_z class_of unsigned_of unsigned_from unsigned_at signed_at pattern_of pattern_at empty_global empty_stream empty_position empty_header filled global_record stream_record position_record header_record each counted span_fits global_fits stream_fits position_fits record_fits split_of key_row row_at rows_from_groups rows_at row_line_at over no_names names_with known_from known_in rows_from_rows tree_table record_table key_of name_key part_inside name_at id_at side_of insert sorted last_below first_from count_from ref_of lines_from pdfs_of target_of order_from leaf_rows line_rows leaves_of record_rows link_outcome linked_rows step_question outcome goals within_of model_of stream_model gv_model named numbered chosen_of past_qs starts_question head_at after_pattern pattern_step_at item_at after_question patterns_at question_step_at questions_at patterns_counted questions_counted name_of name_at_base_spaces past_byte newline_at parting_at line_parting_at close_at digits_from pdf_of pdf_at bare_at quoted_at reference_at yes_at branches_at line_at after_line line_step_at lines_at records_of lines_counted lines_surveyed past_star number_at state_at body_at head_at_tree after_tree tree_step_at trees_at said_records said_survey text_at trees_counted survey_of survey_at widen_fields widen_of words_at block_at with_blocks pairs_at entry_at values_at asked_at line_words link_result trees_end tree_words record_words work_after span_words pattern_words question_words row_at_model_questions text_of entries_of plan_of planned room_for filled_model load_of
tree_table_lem = refl

pub record_table_lem :
    after.tables.records
    ≡ 0 ∷ 1 ∷ 5 ∷ 2 ∷ 0 ∷ 2 ∷ 3 ∷ 0 ∷ 0 ∷ 1 ∷ 4 ∷ 0 ∷ 1 ∷ 1 ∷ 0 ∷ 0 ∷ 1 ∷ 2 ∷ 0 ∷ 0 ∷ 1 ∷ 3 ∷ 0 ∷ 0 ∷ 1 ∷ 1 ∷ 0 ∷ 0 ∷ []
unfolding little_endian total rows_from paired bytes one_of same letter digit wildcard mark in_pattern in_word blank space_or_tab in_name byte_at between decimal run stop read_from read larger total_laws largest any_of eq_z class_of unsigned_of unsigned_from unsigned_at signed_at pattern_of pattern_at empty_global empty_stream empty_position empty_header filled global_record stream_record position_record header_record each counted span_fits global_fits stream_fits position_fits record_fits split_of key_row row_at rows_from_groups rows_at row_line_at over no_names names_with known_from known_in rows_from_rows tree_table record_table key_of name_key part_inside name_at id_at side_of insert sorted last_below first_from count_from ref_of lines_from pdfs_of target_of order_from leaf_rows line_rows leaves_of record_rows link_outcome linked_rows step_question outcome goals within_of model_of stream_model gv_model named numbered chosen_of past_qs starts_question head_at after_pattern pattern_step_at item_at after_question patterns_at question_step_at questions_at patterns_counted questions_counted name_of name_at_base_spaces past_byte newline_at parting_at line_parting_at close_at digits_from pdf_of pdf_at bare_at quoted_at reference_at yes_at branches_at line_at after_line line_step_at lines_at records_of lines_counted lines_surveyed past_star number_at state_at body_at head_at_tree after_tree tree_step_at trees_at said_records said_survey text_at trees_counted survey_of survey_at widen_fields widen_of words_at block_at with_blocks pairs_at entry_at values_at asked_at line_words link_result trees_end tree_words record_words work_after span_words pattern_words question_words row_at_model_questions text_of entries_of plan_of planned room_for filled_model load_of
record_table_lem = refl

-- ---- the hypotheses of demand 3 hold of it

below : (s : List ℕ) → All256 s ≡ true → Small s
unfolding All256
below [] e k = omega arith
below (b ∷ s) e zero = ltb-true b 0x100 (both (ltb b 0x100) (All256 s) e).0
below (b ∷ s) e (suc k) = below s (both (ltb b 0x100) (All256 s) e).1 k

pub stored : Stored data_bytes record₁ Duration before after
unfolding All256
stored = load_stored data_bytes record₁ Duration (omega arith) (below data_bytes refl) before loads

counts : (stored.p.trees ≡ 3) × (stored.p.records ≡ 7)
counts =
    let e : loaded stored.p.questions stored.p.patterns stored.p.trees stored.p.records (stored.p.entries * stored.p.width) ≡ loaded 3 3 3 7 8 = sym stored.counts ∙ loads in
    let same = same_loaded e in
    (same.2, same.3)

-- each of its three trees, any answers, any limit: the loaded walk ends as the written one
pub walks_as_written : {i : ℕ} {tree : Tree} → Nth stored.t.trees i tree → (bytes : List ℕ) → length stored.t.questions ≤ length bytes → (m : ℕ)
    → (e : Ending) × Written stored.t.questions (λ n. is_yes (get_or bytes n 0)) tree.body m e
    × (answer_of (walk_of (take (6 * stored.p.trees) after.tables.trees) (take (4 * stored.p.records) after.tables.records) i bytes m) ≡ ending_answer e)
walks_as_written = load_walks stored (omega (arith, counts.0)) (omega (arith, counts.1))
