-- The front door used on a small voice, by computation: it is opened, a field of it is read, its model is loaded and walked, and the text is written back. Two lines of its first
-- tree bear one id, and two questions one name.
use mathlib.Core.Path.{◌≡◌, refl, sym, ap, ◌∙◌}
use mathlib.Core.Bool.{Bool, true, cond, ◌&&◌}
use mathlib.Core.List.{List, [], ◌∷◌, flatten}
use Prim.Native.Nat.{ℕ, zero, suc, ◌*◌, ◌≤◌, ◌<◌}
use native.Mathlib.Omega.{arith}
use borrow.Author.Tests.{ltb-true, le-ltb}
use lib.Dec.{ltb}
use lib.IntN.{pos}
use lib.ListN.{length, get_or, take, replicate}
use lib.Seq.{sets}
use Rattle.std.specs.Prelude.{Ok}
use Rattle.written.specs.Blocks.{little_endian, total, rows_from, paired}
use Rattle.written.specs.Bytes.{bytes, one_of, same, letter, digit, wildcard, mark, in_pattern, in_word, blank, space_or_tab, in_name, byte_at, between, decimal}
use Rattle.written.specs.Groups.{of_group, of_others}
use Rattle.written.specs.HeaderText.{kind_of, values_of}
use Rattle.written.specs.Linking.{pdfs, times}
use Rattle.written.specs.Record.{global_fields, stream_fields, stream_group, position_fields, position_group}
use Rattle.written.specs.Rfc3629.{table}
use Rattle.written.specs.Tables.{pattern_rows, question_rows}
use Rattle.laws.specs.Every.{all, some}
use Rattle.laws.specs.Runs.{run, stop}
use Rattle.laws.specs.Steps.{read_from, read}
use Rattle.laws.specs.Totals.{larger, total as total_laws_totals, largest, any_of}
use Rattle.laws.specs.Wholes.{eq_z}
use Rattle.text_base.specs.Ahead.{bytes_at, little, ahead}
use Rattle.text_base.specs.Classes.{class_of, usual, in_set}
use Rattle.text_numbers.specs.Answers.{unsigned_of, unsigned_from, unsigned_at, signed_at, pattern_of, pattern_at}
use Rattle.text_spaces.specs.Spaces.{name_of, name_at, past_byte, newline_at, parting_at, line_parting_at, close_at}
use Rattle.text_utf8.specs.Check.{scan, check_of}
use Rattle.text_utf8.specs.Widths.{starts, width}
use Rattle.table_rows.specs.Rows.{rows_from as rows_from_table_rows_rows, question_table, pattern_table, tree_table, record_table}
use Rattle.head_record.specs.Empty.{empty_global, empty_stream, empty_position, empty_header}
use Rattle.head_record.specs.Lists.{filled}
use Rattle.head_record.specs.Record.{global_record, stream_record, position_record, header_record}
use Rattle.head_record_fits.specs.Fits.{each, counted, span_fits, global_fits, stream_fits, position_fits, record_fits}
use Rattle.head_words.specs.Words.{run as run_head_words_words, flat, global_words, stream_words, position_words, header_words, global_at, stream_at, position_at, header_at, group_flags, flags_fit}
use Rattle.head_de.specs.Values.{ends_at, text_at, number_at, flag_at, delimiter_at, element_at, pair_at}
use Rattle.head_de_lists.specs.Lists.{items_from, items_at, list_at, spans_of, ranges_of, spans_with, ranges_with, firsts}
use Rattle.head_de_values.specs.Values.{read_at, blank_value, value_of}
use Rattle.head_fields.specs.Fields.{field_index, kind_at, any_missing}
use Rattle.head_fields.specs.Names.{one_more, name_index}
use Rattle.head_lines.specs.Lines.{key_at, line_value_at, stood_at, keyed_at, line_at, marked, lines_from, unseen, lines_at, read_from as read_from_head_lines_lines, lines_read, kept}
use Rattle.head_brackets.specs.Rows.{split_of, key_row, row_at, rows_from as rows_from_head_brackets_rows, rows_at, row_line_at, over, last_of, no_names, names_with, known_from, known_in}
use Rattle.head_group_words.specs.Groups.{names_at, many_at, judged_in}
use Rattle.head_global.specs.Global.{stored, stored_in, with_line, judged, judged_in as judged_in_head_global_global}
use Rattle.head_ungrouped.specs.Ungrouped.{no_durations, stored as stored_head_ungrouped_ungrouped, with_line as with_line_head_ungrouped_ungrouped, judged as judged_head_ungrouped_ungrouped}
use Rattle.head_stream.specs.Group.{stored as stored_head_stream_group, stored_in as stored_in_head_stream_group, with_line as with_line_head_stream_group, named, with_row, judged as judged_head_stream_group}
use Rattle.head_streams.specs.Groups.{no_streams, with_streams, many_over, with_group, judged as judged_head_streams_groups}
use Rattle.head_position.specs.Group.{stored as stored_head_position_group, stored_in as stored_in_head_position_group, with_line as with_line_head_position_group, named as named_head_position_group, with_row as with_row_head_position_group, judged as judged_head_position_group}
use Rattle.head_positions.specs.Groups.{no_positions, with_positions, many_over as many_over_head_positions_groups, with_group as with_group_head_positions_groups, judged as judged_head_positions_groups}
use Rattle.head_sections.specs.Split.{starts_at, break_in, break_here, break_at, section_at, split_of as split_of_head_sections_split}
use Rattle.head_open.specs.Left.{global_left, streams_left, positions_left, parts_left, open_left}
use Rattle.head_open.specs.Open.{utf8_of, global_of, streams_of, no_positions_for, positions_of, refused_with, parts_of, open_of, comment_part}
use Rattle.tree_question.specs.Questions.{past_qs, starts_question, head_at, after_pattern, pattern_step_at, item_at, after_question, patterns_at, question_step_at, questions_at}
use Rattle.tree_reference.specs.References.{digits_from, pdf_of, pdf_at, bare_at, quoted_at, reference_at}
use Rattle.tree_line.specs.Lines.{yes_at, branches_at, line_at as line_at_tree_line_lines, after_line, line_step_at, lines_at as lines_at_tree_line_lines}
use Rattle.tree_body.specs.Trees.{past_star, number_at as number_at_tree_body_trees, state_at, body_at, head_at as head_at_tree_body_trees, after_tree, tree_step_at, trees_at}
use Rattle.tree_survey_questions.specs.Counts.{patterns_counted, questions_counted}
use Rattle.tree_survey_lines.specs.Counts.{records_of, lines_counted, lines_surveyed}
use Rattle.tree_survey.specs.Said.{said_records, said_survey}
use Rattle.tree_survey.specs.Survey.{text_at as text_at_tree_survey_survey, trees_counted, survey_of, survey_at}
use Rattle.pdf_widen.specs.Widening.{widen_fields, widen_of}
use Rattle.pdf_blocks.specs.Values.{words_at, block_at, pairs_at, entry_at, values_at}
use Rattle.pdf_values.specs.Folded.{with_blocks}
use Rattle.link_order.specs.Keys.{key_of, name_key, name_at as name_at_link_order_keys, id_at}
use Rattle.text_parts.specs.Parts.{part_inside}
use Rattle.link_order.specs.Sides.{side_of}
use Rattle.link_sort.specs.Sorted.{insert, sorted, rises}
use Rattle.link_search.specs.Found.{last_below, first_from, count_from}
use Rattle.link_targets.specs.Lines.{ref_of, lines_from as lines_from_link_targets_lines, pdfs_of}
use Rattle.link_targets.specs.Targets.{target_of, order_from}
use Rattle.link_rows.specs.Rows.{leaf_rows, line_rows}
use Rattle.link_tree.specs.Linked.{leaves_of, record_rows, link_outcome, linked_rows}
use Rattle.link_tree.specs.Steps.{step_question, outcome, goals}
use Rattle.load_choose.specs.Chosen.{model_of, stream_model, gv_model, named as named_load_choose_chosen, numbered, chosen_of}
use Rattle.load_range.specs.Ranges.{within_of}
use Rattle.load_plan.specs.Plans.{text_of, entries_of, plan_of, planned}
use Rattle.load_questions.specs.Words.{span_words, pattern_words, question_words, row_at as row_at_load_questions_words}
use Rattle.load_lines.specs.Words.{asked_at, line_words}
use Rattle.load_tree.specs.Bodies.{link_result}
use Rattle.load_trees.specs.Trees.{trees_end, tree_words, record_words, work_after}
use Rattle.load_model.specs.Load.{loaded, room_for, filled as filled_load_model_load, load_of}
use Rattle.walk.specs.Walking.{line_at as line_at_walk_walking, kind_at as kind_at_walk_walking, meet_at, walk_from, walk_of}
use Rattle.write_records.specs.Records.{of_record}
use Rattle.write_parts.specs.Parts.{each as each_write_parts_parts, pattern_of as pattern_of_write_parts_parts, ref_of as ref_of_write_parts_parts, body_of}
use Rattle.write_text.specs.Text.{text_of as text_of_write_text_text}
use Rattle.write_tables.specs.Answers.{judged_of, bytes_of, measure_of}
use Rattle.written.specs.Bytes.{part}
use Rattle.written.specs.Sharing.{bottom, nothing, holds, stands, room_beside}
use Rattle.load_shared.specs.Beside.{placed_in, beside_of}
use Rattle.load_bounds.specs.Bounds.{stands_at}
use Rattle.written.specs.Writing.{figures_in, spelled_line, spelled_tree, spelled_patterns, spelled_question, spelled}
use Rattle.written.specs.Record as record_of
use Rattle.written.specs.Models as models
use Rattle.written.proofs.Tests.{both}
use Rattle.head_record.specs.declared.Header.{Header}
use Rattle.head_de.proofs.Sound.{Bytes}
use Rattle.load_choose.specs.declared.Which.TheVariants.{Duration}
use Rattle.load_model.specs.Load.{Tables, lent, After}
use Rattle.face_model.specs.Answers.{rows_by, ended_of}
use Rattle.face_model.specs.declared.Ended.{Ended}
use Rattle.face_load.specs.Answers.{Filled}
use Rattle.larsavim.specs.Face.{answered, written as written_out, left, ended_numbers, Opens, Loads, Walks}
use Rattle.face_put.specs.Put.{rows_numbers}
use Rattle.shown_open.proofs.Opened.{open_says}
use Rattle.promises.specs.Opening.{record_words as words_of, AfterOpen}
use Rattle.promises.proofs.Opening.{open_kept, after_open_once}
use Rattle.promises.proofs.Loading.{said_of}
use Rattle.load_model.specs.declared.Loaded.{Loaded}
use Rattle.error.specs.declared.Refusal.{Refusal}
use Rattle.std.specs.Prelude.{Result}

abbrev pub file : List ℕ
file = 91 ∷ 71 ∷ 76 ∷ 79 ∷ 66 ∷ 65 ∷ 76 ∷ 93 ∷ 10 ∷ 72 ∷ 84 ∷ 83 ∷ 95 ∷ 86 ∷ 79 ∷ 73 ∷ 67 ∷ 69 ∷ 95 ∷ 86 ∷ 69 ∷ 82 ∷ 83 ∷ 73 ∷ 79 ∷ 78 ∷ 58 ∷ 49 ∷ 10 ∷ 83 ∷ 65 ∷ 77 ∷ 80 ∷ 76 ∷ 73 ∷ 78 ∷ 71 ∷ 95 ∷ 70 ∷ 82 ∷ 69 ∷ 81 ∷ 85 ∷ 69 ∷ 78 ∷ 67 ∷ 89 ∷ 58 ∷ 49 ∷ 10 ∷ 70 ∷ 82 ∷ 65 ∷ 77 ∷ 69 ∷ 95 ∷ 80 ∷ 69 ∷ 82 ∷ 73 ∷ 79 ∷ 68 ∷ 58 ∷ 49 ∷ 10 ∷ 78 ∷ 85 ∷ 77 ∷ 95 ∷ 83 ∷ 84 ∷ 65 ∷ 84 ∷ 69 ∷ 83 ∷ 58 ∷ 49 ∷ 10 ∷ 78 ∷ 85 ∷ 77 ∷ 95 ∷ 83 ∷ 84 ∷ 82 ∷ 69 ∷ 65 ∷ 77 ∷ 83 ∷ 58 ∷ 48 ∷ 10 ∷ 83 ∷ 84 ∷ 82 ∷ 69 ∷ 65 ∷ 77 ∷ 95 ∷ 84 ∷ 89 ∷ 80 ∷ 69 ∷ 58 ∷ 10 ∷ 70 ∷ 85 ∷ 76 ∷ 76 ∷ 67 ∷ 79 ∷ 78 ∷ 84 ∷ 69 ∷ 88 ∷ 84 ∷ 95 ∷ 70 ∷ 79 ∷ 82 ∷ 77 ∷ 65 ∷ 84 ∷ 58 ∷ 70 ∷ 10 ∷ 70 ∷ 85 ∷ 76 ∷ 76 ∷ 67 ∷ 79 ∷ 78 ∷ 84 ∷ 69 ∷ 88 ∷ 84 ∷ 95 ∷ 86 ∷ 69 ∷ 82 ∷ 83 ∷ 73 ∷ 79 ∷ 78 ∷ 58 ∷ 49 ∷ 10 ∷ 91 ∷ 83 ∷ 84 ∷ 82 ∷ 69 ∷ 65 ∷ 77 ∷ 93 ∷ 10 ∷ 10 ∷ 91 ∷ 80 ∷ 79 ∷ 83 ∷ 73 ∷ 84 ∷ 73 ∷ 79 ∷ 78 ∷ 93 ∷ 10 ∷ 68 ∷ 85 ∷ 82 ∷ 65 ∷ 84 ∷ 73 ∷ 79 ∷ 78 ∷ 95 ∷ 80 ∷ 68 ∷ 70 ∷ 58 ∷ 56 ∷ 57 ∷ 45 ∷ 49 ∷ 51 ∷ 50 ∷ 10 ∷ 68 ∷ 85 ∷ 82 ∷ 65 ∷ 84 ∷ 73 ∷ 79 ∷ 78 ∷ 95 ∷ 84 ∷ 82 ∷ 69 ∷ 69 ∷ 58 ∷ 48 ∷ 45 ∷ 56 ∷ 56 ∷ 10 ∷ 91 ∷ 68 ∷ 65 ∷ 84 ∷ 65 ∷ 93 ∷ 10 ∷ 81 ∷ 83 ∷ 32 ∷ 65 ∷ 32 ∷ 123 ∷ 97 ∷ 125 ∷ 10 ∷ 81 ∷ 83 ∷ 32 ∷ 65 ∷ 32 ∷ 123 ∷ 98 ∷ 125 ∷ 10 ∷ 81 ∷ 83 ∷ 32 ∷ 66 ∷ 32 ∷ 123 ∷ 99 ∷ 125 ∷ 10 ∷ 123 ∷ 42 ∷ 125 ∷ 91 ∷ 50 ∷ 93 ∷ 123 ∷ 32 ∷ 48 ∷ 32 ∷ 65 ∷ 32 ∷ 45 ∷ 49 ∷ 32 ∷ 112 ∷ 95 ∷ 51 ∷ 10 ∷ 45 ∷ 49 ∷ 32 ∷ 66 ∷ 32 ∷ 48 ∷ 32 ∷ 112 ∷ 95 ∷ 49 ∷ 10 ∷ 45 ∷ 49 ∷ 32 ∷ 65 ∷ 32 ∷ 48 ∷ 32 ∷ 112 ∷ 95 ∷ 50 ∷ 32 ∷ 125 ∷ 10 ∷ 123 ∷ 42 ∷ 125 ∷ 91 ∷ 51 ∷ 93 ∷ 100 ∷ 95 ∷ 49 ∷ 10 ∷ 123 ∷ 42 ∷ 125 ∷ 91 ∷ 52 ∷ 93 ∷ 123 ∷ 32 ∷ 125 ∷ 3 ∷ 0 ∷ 0 ∷ 0 ∷ 1 ∷ 0 ∷ 0 ∷ 0 ∷ 0 ∷ 0 ∷ 0 ∷ 0 ∷ 0 ∷ 0 ∷ 128 ∷ 63 ∷ 0 ∷ 0 ∷ 0 ∷ 64 ∷ 0 ∷ 0 ∷ 128 ∷ 63 ∷ 0 ∷ 0 ∷ 0 ∷ 64 ∷ 0 ∷ 0 ∷ 128 ∷ 63 ∷ 0 ∷ 0 ∷ 0 ∷ 64 ∷ 0 ∷ 0 ∷ 128 ∷ 63 ∷ 0 ∷ 0 ∷ 0 ∷ 64 ∷ []

-- an answer that has room
in_room : {A : Type 0} {n k : ℕ} (x y : A) → k ≤ n → cond (ltb n k) x y ≡ y
in_room {A} {n} {k} x y l = ap (λ (d : Bool). cond d x y) (le-ltb n k l)

-- ---- it is opened

pub accepted : (open_of file).verdict ≡ Ok tt
unfolding holds stands room_beside stands_at placed_in beside_of little_endian total rows_from paired bytes one_of same letter digit wildcard mark in_pattern in_word blank space_or_tab in_name byte_at between decimal of_group of_others kind_of values_of pdfs times global_fields stream_fields stream_group position_fields position_group table pattern_rows question_rows all some run stop read_from read larger total_laws_totals largest any_of eq_z bytes_at little ahead class_of usual in_set unsigned_of unsigned_from unsigned_at signed_at pattern_of pattern_at name_of name_at past_byte newline_at parting_at line_parting_at close_at scan check_of starts width rows_from_table_rows_rows question_table pattern_table tree_table record_table empty_global empty_stream empty_position empty_header filled global_record stream_record position_record header_record each counted span_fits global_fits stream_fits position_fits record_fits run_head_words_words flat global_words stream_words position_words header_words global_at stream_at position_at header_at group_flags flags_fit ends_at text_at number_at flag_at delimiter_at element_at pair_at items_from items_at list_at spans_of ranges_of spans_with ranges_with firsts read_at blank_value value_of field_index kind_at any_missing one_more name_index key_at line_value_at stood_at keyed_at line_at marked lines_from unseen lines_at read_from_head_lines_lines lines_read kept split_of key_row row_at rows_from_head_brackets_rows rows_at row_line_at over last_of no_names names_with known_from known_in names_at many_at judged_in stored stored_in with_line judged judged_in_head_global_global no_durations stored_head_ungrouped_ungrouped with_line_head_ungrouped_ungrouped judged_head_ungrouped_ungrouped stored_head_stream_group stored_in_head_stream_group with_line_head_stream_group named with_row judged_head_stream_group no_streams with_streams many_over with_group judged_head_streams_groups stored_head_position_group stored_in_head_position_group with_line_head_position_group named_head_position_group with_row_head_position_group judged_head_position_group no_positions with_positions many_over_head_positions_groups with_group_head_positions_groups judged_head_positions_groups starts_at break_in break_here break_at section_at split_of_head_sections_split global_left streams_left positions_left parts_left open_left utf8_of global_of streams_of no_positions_for positions_of refused_with parts_of open_of comment_part past_qs starts_question head_at after_pattern pattern_step_at item_at after_question patterns_at question_step_at questions_at digits_from pdf_of pdf_at bare_at quoted_at reference_at yes_at branches_at line_at_tree_line_lines after_line line_step_at lines_at_tree_line_lines past_star number_at_tree_body_trees state_at body_at head_at_tree_body_trees after_tree tree_step_at trees_at patterns_counted questions_counted records_of lines_counted lines_surveyed said_records said_survey text_at_tree_survey_survey trees_counted survey_of survey_at widen_fields widen_of words_at block_at pairs_at entry_at values_at with_blocks key_of name_key part_inside name_at_link_order_keys id_at side_of insert sorted rises last_below first_from count_from ref_of lines_from_link_targets_lines pdfs_of target_of order_from leaf_rows line_rows leaves_of record_rows link_outcome linked_rows step_question outcome goals within_of model_of stream_model gv_model named_load_choose_chosen numbered chosen_of text_of entries_of plan_of planned span_words pattern_words question_words row_at_load_questions_words asked_at line_words link_result trees_end tree_words record_words work_after room_for filled_load_model_load load_of line_at_walk_walking kind_at_walk_walking meet_at walk_from walk_of of_record each_write_parts_parts pattern_of_write_parts_parts ref_of_write_parts_parts body_of text_of_write_text_text judged_of bytes_of measure_of
accepted = refl

-- every number is a byte
unfoldable All256 : List ℕ → Bool
All256 [] = true
All256 (b ∷ s) = ltb b 0x100 && All256 s

small : (s : List ℕ) → All256 s ≡ true → (k : ℕ) → get_or s k 0 < 256
unfolding All256
small [] e k = omega arith
small (b ∷ s) e zero = ltb-true b 0x100 (both (ltb b 0x100) (All256 s) e).0
small (b ∷ s) e (suc k) = small s (both (ltb b 0x100) (All256 s) e).1 k

pub bytes_file : Bytes file
unfolding All256
bytes_file = record { below = small file refl }

pub said : (h : record_of.Header) × record_of.Says file h × ((open_of file).header ≡ header_record h)
said = open_says bytes_file accepted

abbrev pub h : record_of.Header
h = said.0

-- whoever opens it with room for record and answer is told 0, and has its record
pub opens : (w out : List ℕ) → 647 ≤ length w → 2 ≤ length out → {r : ℕ} {w' o : List ℕ} → Opens file w out r w' o → (r ≡ 0) × (w' ≡ sets w 0 (words_of h)) × (o ≡ sets out 0 (0 ∷ 0 ∷ []))
opens w out enough long c = after_open_once (open_kept w out c) (AfterOpen.opened long said.1 enough)

-- ---- its model is loaded

-- every table filled with sevens before, that of the trees with five numbers more than its rows need
abbrev pub before : Tables
before = lent (replicate 12 7) (replicate 6 7) (replicate 23 7) (replicate 28 7) (replicate 8 7) (replicate 18 (pos 7))

computed : (beside_of bottom file (open_of file).header Duration nothing before).answer ≡ loaded 3 3 3 7 8
unfolding holds stands room_beside stands_at placed_in beside_of little_endian total rows_from paired bytes one_of same letter digit wildcard mark in_pattern in_word blank space_or_tab in_name byte_at between decimal of_group of_others kind_of values_of pdfs times global_fields stream_fields stream_group position_fields position_group table pattern_rows question_rows all some run stop read_from read larger total_laws_totals largest any_of eq_z bytes_at little ahead class_of usual in_set unsigned_of unsigned_from unsigned_at signed_at pattern_of pattern_at name_of name_at past_byte newline_at parting_at line_parting_at close_at scan check_of starts width rows_from_table_rows_rows question_table pattern_table tree_table record_table empty_global empty_stream empty_position empty_header filled global_record stream_record position_record header_record each counted span_fits global_fits stream_fits position_fits record_fits run_head_words_words flat global_words stream_words position_words header_words global_at stream_at position_at header_at group_flags flags_fit ends_at text_at number_at flag_at delimiter_at element_at pair_at items_from items_at list_at spans_of ranges_of spans_with ranges_with firsts read_at blank_value value_of field_index kind_at any_missing one_more name_index key_at line_value_at stood_at keyed_at line_at marked lines_from unseen lines_at read_from_head_lines_lines lines_read kept split_of key_row row_at rows_from_head_brackets_rows rows_at row_line_at over last_of no_names names_with known_from known_in names_at many_at judged_in stored stored_in with_line judged judged_in_head_global_global no_durations stored_head_ungrouped_ungrouped with_line_head_ungrouped_ungrouped judged_head_ungrouped_ungrouped stored_head_stream_group stored_in_head_stream_group with_line_head_stream_group named with_row judged_head_stream_group no_streams with_streams many_over with_group judged_head_streams_groups stored_head_position_group stored_in_head_position_group with_line_head_position_group named_head_position_group with_row_head_position_group judged_head_position_group no_positions with_positions many_over_head_positions_groups with_group_head_positions_groups judged_head_positions_groups starts_at break_in break_here break_at section_at split_of_head_sections_split global_left streams_left positions_left parts_left open_left utf8_of global_of streams_of no_positions_for positions_of refused_with parts_of open_of comment_part past_qs starts_question head_at after_pattern pattern_step_at item_at after_question patterns_at question_step_at questions_at digits_from pdf_of pdf_at bare_at quoted_at reference_at yes_at branches_at line_at_tree_line_lines after_line line_step_at lines_at_tree_line_lines past_star number_at_tree_body_trees state_at body_at head_at_tree_body_trees after_tree tree_step_at trees_at patterns_counted questions_counted records_of lines_counted lines_surveyed said_records said_survey text_at_tree_survey_survey trees_counted survey_of survey_at widen_fields widen_of words_at block_at pairs_at entry_at values_at with_blocks key_of name_key part_inside name_at_link_order_keys id_at side_of insert sorted rises last_below first_from count_from ref_of lines_from_link_targets_lines pdfs_of target_of order_from leaf_rows line_rows leaves_of record_rows link_outcome linked_rows step_question outcome goals within_of model_of stream_model gv_model named_load_choose_chosen numbered chosen_of text_of entries_of plan_of planned span_words pattern_words question_words row_at_load_questions_words asked_at line_words link_result trees_end tree_words record_words work_after room_for filled_load_model_load load_of line_at_walk_walking kind_at_walk_walking meet_at walk_from walk_of of_record each_write_parts_parts pattern_of_write_parts_parts ref_of_write_parts_parts body_of text_of_write_text_text judged_of bytes_of measure_of
computed = refl

tables_computed : ((beside_of bottom file (open_of file).header Duration nothing before).tables.trees ≡ 2 ∷ 0 ∷ 6 ∷ 3 ∷ 0 ∷ 3 ∷ 3 ∷ 6 ∷ 1 ∷ 0 ∷ 6 ∷ 1 ∷ 4 ∷ 7 ∷ 0 ∷ 0 ∷ 8 ∷ 0 ∷ 7 ∷ 7 ∷ 7 ∷ 7 ∷ 7 ∷ [])
    × ((beside_of bottom file (open_of file).header Duration nothing before).tables.records
    ≡ 0 ∷ 1 ∷ 5 ∷ 2 ∷ 0 ∷ 2 ∷ 3 ∷ 0 ∷ 0 ∷ 1 ∷ 4 ∷ 0 ∷ 1 ∷ 1 ∷ 0 ∷ 0 ∷ 1 ∷ 2 ∷ 0 ∷ 0 ∷ 1 ∷ 3 ∷ 0 ∷ 0 ∷ 1 ∷ 1 ∷ 0 ∷ 0 ∷ [])
unfolding holds stands room_beside stands_at placed_in beside_of little_endian total rows_from paired bytes one_of same letter digit wildcard mark in_pattern in_word blank space_or_tab in_name byte_at between decimal of_group of_others kind_of values_of pdfs times global_fields stream_fields stream_group position_fields position_group table pattern_rows question_rows all some run stop read_from read larger total_laws_totals largest any_of eq_z bytes_at little ahead class_of usual in_set unsigned_of unsigned_from unsigned_at signed_at pattern_of pattern_at name_of name_at past_byte newline_at parting_at line_parting_at close_at scan check_of starts width rows_from_table_rows_rows question_table pattern_table tree_table record_table empty_global empty_stream empty_position empty_header filled global_record stream_record position_record header_record each counted span_fits global_fits stream_fits position_fits record_fits run_head_words_words flat global_words stream_words position_words header_words global_at stream_at position_at header_at group_flags flags_fit ends_at text_at number_at flag_at delimiter_at element_at pair_at items_from items_at list_at spans_of ranges_of spans_with ranges_with firsts read_at blank_value value_of field_index kind_at any_missing one_more name_index key_at line_value_at stood_at keyed_at line_at marked lines_from unseen lines_at read_from_head_lines_lines lines_read kept split_of key_row row_at rows_from_head_brackets_rows rows_at row_line_at over last_of no_names names_with known_from known_in names_at many_at judged_in stored stored_in with_line judged judged_in_head_global_global no_durations stored_head_ungrouped_ungrouped with_line_head_ungrouped_ungrouped judged_head_ungrouped_ungrouped stored_head_stream_group stored_in_head_stream_group with_line_head_stream_group named with_row judged_head_stream_group no_streams with_streams many_over with_group judged_head_streams_groups stored_head_position_group stored_in_head_position_group with_line_head_position_group named_head_position_group with_row_head_position_group judged_head_position_group no_positions with_positions many_over_head_positions_groups with_group_head_positions_groups judged_head_positions_groups starts_at break_in break_here break_at section_at split_of_head_sections_split global_left streams_left positions_left parts_left open_left utf8_of global_of streams_of no_positions_for positions_of refused_with parts_of open_of comment_part past_qs starts_question head_at after_pattern pattern_step_at item_at after_question patterns_at question_step_at questions_at digits_from pdf_of pdf_at bare_at quoted_at reference_at yes_at branches_at line_at_tree_line_lines after_line line_step_at lines_at_tree_line_lines past_star number_at_tree_body_trees state_at body_at head_at_tree_body_trees after_tree tree_step_at trees_at patterns_counted questions_counted records_of lines_counted lines_surveyed said_records said_survey text_at_tree_survey_survey trees_counted survey_of survey_at widen_fields widen_of words_at block_at pairs_at entry_at values_at with_blocks key_of name_key part_inside name_at_link_order_keys id_at side_of insert sorted rises last_below first_from count_from ref_of lines_from_link_targets_lines pdfs_of target_of order_from leaf_rows line_rows leaves_of record_rows link_outcome linked_rows step_question outcome goals within_of model_of stream_model gv_model named_load_choose_chosen numbered chosen_of text_of entries_of plan_of planned span_words pattern_words question_words row_at_load_questions_words asked_at line_words link_result trees_end tree_words record_words work_after room_for filled_load_model_load load_of line_at_walk_walking kind_at_walk_walking meet_at walk_from walk_of of_record each_write_parts_parts pattern_of_write_parts_parts ref_of_write_parts_parts body_of text_of_write_text_text judged_of bytes_of measure_of
tables_computed = (refl, refl)

abbrev pub L : After
L = beside_of bottom file (header_record h) Duration nothing before

answer_is : L.answer ≡ loaded 3 3 3 7 8
answer_is = ap (λ (x : Header). (beside_of bottom file x Duration nothing before).answer) (sym said.2) ∙ computed

pub loads : (w out : List ℕ) → 647 ≤ length w → 8 ≤ length out → {r : ℕ} {t : Tables} {o : List ℕ} → Loads file (sets w 0 (words_of h)) 0 before out r t o
    → (r ≡ 0) × (t ≡ L.tables) × (o ≡ sets out 0 (0 ∷ 0 ∷ 0 ∷ 3 ∷ 3 ∷ 3 ∷ 7 ∷ 8 ∷ []))
unfolding answered written_out left
loads w out enough long (a, b, c) =
    let e = said_of bytes_file said.1 models.duration before w enough out in
    let g = ap (λ (x : Result Loaded Refusal). rows_numbers (rows_by x)) answer_is in (
      a ∙ in_room 20 _ long ∙ ap (λ (x : Filled). x.rows.number) e ∙ ap (λ (x : Result Loaded Refusal). (rows_by x).number) answer_is,
      b ∙ in_room before _ long ∙ ap (λ (x : Filled). x.tables) e,
      c ∙ in_room out _ long ∙ ap (λ (x : Filled). sets out 0 (rows_numbers x.rows)) e ∙ ap (sets out 0) g,
    )

-- ---- and walked

walk_computed : ended_of (2 ∷ 0 ∷ 6 ∷ 3 ∷ 0 ∷ 3 ∷ 3 ∷ 6 ∷ 1 ∷ 0 ∷ 6 ∷ 1 ∷ 4 ∷ 7 ∷ 0 ∷ 0 ∷ 8 ∷ 0 ∷ 7 ∷ 7 ∷ 7 ∷ 7 ∷ 7 ∷ [])
    (0 ∷ 1 ∷ 5 ∷ 2 ∷ 0 ∷ 2 ∷ 3 ∷ 0 ∷ 0 ∷ 1 ∷ 4 ∷ 0 ∷ 1 ∷ 1 ∷ 0 ∷ 0 ∷ 1 ∷ 2 ∷ 0 ∷ 0 ∷ 1 ∷ 3 ∷ 0 ∷ 0 ∷ 1 ∷ 1 ∷ 0 ∷ 0 ∷ []) 0 (0 ∷ 1 ∷ 0 ∷ []) 9
    ≡ record { number = 0; pdf = 3; asked = 1 }
unfolding holds stands room_beside stands_at placed_in beside_of little_endian total rows_from paired bytes one_of same letter digit wildcard mark in_pattern in_word blank space_or_tab in_name byte_at between decimal of_group of_others kind_of values_of pdfs times global_fields stream_fields stream_group position_fields position_group table pattern_rows question_rows all some run stop read_from read larger total_laws_totals largest any_of eq_z bytes_at little ahead class_of usual in_set unsigned_of unsigned_from unsigned_at signed_at pattern_of pattern_at name_of name_at past_byte newline_at parting_at line_parting_at close_at scan check_of starts width rows_from_table_rows_rows question_table pattern_table tree_table record_table empty_global empty_stream empty_position empty_header filled global_record stream_record position_record header_record each counted span_fits global_fits stream_fits position_fits record_fits run_head_words_words flat global_words stream_words position_words header_words global_at stream_at position_at header_at group_flags flags_fit ends_at text_at number_at flag_at delimiter_at element_at pair_at items_from items_at list_at spans_of ranges_of spans_with ranges_with firsts read_at blank_value value_of field_index kind_at any_missing one_more name_index key_at line_value_at stood_at keyed_at line_at marked lines_from unseen lines_at read_from_head_lines_lines lines_read kept split_of key_row row_at rows_from_head_brackets_rows rows_at row_line_at over last_of no_names names_with known_from known_in names_at many_at judged_in stored stored_in with_line judged judged_in_head_global_global no_durations stored_head_ungrouped_ungrouped with_line_head_ungrouped_ungrouped judged_head_ungrouped_ungrouped stored_head_stream_group stored_in_head_stream_group with_line_head_stream_group named with_row judged_head_stream_group no_streams with_streams many_over with_group judged_head_streams_groups stored_head_position_group stored_in_head_position_group with_line_head_position_group named_head_position_group with_row_head_position_group judged_head_position_group no_positions with_positions many_over_head_positions_groups with_group_head_positions_groups judged_head_positions_groups starts_at break_in break_here break_at section_at split_of_head_sections_split global_left streams_left positions_left parts_left open_left utf8_of global_of streams_of no_positions_for positions_of refused_with parts_of open_of comment_part past_qs starts_question head_at after_pattern pattern_step_at item_at after_question patterns_at question_step_at questions_at digits_from pdf_of pdf_at bare_at quoted_at reference_at yes_at branches_at line_at_tree_line_lines after_line line_step_at lines_at_tree_line_lines past_star number_at_tree_body_trees state_at body_at head_at_tree_body_trees after_tree tree_step_at trees_at patterns_counted questions_counted records_of lines_counted lines_surveyed said_records said_survey text_at_tree_survey_survey trees_counted survey_of survey_at widen_fields widen_of words_at block_at pairs_at entry_at values_at with_blocks key_of name_key part_inside name_at_link_order_keys id_at side_of insert sorted rises last_below first_from count_from ref_of lines_from_link_targets_lines pdfs_of target_of order_from leaf_rows line_rows leaves_of record_rows link_outcome linked_rows step_question outcome goals within_of model_of stream_model gv_model named_load_choose_chosen numbered chosen_of text_of entries_of plan_of planned span_words pattern_words question_words row_at_load_questions_words asked_at line_words link_result trees_end tree_words record_words work_after room_for filled_load_model_load load_of line_at_walk_walking kind_at_walk_walking meet_at walk_from walk_of of_record each_write_parts_parts pattern_of_write_parts_parts ref_of_write_parts_parts body_of text_of_write_text_text judged_of bytes_of measure_of
walk_computed = refl

-- the last question named A is yes: PDF 3 after one question
pub walks_yes : (out : List ℕ) → 3 ≤ length out → {r : ℕ} {o : List ℕ} → Walks L.tables.trees L.tables.records 0 (0 ∷ 1 ∷ 0 ∷ []) 9 out r o → (r ≡ 0) × (o ≡ sets out 0 (0 ∷ 3 ∷ 1 ∷ []))
unfolding answered written_out
walks_yes out long (a, b) =
    let e = walked_yes in (a ∙ in_room 20 _ long ∙ ap (λ (x : Ended). x.number) e, b ∙ in_room out _ long ∙ ap (λ (x : Ended). sets out 0 (ended_numbers x)) e)
  where
    trees_are : L.tables.trees ≡ 2 ∷ 0 ∷ 6 ∷ 3 ∷ 0 ∷ 3 ∷ 3 ∷ 6 ∷ 1 ∷ 0 ∷ 6 ∷ 1 ∷ 4 ∷ 7 ∷ 0 ∷ 0 ∷ 8 ∷ 0 ∷ 7 ∷ 7 ∷ 7 ∷ 7 ∷ 7 ∷ []
    trees_are = ap (λ (x : Header). (beside_of bottom file x Duration nothing before).tables.trees) (sym said.2) ∙ tables_computed.0

    records_are : L.tables.records ≡ 0 ∷ 1 ∷ 5 ∷ 2 ∷ 0 ∷ 2 ∷ 3 ∷ 0 ∷ 0 ∷ 1 ∷ 4 ∷ 0 ∷ 1 ∷ 1 ∷ 0 ∷ 0 ∷ 1 ∷ 2 ∷ 0 ∷ 0 ∷ 1 ∷ 3 ∷ 0 ∷ 0 ∷ 1 ∷ 1 ∷ 0 ∷ 0 ∷ []
    records_are = ap (λ (x : Header). (beside_of bottom file x Duration nothing before).tables.records) (sym said.2) ∙ tables_computed.1

    walked_yes : ended_of L.tables.trees L.tables.records 0 (0 ∷ 1 ∷ 0 ∷ []) 9 ≡ record { number = 0; pdf = 3; asked = 1 }
    walked_yes = (λ i. ended_of (trees_are i) (records_are i) 0 (0 ∷ 1 ∷ 0 ∷ []) 9) ∙ walk_computed

-- ---- and written: the last of two lines with one id has won

abbrev after : Tables
after = (beside_of bottom file (open_of file).header Duration nothing before).tables

pub writes : bytes_of (part file 215 133) (take 12 after.questions) (take 6 after.patterns) (take 18 after.trees) (take 28 after.records)
    ≡ bytes "QS A { \"a\" }\nQS A { \"b\" }\nQS B { \"c\" }\n{*} [2] {\n0 A -2 \"p_3\"\n-1 B 0 \"p_1\"\n-2 A 0 \"p_2\"\n}\n{*} [3] \"p_1\"\n{*} [4] {\n}\n"
unfolding flatten figures_in spelled_line spelled_tree spelled_patterns spelled_question spelled holds stands room_beside stands_at placed_in beside_of little_endian total rows_from paired bytes one_of same letter digit wildcard mark in_pattern in_word blank space_or_tab in_name byte_at between decimal of_group of_others kind_of values_of pdfs times global_fields stream_fields stream_group position_fields position_group table pattern_rows question_rows all some run stop read_from read larger total_laws_totals largest any_of eq_z bytes_at little ahead class_of usual in_set unsigned_of unsigned_from unsigned_at signed_at pattern_of pattern_at name_of name_at past_byte newline_at parting_at line_parting_at close_at scan check_of starts width rows_from_table_rows_rows question_table pattern_table tree_table record_table empty_global empty_stream empty_position empty_header filled global_record stream_record position_record header_record each counted span_fits global_fits stream_fits position_fits record_fits run_head_words_words flat global_words stream_words position_words header_words global_at stream_at position_at header_at group_flags flags_fit ends_at text_at number_at flag_at delimiter_at element_at pair_at items_from items_at list_at spans_of ranges_of spans_with ranges_with firsts read_at blank_value value_of field_index kind_at any_missing one_more name_index key_at line_value_at stood_at keyed_at line_at marked lines_from unseen lines_at read_from_head_lines_lines lines_read kept split_of key_row row_at rows_from_head_brackets_rows rows_at row_line_at over last_of no_names names_with known_from known_in names_at many_at judged_in stored stored_in with_line judged judged_in_head_global_global no_durations stored_head_ungrouped_ungrouped with_line_head_ungrouped_ungrouped judged_head_ungrouped_ungrouped stored_head_stream_group stored_in_head_stream_group with_line_head_stream_group named with_row judged_head_stream_group no_streams with_streams many_over with_group judged_head_streams_groups stored_head_position_group stored_in_head_position_group with_line_head_position_group named_head_position_group with_row_head_position_group judged_head_position_group no_positions with_positions many_over_head_positions_groups with_group_head_positions_groups judged_head_positions_groups starts_at break_in break_here break_at section_at split_of_head_sections_split global_left streams_left positions_left parts_left open_left utf8_of global_of streams_of no_positions_for positions_of refused_with parts_of open_of comment_part past_qs starts_question head_at after_pattern pattern_step_at item_at after_question patterns_at question_step_at questions_at digits_from pdf_of pdf_at bare_at quoted_at reference_at yes_at branches_at line_at_tree_line_lines after_line line_step_at lines_at_tree_line_lines past_star number_at_tree_body_trees state_at body_at head_at_tree_body_trees after_tree tree_step_at trees_at patterns_counted questions_counted records_of lines_counted lines_surveyed said_records said_survey text_at_tree_survey_survey trees_counted survey_of survey_at widen_fields widen_of words_at block_at pairs_at entry_at values_at with_blocks key_of name_key part_inside name_at_link_order_keys id_at side_of insert sorted rises last_below first_from count_from ref_of lines_from_link_targets_lines pdfs_of target_of order_from leaf_rows line_rows leaves_of record_rows link_outcome linked_rows step_question outcome goals within_of model_of stream_model gv_model named_load_choose_chosen numbered chosen_of text_of entries_of plan_of planned span_words pattern_words question_words row_at_load_questions_words asked_at line_words link_result trees_end tree_words record_words work_after room_for filled_load_model_load load_of line_at_walk_walking kind_at_walk_walking meet_at walk_from walk_of of_record each_write_parts_parts pattern_of_write_parts_parts ref_of_write_parts_parts body_of text_of_write_text_text judged_of bytes_of measure_of
writes = refl
