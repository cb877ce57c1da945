-- The thirteen sums hold, by computation.
use mathlib.Core.Path.{refl}
use lib.Count.{count_leading_zeros}
use Rattle.written.specs.Interchange.{bias}
use Rattle.written.specs.Record.{All, end, next}
use Rattle.shown_sums.specs.Sums.{Holds, five_records, sums}
use Rattle.written.specs.Blocks.{little_endian, total, rows_from, paired}
use Rattle.written.specs.Bytes.{bytes, one_of, same, letter, digit, wildcard, mark, in_pattern, in_word, blank, space_or_tab, in_name, byte_at, between, decimal}
use Rattle.laws.specs.Runs.{run, stop}
use Rattle.laws.specs.Steps.{read_from, read}
use Rattle.laws.specs.Totals.{larger, total as total_laws, largest, any_of}
use Rattle.laws.specs.Wholes.{eq_z}
use Rattle.pdf_widen.specs.Widening.{widen_fields, widen_of}
use Rattle.text_base.specs.Classes.{class_of}
use Rattle.text_numbers.specs.Answers.{unsigned_of, unsigned_from, unsigned_at, signed_at, pattern_of, pattern_at}
use Rattle.head_record.specs.Empty.{empty_global, empty_stream, empty_position, empty_header}
use Rattle.head_record.specs.Lists.{filled}
use Rattle.head_record.specs.Record.{global_record, stream_record, position_record, header_record}
use Rattle.head_de.specs.Values.{ends_at, text_at, number_at, flag_at, delimiter_at, element_at, pair_at}
use Rattle.head_de_lists.specs.Lists.{items_from, items_at, list_at, spans_of, ranges_of, spans_with, ranges_with, firsts}
use Rattle.link_sort.specs.Sorted.{insert, sorted}
use Rattle.link_order.specs.Keys.{key_of, name_key, name_at, id_at}
use Rattle.text_parts.specs.Parts.{part_inside}
use Rattle.link_order.specs.Sides.{side_of}
use Rattle.link_search.specs.Found.{last_below, first_from, count_from}
use Rattle.link_targets.specs.Lines.{ref_of, lines_from, pdfs_of}
use Rattle.link_targets.specs.Targets.{target_of, order_from}
use Rattle.link_rows.specs.Rows.{leaf_rows, line_rows}
use Rattle.link_tree.specs.Linked.{leaves_of, record_rows, link_outcome, linked_rows}
use Rattle.link_tree.specs.Steps.{step_question, outcome, goals}
use Rattle.text_spaces.specs.Spaces.{name_of, name_at as name_at_base_spaces, past_byte, newline_at, parting_at, line_parting_at, close_at}
use Rattle.tree_question.specs.Questions.{past_qs, starts_question, head_at, after_pattern, pattern_step_at, item_at, after_question, patterns_at, question_step_at, questions_at}
use Rattle.tree_reference.specs.References.{digits_from, pdf_of, pdf_at, bare_at, quoted_at, reference_at}
use Rattle.tree_line.specs.Lines.{yes_at, branches_at, line_at, after_line, line_step_at, lines_at}
use Rattle.tree_body.specs.Trees.{past_star, number_at as number_at_tree, state_at, body_at, head_at as head_at_tree, after_tree, tree_step_at, trees_at}
use Rattle.tree_survey_questions.specs.Counts.{patterns_counted, questions_counted}
use Rattle.tree_survey_lines.specs.Counts.{records_of, lines_counted, lines_surveyed}
use Rattle.tree_survey.specs.Said.{said_records, said_survey}
use Rattle.tree_survey.specs.Survey.{text_at as text_at_tree_survey, trees_counted, survey_of, survey_at}
use Rattle.load_lines.specs.Words.{asked_at, line_words}
use Rattle.load_questions.specs.Words.{span_words, pattern_words, question_words, row_at}
use Rattle.load_tree.specs.Bodies.{link_result}
use Rattle.load_trees.specs.Trees.{trees_end, tree_words, record_words, work_after}

five : Holds five_records
unfolding bias count_leading_zeros little_endian total rows_from paired bytes one_of same letter digit wildcard mark in_pattern in_word blank space_or_tab in_name byte_at between decimal run stop read_from read larger total_laws largest any_of eq_z widen_fields widen_of class_of unsigned_of unsigned_from unsigned_at signed_at pattern_of pattern_at empty_global empty_stream empty_position empty_header filled global_record stream_record position_record header_record ends_at text_at number_at flag_at delimiter_at element_at pair_at items_from items_at list_at spans_of ranges_of spans_with ranges_with firsts insert sorted key_of name_key part_inside name_at id_at side_of last_below first_from count_from ref_of lines_from pdfs_of target_of order_from leaf_rows line_rows leaves_of record_rows link_outcome linked_rows step_question outcome goals name_of name_at_base_spaces past_byte newline_at parting_at line_parting_at close_at past_qs starts_question head_at after_pattern pattern_step_at item_at after_question patterns_at question_step_at questions_at digits_from pdf_of pdf_at bare_at quoted_at reference_at yes_at branches_at line_at after_line line_step_at lines_at past_star number_at_tree state_at body_at head_at_tree after_tree tree_step_at trees_at patterns_counted questions_counted records_of lines_counted lines_surveyed said_records said_survey text_at_tree_survey trees_counted survey_of survey_at asked_at line_words span_words pattern_words question_words row_at link_result trees_end tree_words record_words work_after
five = (refl, refl)

pub all : All Holds sums
unfolding bias count_leading_zeros little_endian total rows_from paired bytes one_of same letter digit wildcard mark in_pattern in_word blank space_or_tab in_name byte_at between decimal run stop read_from read larger total_laws largest any_of eq_z widen_fields widen_of class_of unsigned_of unsigned_from unsigned_at signed_at pattern_of pattern_at empty_global empty_stream empty_position empty_header filled global_record stream_record position_record header_record ends_at text_at number_at flag_at delimiter_at element_at pair_at items_from items_at list_at spans_of ranges_of spans_with ranges_with firsts insert sorted key_of name_key part_inside name_at id_at side_of last_below first_from count_from ref_of lines_from pdfs_of target_of order_from leaf_rows line_rows leaves_of record_rows link_outcome linked_rows step_question outcome goals name_of name_at_base_spaces past_byte newline_at parting_at line_parting_at close_at past_qs starts_question head_at after_pattern pattern_step_at item_at after_question patterns_at question_step_at questions_at digits_from pdf_of pdf_at bare_at quoted_at reference_at yes_at branches_at line_at after_line line_step_at lines_at past_star number_at_tree state_at body_at head_at_tree after_tree tree_step_at trees_at patterns_counted questions_counted records_of lines_counted lines_surveyed said_records said_survey text_at_tree_survey trees_counted survey_of survey_at asked_at line_words span_words pattern_words question_words row_at link_result trees_end tree_words record_words work_after
all = next refl (next refl (next refl (next refl (next refl (next refl (next refl (next refl (next refl (next refl (next refl (next refl (next five end))))))))))))
