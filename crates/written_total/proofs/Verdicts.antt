-- What the definitions say of a text, computed.
use mathlib.Core.Path.{◌≡◌, refl}
use mathlib.Core.List.{List, [], ◌∷◌}
use Prim.Native.Nat.{ℕ, ◌≤◌}
use native.Mathlib.Decide.{dec_lt}
use native.Mathlib.Omega.{arith}
use lib.ListN.{length}
use Rattle.written.specs.Bytes.{bytes, one_of, digit, same, decimal}
use Rattle.written.specs.HeaderText.{Field, kind_of, values_of}
use Rattle.written.specs.Record.{global_fields, stream_fields, position_fields}
use Rattle.laws.specs.Runs.{run, stop}
use Rattle.written_total.proofs.Total.{SectionAt, section, refused, section_total, lines_total, line_total, reads_total, text_total, number_total, flag_total, pair_total, list_total, items_total, onward, stopped, led_total, at_dec, ends_dec, repeats_dec, named_dec, mapped, unknown_total}

abbrev verdict : {T : List Field} {s : List ℕ} {i : ℕ} → SectionAt T s i → List ℕ
verdict (section xs r) = 0 ∷ length xs ∷ []
verdict (refused n p r) = n ∷ p ∷ []

low : (n : ℕ) → 0 ≤ n
low n = omega arith

-- the refusal and its place; or 0, and how many entries there are
abbrev said : List Field → List ℕ → List ℕ
said T s = verdict (section_total T s 0 (low (length s)))

case_1 : said global_fields (10 ∷ 72 ∷ 84 ∷ 83 ∷ 95 ∷ 86 ∷ 79 ∷ 73 ∷ 67 ∷ 69 ∷ 95 ∷ 86 ∷ 69 ∷ 82 ∷ 83 ∷ 73 ∷ 79 ∷ 78 ∷ 58 ∷ 49 ∷ 46 ∷ 48 ∷ []) ≡ 0 ∷ 1 ∷ []
unfolding bytes dec_lt one_of digit same kind_of values_of decimal global_fields stream_fields position_fields run stop section_total lines_total line_total reads_total text_total number_total flag_total pair_total list_total items_total onward stopped led_total at_dec ends_dec repeats_dec named_dec mapped unknown_total
case_1 = refl

case_2 : said global_fields (83 ∷ 65 ∷ 77 ∷ 80 ∷ 76 ∷ 73 ∷ 78 ∷ 71 ∷ 95 ∷ 70 ∷ 82 ∷ 69 ∷ 81 ∷ 85 ∷ 69 ∷ 78 ∷ 67 ∷ 89 ∷ 58 ∷ 52 ∷ 56 ∷ 48 ∷ 48 ∷ 48 ∷ 10 ∷ 70 ∷ 85 ∷ 76 ∷ 76 ∷ 67 ∷ 79 ∷ 78 ∷ 84 ∷ 69 ∷ 88 ∷ 84 ∷ 95 ∷ 86 ∷ 69 ∷ 82 ∷ 83 ∷ 73 ∷ 79 ∷ 78 ∷ 58 ∷ 49 ∷ 46 ∷ 48 ∷ 10 ∷ 70 ∷ 82 ∷ 65 ∷ 77 ∷ 69 ∷ 95 ∷ 80 ∷ 69 ∷ 82 ∷ 73 ∷ 79 ∷ 68 ∷ 58 ∷ []) ≡ 3 ∷ 62 ∷ []
unfolding bytes dec_lt one_of digit same kind_of values_of decimal global_fields stream_fields position_fields run stop section_total lines_total line_total reads_total text_total number_total flag_total pair_total list_total items_total onward stopped led_total at_dec ends_dec repeats_dec named_dec mapped unknown_total
case_2 = refl

case_3 : said global_fields (78 ∷ 85 ∷ 77 ∷ 95 ∷ 83 ∷ 84 ∷ 65 ∷ 84 ∷ 69 ∷ 83 ∷ 32 ∷ 58 ∷ 10 ∷ 67 ∷ 79 ∷ 77 ∷ 77 ∷ 69 ∷ 78 ∷ 84 ∷ 58 ∷ 45 ∷ 44 ∷ []) ≡ 0 ∷ 2 ∷ []
unfolding bytes dec_lt one_of digit same kind_of values_of decimal global_fields stream_fields position_fields run stop section_total lines_total line_total reads_total text_total number_total flag_total pair_total list_total items_total onward stopped led_total at_dec ends_dec repeats_dec named_dec mapped unknown_total
case_3 = refl

case_4 : said global_fields (83 ∷ 65 ∷ 77 ∷ 80 ∷ 76 ∷ 73 ∷ 78 ∷ 71 ∷ 95 ∷ 70 ∷ 82 ∷ 69 ∷ 81 ∷ 85 ∷ 69 ∷ 78 ∷ 67 ∷ 89 ∷ 58 ∷ 52 ∷ 56 ∷ 48 ∷ 48 ∷ 48 ∷ 10 ∷ 70 ∷ 85 ∷ 76 ∷ 76 ∷ 67 ∷ 79 ∷ 78 ∷ 84 ∷ 69 ∷ 88 ∷ 84 ∷ 95 ∷ 70 ∷ 79 ∷ 82 ∷ 77 ∷ 65 ∷ 84 ∷ 58 ∷ 70 ∷ 10 ∷ []) ≡ 0 ∷ 2 ∷ []
unfolding bytes dec_lt one_of digit same kind_of values_of decimal global_fields stream_fields position_fields run stop section_total lines_total line_total reads_total text_total number_total flag_total pair_total list_total items_total onward stopped led_total at_dec ends_dec repeats_dec named_dec mapped unknown_total
case_4 = refl

case_5 : said global_fields (72 ∷ 84 ∷ 83 ∷ 95 ∷ 86 ∷ 79 ∷ 73 ∷ 67 ∷ 69 ∷ 95 ∷ 86 ∷ 69 ∷ 82 ∷ 83 ∷ 73 ∷ 79 ∷ 78 ∷ 58 ∷ 49 ∷ 46 ∷ 48 ∷ []) ≡ 0 ∷ 1 ∷ []
unfolding bytes dec_lt one_of digit same kind_of values_of decimal global_fields stream_fields position_fields run stop section_total lines_total line_total reads_total text_total number_total flag_total pair_total list_total items_total onward stopped led_total at_dec ends_dec repeats_dec named_dec mapped unknown_total
case_5 = refl

case_6 : said global_fields (70 ∷ 85 ∷ 76 ∷ 76 ∷ 67 ∷ 79 ∷ 78 ∷ 84 ∷ 69 ∷ 88 ∷ 84 ∷ 95 ∷ 70 ∷ 79 ∷ 82 ∷ 77 ∷ 65 ∷ 84 ∷ 58 ∷ 70 ∷ 10 ∷ 70 ∷ 85 ∷ 76 ∷ 76 ∷ 67 ∷ 79 ∷ 78 ∷ 84 ∷ 69 ∷ 88 ∷ 84 ∷ 95 ∷ 86 ∷ 69 ∷ 82 ∷ 83 ∷ 73 ∷ 79 ∷ 78 ∷ 58 ∷ 49 ∷ 46 ∷ 48 ∷ 10 ∷ []) ≡ 0 ∷ 2 ∷ []
unfolding bytes dec_lt one_of digit same kind_of values_of decimal global_fields stream_fields position_fields run stop section_total lines_total line_total reads_total text_total number_total flag_total pair_total list_total items_total onward stopped led_total at_dec ends_dec repeats_dec named_dec mapped unknown_total
case_6 = refl

case_7 : said global_fields (10 ∷ 78 ∷ 85 ∷ 77 ∷ 95 ∷ 83 ∷ 84 ∷ 82 ∷ 69 ∷ 65 ∷ 77 ∷ 83 ∷ 58 ∷ 120 ∷ 57 ∷ 57 ∷ 57 ∷ 57 ∷ 57 ∷ 57 ∷ 57 ∷ 57 ∷ 57 ∷ 57 ∷ 57 ∷ 57 ∷ 57 ∷ 57 ∷ 57 ∷ 57 ∷ 57 ∷ 57 ∷ 57 ∷ 57 ∷ 10 ∷ 83 ∷ 84 ∷ 82 ∷ 69 ∷ 65 ∷ 77 ∷ 95 ∷ 84 ∷ 89 ∷ 80 ∷ 69 ∷ 58 ∷ 77 ∷ []) ≡ 5 ∷ 13 ∷ []
unfolding bytes dec_lt one_of digit same kind_of values_of decimal global_fields stream_fields position_fields run stop section_total lines_total line_total reads_total text_total number_total flag_total pair_total list_total items_total onward stopped led_total at_dec ends_dec repeats_dec named_dec mapped unknown_total
case_7 = refl

case_8 : said global_fields (34 ∷ 65 ∷ 58 ∷ 66 ∷ 34 ∷ 58 ∷ 195 ∷ 169 ∷ 49 ∷ 50 ∷ 32 ∷ []) ≡ 0 ∷ 1 ∷ []
unfolding bytes dec_lt one_of digit same kind_of values_of decimal global_fields stream_fields position_fields run stop section_total lines_total line_total reads_total text_total number_total flag_total pair_total list_total items_total onward stopped led_total at_dec ends_dec repeats_dec named_dec mapped unknown_total
case_8 = refl

case_9 : said global_fields (78 ∷ 85 ∷ 77 ∷ 95 ∷ 83 ∷ 84 ∷ 82 ∷ 69 ∷ 65 ∷ 77 ∷ 83 ∷ 58 ∷ 49 ∷ 10 ∷ 70 ∷ 85 ∷ 76 ∷ 76 ∷ 67 ∷ 79 ∷ 78 ∷ 84 ∷ 69 ∷ 88 ∷ 84 ∷ 95 ∷ 70 ∷ 79 ∷ 82 ∷ 77 ∷ 65 ∷ 84 ∷ 58 ∷ 70 ∷ 10 ∷ 83 ∷ 65 ∷ 77 ∷ 80 ∷ 76 ∷ 73 ∷ 78 ∷ 71 ∷ 95 ∷ 70 ∷ 82 ∷ 69 ∷ 81 ∷ 85 ∷ 69 ∷ 78 ∷ 67 ∷ 89 ∷ 58 ∷ 52 ∷ 56 ∷ 48 ∷ 48 ∷ 48 ∷ []) ≡ 0 ∷ 3 ∷ []
unfolding bytes dec_lt one_of digit same kind_of values_of decimal global_fields stream_fields position_fields run stop section_total lines_total line_total reads_total text_total number_total flag_total pair_total list_total items_total onward stopped led_total at_dec ends_dec repeats_dec named_dec mapped unknown_total
case_9 = refl

case_10 : said global_fields ([]) ≡ 0 ∷ 0 ∷ []
unfolding bytes dec_lt one_of digit same kind_of values_of decimal global_fields stream_fields position_fields run stop section_total lines_total line_total reads_total text_total number_total flag_total pair_total list_total items_total onward stopped led_total at_dec ends_dec repeats_dec named_dec mapped unknown_total
case_10 = refl

case_11 : said global_fields ([]) ≡ 0 ∷ 0 ∷ []
unfolding bytes dec_lt one_of digit same kind_of values_of decimal global_fields stream_fields position_fields run stop section_total lines_total line_total reads_total text_total number_total flag_total pair_total list_total items_total onward stopped led_total at_dec ends_dec repeats_dec named_dec mapped unknown_total
case_11 = refl

case_12 : said global_fields (78 ∷ 85 ∷ 77 ∷ 95 ∷ 83 ∷ 84 ∷ 65 ∷ 84 ∷ 69 ∷ 83 ∷ 58 ∷ 53 ∷ 10 ∷ 78 ∷ 85 ∷ 77 ∷ 95 ∷ 83 ∷ 84 ∷ 82 ∷ 69 ∷ 65 ∷ 77 ∷ 83 ∷ 58 ∷ 49 ∷ 10 ∷ 83 ∷ 65 ∷ 77 ∷ 80 ∷ 76 ∷ 73 ∷ 78 ∷ 71 ∷ 95 ∷ 70 ∷ 82 ∷ 69 ∷ 81 ∷ 85 ∷ 69 ∷ 78 ∷ 67 ∷ 89 ∷ 58 ∷ 52 ∷ 56 ∷ 48 ∷ 48 ∷ 48 ∷ []) ≡ 0 ∷ 3 ∷ []
unfolding bytes dec_lt one_of digit same kind_of values_of decimal global_fields stream_fields position_fields run stop section_total lines_total line_total reads_total text_total number_total flag_total pair_total list_total items_total onward stopped led_total at_dec ends_dec repeats_dec named_dec mapped unknown_total
case_12 = refl

case_13 : said global_fields (83 ∷ 65 ∷ 77 ∷ 80 ∷ 76 ∷ 73 ∷ 78 ∷ 71 ∷ 95 ∷ 70 ∷ 82 ∷ 69 ∷ 81 ∷ 85 ∷ 69 ∷ 78 ∷ 67 ∷ 89 ∷ 58 ∷ 52 ∷ 56 ∷ 48 ∷ 48 ∷ 48 ∷ 10 ∷ 70 ∷ 85 ∷ 76 ∷ 76 ∷ 67 ∷ 79 ∷ 78 ∷ 84 ∷ 69 ∷ 88 ∷ 84 ∷ 95 ∷ 70 ∷ 79 ∷ 82 ∷ 77 ∷ 65 ∷ 84 ∷ 58 ∷ 70 ∷ 10 ∷ 70 ∷ 85 ∷ 76 ∷ 76 ∷ 67 ∷ 79 ∷ 78 ∷ 84 ∷ 69 ∷ 88 ∷ 84 ∷ 95 ∷ 86 ∷ 69 ∷ 82 ∷ 83 ∷ 73 ∷ 79 ∷ 78 ∷ 58 ∷ []) ≡ 0 ∷ 3 ∷ []
unfolding bytes dec_lt one_of digit same kind_of values_of decimal global_fields stream_fields position_fields run stop section_total lines_total line_total reads_total text_total number_total flag_total pair_total list_total items_total onward stopped led_total at_dec ends_dec repeats_dec named_dec mapped unknown_total
case_13 = refl

case_14 : said global_fields (70 ∷ 85 ∷ 76 ∷ 76 ∷ 67 ∷ 79 ∷ 78 ∷ 84 ∷ 69 ∷ 88 ∷ 84 ∷ 95 ∷ 70 ∷ 79 ∷ 82 ∷ 77 ∷ 65 ∷ 84 ∷ 58 ∷ 70 ∷ 10 ∷ 70 ∷ 82 ∷ 65 ∷ 77 ∷ 69 ∷ 95 ∷ 80 ∷ 69 ∷ 82 ∷ 73 ∷ 79 ∷ 68 ∷ 58 ∷ 50 ∷ 52 ∷ 48 ∷ 10 ∷ []) ≡ 0 ∷ 2 ∷ []
unfolding bytes dec_lt one_of digit same kind_of values_of decimal global_fields stream_fields position_fields run stop section_total lines_total line_total reads_total text_total number_total flag_total pair_total list_total items_total onward stopped led_total at_dec ends_dec repeats_dec named_dec mapped unknown_total
case_14 = refl

case_15 : said global_fields (10 ∷ []) ≡ 0 ∷ 0 ∷ []
unfolding bytes dec_lt one_of digit same kind_of values_of decimal global_fields stream_fields position_fields run stop section_total lines_total line_total reads_total text_total number_total flag_total pair_total list_total items_total onward stopped led_total at_dec ends_dec repeats_dec named_dec mapped unknown_total
case_15 = refl

case_16 : said stream_fields (73 ∷ 83 ∷ 95 ∷ 77 ∷ 83 ∷ 68 ∷ 91 ∷ 77 ∷ 93 ∷ 58 ∷ 48 ∷ []) ≡ 0 ∷ 1 ∷ []
unfolding bytes dec_lt one_of digit same kind_of values_of decimal global_fields stream_fields position_fields run stop section_total lines_total line_total reads_total text_total number_total flag_total pair_total list_total items_total onward stopped led_total at_dec ends_dec repeats_dec named_dec mapped unknown_total
case_16 = refl

case_17 : said stream_fields (86 ∷ 69 ∷ 67 ∷ 84 ∷ 79 ∷ 82 ∷ 95 ∷ 76 ∷ 69 ∷ 78 ∷ 71 ∷ 84 ∷ 72 ∷ 91 ∷ 77 ∷ 93 ∷ 58 ∷ 51 ∷ 53 ∷ []) ≡ 0 ∷ 1 ∷ []
unfolding bytes dec_lt one_of digit same kind_of values_of decimal global_fields stream_fields position_fields run stop section_total lines_total line_total reads_total text_total number_total flag_total pair_total list_total items_total onward stopped led_total at_dec ends_dec repeats_dec named_dec mapped unknown_total
case_17 = refl

case_18 : said stream_fields (88 ∷ 93 ∷ 58 ∷ 34 ∷ 10 ∷ 86 ∷ 69 ∷ 67 ∷ 84 ∷ 79 ∷ 82 ∷ 95 ∷ 76 ∷ 69 ∷ 78 ∷ 71 ∷ 84 ∷ 72 ∷ 91 ∷ 77 ∷ 93 ∷ 58 ∷ 51 ∷ 53 ∷ []) ≡ 0 ∷ 2 ∷ []
unfolding bytes dec_lt one_of digit same kind_of values_of decimal global_fields stream_fields position_fields run stop section_total lines_total line_total reads_total text_total number_total flag_total pair_total list_total items_total onward stopped led_total at_dec ends_dec repeats_dec named_dec mapped unknown_total
case_18 = refl

case_19 : said stream_fields ([]) ≡ 0 ∷ 0 ∷ []
unfolding bytes dec_lt one_of digit same kind_of values_of decimal global_fields stream_fields position_fields run stop section_total lines_total line_total reads_total text_total number_total flag_total pair_total list_total items_total onward stopped led_total at_dec ends_dec repeats_dec named_dec mapped unknown_total
case_19 = refl

case_20 : said stream_fields (70 ∷ 79 ∷ 79 ∷ 58 ∷ 49 ∷ 45 ∷ 50 ∷ 49 ∷ 45 ∷ 50 ∷ 10 ∷ 86 ∷ 69 ∷ 67 ∷ 84 ∷ 79 ∷ 82 ∷ 95 ∷ 76 ∷ 69 ∷ 78 ∷ 71 ∷ 84 ∷ 72 ∷ 91 ∷ 77 ∷ 93 ∷ 58 ∷ 51 ∷ 53 ∷ 10 ∷ 73 ∷ 83 ∷ 95 ∷ 77 ∷ 83 ∷ 68 ∷ 91 ∷ 77 ∷ 93 ∷ 58 ∷ 48 ∷ []) ≡ 0 ∷ 3 ∷ []
unfolding bytes dec_lt one_of digit same kind_of values_of decimal global_fields stream_fields position_fields run stop section_total lines_total line_total reads_total text_total number_total flag_total pair_total list_total items_total onward stopped led_total at_dec ends_dec repeats_dec named_dec mapped unknown_total
case_20 = refl

case_21 : said stream_fields (73 ∷ 83 ∷ 95 ∷ 77 ∷ 83 ∷ 68 ∷ 91 ∷ 77 ∷ 93 ∷ 58 ∷ 10 ∷ 86 ∷ 69 ∷ 67 ∷ 84 ∷ 79 ∷ 82 ∷ 95 ∷ 76 ∷ 69 ∷ 78 ∷ 71 ∷ 84 ∷ 72 ∷ 91 ∷ 77 ∷ 93 ∷ 58 ∷ 51 ∷ 53 ∷ []) ≡ 0 ∷ 2 ∷ []
unfolding bytes dec_lt one_of digit same kind_of values_of decimal global_fields stream_fields position_fields run stop section_total lines_total line_total reads_total text_total number_total flag_total pair_total list_total items_total onward stopped led_total at_dec ends_dec repeats_dec named_dec mapped unknown_total
case_21 = refl

case_22 : said stream_fields (10 ∷ []) ≡ 0 ∷ 0 ∷ []
unfolding bytes dec_lt one_of digit same kind_of values_of decimal global_fields stream_fields position_fields run stop section_total lines_total line_total reads_total text_total number_total flag_total pair_total list_total items_total onward stopped led_total at_dec ends_dec repeats_dec named_dec mapped unknown_total
case_22 = refl

case_23 : said stream_fields (34 ∷ 97 ∷ []) ≡ 3 ∷ 2 ∷ []
unfolding bytes dec_lt one_of digit same kind_of values_of decimal global_fields stream_fields position_fields run stop section_total lines_total line_total reads_total text_total number_total flag_total pair_total list_total items_total onward stopped led_total at_dec ends_dec repeats_dec named_dec mapped unknown_total
case_23 = refl

case_24 : said stream_fields ([]) ≡ 0 ∷ 0 ∷ []
unfolding bytes dec_lt one_of digit same kind_of values_of decimal global_fields stream_fields position_fields run stop section_total lines_total line_total reads_total text_total number_total flag_total pair_total list_total items_total onward stopped led_total at_dec ends_dec repeats_dec named_dec mapped unknown_total
case_24 = refl

case_25 : said stream_fields (10 ∷ []) ≡ 0 ∷ 0 ∷ []
unfolding bytes dec_lt one_of digit same kind_of values_of decimal global_fields stream_fields position_fields run stop section_total lines_total line_total reads_total text_total number_total flag_total pair_total list_total items_total onward stopped led_total at_dec ends_dec repeats_dec named_dec mapped unknown_total
case_25 = refl

case_26 : said stream_fields ([]) ≡ 0 ∷ 0 ∷ []
unfolding bytes dec_lt one_of digit same kind_of values_of decimal global_fields stream_fields position_fields run stop section_total lines_total line_total reads_total text_total number_total flag_total pair_total list_total items_total onward stopped led_total at_dec ends_dec repeats_dec named_dec mapped unknown_total
case_26 = refl

case_27 : said stream_fields (70 ∷ 79 ∷ 79 ∷ 58 ∷ 48 ∷ 34 ∷ 97 ∷ 44 ∷ 98 ∷ 34 ∷ 10 ∷ 78 ∷ 85 ∷ 77 ∷ 95 ∷ 87 ∷ 73 ∷ 78 ∷ 68 ∷ 79 ∷ 87 ∷ 83 ∷ 91 ∷ 77 ∷ 93 ∷ 58 ∷ 51 ∷ []) ≡ 0 ∷ 2 ∷ []
unfolding bytes dec_lt one_of digit same kind_of values_of decimal global_fields stream_fields position_fields run stop section_total lines_total line_total reads_total text_total number_total flag_total pair_total list_total items_total onward stopped led_total at_dec ends_dec repeats_dec named_dec mapped unknown_total
case_27 = refl

case_28 : said stream_fields (78 ∷ 85 ∷ 95 ∷ 87 ∷ 73 ∷ 78 ∷ 68 ∷ 79 ∷ 87 ∷ 83 ∷ 91 ∷ 93 ∷ 58 ∷ 34 ∷ 97 ∷ 10 ∷ 98 ∷ 34 ∷ 9 ∷ 57 ∷ 57 ∷ 57 ∷ 57 ∷ 57 ∷ 57 ∷ 57 ∷ 57 ∷ 57 ∷ 57 ∷ 57 ∷ 57 ∷ 57 ∷ 57 ∷ 57 ∷ 57 ∷ 57 ∷ 57 ∷ 57 ∷ 57 ∷ []) ≡ 3 ∷ 39 ∷ []
unfolding bytes dec_lt one_of digit same kind_of values_of decimal global_fields stream_fields position_fields run stop section_total lines_total line_total reads_total text_total number_total flag_total pair_total list_total items_total onward stopped led_total at_dec ends_dec repeats_dec named_dec mapped unknown_total
case_28 = refl

case_29 : said stream_fields (73 ∷ 83 ∷ 95 ∷ 77 ∷ 83 ∷ 68 ∷ 91 ∷ 77 ∷ 93 ∷ 58 ∷ 48 ∷ 10 ∷ 34 ∷ 97 ∷ 10 ∷ 98 ∷ 91 ∷ 77 ∷ 93 ∷ 34 ∷ 58 ∷ 57 ∷ 57 ∷ 57 ∷ 57 ∷ 57 ∷ 57 ∷ 57 ∷ 57 ∷ 57 ∷ 57 ∷ 57 ∷ 57 ∷ 57 ∷ 57 ∷ 57 ∷ 57 ∷ 57 ∷ 57 ∷ 57 ∷ 57 ∷ []) ≡ 0 ∷ 2 ∷ []
unfolding bytes dec_lt one_of digit same kind_of values_of decimal global_fields stream_fields position_fields run stop section_total lines_total line_total reads_total text_total number_total flag_total pair_total list_total items_total onward stopped led_total at_dec ends_dec repeats_dec named_dec mapped unknown_total
case_29 = refl

case_30 : said stream_fields (73 ∷ 83 ∷ 95 ∷ 77 ∷ 83 ∷ 68 ∷ 91 ∷ 77 ∷ 93 ∷ 58 ∷ 48 ∷ 10 ∷ 86 ∷ 69 ∷ 67 ∷ 84 ∷ 79 ∷ 82 ∷ 95 ∷ 76 ∷ 69 ∷ 78 ∷ 71 ∷ 84 ∷ 72 ∷ 91 ∷ 77 ∷ 93 ∷ 58 ∷ 10 ∷ 195 ∷ 169 ∷ 44 ∷ []) ≡ 3 ∷ 33 ∷ []
unfolding bytes dec_lt one_of digit same kind_of values_of decimal global_fields stream_fields position_fields run stop section_total lines_total line_total reads_total text_total number_total flag_total pair_total list_total items_total onward stopped led_total at_dec ends_dec repeats_dec named_dec mapped unknown_total
case_30 = refl

case_31 : said position_fields (68 ∷ 85 ∷ 82 ∷ 65 ∷ 84 ∷ 73 ∷ 79 ∷ 78 ∷ 95 ∷ 80 ∷ 68 ∷ 70 ∷ 58 ∷ 48 ∷ 45 ∷ 49 ∷ 10 ∷ 83 ∷ 84 ∷ 82 ∷ 69 ∷ 65 ∷ 77 ∷ 95 ∷ 80 ∷ 68 ∷ 70 ∷ 91 ∷ 77 ∷ 93 ∷ 58 ∷ 54 ∷ 45 ∷ 55 ∷ []) ≡ 0 ∷ 2 ∷ []
unfolding bytes dec_lt one_of digit same kind_of values_of decimal global_fields stream_fields position_fields run stop section_total lines_total line_total reads_total text_total number_total flag_total pair_total list_total items_total onward stopped led_total at_dec ends_dec repeats_dec named_dec mapped unknown_total
case_31 = refl

case_32 : said position_fields (83 ∷ 84 ∷ 82 ∷ 69 ∷ 65 ∷ 77 ∷ 95 ∷ 80 ∷ 68 ∷ 70 ∷ 91 ∷ 77 ∷ 93 ∷ 58 ∷ 54 ∷ 45 ∷ 55 ∷ 10 ∷ []) ≡ 0 ∷ 1 ∷ []
unfolding bytes dec_lt one_of digit same kind_of values_of decimal global_fields stream_fields position_fields run stop section_total lines_total line_total reads_total text_total number_total flag_total pair_total list_total items_total onward stopped led_total at_dec ends_dec repeats_dec named_dec mapped unknown_total
case_32 = refl

case_33 : said position_fields (83 ∷ 84 ∷ 82 ∷ 69 ∷ 65 ∷ 77 ∷ 95 ∷ 87 ∷ 73 ∷ 78 ∷ 91 ∷ 77 ∷ 93 ∷ 58 ∷ 52 ∷ 45 ∷ 53 ∷ 10 ∷ 68 ∷ 85 ∷ 82 ∷ 65 ∷ 84 ∷ 73 ∷ 79 ∷ 78 ∷ 95 ∷ 80 ∷ 68 ∷ 70 ∷ 58 ∷ 57 ∷ 57 ∷ 57 ∷ 57 ∷ 57 ∷ 57 ∷ 57 ∷ 57 ∷ 57 ∷ 57 ∷ 57 ∷ 57 ∷ 57 ∷ 57 ∷ 57 ∷ 57 ∷ 57 ∷ 57 ∷ 57 ∷ 57 ∷ 120 ∷ []) ≡ 10 ∷ 31 ∷ []
unfolding bytes dec_lt one_of digit same kind_of values_of decimal global_fields stream_fields position_fields run stop section_total lines_total line_total reads_total text_total number_total flag_total pair_total list_total items_total onward stopped led_total at_dec ends_dec repeats_dec named_dec mapped unknown_total
case_33 = refl

case_34 : said position_fields (68 ∷ 85 ∷ 82 ∷ 65 ∷ 84 ∷ 73 ∷ 79 ∷ 78 ∷ 95 ∷ 84 ∷ 82 ∷ 69 ∷ 69 ∷ 58 ∷ 50 ∷ 45 ∷ 51 ∷ 10 ∷ 83 ∷ 84 ∷ 82 ∷ 69 ∷ 65 ∷ 77 ∷ 95 ∷ 87 ∷ 73 ∷ 78 ∷ 91 ∷ 77 ∷ 93 ∷ 58 ∷ 195 ∷ 169 ∷ []) ≡ 0 ∷ 2 ∷ []
unfolding bytes dec_lt one_of digit same kind_of values_of decimal global_fields stream_fields position_fields run stop section_total lines_total line_total reads_total text_total number_total flag_total pair_total list_total items_total onward stopped led_total at_dec ends_dec repeats_dec named_dec mapped unknown_total
case_34 = refl

case_35 : said position_fields (83 ∷ 84 ∷ 82 ∷ 69 ∷ 65 ∷ 77 ∷ 95 ∷ 80 ∷ 68 ∷ 70 ∷ 91 ∷ 77 ∷ 93 ∷ 58 ∷ 54 ∷ 45 ∷ 55 ∷ 10 ∷ 83 ∷ 84 ∷ 82 ∷ 69 ∷ 65 ∷ 77 ∷ 95 ∷ 87 ∷ 73 ∷ 78 ∷ 91 ∷ 77 ∷ 93 ∷ 58 ∷ 52 ∷ 45 ∷ 53 ∷ 10 ∷ 68 ∷ 85 ∷ 82 ∷ 65 ∷ 84 ∷ 73 ∷ 79 ∷ 78 ∷ 95 ∷ 80 ∷ 68 ∷ 70 ∷ 58 ∷ 48 ∷ 45 ∷ 49 ∷ []) ≡ 0 ∷ 3 ∷ []
unfolding bytes dec_lt one_of digit same kind_of values_of decimal global_fields stream_fields position_fields run stop section_total lines_total line_total reads_total text_total number_total flag_total pair_total list_total items_total onward stopped led_total at_dec ends_dec repeats_dec named_dec mapped unknown_total
case_35 = refl

case_36 : said position_fields (68 ∷ 85 ∷ 82 ∷ 65 ∷ 84 ∷ 73 ∷ 79 ∷ 78 ∷ 95 ∷ 84 ∷ 82 ∷ 69 ∷ 69 ∷ 58 ∷ 50 ∷ 45 ∷ 51 ∷ 10 ∷ 68 ∷ 85 ∷ 82 ∷ 65 ∷ 84 ∷ 73 ∷ 79 ∷ 78 ∷ 95 ∷ 80 ∷ 68 ∷ 70 ∷ 58 ∷ 48 ∷ 45 ∷ 49 ∷ []) ≡ 0 ∷ 2 ∷ []
unfolding bytes dec_lt one_of digit same kind_of values_of decimal global_fields stream_fields position_fields run stop section_total lines_total line_total reads_total text_total number_total flag_total pair_total list_total items_total onward stopped led_total at_dec ends_dec repeats_dec named_dec mapped unknown_total
case_36 = refl

case_37 : said position_fields (68 ∷ 85 ∷ 82 ∷ 65 ∷ 84 ∷ 73 ∷ 79 ∷ 78 ∷ 95 ∷ 80 ∷ 68 ∷ 70 ∷ 58 ∷ 48 ∷ 45 ∷ 49 ∷ 10 ∷ 71 ∷ 86 ∷ 95 ∷ 80 ∷ 68 ∷ 70 ∷ 91 ∷ 76 ∷ 93 ∷ 32 ∷ 58 ∷ 13 ∷ []) ≡ 0 ∷ 2 ∷ []
unfolding bytes dec_lt one_of digit same kind_of values_of decimal global_fields stream_fields position_fields run stop section_total lines_total line_total reads_total text_total number_total flag_total pair_total list_total items_total onward stopped led_total at_dec ends_dec repeats_dec named_dec mapped unknown_total
case_37 = refl

case_38 : said position_fields (83 ∷ 84 ∷ 82 ∷ 69 ∷ 65 ∷ 77 ∷ 95 ∷ 87 ∷ 73 ∷ 78 ∷ 91 ∷ 77 ∷ 93 ∷ 58 ∷ 52 ∷ 45 ∷ 53 ∷ 10 ∷ 83 ∷ 84 ∷ 82 ∷ 69 ∷ 65 ∷ 77 ∷ 95 ∷ 80 ∷ 68 ∷ 70 ∷ 91 ∷ 77 ∷ 93 ∷ 58 ∷ 54 ∷ 45 ∷ 55 ∷ []) ≡ 0 ∷ 2 ∷ []
unfolding bytes dec_lt one_of digit same kind_of values_of decimal global_fields stream_fields position_fields run stop section_total lines_total line_total reads_total text_total number_total flag_total pair_total list_total items_total onward stopped led_total at_dec ends_dec repeats_dec named_dec mapped unknown_total
case_38 = refl

case_39 : said position_fields ([]) ≡ 0 ∷ 0 ∷ []
unfolding bytes dec_lt one_of digit same kind_of values_of decimal global_fields stream_fields position_fields run stop section_total lines_total line_total reads_total text_total number_total flag_total pair_total list_total items_total onward stopped led_total at_dec ends_dec repeats_dec named_dec mapped unknown_total
case_39 = refl

case_40 : said position_fields (10 ∷ 83 ∷ 84 ∷ 82 ∷ 69 ∷ 65 ∷ 77 ∷ 95 ∷ 80 ∷ 68 ∷ 70 ∷ 91 ∷ 77 ∷ 93 ∷ 58 ∷ 54 ∷ 45 ∷ 55 ∷ []) ≡ 0 ∷ 1 ∷ []
unfolding bytes dec_lt one_of digit same kind_of values_of decimal global_fields stream_fields position_fields run stop section_total lines_total line_total reads_total text_total number_total flag_total pair_total list_total items_total onward stopped led_total at_dec ends_dec repeats_dec named_dec mapped unknown_total
case_40 = refl

case_41 : said position_fields (83 ∷ 84 ∷ 82 ∷ 69 ∷ 65 ∷ 77 ∷ 95 ∷ 87 ∷ 73 ∷ 78 ∷ 91 ∷ 77 ∷ 93 ∷ 58 ∷ 52 ∷ 45 ∷ 53 ∷ 10 ∷ 83 ∷ 84 ∷ 82 ∷ 69 ∷ 65 ∷ 77 ∷ 95 ∷ 84 ∷ 82 ∷ 69 ∷ 69 ∷ 91 ∷ 77 ∷ 93 ∷ 58 ∷ 48 ∷ 48 ∷ 55 ∷ 48 ∷ 49 ∷ 56 ∷ 52 ∷ 52 ∷ 54 ∷ 55 ∷ 52 ∷ 52 ∷ 48 ∷ 55 ∷ 51 ∷ 55 ∷ 48 ∷ 57 ∷ 53 ∷ 53 ∷ 49 ∷ 54 ∷ 49 ∷ 53 ∷ 10 ∷ 83 ∷ 84 ∷ 82 ∷ 69 ∷ 65 ∷ 77 ∷ 95 ∷ 84 ∷ 82 ∷ 69 ∷ 69 ∷ 91 ∷ 77 ∷ 93 ∷ 58 ∷ 56 ∷ 45 ∷ 57 ∷ []) ≡ 0 ∷ 3 ∷ []
unfolding bytes dec_lt one_of digit same kind_of values_of decimal global_fields stream_fields position_fields run stop section_total lines_total line_total reads_total text_total number_total flag_total pair_total list_total items_total onward stopped led_total at_dec ends_dec repeats_dec named_dec mapped unknown_total
case_41 = refl

case_42 : said position_fields (83 ∷ 84 ∷ 82 ∷ 69 ∷ 65 ∷ 77 ∷ 95 ∷ 80 ∷ 68 ∷ 70 ∷ 91 ∷ 77 ∷ 93 ∷ 32 ∷ 58 ∷ 48 ∷ 48 ∷ 55 ∷ 91 ∷ 10 ∷ 83 ∷ 84 ∷ 82 ∷ 69 ∷ 65 ∷ 77 ∷ 95 ∷ 87 ∷ 73 ∷ 78 ∷ 91 ∷ 77 ∷ 93 ∷ 58 ∷ 52 ∷ 45 ∷ 53 ∷ 10 ∷ 83 ∷ 84 ∷ 82 ∷ 69 ∷ 65 ∷ 77 ∷ 95 ∷ 84 ∷ 82 ∷ 69 ∷ 69 ∷ 91 ∷ 77 ∷ 93 ∷ 58 ∷ 56 ∷ 45 ∷ 57 ∷ []) ≡ 0 ∷ 3 ∷ []
unfolding bytes dec_lt one_of digit same kind_of values_of decimal global_fields stream_fields position_fields run stop section_total lines_total line_total reads_total text_total number_total flag_total pair_total list_total items_total onward stopped led_total at_dec ends_dec repeats_dec named_dec mapped unknown_total
case_42 = refl

case_43 : said position_fields (83 ∷ 84 ∷ 82 ∷ 69 ∷ 65 ∷ 77 ∷ 95 ∷ 80 ∷ 68 ∷ 70 ∷ 91 ∷ 77 ∷ 93 ∷ 58 ∷ 54 ∷ 45 ∷ 55 ∷ 10 ∷ 68 ∷ 85 ∷ 82 ∷ 65 ∷ 84 ∷ 73 ∷ 79 ∷ 78 ∷ 95 ∷ 84 ∷ 82 ∷ 69 ∷ 69 ∷ 58 ∷ 50 ∷ 45 ∷ 51 ∷ 10 ∷ 70 ∷ 79 ∷ 79 ∷ 58 ∷ 13 ∷ []) ≡ 0 ∷ 3 ∷ []
unfolding bytes dec_lt one_of digit same kind_of values_of decimal global_fields stream_fields position_fields run stop section_total lines_total line_total reads_total text_total number_total flag_total pair_total list_total items_total onward stopped led_total at_dec ends_dec repeats_dec named_dec mapped unknown_total
case_43 = refl

case_44 : said position_fields (83 ∷ 84 ∷ 82 ∷ 69 ∷ 65 ∷ 77 ∷ 95 ∷ 80 ∷ 68 ∷ 70 ∷ 91 ∷ 77 ∷ 93 ∷ 58 ∷ 54 ∷ 45 ∷ 55 ∷ 10 ∷ []) ≡ 0 ∷ 1 ∷ []
unfolding bytes dec_lt one_of digit same kind_of values_of decimal global_fields stream_fields position_fields run stop section_total lines_total line_total reads_total text_total number_total flag_total pair_total list_total items_total onward stopped led_total at_dec ends_dec repeats_dec named_dec mapped unknown_total
case_44 = refl

case_45 : said position_fields (68 ∷ 85 ∷ 82 ∷ 65 ∷ 84 ∷ 73 ∷ 79 ∷ 78 ∷ 95 ∷ 84 ∷ 82 ∷ 69 ∷ 69 ∷ 58 ∷ 50 ∷ 45 ∷ 51 ∷ 10 ∷ 83 ∷ 84 ∷ 82 ∷ 69 ∷ 65 ∷ 77 ∷ 95 ∷ 84 ∷ 82 ∷ 69 ∷ 69 ∷ 91 ∷ 77 ∷ 93 ∷ 58 ∷ 195 ∷ 169 ∷ 58 ∷ []) ≡ 0 ∷ 2 ∷ []
unfolding bytes dec_lt one_of digit same kind_of values_of decimal global_fields stream_fields position_fields run stop section_total lines_total line_total reads_total text_total number_total flag_total pair_total list_total items_total onward stopped led_total at_dec ends_dec repeats_dec named_dec mapped unknown_total
case_45 = refl
