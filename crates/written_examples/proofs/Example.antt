-- A small whole file that says its record.
use mathlib.Core.Path.{refl}
use mathlib.Core.Bool.{false}
use mathlib.Core.Option.{some, none as nothing}
use mathlib.Core.List.{List, [], ◌∷◌}
use Prim.Native.Nat.{ℕ}
use lib.ListN.{length}
use borrow.Author.Tests.{leb-true}
use Rattle.written.specs.Bytes.{bytes, newline, comma, dash, colon, digit, is_newline, one_of, same, part, decimal}
use Rattle.written.specs.Sections.{Parts, Sections}
use Rattle.written.specs.HeaderText.{zero, swallowed, plain, Many, none, more, full, text, number, flag, texts, range, ranges, perhaps, unread, is_string, is_number, is_bool, are_strings, is_pair, are_pairs, is_absent, is_unknown, kind_of, Entry, values_of, NextLine, Section}
use Rattle.written.specs.Groups.{Row, Rows, grouped, dropped, of_group, of_others, Group, next, alone, Alone, Entries}
use Rattle.written.specs.Groups as H
use Rattle.written.specs.Record.{Global, Stream, Position, Header, global_fields, stream_fields, stream_group, position_fields, position_group, missing, there, up_to, GroupsOf, GlobalText, StreamText, PositionText, file_limit, Says}
use Rattle.written.specs.Record as K
use Rattle.written.proofs.Tests.{here, absent, each, ends, goes_on, span, bare_text, quoted_text, unknown, number_at, distinct, unbracketed, ascii, up_to_lem}

abbrev file : List ℕ
file = bytes "\n[GLOBAL]\nHTS_VOICE_VERSION:1.0\nSAMPLING_FREQUENCY:48000\n\nFRAME_PERIOD:240\nNUM_STATES:5\nNUM_STREAMS:1\nSTREAM_TYPE:M\nFULLCONTEXT_FORMAT:F\nFULLCONTEXT_VERSION:\"1.0\"\nOTHER:x\nCOMMENT:\n[STREAM]\nVECTOR_LENGTH[M]:35x\nNUM_WINDOWS[M]:3\nIS_MSD[M]:0\n[POSITION]\nDURATION_PDF:0-1\nDURATION_TREE:-2-3\nSTREAM_WIN[M]:4-5\nSTREAM_PDF[M]:6-7\nSTREAM_TREE[M]:8-9\nGV_PDF[M]:\n[DATA]\nxyz"

abbrev global_text : List ℕ
global_text = up_to file (span 10 169)

abbrev global_entry_1 : Entry
global_entry_1 = record { at = 10; name = bytes "HTS_VOICE_VERSION"; value = text (span 28 3) }

abbrev global_entry_2 : Entry
global_entry_2 = record { at = 32; name = bytes "SAMPLING_FREQUENCY"; value = number 48000 }

abbrev global_entry_3 : Entry
global_entry_3 = record { at = 58; name = bytes "FRAME_PERIOD"; value = number 240 }

abbrev global_entry_4 : Entry
global_entry_4 = record { at = 75; name = bytes "NUM_STATES"; value = number 5 }

abbrev global_entry_5 : Entry
global_entry_5 = record { at = 88; name = bytes "NUM_STREAMS"; value = number 1 }

abbrev global_entry_6 : Entry
global_entry_6 = record { at = 102; name = bytes "STREAM_TYPE"; value = texts ((span 114 1) ∷ []) }

abbrev global_entry_7 : Entry
global_entry_7 = record { at = 116; name = bytes "FULLCONTEXT_FORMAT"; value = text (span 135 1) }

abbrev global_entry_8 : Entry
global_entry_8 = record { at = 137; name = bytes "FULLCONTEXT_VERSION"; value = text (span 158 3) }

abbrev global_entry_9 : Entry
global_entry_9 = record { at = 163; name = bytes "OTHER"; value = unread (span 169 1) }

abbrev global_entry_10 : Entry
global_entry_10 = record { at = 171; name = bytes "COMMENT"; value = text (span 179 0) }

global_10 : Many (NextLine global_fields global_text) 170 (global_entry_10 ∷ []) 179
unfolding bytes one_of digit same kind_of values_of decimal global_fields stream_fields stream_group position_fields position_group of_group of_others
global_10 =
    more {a = global_entry_10} {l = []}
    (record {
      k = 171;
      blank = each is_newline global_text 170 1 refl;
      line = record { k = 178; key = (record { len = 7; string = (bare_text (newline ∷ colon ∷ []) global_text 171 7 refl); bytes_of = refl }); split = here global_text 178 colon refl; value = is_string (bare_text (newline ∷ []) global_text 179 0 refl) };
      ends = ends is_newline global_text 179 refl;
    })
    none

global_9 : Many (NextLine global_fields global_text) 162 (global_entry_9 ∷ global_entry_10 ∷ []) 179
unfolding bytes one_of digit same kind_of values_of decimal global_fields stream_fields stream_group position_fields position_group of_group of_others
global_9 =
    more {a = global_entry_9} {l = global_entry_10 ∷ []}
    (record {
      k = 163;
      blank = each is_newline global_text 162 1 refl;
      line = record { k = 168; key = (record { len = 5; string = (bare_text (newline ∷ colon ∷ []) global_text 163 5 refl); bytes_of = refl }); split = here global_text 168 colon refl; value = is_unknown (unknown (newline ∷ []) global_text 169 1 refl) };
      ends = ends is_newline global_text 170 refl;
    })
    global_10

global_8 : Many (NextLine global_fields global_text) 136 (global_entry_8 ∷ global_entry_9 ∷ global_entry_10 ∷ []) 179
unfolding bytes one_of digit same kind_of values_of decimal global_fields stream_fields stream_group position_fields position_group of_group of_others
global_8 =
    more {a = global_entry_8} {l = global_entry_9 ∷ global_entry_10 ∷ []}
    (record {
      k = 137;
      blank = each is_newline global_text 136 1 refl;
      line = record { k = 156; key = (record { len = 19; string = (bare_text (newline ∷ colon ∷ []) global_text 137 19 refl); bytes_of = refl }); split = here global_text 156 colon refl; value = is_string (quoted_text (newline ∷ []) global_text 157 3 refl) };
      ends = ends is_newline global_text 162 refl;
    })
    global_9

global_7 : Many (NextLine global_fields global_text) 115 (global_entry_7 ∷ global_entry_8 ∷ global_entry_9 ∷ global_entry_10 ∷ []) 179
unfolding bytes one_of digit same kind_of values_of decimal global_fields stream_fields stream_group position_fields position_group of_group of_others
global_7 =
    more {a = global_entry_7} {l = global_entry_8 ∷ global_entry_9 ∷ global_entry_10 ∷ []}
    (record {
      k = 116;
      blank = each is_newline global_text 115 1 refl;
      line = record { k = 134; key = (record { len = 18; string = (bare_text (newline ∷ colon ∷ []) global_text 116 18 refl); bytes_of = refl }); split = here global_text 134 colon refl; value = is_string (bare_text (newline ∷ []) global_text 135 1 refl) };
      ends = ends is_newline global_text 136 refl;
    })
    global_8

global_6 : Many (NextLine global_fields global_text) 101 (global_entry_6 ∷ global_entry_7 ∷ global_entry_8 ∷ global_entry_9 ∷ global_entry_10 ∷ []) 179
unfolding bytes one_of digit same kind_of values_of decimal global_fields stream_fields stream_group position_fields position_group of_group of_others
global_6 =
    more {a = global_entry_6} {l = global_entry_7 ∷ global_entry_8 ∷ global_entry_9 ∷ global_entry_10 ∷ []}
    (record {
      k = 102;
      blank = each is_newline global_text 101 1 refl;
      line = record { k = 113; key = (record { len = 11; string = (bare_text (newline ∷ colon ∷ []) global_text 102 11 refl); bytes_of = refl }); split = here global_text 113 colon refl; value = are_strings (full (goes_on (one_of (newline ∷ [])) global_text 114 refl refl) (plain (absent global_text 114 comma refl) refl) none (bare_text (comma ∷ newline ∷ []) global_text 114 1 refl) (ends (one_of (newline ∷ [])) global_text 115 refl)) };
      ends = ends is_newline global_text 115 refl;
    })
    global_7

global_5 : Many (NextLine global_fields global_text) 87 (global_entry_5 ∷ global_entry_6 ∷ global_entry_7 ∷ global_entry_8 ∷ global_entry_9 ∷ global_entry_10 ∷ []) 179
unfolding bytes one_of digit same kind_of values_of decimal global_fields stream_fields stream_group position_fields position_group of_group of_others
global_5 =
    more {a = global_entry_5} {l = global_entry_6 ∷ global_entry_7 ∷ global_entry_8 ∷ global_entry_9 ∷ global_entry_10 ∷ []}
    (record {
      k = 88;
      blank = each is_newline global_text 87 1 refl;
      line = record { k = 99; key = (record { len = 11; string = (bare_text (newline ∷ colon ∷ []) global_text 88 11 refl); bytes_of = refl }); split = here global_text 99 colon refl; value = is_number (number_at global_text 100 1 1 refl) };
      ends = ends is_newline global_text 101 refl;
    })
    global_6

global_4 : Many (NextLine global_fields global_text) 74 (global_entry_4 ∷ global_entry_5 ∷ global_entry_6 ∷ global_entry_7 ∷ global_entry_8 ∷ global_entry_9 ∷ global_entry_10 ∷ []) 179
unfolding bytes one_of digit same kind_of values_of decimal global_fields stream_fields stream_group position_fields position_group of_group of_others
global_4 =
    more {a = global_entry_4} {l = global_entry_5 ∷ global_entry_6 ∷ global_entry_7 ∷ global_entry_8 ∷ global_entry_9 ∷ global_entry_10 ∷ []}
    (record {
      k = 75;
      blank = each is_newline global_text 74 1 refl;
      line = record { k = 85; key = (record { len = 10; string = (bare_text (newline ∷ colon ∷ []) global_text 75 10 refl); bytes_of = refl }); split = here global_text 85 colon refl; value = is_number (number_at global_text 86 1 5 refl) };
      ends = ends is_newline global_text 87 refl;
    })
    global_5

global_3 : Many (NextLine global_fields global_text) 56 (global_entry_3 ∷ global_entry_4 ∷ global_entry_5 ∷ global_entry_6 ∷ global_entry_7 ∷ global_entry_8 ∷ global_entry_9 ∷ global_entry_10 ∷ []) 179
unfolding bytes one_of digit same kind_of values_of decimal global_fields stream_fields stream_group position_fields position_group of_group of_others
global_3 =
    more {a = global_entry_3} {l = global_entry_4 ∷ global_entry_5 ∷ global_entry_6 ∷ global_entry_7 ∷ global_entry_8 ∷ global_entry_9 ∷ global_entry_10 ∷ []}
    (record {
      k = 58;
      blank = each is_newline global_text 56 2 refl;
      line = record { k = 70; key = (record { len = 12; string = (bare_text (newline ∷ colon ∷ []) global_text 58 12 refl); bytes_of = refl }); split = here global_text 70 colon refl; value = is_number (number_at global_text 71 3 240 refl) };
      ends = ends is_newline global_text 74 refl;
    })
    global_4

global_2 : Many (NextLine global_fields global_text) 31 (global_entry_2 ∷ global_entry_3 ∷ global_entry_4 ∷ global_entry_5 ∷ global_entry_6 ∷ global_entry_7 ∷ global_entry_8 ∷ global_entry_9 ∷ global_entry_10 ∷ []) 179
unfolding bytes one_of digit same kind_of values_of decimal global_fields stream_fields stream_group position_fields position_group of_group of_others
global_2 =
    more {a = global_entry_2} {l = global_entry_3 ∷ global_entry_4 ∷ global_entry_5 ∷ global_entry_6 ∷ global_entry_7 ∷ global_entry_8 ∷ global_entry_9 ∷ global_entry_10 ∷ []}
    (record {
      k = 32;
      blank = each is_newline global_text 31 1 refl;
      line = record { k = 50; key = (record { len = 18; string = (bare_text (newline ∷ colon ∷ []) global_text 32 18 refl); bytes_of = refl }); split = here global_text 50 colon refl; value = is_number (number_at global_text 51 5 48000 refl) };
      ends = ends is_newline global_text 56 refl;
    })
    global_3

global_1 : Many (NextLine global_fields global_text) 10 (global_entry_1 ∷ global_entry_2 ∷ global_entry_3 ∷ global_entry_4 ∷ global_entry_5 ∷ global_entry_6 ∷ global_entry_7 ∷ global_entry_8 ∷ global_entry_9 ∷ global_entry_10 ∷ []) 179
unfolding bytes one_of digit same kind_of values_of decimal global_fields stream_fields stream_group position_fields position_group of_group of_others
global_1 =
    more {a = global_entry_1} {l = global_entry_2 ∷ global_entry_3 ∷ global_entry_4 ∷ global_entry_5 ∷ global_entry_6 ∷ global_entry_7 ∷ global_entry_8 ∷ global_entry_9 ∷ global_entry_10 ∷ []}
    (record {
      k = 10;
      blank = each is_newline global_text 10 0 refl;
      line = record { k = 27; key = (record { len = 17; string = (bare_text (newline ∷ colon ∷ []) global_text 10 17 refl); bytes_of = refl }); split = here global_text 27 colon refl; value = is_string (bare_text (newline ∷ []) global_text 28 3 refl) };
      ends = ends is_newline global_text 31 refl;
    })
    global_2

global_section : Section global_fields global_text 10 (global_entry_1 ∷ global_entry_2 ∷ global_entry_3 ∷ global_entry_4 ∷ global_entry_5 ∷ global_entry_6 ∷ global_entry_7 ∷ global_entry_8 ∷ global_entry_9 ∷ global_entry_10 ∷ [])
unfolding bytes one_of digit same kind_of values_of decimal global_fields stream_fields stream_group position_fields position_group of_group of_others
global_section = record { k = 179; lines = global_1; blank = each is_newline global_text 179 0 refl; distinct = distinct global_fields (global_entry_1 ∷ global_entry_2 ∷ global_entry_3 ∷ global_entry_4 ∷ global_entry_5 ∷ global_entry_6 ∷ global_entry_7 ∷ global_entry_8 ∷ global_entry_9 ∷ global_entry_10 ∷ []) refl }

abbrev global : Global
global =
    record {
      hts_voice_version = (span 28 3);
      sampling_frequency = 48000;
      frame_period = 240;
      num_states = 5;
      num_streams = 1;
      stream_type = ((span 114 1) ∷ []);
      fullcontext_format = (span 135 1);
      fullcontext_version = (span 158 3);
      gv_off_context = ([]);
      comment = some (span 179 0);
    }

global_says : GlobalText file (span 10 169) global
unfolding bytes one_of digit same kind_of values_of decimal global_fields stream_fields stream_group position_fields position_group of_group of_others
global_says =
    record {
      xs = global_entry_1 ∷ global_entry_2 ∷ global_entry_3 ∷ global_entry_4 ∷ global_entry_5 ∷ global_entry_6 ∷ global_entry_7 ∷ global_entry_8 ∷ global_entry_9 ∷ global_entry_10 ∷ [];
      utf8 = ascii (part file 10 169) refl;
      lines = global_section;
      says =
          record {
            hts_voice_version = record { value = refl };
            sampling_frequency = record { value = refl };
            frame_period = record { value = refl };
            num_states = record { value = refl };
            num_streams = record { value = refl };
            stream_type = record { value = refl };
            fullcontext_format = record { value = refl };
            fullcontext_version = record { value = refl };
            gv_off_context = missing refl refl;
            comment = there (span 179 0) refl refl;
          };
    }

abbrev stream_text : List ℕ
stream_text = up_to file (span 189 49)

abbrev stream_entry_1 : Entry
stream_entry_1 = record { at = 189; name = bytes "VECTOR_LENGTH[M]"; value = unread (span 206 3) }

abbrev stream_entry_2 : Entry
stream_entry_2 = record { at = 210; name = bytes "NUM_WINDOWS[M]"; value = unread (span 225 1) }

abbrev stream_entry_3 : Entry
stream_entry_3 = record { at = 227; name = bytes "IS_MSD[M]"; value = unread (span 237 1) }

stream_3 : Many (NextLine stream_fields stream_text) 226 (stream_entry_3 ∷ []) 238
unfolding bytes one_of digit same kind_of values_of decimal global_fields stream_fields stream_group position_fields position_group of_group of_others
stream_3 =
    more {a = stream_entry_3} {l = []}
    (record {
      k = 227;
      blank = each is_newline stream_text 226 1 refl;
      line = record { k = 236; key = (record { len = 9; string = (bare_text (newline ∷ colon ∷ []) stream_text 227 9 refl); bytes_of = refl }); split = here stream_text 236 colon refl; value = is_unknown (unknown (newline ∷ []) stream_text 237 1 refl) };
      ends = ends is_newline stream_text 238 refl;
    })
    none

stream_2 : Many (NextLine stream_fields stream_text) 209 (stream_entry_2 ∷ stream_entry_3 ∷ []) 238
unfolding bytes one_of digit same kind_of values_of decimal global_fields stream_fields stream_group position_fields position_group of_group of_others
stream_2 =
    more {a = stream_entry_2} {l = stream_entry_3 ∷ []}
    (record {
      k = 210;
      blank = each is_newline stream_text 209 1 refl;
      line = record { k = 224; key = (record { len = 14; string = (bare_text (newline ∷ colon ∷ []) stream_text 210 14 refl); bytes_of = refl }); split = here stream_text 224 colon refl; value = is_unknown (unknown (newline ∷ []) stream_text 225 1 refl) };
      ends = ends is_newline stream_text 226 refl;
    })
    stream_3

stream_1 : Many (NextLine stream_fields stream_text) 189 (stream_entry_1 ∷ stream_entry_2 ∷ stream_entry_3 ∷ []) 238
unfolding bytes one_of digit same kind_of values_of decimal global_fields stream_fields stream_group position_fields position_group of_group of_others
stream_1 =
    more {a = stream_entry_1} {l = stream_entry_2 ∷ stream_entry_3 ∷ []}
    (record {
      k = 189;
      blank = each is_newline stream_text 189 0 refl;
      line = record { k = 205; key = (record { len = 16; string = (bare_text (newline ∷ colon ∷ []) stream_text 189 16 refl); bytes_of = refl }); split = here stream_text 205 colon refl; value = is_unknown (unknown (newline ∷ []) stream_text 206 3 refl) };
      ends = ends is_newline stream_text 209 refl;
    })
    stream_2

stream_section : Section stream_fields stream_text 189 (stream_entry_1 ∷ stream_entry_2 ∷ stream_entry_3 ∷ [])
unfolding bytes one_of digit same kind_of values_of decimal global_fields stream_fields stream_group position_fields position_group of_group of_others
stream_section = record { k = 238; lines = stream_1; blank = each is_newline stream_text 238 0 refl; distinct = distinct stream_fields (stream_entry_1 ∷ stream_entry_2 ∷ stream_entry_3 ∷ []) refl }

abbrev stream_row_1 : Row
stream_row_1 = record { at = 189; field = bytes "VECTOR_LENGTH"; group = bytes "M"; value = span 206 3 }

abbrev stream_row_2 : Row
stream_row_2 = record { at = 210; field = bytes "NUM_WINDOWS"; group = bytes "M"; value = span 225 1 }

abbrev stream_row_3 : Row
stream_row_3 = record { at = 227; field = bytes "IS_MSD"; group = bytes "M"; value = span 237 1 }

abbrev stream_m : Group
stream_m = record { name = span 203 1; rows = stream_row_1 ∷ stream_row_2 ∷ stream_row_3 ∷ [] }

stream_rows : Rows (stream_entry_1 ∷ stream_entry_2 ∷ stream_entry_3 ∷ []) (stream_row_1 ∷ stream_row_2 ∷ stream_row_3 ∷ [])
unfolding bytes one_of digit same kind_of values_of decimal global_fields stream_fields stream_group position_fields position_group of_group of_others
stream_rows = grouped (record { whole = refl; first = refl }) (grouped (record { whole = refl; first = refl }) (grouped (record { whole = refl; first = refl }) Rows.end))

stream_groups : GroupsOf (stream_entry_1 ∷ stream_entry_2 ∷ stream_entry_3 ∷ []) (stream_m ∷ [])
unfolding bytes one_of digit same kind_of values_of decimal global_fields stream_fields stream_group position_fields position_group of_group of_others
stream_groups = record { rows = stream_row_1 ∷ stream_row_2 ∷ stream_row_3 ∷ []; of_lines = stream_rows; by_name = next H.Grouped.end }

abbrev stream_says_1 : Entry
stream_says_1 = record { at = 189; name = bytes "VECTOR_LENGTH"; value = number 35 }

stream_read_1 : Alone stream_group stream_text stream_row_1 stream_says_1
unfolding bytes one_of digit same kind_of values_of decimal global_fields stream_fields stream_group position_fields position_group of_group of_others
stream_read_1 = record { j = 208; at = refl; name = refl; value = is_number (number_at (alone stream_text stream_row_1) 206 2 35 refl) }

abbrev stream_says_2 : Entry
stream_says_2 = record { at = 210; name = bytes "NUM_WINDOWS"; value = number 3 }

stream_read_2 : Alone stream_group stream_text stream_row_2 stream_says_2
unfolding bytes one_of digit same kind_of values_of decimal global_fields stream_fields stream_group position_fields position_group of_group of_others
stream_read_2 = record { j = 226; at = refl; name = refl; value = is_number (number_at (alone stream_text stream_row_2) 225 1 3 refl) }

abbrev stream_says_3 : Entry
stream_says_3 = record { at = 227; name = bytes "IS_MSD"; value = flag false }

stream_read_3 : Alone stream_group stream_text stream_row_3 stream_says_3
unfolding bytes one_of digit same kind_of values_of decimal global_fields stream_fields stream_group position_fields position_group of_group of_others
stream_read_3 = record { j = 238; at = refl; name = refl; value = is_bool (zero (here (alone stream_text stream_row_3) 237 48 refl) refl refl) }

stream_entries : Entries stream_group stream_text (stream_row_1 ∷ stream_row_2 ∷ stream_row_3 ∷ []) (stream_says_1 ∷ stream_says_2 ∷ stream_says_3 ∷ [])
unfolding bytes one_of digit same kind_of values_of decimal global_fields stream_fields stream_group position_fields position_group of_group of_others
stream_entries = record { says = H.Pointwise.more stream_read_1 (H.Pointwise.more stream_read_2 (H.Pointwise.more stream_read_3 (H.Pointwise.none))); distinct = distinct stream_group (stream_says_1 ∷ stream_says_2 ∷ stream_says_3 ∷ []) refl }

abbrev streams : List Stream
streams = record { name = span 203 1; vector_length = 35; num_windows = 3; is_msd = false; use_gv = false; option = [] } ∷ []

streams_say : StreamText file (span 189 49) streams
unfolding bytes one_of digit same kind_of values_of decimal global_fields stream_fields stream_group position_fields position_group of_group of_others
streams_say =
    record {
      xs = stream_entry_1 ∷ stream_entry_2 ∷ stream_entry_3 ∷ [];
      gs = stream_m ∷ [];
      utf8 = ascii (part file 189 49) refl;
      lines = stream_section;
      groups = stream_groups;
      say = H.Pointwise.more (record { xs = stream_says_1 ∷ stream_says_2 ∷ stream_says_3 ∷ []; entries = stream_entries; says = (refl, record { vector_length = record { value = refl }; num_windows = record { value = refl }; is_msd = record { value = refl }; use_gv = missing refl refl; option = missing refl refl }) }) H.Pointwise.none;
    }

abbrev position_text : List ℕ
position_text = up_to file (span 250 101)

abbrev position_entry_1 : Entry
position_entry_1 = record { at = 250; name = bytes "DURATION_PDF"; value = range (record { from = 0; to = 1 }) }

abbrev position_entry_2 : Entry
position_entry_2 = record { at = 267; name = bytes "DURATION_TREE"; value = range (record { from = 2; to = 3 }) }

abbrev position_entry_3 : Entry
position_entry_3 = record { at = 286; name = bytes "STREAM_WIN[M]"; value = unread (span 300 3) }

abbrev position_entry_4 : Entry
position_entry_4 = record { at = 304; name = bytes "STREAM_PDF[M]"; value = unread (span 318 3) }

abbrev position_entry_5 : Entry
position_entry_5 = record { at = 322; name = bytes "STREAM_TREE[M]"; value = unread (span 337 3) }

abbrev position_entry_6 : Entry
position_entry_6 = record { at = 341; name = bytes "GV_PDF[M]"; value = unread (span 351 0) }

position_6 : Many (NextLine position_fields position_text) 340 (position_entry_6 ∷ []) 351
unfolding bytes one_of digit same kind_of values_of decimal global_fields stream_fields stream_group position_fields position_group of_group of_others
position_6 =
    more {a = position_entry_6} {l = []}
    (record {
      k = 341;
      blank = each is_newline position_text 340 1 refl;
      line = record { k = 350; key = (record { len = 9; string = (bare_text (newline ∷ colon ∷ []) position_text 341 9 refl); bytes_of = refl }); split = here position_text 350 colon refl; value = is_unknown (unknown (newline ∷ []) position_text 351 0 refl) };
      ends = ends is_newline position_text 351 refl;
    })
    none

position_5 : Many (NextLine position_fields position_text) 321 (position_entry_5 ∷ position_entry_6 ∷ []) 351
unfolding bytes one_of digit same kind_of values_of decimal global_fields stream_fields stream_group position_fields position_group of_group of_others
position_5 =
    more {a = position_entry_5} {l = position_entry_6 ∷ []}
    (record {
      k = 322;
      blank = each is_newline position_text 321 1 refl;
      line = record { k = 336; key = (record { len = 14; string = (bare_text (newline ∷ colon ∷ []) position_text 322 14 refl); bytes_of = refl }); split = here position_text 336 colon refl; value = is_unknown (unknown (newline ∷ []) position_text 337 3 refl) };
      ends = ends is_newline position_text 340 refl;
    })
    position_6

position_4 : Many (NextLine position_fields position_text) 303 (position_entry_4 ∷ position_entry_5 ∷ position_entry_6 ∷ []) 351
unfolding bytes one_of digit same kind_of values_of decimal global_fields stream_fields stream_group position_fields position_group of_group of_others
position_4 =
    more {a = position_entry_4} {l = position_entry_5 ∷ position_entry_6 ∷ []}
    (record {
      k = 304;
      blank = each is_newline position_text 303 1 refl;
      line = record { k = 317; key = (record { len = 13; string = (bare_text (newline ∷ colon ∷ []) position_text 304 13 refl); bytes_of = refl }); split = here position_text 317 colon refl; value = is_unknown (unknown (newline ∷ []) position_text 318 3 refl) };
      ends = ends is_newline position_text 321 refl;
    })
    position_5

position_3 : Many (NextLine position_fields position_text) 285 (position_entry_3 ∷ position_entry_4 ∷ position_entry_5 ∷ position_entry_6 ∷ []) 351
unfolding bytes one_of digit same kind_of values_of decimal global_fields stream_fields stream_group position_fields position_group of_group of_others
position_3 =
    more {a = position_entry_3} {l = position_entry_4 ∷ position_entry_5 ∷ position_entry_6 ∷ []}
    (record {
      k = 286;
      blank = each is_newline position_text 285 1 refl;
      line = record { k = 299; key = (record { len = 13; string = (bare_text (newline ∷ colon ∷ []) position_text 286 13 refl); bytes_of = refl }); split = here position_text 299 colon refl; value = is_unknown (unknown (newline ∷ []) position_text 300 3 refl) };
      ends = ends is_newline position_text 303 refl;
    })
    position_4

position_2 : Many (NextLine position_fields position_text) 266 (position_entry_2 ∷ position_entry_3 ∷ position_entry_4 ∷ position_entry_5 ∷ position_entry_6 ∷ []) 351
unfolding bytes one_of digit same kind_of values_of decimal global_fields stream_fields stream_group position_fields position_group of_group of_others
position_2 =
    more {a = position_entry_2} {l = position_entry_3 ∷ position_entry_4 ∷ position_entry_5 ∷ position_entry_6 ∷ []}
    (record {
      k = 267;
      blank = each is_newline position_text 266 1 refl;
      line = record { k = 280; key = (record { len = 13; string = (bare_text (newline ∷ colon ∷ []) position_text 267 13 refl); bytes_of = refl }); split = here position_text 280 colon refl; value = is_pair (record { k = 282; m = 283; led = (swallowed (here position_text 281 dash refl) refl); first = (number_at position_text 282 1 2 refl); split = here position_text 283 dash refl; second = (number_at position_text 284 1 3 refl) }) };
      ends = ends is_newline position_text 285 refl;
    })
    position_3

position_1 : Many (NextLine position_fields position_text) 250 (position_entry_1 ∷ position_entry_2 ∷ position_entry_3 ∷ position_entry_4 ∷ position_entry_5 ∷ position_entry_6 ∷ []) 351
unfolding bytes one_of digit same kind_of values_of decimal global_fields stream_fields stream_group position_fields position_group of_group of_others
position_1 =
    more {a = position_entry_1} {l = position_entry_2 ∷ position_entry_3 ∷ position_entry_4 ∷ position_entry_5 ∷ position_entry_6 ∷ []}
    (record {
      k = 250;
      blank = each is_newline position_text 250 0 refl;
      line = record { k = 262; key = (record { len = 12; string = (bare_text (newline ∷ colon ∷ []) position_text 250 12 refl); bytes_of = refl }); split = here position_text 262 colon refl; value = is_pair (record { k = 263; m = 264; led = (plain (absent position_text 263 dash refl) refl); first = (number_at position_text 263 1 0 refl); split = here position_text 264 dash refl; second = (number_at position_text 265 1 1 refl) }) };
      ends = ends is_newline position_text 266 refl;
    })
    position_2

position_section : Section position_fields position_text 250 (position_entry_1 ∷ position_entry_2 ∷ position_entry_3 ∷ position_entry_4 ∷ position_entry_5 ∷ position_entry_6 ∷ [])
unfolding bytes one_of digit same kind_of values_of decimal global_fields stream_fields stream_group position_fields position_group of_group of_others
position_section = record { k = 351; lines = position_1; blank = each is_newline position_text 351 0 refl; distinct = distinct position_fields (position_entry_1 ∷ position_entry_2 ∷ position_entry_3 ∷ position_entry_4 ∷ position_entry_5 ∷ position_entry_6 ∷ []) refl }

abbrev position_row_1 : Row
position_row_1 = record { at = 286; field = bytes "STREAM_WIN"; group = bytes "M"; value = span 300 3 }

abbrev position_row_2 : Row
position_row_2 = record { at = 304; field = bytes "STREAM_PDF"; group = bytes "M"; value = span 318 3 }

abbrev position_row_3 : Row
position_row_3 = record { at = 322; field = bytes "STREAM_TREE"; group = bytes "M"; value = span 337 3 }

abbrev position_row_4 : Row
position_row_4 = record { at = 341; field = bytes "GV_PDF"; group = bytes "M"; value = span 351 0 }

abbrev position_m : Group
position_m = record { name = span 297 1; rows = position_row_1 ∷ position_row_2 ∷ position_row_3 ∷ position_row_4 ∷ [] }

position_rows : Rows (position_entry_1 ∷ position_entry_2 ∷ position_entry_3 ∷ position_entry_4 ∷ position_entry_5 ∷ position_entry_6 ∷ []) (position_row_1 ∷ position_row_2 ∷ position_row_3 ∷ position_row_4 ∷ [])
unfolding bytes one_of digit same kind_of values_of decimal global_fields stream_fields stream_group position_fields position_group of_group of_others
position_rows = dropped (unbracketed (bytes "DURATION_PDF") refl) (dropped (unbracketed (bytes "DURATION_TREE") refl) (grouped (record { whole = refl; first = refl }) (grouped (record { whole = refl; first = refl }) (grouped (record { whole = refl; first = refl }) (grouped (record { whole = refl; first = refl }) Rows.end)))))

position_groups : GroupsOf (position_entry_1 ∷ position_entry_2 ∷ position_entry_3 ∷ position_entry_4 ∷ position_entry_5 ∷ position_entry_6 ∷ []) (position_m ∷ [])
unfolding bytes one_of digit same kind_of values_of decimal global_fields stream_fields stream_group position_fields position_group of_group of_others
position_groups = record { rows = position_row_1 ∷ position_row_2 ∷ position_row_3 ∷ position_row_4 ∷ []; of_lines = position_rows; by_name = next H.Grouped.end }

abbrev position_says_1 : Entry
position_says_1 = record { at = 286; name = bytes "STREAM_WIN"; value = ranges ((record { from = 4; to = 5 }) ∷ []) }

position_read_1 : Alone position_group position_text position_row_1 position_says_1
unfolding bytes one_of digit same kind_of values_of decimal global_fields stream_fields stream_group position_fields position_group of_group of_others
position_read_1 = record { j = 303; at = refl; name = refl; value = are_pairs (full (goes_on (one_of ([])) (alone position_text position_row_1) 300 refl refl) (plain (absent (alone position_text position_row_1) 300 comma refl) refl) none (record { k = 300; m = 301; led = (plain (absent (alone position_text position_row_1) 300 dash refl) refl); first = (number_at (alone position_text position_row_1) 300 1 4 refl); split = here (alone position_text position_row_1) 301 dash refl; second = (number_at (alone position_text position_row_1) 302 1 5 refl) }) (ends (one_of ([])) (alone position_text position_row_1) 303 refl)) }

abbrev position_says_2 : Entry
position_says_2 = record { at = 304; name = bytes "STREAM_PDF"; value = range (record { from = 6; to = 7 }) }

position_read_2 : Alone position_group position_text position_row_2 position_says_2
unfolding bytes one_of digit same kind_of values_of decimal global_fields stream_fields stream_group position_fields position_group of_group of_others
position_read_2 = record { j = 321; at = refl; name = refl; value = is_pair (record { k = 318; m = 319; led = (plain (absent (alone position_text position_row_2) 318 dash refl) refl); first = (number_at (alone position_text position_row_2) 318 1 6 refl); split = here (alone position_text position_row_2) 319 dash refl; second = (number_at (alone position_text position_row_2) 320 1 7 refl) }) }

abbrev position_says_3 : Entry
position_says_3 = record { at = 322; name = bytes "STREAM_TREE"; value = range (record { from = 8; to = 9 }) }

position_read_3 : Alone position_group position_text position_row_3 position_says_3
unfolding bytes one_of digit same kind_of values_of decimal global_fields stream_fields stream_group position_fields position_group of_group of_others
position_read_3 = record { j = 340; at = refl; name = refl; value = is_pair (record { k = 337; m = 338; led = (plain (absent (alone position_text position_row_3) 337 dash refl) refl); first = (number_at (alone position_text position_row_3) 337 1 8 refl); split = here (alone position_text position_row_3) 338 dash refl; second = (number_at (alone position_text position_row_3) 339 1 9 refl) }) }

abbrev position_says_4 : Entry
position_says_4 = record { at = 341; name = bytes "GV_PDF"; value = perhaps nothing }

position_read_4 : Alone position_group position_text position_row_4 position_says_4
unfolding bytes one_of digit same kind_of values_of decimal global_fields stream_fields stream_group position_fields position_group of_group of_others
position_read_4 = record { j = 351; at = refl; name = refl; value = is_absent (ends is_newline (alone position_text position_row_4) 351 refl) }

position_entries : Entries position_group position_text (position_row_1 ∷ position_row_2 ∷ position_row_3 ∷ position_row_4 ∷ []) (position_says_1 ∷ position_says_2 ∷ position_says_3 ∷ position_says_4 ∷ [])
unfolding bytes one_of digit same kind_of values_of decimal global_fields stream_fields stream_group position_fields position_group of_group of_others
position_entries = record { says = H.Pointwise.more position_read_1 (H.Pointwise.more position_read_2 (H.Pointwise.more position_read_3 (H.Pointwise.more position_read_4 (H.Pointwise.none)))); distinct = distinct position_group (position_says_1 ∷ position_says_2 ∷ position_says_3 ∷ position_says_4 ∷ []) refl }

abbrev positions : List Position
positions =
    record {
      name = span 297 1;
      stream_win = (record { from = 4; to = 5 }) ∷ [];
      stream_pdf = (record { from = 6; to = 7 });
      stream_tree = (record { from = 8; to = 9 });
      gv_pdf = nothing;
      gv_tree = nothing;
    }
    ∷ []

positions_say : PositionText file (span 250 101) (record { from = 0; to = 1 }) (record { from = 2; to = 3 }) positions
unfolding bytes one_of digit same kind_of values_of decimal global_fields stream_fields stream_group position_fields position_group of_group of_others
positions_say =
    record {
      xs = position_entry_1 ∷ position_entry_2 ∷ position_entry_3 ∷ position_entry_4 ∷ position_entry_5 ∷ position_entry_6 ∷ [];
      gs = position_m ∷ [];
      utf8 = ascii (part file 250 101) refl;
      lines = position_section;
      durations = record { duration_pdf = record { value = refl }; duration_tree = record { value = refl } };
      groups = position_groups;
      say = H.Pointwise.more (record { xs = position_says_1 ∷ position_says_2 ∷ position_says_3 ∷ position_says_4 ∷ []; entries = position_entries; says = (refl, record { stream_win = record { value = refl }; stream_pdf = record { value = refl }; stream_tree = record { value = refl }; gv_pdf = there nothing refl refl; gv_tree = missing refl refl }) }) H.Pointwise.none;
    }

abbrev parts : Parts
parts = record { global = span 10 169; stream = span 189 49; position = span 250 101; rest = span 359 3 }

split : Sections file parts
unfolding bytes one_of digit same kind_of values_of decimal global_fields stream_fields stream_group position_fields position_group of_group of_others
split =
    record {
      n_global = 1;
      n_stream = 0;
      n_position = 0;
      n_data = 0;
      after_global = bytes "\n[STREAM]\nVECTOR_LENGTH[M]:35x\nNUM_WINDOWS[M]:3\nIS_MSD[M]:0\n[POSITION]\nDURATION_PDF:0-1\nDURATION_TREE:-2-3\nSTREAM_WIN[M]:4-5\nSTREAM_PDF[M]:6-7\nSTREAM_TREE[M]:8-9\nGV_PDF[M]:\n[DATA]\nxyz";
      after_stream = bytes "\n[POSITION]\nDURATION_PDF:0-1\nDURATION_TREE:-2-3\nSTREAM_WIN[M]:4-5\nSTREAM_PDF[M]:6-7\nSTREAM_TREE[M]:8-9\nGV_PDF[M]:\n[DATA]\nxyz";
      after_position = bytes "\n[DATA]\nxyz";
      dat = bytes "xyz";
      global = record { written = bytes "HTS_VOICE_VERSION:1.0\nSAMPLING_FREQUENCY:48000\n\nFRAME_PERIOD:240\nNUM_STATES:5\nNUM_STREAMS:1\nSTREAM_TYPE:M\nFULLCONTEXT_FORMAT:F\nFULLCONTEXT_VERSION:\"1.0\"\nOTHER:x\nCOMMENT:"; whole = refl; start = refl; len = refl; up_to = up_to_lem (bytes "HTS_VOICE_VERSION:1.0\nSAMPLING_FREQUENCY:48000\n\nFRAME_PERIOD:240\nNUM_STATES:5\nNUM_STREAMS:1\nSTREAM_TYPE:M\nFULLCONTEXT_FORMAT:F\nFULLCONTEXT_VERSION:\"1.0\"\nOTHER:x\nCOMMENT:") (bytes "STREAM]\nVECTOR_LENGTH[M]:35x\nNUM_WINDOWS[M]:3\nIS_MSD[M]:0\n[POSITION]\nDURATION_PDF:0-1\nDURATION_TREE:-2-3\nSTREAM_WIN[M]:4-5\nSTREAM_PDF[M]:6-7\nSTREAM_TREE[M]:8-9\nGV_PDF[M]:\n[DATA]\nxyz") refl };
      stream = record { written = bytes "VECTOR_LENGTH[M]:35x\nNUM_WINDOWS[M]:3\nIS_MSD[M]:0"; whole = refl; start = refl; len = refl; up_to = up_to_lem (bytes "VECTOR_LENGTH[M]:35x\nNUM_WINDOWS[M]:3\nIS_MSD[M]:0") (bytes "POSITION]\nDURATION_PDF:0-1\nDURATION_TREE:-2-3\nSTREAM_WIN[M]:4-5\nSTREAM_PDF[M]:6-7\nSTREAM_TREE[M]:8-9\nGV_PDF[M]:\n[DATA]\nxyz") refl };
      position = record { written = bytes "DURATION_PDF:0-1\nDURATION_TREE:-2-3\nSTREAM_WIN[M]:4-5\nSTREAM_PDF[M]:6-7\nSTREAM_TREE[M]:8-9\nGV_PDF[M]:"; whole = refl; start = refl; len = refl; up_to = up_to_lem (bytes "DURATION_PDF:0-1\nDURATION_TREE:-2-3\nSTREAM_WIN[M]:4-5\nSTREAM_PDF[M]:6-7\nSTREAM_TREE[M]:8-9\nGV_PDF[M]:") (bytes "DATA]\nxyz") refl };
      rest = refl;
      rest_start = refl;
      rest_len = refl;
    }

abbrev header : Header
header = record { global = global; streams = streams; duration_pdf = record { from = 0; to = 1 }; duration_tree = record { from = 2; to = 3 }; positions = positions; datum = span 359 3 }

-- the file says the record
pub says : Says file header
unfolding bytes one_of digit same kind_of values_of decimal global_fields stream_fields stream_group position_fields position_group of_group of_others
says =
    record {
      parts = parts;
      fits = leb-true (length file) file_limit refl;
      split = split;
      global = global_says;
      global_fits = record { names = leb-true 1 8 refl; contexts = leb-true 0 32 refl };
      streams = streams_say;
      streams_fit = record { names = leb-true 1 8 refl; options = K.All.next (leb-true 0 16 refl) K.All.end };
      positions = positions_say;
      positions_fit = record { names = leb-true 1 8 refl; windows = K.All.next (leb-true 1 8 refl) K.All.end };
      datum = refl;
    }
