-- 01's worked examples of header text, as the definitions have them.
use mathlib.Core.Path.{◌≡◌, refl}
use mathlib.Core.Bool.{true}
use mathlib.Core.List.Memᴰ
use mathlib.Core.List.{List, [], ◌∷◌}
use Prim.Native.Nat.{ℕ, ◌+◌, ◌^◌}
use Prim.Native.String.{String}
use borrow.Author.Tests.{ltb-true, leb-true}
use Rattle.written.specs.Bytes.{bytes, newline, comma, dash, colon, digit, is_newline, part, one_of, same, over, met, Span, decimal}
use Rattle.written.specs.HeaderText.{Text, Pair, swallowed, plain, none, more, Listed, empty, full, kind_of, values_of, Key, a_number, number, range, pairs, is_number, is_pair}
use Rattle.written.specs.Groups.{Row, Alone}
use Rattle.written.specs.Record.{global_fields, stream_group, position_group}
use Rattle.written.specs.Faults.{NoPair, second, single, no_digit, too_large, Unreadable, no_pairs, NoSection}
use Rattle.written.specs.Faults as F
use Rattle.written.proofs.Tests.{here, absent, each, ends, goes_on, distinct, span, bare?, bare_text, digits, number_at}

-- the items of a list that stands before a newline or the end
abbrev ItemsOf : List ℕ → List Span → ℕ → Type 0
ItemsOf s l j = Listed (Text (comma ∷ newline ∷ []) s) (newline ∷ []) s 0 l j

comma_a : ItemsOf (bytes ",A") (span 1 1 ∷ []) 2
unfolding bytes one_of
comma_a =
    full (goes_on (one_of (newline ∷ [])) (bytes ",A") 0 refl refl) (swallowed (here (bytes ",A") 0 comma refl) refl) none
    (bare_text (comma ∷ newline ∷ []) (bytes ",A") 1 1 refl) (over refl)

a_comma : ItemsOf (bytes "A,") (span 0 1 ∷ span 2 0 ∷ []) 2
unfolding bytes one_of
a_comma =
    full (goes_on (one_of (newline ∷ [])) (bytes "A,") 0 refl refl) (plain (absent (bytes "A,") 0 comma refl) refl)
    (more (record { k = 1; item = bare_text (comma ∷ newline ∷ []) (bytes "A,") 0 1 refl; behind = here (bytes "A,") 1 comma refl; next = refl }) none)
    (bare_text (comma ∷ newline ∷ []) (bytes "A,") 2 0 refl) (over refl)

comma_alone : ItemsOf (bytes ",") (span 1 0 ∷ []) 1
unfolding bytes one_of
comma_alone =
    full (goes_on (one_of (newline ∷ [])) (bytes ",") 0 refl refl) (swallowed (here (bytes ",") 0 comma refl) refl) none
    (bare_text (comma ∷ newline ∷ []) (bytes ",") 1 0 refl) (over refl)

nothing : ItemsOf (bytes "") [] 0
unfolding bytes one_of
nothing = empty (over refl)

-- nor is there an item before a newline
blank : ItemsOf (bytes "\n") [] 0
unfolding bytes one_of
blank = empty (met (ltb-true 0 1 refl) refl)

one_two : Pair (bytes "-1-2") 0 (record { from = 1; to = 2 }) 4
unfolding bytes digit decimal
one_two =
    record {
      k = 1;
      m = 2;
      led = swallowed (here (bytes "-1-2") 0 dash refl) refl;
      first = number_at (bytes "-1-2") 1 1 1 refl;
      split = here (bytes "-1-2") 2 dash refl;
      second = number_at (bytes "-1-2") 3 1 2 refl;
    }

-- `5` is 9; `5-` is 3 at the end of its text, 5 before a newline
five : NoPair (newline ∷ []) (bytes "5") 0 9 0
unfolding bytes digit decimal one_of
five = F.NoPair.behind (plain (absent (bytes "5") 0 dash refl) refl) (number_at (bytes "5") 0 1 5 refl) (single (over refl))

five_end : NoPair (newline ∷ []) (bytes "5-") 0 3 2
unfolding bytes digit decimal
five_end = F.NoPair.behind (plain (absent (bytes "5-") 0 dash refl) refl) (number_at (bytes "5-") 0 1 5 refl) (second (here (bytes "5-") 1 dash refl) (F.NoNumber.over refl))

five_newline : NoPair (newline ∷ []) (bytes "5-\n") 0 5 2
unfolding bytes digit decimal
five_newline =
    F.NoPair.behind (plain (absent (bytes "5-\n") 0 dash refl) refl) (number_at (bytes "5-\n") 0 1 5 refl)
    (second (here (bytes "5-\n") 1 dash refl) (no_digit (ltb-true 2 3 refl) refl))

-- a number of 2^64 is 10 at its first digit
large : NoPair [] (bytes "18446744073709551616-x") 0 10 0
unfolding bytes digit decimal one_of
large =
    F.NoPair.first (goes_on (one_of []) (bytes "18446744073709551616-x") 0 refl refl) (plain (absent (bytes "18446744073709551616-x") 0 dash refl) refl)
    (too_large (digits (bytes "18446744073709551616-x") 0 20 refl) (leb-true (2 ^ 64) 18446744073709551616 refl))

-- ---- a group's value is read alone: `VECTOR_LENGTH[M]:35x` is 35, `STREAM_PDF[M]:0-10-20` is (0,10); in STREAM_WIN `0-10-20` is 6

abbrev row : String → ℕ → ℕ → Row
row f a n = record { at = 0; field = bytes f; group = bytes "M"; value = span a n }

vector_length : Alone stream_group (bytes "VECTOR_LENGTH[M]:35x\n") (row "VECTOR_LENGTH" 17 3) (record { at = 0; name = bytes "VECTOR_LENGTH"; value = number 35 })
unfolding bytes digit decimal kind_of same stream_group
vector_length = record { j = 19; at = refl; name = refl; value = is_number (number_at (bytes "VECTOR_LENGTH[M]:35x") 17 2 35 refl) }

stream_pdf :
    Alone position_group (bytes "STREAM_PDF[M]:0-10-20") (row "STREAM_PDF" 14 7)
    (record { at = 0; name = bytes "STREAM_PDF"; value = range (record { from = 0; to = 10 }) })
unfolding bytes digit decimal kind_of same position_group
stream_pdf =
    let s = bytes "STREAM_PDF[M]:0-10-20" in
    record {
      j = 18;
      at = refl;
      name = refl;
      value =
          is_pair (record {
            k = 14;
            m = 15;
            led = plain (absent s 14 dash refl) refl;
            first = number_at s 14 1 0 refl;
            split = here s 15 dash refl;
            second = number_at s 16 2 10 refl;
          });
    }

stream_win : Unreadable [] (bytes "0-10-20") 0 pairs 6 4
unfolding bytes digit decimal one_of
stream_win =
    let s = bytes "0-10-20" in
    no_pairs (F.NoList.unsplit (goes_on (one_of []) s 0 refl refl) (plain (absent s 0 comma refl) refl) none
    (record { k = 0; m = 1; led = plain (absent s 0 dash refl) refl; first = number_at s 0 1 0 refl; split = here s 1 dash refl; second = number_at s 2 2 10 refl })
    (absent s 4 comma refl) (goes_on (one_of []) s 4 refl refl))

-- ---- a repeated field is 9, refused at its key, though its colon is missing

two_states : NoSection global_fields (bytes "NUM_STATES:5\n\nNUM_STATES") 0 9 0
unfolding bytes digit decimal one_of kind_of same values_of global_fields
two_states =
    let s = bytes "NUM_STATES:5\n\nNUM_STATES" in
    let key : (i : ℕ) → bare? (newline ∷ colon ∷ []) s i 10 ≡ true → bytes "NUM_STATES" ≡ part s i 10 → Key s i i (bytes "NUM_STATES") (i + 10) =
    λ i e f. record { len = 10; string = bare_text (newline ∷ colon ∷ []) s i 10 e; bytes_of = f } in
    record {
      k = 12;
      m = 14;
      xs = record { at = 0; name = bytes "NUM_STATES"; value = number 5 } ∷ [];
      lines =
          more (record {
            k = 0;
            blank = each is_newline s 0 0 refl;
            line = record { k = 10; key = key 0 refl refl; split = here s 10 colon refl; value = is_number (number_at s 11 1 5 refl) };
            ends = ends is_newline s 12 refl;
          }) none;
      distinct = distinct global_fields (record { at = 0; name = bytes "NUM_STATES"; value = number 5 } ∷ []) refl;
      blank = each is_newline s 12 2 refl;
      here = goes_on is_newline s 14 refl refl;
      wrong =
          F.NoLine.repeated (key 14 refl refl) (record {
            field = record { name = bytes "NUM_STATES"; kind = a_number; required = true };
            of_table = Memᴰ.tail (Memᴰ.tail (Memᴰ.tail (Memᴰ.head refl)));
            same_name = refl;
            before = ltb-true 0 1 refl;
          });
    }
