-- What the rows of [STREAM] make of its groups.
use Rattle.std.specs.Prelude.{Bool, true, false, cond, List, [], ◌∷◌, ℕ, zero, suc, ltb, get_or, set, replicate, Result, Ok, Err, ⊤}
use Rattle.std.proofs.lemmas.List.Edits.{sets}
use Rattle.error.specs.declared.Refusal.{Refusal}
use Rattle.error.specs.declared.Refusal.TheVariants as refusal
use Rattle.head_record.specs.Empty.{empty_stream, no_span}
use Rattle.text_parts.specs.declared.Span.{Span}
use Rattle.head_record.specs.declared.StreamData.{StreamData}
use Rattle.head_words.specs.Words.{streams_words}
use Rattle.head_brackets.specs.Rows.{rows_at, Going, on, stop_with, over, no_names, names_with, known_in}
use Rattle.text_parts.specs.Parts.{bytes_of}
use Rattle.head_brackets.specs.declared.Row.{Row}
use Rattle.head_stream.specs.Group.{named, with_row, group_in}
use Rattle.head_stream.specs.declared.GroupRead.{GroupRead}
use Rattle.head_streams.specs.declared.Streams.{Streams}
use Rattle.head_streams.specs.declared.GroupsRead.{GroupsRead}

unfoldable pub no_streams : Streams
no_streams = record { names = no_names; items = replicate 8 empty_stream }

-- one more
unfoldable pub with_streams : Streams → StreamData → Streams
with_streams x d = record { names = names_with x.names d.name; items = cond (ltb x.names.count 8) (set x.items x.names.count d) x.items }

-- what stands outside an array
abbrev pub nothing : StreamData
nothing = record { name = no_span; vector_length = 0; num_windows = 0; is_msd = false; use_gv = false; option = []; option_count = 0 }

-- one of the first n has too many OPTION items
unfoldable pub many_over : List StreamData → ℕ → Bool
many_over t zero = false
many_over t (suc n) = cond (ltb n 8) (cond (ltb 16 (get_or t n nothing).option_count) true (many_over t n)) (many_over t n)

-- what the group of a name says, in the section that starts at i
abbrev pub group_of : List ℕ → ℕ → Span → GroupRead
group_of s i x = group_in (over (with_row s (bytes_of s x)) (named x) (rows_at s i))

abbrev pub after_group : Streams → Result ⊤ Refusal → StreamData → Going Streams
after_group x (Ok _) d = on (with_streams x d)
after_group x (Err r) d = stop_with r

-- the groups with that of a row, unless it is known
unfoldable pub with_group : List ℕ → ℕ → Streams → Row → Going Streams
with_group s i x r =
    cond (known_in s x.names.items x.names.count (bytes_of s r.name)) (on x) (after_group x (group_of s i r.name).verdict (group_of s i r.name).item)

abbrev pub made : Result ⊤ Refusal → Streams → GroupsRead
made v x = record { verdict = v; streams = x }

-- a count passes its limit (12)
unfoldable pub judged : Streams → GroupsRead
judged x = cond (ltb 8 x.names.count) (made (Err refusal.Limit) no_streams) (cond (many_over x.items 8) (made (Err refusal.Limit) no_streams) (made (Ok tt) x))

abbrev pub groups_in : Going Streams → GroupsRead
groups_in (on x) = judged x
groups_in (stop_with r) = made (Err r) no_streams

-- ---- the words of the record

-- with the groups x
abbrev pub laid : List ℕ → Streams → List ℕ
laid w x = sets w 95 (streams_words x.items)

-- behind the rows: with all groups and their number; or, where one is refused, with the groups y before it
abbrev pub words_in : List ℕ → Going Streams → Streams → List ℕ
words_in w (on x) y = sets (laid w x) 407 (x.names.count ∷ [])
words_in w (stop_with r) y = laid w y
