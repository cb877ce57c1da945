-- What the rows of [POSITION] make of its groups.
use Rattle.std.specs.Prelude.{Bool, true, false, cond, List, [], ◌∷◌, ℕ, zero, suc, ltb, get_or, set, replicate, Result, Ok, Err, ⊤}
use Rattle.std.proofs.lemmas.List.Edits.{sets}
use Rattle.error.specs.declared.Refusal.{Refusal}
use Rattle.error.specs.declared.Refusal.TheVariants as refusal
use Rattle.head_record.specs.Empty.{empty_position, no_span, no_range}
use Rattle.text_parts.specs.declared.Span.{Span}
use Rattle.head_record.specs.declared.PositionData.{PositionData}
use Rattle.head_words.specs.Words.{positions_words}
use Rattle.head_brackets.specs.Rows.{rows_at, Going, on, stop_with, over, no_names, names_with, known_in}
use Rattle.text_parts.specs.Parts.{bytes_of}
use Rattle.head_brackets.specs.declared.Row.{Row}
use Rattle.head_position.specs.Group.{named, with_row, group_in}
use Rattle.head_position.specs.declared.GroupRead.{GroupRead}
use Rattle.head_positions.specs.declared.Positions.{Positions}
use Rattle.head_positions.specs.declared.GroupsRead.{GroupsRead}

unfoldable pub no_positions : Positions
no_positions = record { names = no_names; items = replicate 8 empty_position }

-- one more
unfoldable pub with_positions : Positions → PositionData → Positions
with_positions x d = record { names = names_with x.names d.name; items = cond (ltb x.names.count 8) (set x.items x.names.count d) x.items }

-- what stands outside an array
abbrev pub nothing : PositionData
nothing = record { name = no_span; stream_win = []; stream_win_count = 0; stream_pdf = no_range; stream_tree = no_range; gv_pdf = no_range; has_gv_pdf = false; gv_tree = no_range; has_gv_tree = false }

-- one of the first n has too many windows
unfoldable pub many_over : List PositionData → ℕ → Bool
many_over t zero = false
many_over t (suc n) = cond (ltb n 8) (cond (ltb 8 (get_or t n nothing).stream_win_count) true (many_over t n)) (many_over t n)

-- what the group of a name says, in the section that starts at i
abbrev pub group_of : List ℕ → ℕ → Span → GroupRead
group_of s i x = group_in (over (with_row s (bytes_of s x)) (named x) (rows_at s i))

abbrev pub after_group : Positions → Result ⊤ Refusal → PositionData → Going Positions
after_group x (Ok _) d = on (with_positions x d)
after_group x (Err r) d = stop_with r

-- the groups with that of a row, unless it is known
unfoldable pub with_group : List ℕ → ℕ → Positions → Row → Going Positions
with_group s i x r =
    cond (known_in s x.names.items x.names.count (bytes_of s r.name)) (on x) (after_group x (group_of s i r.name).verdict (group_of s i r.name).item)

abbrev pub made : Result ⊤ Refusal → Positions → GroupsRead
made v x = record { verdict = v; positions = x }

-- a count passes its limit (12)
unfoldable pub judged : Positions → GroupsRead
judged x = cond (ltb 8 x.names.count) (made (Err refusal.Limit) no_positions) (cond (many_over x.items 8) (made (Err refusal.Limit) no_positions) (made (Ok tt) x))

abbrev pub groups_in : Going Positions → GroupsRead
groups_in (on x) = judged x
groups_in (stop_with r) = made (Err r) no_positions

-- ---- the words of the record

-- with the groups x
abbrev pub laid : List ℕ → Positions → List ℕ
laid w x = sets w 412 (positions_words x.items)

-- behind the rows: with all groups and their number; or, where one is refused, with the groups y before it
abbrev pub words_in : List ℕ → Going Positions → Positions → List ℕ
words_in w (on x) y = sets (laid w x) 644 (x.names.count ∷ [])
words_in w (stop_with r) y = laid w y
