-- What the rows of a group make of `PositionData`.
use Rattle.std.specs.Prelude.{cond, List, [], ◌∷◌, ◌++◌, ℕ, eqb, Result, Ok, Err, ⊤}
use Rattle.std.proofs.lemmas.List.Edits.{sets}
use Rattle.written.specs.Bytes.{same}
use Rattle.written.specs.HeaderText.{Entry}
use Rattle.written.specs.Record.{position_group}
use Rattle.error.specs.declared.Refusal.{Refusal}
use Rattle.error.specs.declared.Refusal.TheVariants as refusal
use Rattle.head_record.specs.Empty.{empty_position}
use Rattle.text_parts.specs.declared.Span.{Span}
use Rattle.head_words.specs.Words.{flag_word, range_words, ranges_words}
use Rattle.head_record.specs.declared.PositionData.{PositionData}
use Rattle.head_de_values.specs.Values.{value_of}
use Rattle.head_de_values.specs.declared.Value.{Value}
use Rattle.head_fields.specs.Fields.{field_index, any_missing}
use Rattle.head_lines.specs.Lines.{Next, entry, end, wrong, marked, unseen}
use Rattle.head_brackets.specs.Rows.{row_line_at, Going, on, stop_with}
use Rattle.text_parts.specs.Parts.{bytes_of}
use Rattle.head_brackets.specs.declared.Row.{Row}
use Rattle.head_position.specs.declared.Group.{Group}
use Rattle.head_position.specs.declared.GroupRead.{GroupRead}

-- the value v in the field of the number k
unfoldable pub stored : PositionData → ℕ → Value → PositionData
stored d k v =
    record {
      name = d.name;
      stream_win = cond (eqb k 0) v.ranges.items d.stream_win;
      stream_win_count = cond (eqb k 0) v.ranges.count d.stream_win_count;
      stream_pdf = cond (eqb k 1) v.range d.stream_pdf;
      stream_tree = cond (eqb k 2) v.range d.stream_tree;
      gv_pdf = cond (eqb k 3) v.range d.gv_pdf;
      has_gv_pdf = cond (eqb k 3) v.flag d.has_gv_pdf;
      gv_tree = cond (eqb k 4) v.range d.gv_tree;
      has_gv_tree = cond (eqb k 4) v.flag d.has_gv_tree;
    }

-- the same among a group's words
unfoldable pub stored_in : List ℕ → ℕ → Value → List ℕ
stored_in t k v =
    cond (eqb k 0) (sets t 2 (ranges_words 8 v.ranges.items ++ (v.ranges.count ∷ [])))
    (cond (eqb k 1) (sets t 19 (range_words v.range))
    (cond (eqb k 2) (sets t 21 (range_words v.range))
    (cond (eqb k 3) (sets t 23 (range_words v.range ++ (flag_word v.flag ∷ [])))
    (cond (eqb k 4) (sets t 26 (range_words v.range ++ (flag_word v.flag ∷ []))) t))))

-- a line's value in its field
unfoldable pub with_line : PositionData → Entry → PositionData
with_line d x = stored d (field_index position_group x.name) (value_of x.value)

-- a group of that name with no row yet
abbrev pub empty_of : Span → PositionData
empty_of x =
    record {
      name = x;
      stream_win = empty_position.stream_win;
      stream_win_count = empty_position.stream_win_count;
      stream_pdf = empty_position.stream_pdf;
      stream_tree = empty_position.stream_tree;
      gv_pdf = empty_position.gv_pdf;
      has_gv_pdf = empty_position.has_gv_pdf;
      gv_tree = empty_position.gv_tree;
      has_gv_tree = empty_position.has_gv_tree;
    }

unfoldable pub named : Span → Group
named x = record { seen = unseen; item = empty_of x }

-- the group with a line
abbrev pub after_line : Group → Next → Going Group
after_line g (entry x j) = on (record { seen = marked 5 g.seen (field_index position_group x.name); item = with_line g.item x })
after_line g end = on g
after_line g (wrong r) = stop_with r

-- the group, whose name is w, with a row of the section
unfoldable pub with_row : List ℕ → List ℕ → Group → Row → Going Group
with_row s w g r = cond (same (bytes_of s r.name) w) (after_line g (row_line_at position_group g.seen s r)) (on g)

abbrev pub made : Result ⊤ Refusal → PositionData → GroupRead
made v d = record { verdict = v; item = d }

-- a field is missing (9)
unfoldable pub judged : Group → GroupRead
judged g = cond (any_missing g.seen 3) (made (Err refusal.Field) empty_position) (made (Ok tt) g.item)

abbrev pub group_in : Going Group → GroupRead
group_in (on g) = judged g
group_in (stop_with r) = made (Err r) empty_position
