-- What the rows of a group make of `StreamData`.
use Rattle.std.specs.Prelude.{cond, List, [], ◌∷◌, ◌++◌, ℕ, eqb, Result, Ok, Err, ⊤}
use Rattle.std.proofs.lemmas.List.Edits.{sets}
use Rattle.written.specs.Bytes.{same}
use Rattle.written.specs.HeaderText.{Entry}
use Rattle.written.specs.Record.{stream_group}
use Rattle.error.specs.declared.Refusal.{Refusal}
use Rattle.error.specs.declared.Refusal.TheVariants as refusal
use Rattle.head_record.specs.Empty.{empty_stream}
use Rattle.text_parts.specs.declared.Span.{Span}
use Rattle.head_words.specs.Words.{flag_word, spans_words}
use Rattle.head_record.specs.declared.StreamData.{StreamData}
use Rattle.head_de_lists.specs.Lists.{firsts}
use Rattle.head_de_values.specs.Values.{value_of}
use Rattle.head_de_values.specs.declared.Value.{Value}
use Rattle.head_fields.specs.Fields.{field_index, any_missing}
use Rattle.head_lines.specs.Lines.{Next, entry, end, wrong, marked, unseen}
use Rattle.head_brackets.specs.Rows.{row_line_at, Going, on, stop_with}
use Rattle.text_parts.specs.Parts.{bytes_of}
use Rattle.head_brackets.specs.declared.Row.{Row}
use Rattle.head_stream.specs.declared.Group.{Group}
use Rattle.head_stream.specs.declared.GroupRead.{GroupRead}

-- the value v in the field of the number k
unfoldable pub stored : StreamData → ℕ → Value → StreamData
stored d k v =
    record {
      name = d.name;
      vector_length = cond (eqb k 0) v.number d.vector_length;
      num_windows = cond (eqb k 1) v.number d.num_windows;
      is_msd = cond (eqb k 2) v.flag d.is_msd;
      use_gv = cond (eqb k 3) v.flag d.use_gv;
      option = cond (eqb k 4) (firsts 16 v.spans.items 0) d.option;
      option_count = cond (eqb k 4) v.spans.count d.option_count;
    }

-- the same among a group's words
unfoldable pub stored_in : List ℕ → ℕ → Value → List ℕ
stored_in t k v =
    cond (eqb k 0) (sets t 2 (v.number ∷ []))
    (cond (eqb k 1) (sets t 3 (v.number ∷ []))
    (cond (eqb k 2) (sets t 4 (flag_word v.flag ∷ []))
    (cond (eqb k 3) (sets t 5 (flag_word v.flag ∷ [])) (cond (eqb k 4) (sets t 6 (spans_words 16 v.spans.items ++ (v.spans.count ∷ []))) t))))

-- a line's value in its field
unfoldable pub with_line : StreamData → Entry → StreamData
with_line d x = stored d (field_index stream_group x.name) (value_of x.value)

-- a group of that name with no row yet
abbrev pub empty_of : Span → StreamData
empty_of x =
    record {
      name = x;
      vector_length = empty_stream.vector_length;
      num_windows = empty_stream.num_windows;
      is_msd = empty_stream.is_msd;
      use_gv = empty_stream.use_gv;
      option = empty_stream.option;
      option_count = empty_stream.option_count;
    }

unfoldable pub named : Span → Group
named x = record { seen = unseen; item = empty_of x }

-- the group with a line
abbrev pub after_line : Group → Next → Going Group
after_line g (entry x j) = on (record { seen = marked 5 g.seen (field_index stream_group x.name); item = with_line g.item x })
after_line g end = on g
after_line g (wrong r) = stop_with r

-- the group, whose name is w, with a row of the section
unfoldable pub with_row : List ℕ → List ℕ → Group → Row → Going Group
with_row s w g r = cond (same (bytes_of s r.name) w) (after_line g (row_line_at stream_group g.seen s r)) (on g)

abbrev pub made : Result ⊤ Refusal → StreamData → GroupRead
made v d = record { verdict = v; item = d }

-- a field is missing (9)
unfoldable pub judged : Group → GroupRead
judged g = cond (any_missing g.seen 3) (made (Err refusal.Field) empty_stream) (made (Ok tt) g.item)

abbrev pub group_in : Going Group → GroupRead
group_in (on g) = judged g
group_in (stop_with r) = made (Err r) empty_stream
