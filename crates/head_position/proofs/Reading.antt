-- A group while its rows are read: the words are those of the group that the rows up to here make. One law for each way out of a turn.
use mathlib.Core.Path.{◌≡◌, refl, sym, ap, ◌∙◌}
use mathlib.Core.Bool.{Bool, true, false}
use mathlib.Core.List.{List}
use Prim.Native.Nat.{ℕ}
use Rattle.std.specs.Prelude.{Result, Ok, Err}
use Rattle.written.specs.Bytes.{same}
use Rattle.written.specs.Record.{position_group}
use Rattle.error.specs.declared.Refusal.{Refusal}
use Rattle.text_parts.specs.declared.Span.{Span}
use Rattle.head_record.specs.declared.PositionData.{PositionData}
use Rattle.head_words.specs.Words.{position_words}
use Rattle.head_de.specs.declared.Cursor.{Cursor}
use Rattle.head_lines.specs.Lines.{some_of, line_in, marked, unseen}
use Rattle.head_lines.specs.declared.Line.{Line}
use Rattle.head_brackets.specs.Rows.{row_at, rows_at, row_line_at, Going, over, last_of, on, stop_with}
use Rattle.text_parts.specs.Parts.{bytes_of}
use Rattle.head_brackets.specs.declared.Row.{Row}
use Rattle.head_brackets.specs.declared.RowAt.TheVariants as found
use Rattle.head_brackets.proofs.Through.{Through, Ended, through_none, through_line, through_row, through_stop, through_end}
use Rattle.head_position.specs.Group.{stored, stored_in, empty_of, named, with_row}
use Rattle.head_position.specs.declared.Group.{Group}
use Rattle.head_position.proofs.Stored.{stored_words, of_group, of_other, group, line_taken, line_refused}

module _ (s : List ℕ) (start : ℕ) (name : Span) where
  pub record Reached (item : List ℕ) (at : ℕ) (seen : List Bool) : Type 0 where
    pub fields : PositionData
    pub words : item ≡ position_words fields
    pub through : Through s start (with_row s (bytes_of s name)) (named name) at (group seen fields)

  pub reached_none : (item : List ℕ) → item ≡ position_words (empty_of name) → Reached item start unseen
  unfolding named
  reached_none item e = record { fields = empty_of name; words = e; through = through_none s start (with_row s (bytes_of s name)) (named name) }

  -- how it ends: what going through the rows answers, and the words of the last group
  pub record Answered (item : List ℕ) (y : Going Group) : Type 0 where
    pub answer : over (with_row s (bytes_of s name)) (named name) (rows_at s start) ≡ y
    pub words : item ≡ position_words (last_of (with_row s (bytes_of s name)) (named name) (rows_at s start)).item

  module _ {item : List ℕ} {at : ℕ} {seen : List Bool} (g : Reached item at seen) where
    -- the group up to here
    abbrev here : Group
    here = group seen g.fields

    answered : {y : Going Group} → Ended s start (with_row s (bytes_of s name)) (named name) y here → Answered item y
    answered h = record { answer = h.answer; words = g.words ∙ sym (ap (λ (x : Group). position_words x.item) h.last) }

    -- a row that was found
    module _ {r : Row} (e : row_at s at ≡ found.Found r) where
      -- it leaves the group as it is
      same_group : with_row s (bytes_of s name) here r ≡ on here → Reached item r.end seen
      same_group h = record { fields = g.fields; words = g.words; through = through_row _ _ _ _ g.through e h }

      pub reached_other : same (bytes_of s r.name) (bytes_of s name) ≡ false → Reached item r.end seen
      reached_other f = same_group (of_other s (bytes_of s name) here r f)

      -- one of the group
      module _ (f : same (bytes_of s r.name) (bytes_of s name) ≡ true) {x : Result Line Refusal} (q : some_of x ≡ line_in position_group (row_line_at position_group seen s r)) where
        pub reached_taken : {l : Line} → x ≡ Ok l → (m : List Bool) → m ≡ marked 5 seen l.field → (t : List ℕ) → t ≡ stored_in item l.field l.value → Reached t r.end m
        reached_taken {l} h m p t u =
            record {
              fields = stored g.fields l.field l.value;
              words = u ∙ ap (λ (w : List ℕ). stored_in w l.field l.value) g.words ∙ stored_words g.fields l.field l.value;
              through = through_row _ _ _ _ g.through e (of_group s (bytes_of s name) here r f ∙ line_taken here (row_line_at position_group seen s r) q h p refl);
            }

        pub broken : {y : Refusal} → x ≡ Err y → Answered item (stop_with y)
        broken h = answered (through_stop _ _ _ _ g.through e (of_group s (bytes_of s name) here r f ∙ line_refused here (row_line_at position_group seen s r) q h))

    -- a line of no group
    pub reached_line : {c : Cursor} → row_at s at ≡ found.Other c → Reached item c.at seen
    reached_line e = record { fields = g.fields; words = g.words; through = through_line _ _ _ _ g.through e }

    -- the rows end
    pub ended : row_at s at ≡ found.End → Answered item (on here)
    ended e = answered (through_end _ _ _ _ g.through e)
