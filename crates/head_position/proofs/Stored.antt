-- A line's value is stored as its field has it, wherever the line ends; and what is made of a row.
use mathlib.Core.Path.{◌≡◌, refl, sym, ap, ap₂, ◌∙◌}
use mathlib.Core.Bool.{Bool, true, false}
use mathlib.Core.List.{List}
use Prim.Native.Nat.{ℕ, zero, suc}
use native.Mathlib.Omega.{arith}
use borrow.Author.Tests.{ne_eqb}
use Rattle.std.specs.Prelude.{Result, Ok, Err}
use Rattle.written.specs.Bytes.{same}
use Rattle.written.specs.HeaderText.{Entry}
use Rattle.written.specs.Record.{position_group}
use Rattle.error.specs.declared.Refusal.{Refusal}
use Rattle.head_record.specs.declared.PositionData.{PositionData}
use Rattle.head_words.specs.Words.{flat, position_words}
use Rattle.head_de_values.specs.Values.{value_of}
use Rattle.head_de_values.specs.declared.Value.{Value}
use Rattle.head_fields.specs.Fields.{field_index}
use Rattle.head_lines.specs.Lines.{Next, some_of, line_in, marked}
use Rattle.head_lines.specs.declared.Line.{Line}
use Rattle.head_lines.proofs.Going.{entry_of, wrong_of}
use Rattle.head_brackets.specs.Rows.{row_line_at, on, stop_with}
use Rattle.text_parts.specs.Parts.{bytes_of}
use Rattle.head_brackets.specs.declared.Row.{Row}
use Rattle.head_position.specs.Group.{stored, stored_in, with_line, after_line, with_row}
use Rattle.head_position.specs.declared.Group.{Group}

pub stored_line : (d : PositionData) (x : Entry) {k : ℕ} {u : Value} → k ≡ field_index position_group x.name → u ≡ value_of x.value → stored d k u ≡ with_line d x
unfolding with_line
stored_line d x e f = rw (e, f)

-- the words of a group with a value are the group's words with it
pub stored_words : (d : PositionData) (k : ℕ) (v : Value) → stored_in (position_words d) k v ≡ position_words (stored d k v)
unfolding stored stored_in position_words flat
stored_words d zero v = refl
stored_words d (suc zero) v = refl
stored_words d (suc (suc zero)) v = refl
stored_words d (suc (suc (suc zero))) v = refl
stored_words d (suc (suc (suc (suc zero)))) v = refl
stored_words d (suc (suc (suc (suc (suc k))))) v = rw (ne_eqb m 0 (λ e. omega arith), ne_eqb m 1 (λ e. omega arith), ne_eqb m 2 (λ e. omega arith), ne_eqb m 3 (λ e. omega arith), ne_eqb m 4 (λ e. omega arith))
  where
    m : ℕ
    m = suc (suc (suc (suc (suc k))))

-- ---- a row of the group, or of another one

module _ (s w : List ℕ) (g : Group) (r : Row) where
  pub of_group : same (bytes_of s r.name) w ≡ true → with_row s w g r ≡ after_line g (row_line_at position_group g.seen s r)
  unfolding with_row
  of_group e = rw e

  pub of_other : same (bytes_of s r.name) w ≡ false → with_row s w g r ≡ on g
  unfolding with_row
  of_other e = rw e

-- ---- a row of the group that is read, or refused

abbrev pub group : List Bool → PositionData → Group
group m d = record { seen = m; item = d }

module _ (g : Group) (n : Next) {x : Result Line Refusal} (e : some_of x ≡ line_in position_group n) where
  pub line_taken : {l : Line} → x ≡ Ok l → {m : List Bool} {d : PositionData} → m ≡ marked 5 g.seen l.field → d ≡ stored g.item l.field l.value
      → after_line g n ≡ on (group m d)
  line_taken f p q =
      let i = entry_of position_group n (sym e ∙ ap some_of f) in
      rw i.same (ap on (sym (ap₂ group (p ∙ ap (marked 5 g.seen) i.field) (q ∙ stored_line g.item i.line i.field i.value))))

  pub line_refused : {r : Refusal} → x ≡ Err r → after_line g n ≡ stop_with r
  line_refused f = rw (wrong_of position_group n (sym e ∙ ap some_of f))
