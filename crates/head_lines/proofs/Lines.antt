-- The laws of a line: what follows its value, and how a line stands in `Line`.
use mathlib.Core.Path.{◌≡◌, sym, ap, ◌∙◌}
use mathlib.Core.Bool.{Bool, true, false}
use mathlib.Core.List.{List, [], ◌∷◌}
use Prim.Native.Nat.{ℕ}
use Rattle.std.specs.Prelude.{Some, Ok, Err}
use Rattle.written.specs.Bytes.{newline}
use Rattle.written.specs.HeaderText as says
use Rattle.written.specs.HeaderText.{Field}
use Rattle.error.specs.declared.Refusal.{Refusal}
use Rattle.error.specs.declared.Refusal.TheVariants as refusal
use Rattle.head_de.specs.Values.{ends_at}
use Rattle.head_de.specs.Readings.{Reading}
use Rattle.head_de.specs.declared.Cursor.{Cursor}
use Rattle.head_de.specs.declared.Read.{Read}
use Rattle.head_de_values.specs.declared.Value.{Value}
use Rattle.head_de_values.specs.Values.{value_in}
use Rattle.head_de_values.proofs.Stands.{read_of, refused_of}
use Rattle.head_fields.specs.Fields.{field_index}
use Rattle.head_lines.specs.Lines.{ended_of, stood_at, keyed_at, line_in}
use Rattle.head_lines.specs.declared.Line.{Line}

-- ---- behind a value

module _ (s : List ℕ) (x : Reading says.Value) where
  pub value_ended : {y : Read Value} → value_in x ≡ Ok y → ends_at (newline ∷ []) s y.next.at ≡ true → value_in (ended_of s x) ≡ Ok y
  value_ended e t = let h = read_of x e in rw (h.same, t) (sym (ap value_in h.same) ∙ e)

  pub value_unended : {y : Read Value} → value_in x ≡ Ok y → ends_at (newline ∷ []) s y.next.at ≡ false → value_in (ended_of s x) ≡ Err (refusal.ExpectedMapNewline y.next.at)
  value_unended e t = let h = read_of x e in rw (h.same, t)

  pub value_refused : {r : Refusal} → value_in x ≡ Err r → value_in (ended_of s x) ≡ Err r
  value_refused e = rw (refused_of x e)

-- ---- a line

abbrev pub made : ℕ → Value → Cursor → Line
made k v c = record { field = k; value = v; next = c }

module _ (T : List Field) (m : List Bool) (at : ℕ) (w : List ℕ) (x : Reading says.Value) where
  pub line_twice : stood_at m (field_index T w) ≡ true → line_in T (keyed_at T m at w x) ≡ Err refusal.Field
  unfolding keyed_at
  line_twice e = rw e

  module _ (e : stood_at m (field_index T w) ≡ false) where
    pub line_read : {y : Read Value} → value_in x ≡ Ok y → line_in T (keyed_at T m at w x) ≡ Ok (Some (made (field_index T w) y.value y.next))
    unfolding keyed_at
    line_read {y} o = let i = read_of x o in rw (e, i.same) (ap (λ (v : Value). Ok (Some (made (field_index T w) v y.next))) (sym i.stands))

    pub line_wrong : {r : Refusal} → value_in x ≡ Err r → line_in T (keyed_at T m at w x) ≡ Err r
    unfolding keyed_at
    line_wrong o = rw (e, refused_of x o)
