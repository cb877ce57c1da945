-- `head_brackets::row_line` meets its contract.
use Prim.Native.Nat.{ℕ}
use lib.ListN.{take}
use mathlib.Core.Bool.{false}
use Rattle.std.specs.Prelude.{Some, Ok}
use Rattle.std.proofs.lemmas.Result.{err_from_is_err_and}
use mathlib.Core.List.{List, []}
use Rattle.head_de.specs.Readings.{Reading}
use Rattle.head_de_values.specs.Values.{value_in, read_at}
use Rattle.head_fields.proofs.Fields.{kind_of_key}
use Rattle.head_fields.specs.Fields.{fields_of, field_index, kind_at}
use Rattle.written.specs.HeaderText.{Kind, Value, kind_of}
use Rattle.head_lines.proofs.Lines.{made, line_twice, line_read, line_wrong}
use Rattle.head_lines.specs.Lines.{stood_at}
use Rattle.head_brackets.specs.Rows.{row_line_at, field_name}
use mathlib.Core.Path.{◌≡◌, sym, ap, ap₂, ◌∙◌}
use Rattle.head_brackets.proofs.row_line.Goals.{After-field_of-field, After-read, Else-stood}
use Rattle.head_brackets.proofs.row_line.Goals as goal

index : (c : After-field_of-field) → c.field_of-field.result ≡ field_index (fields_of c.args.table) (field_name c.args.s.now c.args.row)
index c = c.field_of-field.ensures ∙ ap (field_index (fields_of c.args.table)) c.part_of.ensures

-- its value
abbrev alone : After-read → Reading Value
alone c = read_at [] (take c.args.row.end c.args.s.now) c.args.row.value (kind_of (fields_of c.args.table) (field_name c.args.s.now c.args.row))

value : (c : After-read) → c.read.result ≡ value_in (alone c)
value c =
    c.read.ensures
    ∙ ap₂ (λ (u : List ℕ) (t : Kind). value_in (read_at [] u c.args.row.value t))
    c.up_to.ensures
    (c.kind_of.ensures ∙ ap (kind_at (fields_of c.args.table)) (c.field_of-field.ensures ∙ ap (field_index (fields_of c.args.table)) c.part_of.ensures) ∙ kind_of_key (fields_of c.args.table) (field_name c.args.s.now c.args.row))

new : (c : Else-stood) → stood_at c.args.seen (field_index (fields_of c.args.table) (field_name c.args.s.now c.args.row)) ≡ false
new c = ap (stood_at c.args.seen) (sym (c.field_of-field.ensures ∙ ap (field_index (fields_of c.args.table)) c.part_of.ensures)) ∙ sym c.stood.ensures ∙ c.if-stood.false

pub returns-then-stood : goal.returns-then-stood
unfolding row_line_at
returns-then-stood c = sym (line_twice (fields_of c.args.table) c.args.seen _ (field_name c.args.s.now c.args.row) _ (ap (stood_at c.args.seen) (sym (index (goal.at.returns-then-stood c).After-field_of-field)) ∙ sym c.stood.ensures ∙ c.if-stood.true))

pub returns-in_err-found : goal.returns-in_err-found
unfolding row_line_at
returns-in_err-found c =
    let p = err_from_is_err_and c.from_residual.result c.from_residual.ensures.1 in
    let a = goal.at.returns-in_err-found c in
    rw (p.1, p.2) (sym (line_wrong (fields_of c.args.table) c.args.seen _ (field_name c.args.s.now c.args.row) _ (new a.Else-stood) (sym (value a.After-read) ∙ c.in_err-found.was)))

pub returns : goal.returns
unfolding row_line_at
returns c =
    let a = goal.at.returns c in
    ap (λ (k : ℕ). Ok (Some (made k c.in_ok-found.found.value c.in_ok-found.found.next))) (index a.After-field_of-field)
    ∙ sym (line_read (fields_of c.args.table) c.args.seen _ (field_name c.args.s.now c.args.row) _ (new a.Else-stood) (sym (value a.After-read) ∙ c.in_ok-found.was))
