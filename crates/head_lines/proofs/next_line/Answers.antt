-- `head_lines::next_line` meets its contract.
use mathlib.Core.Bool.{false}
use Rattle.std.specs.Prelude.{Some, Ok}
use Rattle.std.proofs.lemmas.Result.{err_from_is_err_and}
use Rattle.text_parts.specs.Parts.{bytes_of}
use Rattle.head_de_values.specs.Values.{value_in}
use Rattle.head_fields.proofs.Fields.{kind_of_key}
use Rattle.head_fields.specs.Fields.{fields_of, field_index, kind_at}
use Rattle.written.specs.HeaderText.{Kind, kind_of}
use Rattle.head_lines.proofs.Lines.{made, line_twice, line_read, line_wrong}
use Rattle.head_lines.specs.Lines.{line_at, line_of, behind_key, line_in, stood_at, line_value_at}
use mathlib.Core.Path.{◌≡◌, sym, ap, ◌∙◌}
use Prim.Native.Nat.{ℕ}
use Rattle.head_lines.proofs.next_line.Goals.{After-field_of-field, After-line_value, Else-stood}
use Rattle.head_lines.proofs.next_line.Goals as goal

at_key : (c : After-field_of-field) → line_at (fields_of c.args.table) c.args.seen c.args.s.now c.args.c.at ≡ behind_key (fields_of c.args.table) c.args.seen c.args.s.now c.in-Some.key
unfolding line_at
at_key c = ap (line_of (fields_of c.args.table) c.args.seen c.args.s.now) (sym c.next_key.ensures ∙ c.in_ok-key.was ∙ ap Ok c.in-Some.is)

index : (c : After-field_of-field) → c.field_of-field.result ≡ field_index (fields_of c.args.table) (bytes_of c.args.s.now c.in-Some.key.value)
index c = c.field_of-field.ensures ∙ ap (field_index (fields_of c.args.table)) c.part_of.ensures

value : (c : After-line_value) → c.line_value.result ≡ value_in (line_value_at c.args.s.now c.in-Some.key.next.at (kind_of (fields_of c.args.table) (bytes_of c.args.s.now c.in-Some.key.value)))
value c =
    c.line_value.ensures
    ∙ ap (λ (t : Kind). value_in (line_value_at c.args.s.now c.in-Some.key.next.at t))
    (c.kind_of.ensures ∙ ap (kind_at (fields_of c.args.table)) (c.field_of-field.ensures ∙ ap (field_index (fields_of c.args.table)) c.part_of.ensures) ∙ kind_of_key (fields_of c.args.table) (bytes_of c.args.s.now c.in-Some.key.value))

new : (c : Else-stood) → stood_at c.args.seen (field_index (fields_of c.args.table) (bytes_of c.args.s.now c.in-Some.key.value)) ≡ false
new c = ap (stood_at c.args.seen) (sym (c.field_of-field.ensures ∙ ap (field_index (fields_of c.args.table)) c.part_of.ensures)) ∙ sym c.stood.ensures ∙ c.if-stood.false

pub returns-in_err-key : goal.returns-in_err-key
unfolding line_at
returns-in_err-key c =
    let p = err_from_is_err_and c.from_residual.result c.from_residual.ensures.1 in
    rw (p.1, p.2, sym c.next_key.ensures ∙ c.in_err-key.was)

pub returns-in_default : goal.returns-in_default
unfolding line_at
returns-in_default c = rw (sym c.next_key.ensures ∙ c.in_ok-key.was ∙ ap Ok c.in_default.is)

pub returns-then-stood : goal.returns-then-stood
returns-then-stood c =
    let a = (goal.at.returns-then-stood c).After-field_of-field in
    sym (ap (line_in (fields_of c.args.table)) (at_key a) ∙ line_twice (fields_of c.args.table) c.args.seen _ (bytes_of c.args.s.now c.in-Some.key.value) _ (ap (stood_at c.args.seen) (sym (index a)) ∙ sym c.stood.ensures ∙ c.if-stood.true))

pub returns-in_err-found : goal.returns-in_err-found
returns-in_err-found c =
    let p = err_from_is_err_and c.from_residual-in_err-found.result c.from_residual-in_err-found.ensures.1 in
    let a = goal.at.returns-in_err-found c in
    rw (p.1, p.2)
    (sym
    (ap (line_in (fields_of c.args.table)) (at_key a.After-field_of-field)
    ∙ line_wrong (fields_of c.args.table) c.args.seen _ (bytes_of c.args.s.now c.in-Some.key.value) _ (new a.Else-stood) (sym (value a.After-line_value) ∙ c.in_err-found.was)))

pub returns : goal.returns
returns c =
    let a = goal.at.returns c in
    ap (λ (k : ℕ). Ok (Some (made k c.in_ok-found.found.value c.in_ok-found.found.next))) (index a.After-field_of-field)
    ∙ sym
    (ap (line_in (fields_of c.args.table)) (at_key a.After-field_of-field)
    ∙ line_read (fields_of c.args.table) c.args.seen _ (bytes_of c.args.s.now c.in-Some.key.value) _ (new a.Else-stood) (sym (value a.After-line_value) ∙ c.in_ok-found.was))
