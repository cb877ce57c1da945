-- `head_de_values::read_strings` meets its contract.
use Prim.Native.Nat.{ℕ}
use mathlib.Core.List.{List, ◌∷◌}
use Rattle.std.specs.Prelude.{Result, Ok, Err}
use Rattle.std.proofs.lemmas.Result.{err_from_is_err_and}
use Rattle.error.specs.declared.Refusal.{Refusal}
use Rattle.written.specs.Bytes.{comma}
use Rattle.written.specs.HeaderText.{texts, strings}
use Rattle.written.specs.Bytes.{Span}
use Rattle.head_de.specs.declared.Read.{Read}
use Rattle.head_de_values.specs.declared.Value.{Value}
use Rattle.head_de_lists.specs.declared.Spans.{Spans}
use Rattle.head_de_lists.specs.Lists.{list_at, strings_in}
use Rattle.head_de.specs.Readings.{Reading, read, refused, mapped, of_text}
use Rattle.head_de.specs.Values.{text_at}
use Rattle.head_de_values.specs.Values.{read_at, value_of, blank_value, value_in, around_of}
use mathlib.Core.Path.{◌≡◌, refl, sym, ap, ap₂, ◌∙◌}
use Rattle.head_de_values.proofs.read_strings.Goals.{After-strings}
use Rattle.head_de_values.proofs.read_strings.Goals as goal

-- the value that a list makes
abbrev with_list : Result (Read Spans) Refusal → Result (Read Value) Refusal
with_list (Ok x) = Ok (record { value = record { number = blank_value.number; flag = blank_value.flag; span = blank_value.span; range = blank_value.range; spans = x.value; ranges = blank_value.ranges }; next = x.next })
with_list (Err r) = Err r

stands : (x : Reading (List Span)) → with_list (strings_in x) ≡ value_in (mapped texts x)
unfolding blank_value value_of
stands (read l j) = refl
stands (refused r) = refl

found : (c : After-strings) → with_list c.strings.result ≡ value_in (read_at (around_of c.args.around) c.args.s.now c.args.c.at strings)
unfolding read_at
found c =
    ap with_list
    (c.strings.ensures
    ∙ ap₂ (λ (D E : List ℕ). strings_in (list_at (λ i. of_text (text_at D c.args.s.now i)) E c.args.s.now c.args.c.at)) c.inner.ensures c.outer.ensures)
    ∙ stands (list_at (λ i. of_text (text_at (comma ∷ around_of c.args.around) c.args.s.now i)) (around_of c.args.around) c.args.s.now c.args.c.at)

pub returns-in_err-found : goal.returns-in_err-found
returns-in_err-found c =
    let p = err_from_is_err_and c.from_residual.result c.from_residual.ensures.1 in
    rw (p.1, p.2) (sym (ap with_list c.in_err-found.was) ∙ found (goal.at.returns-in_err-found c).After-strings)

pub returns : goal.returns
returns c = rw c.blank-value.ensures (sym (ap with_list c.in_ok-found.was) ∙ found (goal.at.returns c).After-strings)
