-- What a value that is read, or refused, says of the reading that it stands for.
use mathlib.Core.Path.{◌≡◌, sym, ap}
use Rattle.std.specs.Prelude.{Ok, Err}
use Rattle.written.specs.HeaderText as says
use Rattle.error.specs.declared.Refusal.{Refusal}
use Rattle.head_de.specs.Values.{cursor}
use Rattle.head_de.specs.Readings.{Reading, read, refused}
use Rattle.head_de.specs.declared.Read.{Read}
use Rattle.head_de_values.specs.declared.Value.{Value}
use Rattle.head_de_values.specs.Values.{value_of, value_in}

-- a value that is read
pub record IsRead (x : Reading says.Value) (y : Read Value) : Type 0 where
  pub value : says.Value
  pub same : x ≡ read value y.next.at
  pub stands : y.value ≡ value_of value

pub read_of : (x : Reading says.Value) {y : Read Value} → value_in x ≡ Ok y → IsRead x y
read_of (read v j) {y} e = let f : ◌≡◌ {A = Read Value} (record { value = value_of v; next = cursor j }) y = cc in record { value = v; same = ap (λ (z : Read Value). read v z.next.at) f; stands = sym (ap (λ (z : Read Value). z.value) f) }
read_of (refused r) e = cc

pub refused_of : (x : Reading says.Value) {q : Refusal} → value_in x ≡ Err q → x ≡ refused q
refused_of (read v j) e = cc
refused_of (refused r) {q} e = let f : r ≡ q = cc in ap refused f
