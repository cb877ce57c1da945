-- The first of the house's two rules on STREAM_TYPE that a record breaks, by computation (02, Wish 11).
use Rattle.std.specs.Prelude.{Bool, not, cond, List, ℕ, eqb, get_or}
use Rattle.written.specs.Bytes.{same}
use Rattle.laws.specs.Every.{all}
use Rattle.head_record.specs.Empty.{no_span}
use Rattle.head_record.specs.declared.Header.{Header}
use Rattle.text_parts.specs.Parts.{bytes_of}

-- the i-th name
abbrev pub type_name : List ℕ → Header → ℕ → List ℕ
type_name s h i = bytes_of s (get_or h.global.stream_type i no_span)

-- no name before the i-th has its bytes
unfoldable pub new_name : List ℕ → Header → ℕ → Bool
new_name s h i = all (λ k. not (same (type_name s h k) (type_name s h i))) 0 i

unfoldable pub types_once : List ℕ → Header → Bool
types_once s h = all (new_name s h) 0 h.global.stream_type_count

-- 30, 31, or 0
unfoldable pub types_rule : List ℕ → Header → ℕ
types_rule s h = cond (eqb h.global.num_streams h.global.stream_type_count) (cond (types_once s h) 0 31) 30
