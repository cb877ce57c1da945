-- The contracts of `open` and `comment` determine what they answer, and the words that are lent.
use mathlib.Core.Path.{◌≡◌, sym, ◌∙◌}
use mathlib.Core.List.{List}
use Prim.Native.Nat.{ℕ}
use Rattle.std.specs.Prelude.{Result, ⊤}
use Rattle.error.specs.declared.Refusal.{Refusal}
use Rattle.head_record.specs.declared.Header.{Header}
use Rattle.head_open.specs.Open.{open_of, comment_of}
use Rattle.head_open.specs.Left.{open_left}

-- w are the words before it
pub open_once : (s w : List ℕ) {x y : Result ⊤ Refusal} {u v : List ℕ} → (x ≡ (open_of s).verdict) × (u ≡ open_left s w) → (y ≡ (open_of s).verdict) × (v ≡ open_left s w) → (x ≡ y) × (u ≡ v)
open_once s w e k = (e.0 ∙ sym k.0, e.1 ∙ sym k.1)

pub comment_once : (s : List ℕ) (h : Header) (fallback : List ℕ) {x y : List ℕ} → x ≡ comment_of s h fallback → y ≡ comment_of s h fallback → x ≡ y
comment_once s h fallback e k = e ∙ sym k
