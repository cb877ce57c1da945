-- The names of STREAM_TYPE as they stand in words, compared one with another; and each way through the two rules.
use mathlib.Core.Path.{◌≡◌, sym, ap, ap₂, ◌∙◌}
use mathlib.Core.Bool.{Bool, true, false, not, cond}
use mathlib.Core.List.{List}
use Prim.Native.Nat.{ℕ, ◌+◌, ◌*◌, ◌≤◌, ◌<◌}
use native.Mathlib.Omega.{arith}
use lib.Dec.{eqb}
use lib.ListN.{get_or}
use Rattle.written.specs.Bytes.{same}
use Rattle.laws.proofs.Every.{Passing, passing_on, passing_off, passing_end}
use Rattle.head_record.specs.Empty.{no_span}
use Rattle.text_parts.specs.declared.Span.{Span}
use Rattle.head_words.specs.Words.{word_at, span_at, global_at, header_at}
use Rattle.head_words.proofs.Items.{get_or-run}
use Rattle.text_parts.specs.Parts.{bytes_of}
use Rattle.house_types.specs.Types.{type_name, new_name, types_once, types_rule}

module _ (s w : List ℕ) where
  type_at : (i : ℕ) → i < 8 → get_or (header_at w).global.stream_type i no_span ≡ span_at w (6 + 2 * i)
  unfolding header_at global_at
  type_at i l = get_or-run (λ k. span_at w (6 + 2 * k)) no_span 0 8 i l ∙ ap (λ k. span_at w (6 + 2 * k)) (omega arith)

  -- the k-th name is another than the i-th
  abbrev pub other : ℕ → ℕ → Bool
  other i k = not (same (type_name s (header_at w) k) (type_name s (header_at w) i))

  -- as the code compares them
  module _ {i k : ℕ} (l : i < 8) (m : k < i) {x y : Span} (e : x ≡ span_at w (6 + 2 * k)) (f : y ≡ span_at w (6 + 2 * i)) {b c : Bool} (t : b ≡ same (bytes_of s x) (bytes_of s y)) (u : b ≡ c) where
    compared : other i k ≡ not c
    compared =
        ap not (ap₂ (λ (p q : Span). same (bytes_of s p) (bytes_of s q)) (type_at k (omega arith) ∙ sym e) (type_at i l ∙ sym f) ∙ sym t ∙ u)

    pub name_on : not c ≡ true → Passing (other i) i k → Passing (other i) i (k + 1)
    name_on z p = passing_on (other i) i k p m (compared ∙ z)

    pub name_twice : not c ≡ false → Passing (other i) i k → false ≡ new_name s (header_at w) i
    unfolding new_name
    name_twice z p = passing_off (other i) i k p m (compared ∙ z)

  pub name_new : {i k : ℕ} → i ≤ k → Passing (other i) i k → true ≡ new_name s (header_at w) i
  unfolding new_name
  name_new {i} {k} l p = passing_end (other i) i k p l

  -- ---- the rules

  pub number_broken : eqb (word_at w 5) (word_at w 22) ≡ false → 30 ≡ types_rule s (header_at w)
  unfolding types_rule header_at global_at
  number_broken e = sym (ap (λ (b : Bool). cond b (cond (types_once s (header_at w)) 0 31) 30) e)

  pub number_kept : eqb (word_at w 5) (word_at w 22) ≡ true → (b : Bool) → types_once s (header_at w) ≡ b → cond b 0 31 ≡ types_rule s (header_at w)
  unfolding types_rule header_at global_at
  number_kept e b f = sym (ap₂ (λ (c d : Bool). cond c (cond d 0 31) 30) e f)
