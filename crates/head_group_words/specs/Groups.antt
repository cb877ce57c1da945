-- Eight groups of one width in words.
use Rattle.std.specs.Prelude.{Bool, true, false, cond, List, ℕ, zero, suc, ◌+◌, ◌*◌, ltb, Result, Ok, Err, ⊤}
use Rattle.error.specs.declared.Refusal.{Refusal}
use Rattle.error.specs.declared.Refusal.TheVariants as refusal
use Rattle.text_parts.specs.declared.Span.{Span}
use Rattle.head_words.specs.Words.{run, word_at, span_at}

-- their names, of groups of b words each from i on
unfoldable pub names_at : List ℕ → ℕ → ℕ → List Span
names_at w i b = run (λ k. span_at w (i + b * k)) 0 8

-- one of the first n counts, b words apart from i on, passes the limit l
unfoldable pub many_at : List ℕ → ℕ → ℕ → ℕ → ℕ → Bool
many_at w i b l zero = false
many_at w i b l (suc n) = cond (ltb l (word_at w (i + b * n))) true (many_at w i b l n)

-- more than 8 groups, or a count that passes its limit (12)
unfoldable pub judged_in : List ℕ → ℕ → ℕ → ℕ → ℕ → Result ⊤ Refusal
judged_in w i b l n =
    cond (ltb 8 n) (Err refusal.Limit) (cond (many_at w i b l 8) (Err refusal.Limit) (Ok tt))
