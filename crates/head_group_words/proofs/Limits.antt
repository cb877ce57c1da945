-- The loops over groups in words: the name of one, and counts past their limit, from the last.
use mathlib.Core.Path.{◌≡◌, ap, ◌∙◌}
use mathlib.Core.Bool.{true}
use mathlib.Core.List.{List}
use Prim.Native.Nat.{ℕ, zero, suc, ◌+◌, ◌-◌, ◌*◌, ◌≤◌, ◌<◌}
use native.Mathlib.Omega.{arith}
use borrow.Author.Tests.{lt-ltb, le-ltb}
use lib.ListN.{get_or}
use Rattle.written.specs.Bytes.{same}
use Rattle.head_record.specs.Empty.{no_span}
use Rattle.text_parts.specs.declared.Span.{Span}
use Rattle.text_parts.specs.Parts.{bytes_of}
use Rattle.head_words.specs.Words.{word_at, span_at}
use Rattle.head_words.proofs.Items.{get_or-run}
use Rattle.head_group_words.specs.Groups.{names_at, many_at}

pub name_at : (w : List ℕ) (i b k : ℕ) → k < 8 → get_or (names_at w i b) k no_span ≡ span_at w (i + b * k)
unfolding names_at
name_at w i b k h =
    let e : 0 + k ≡ k = omega arith in get_or-run (λ j. span_at w (i + b * j)) no_span 0 8 k h ∙ ap (λ (j : ℕ). span_at w (i + b * j)) e

pub same_at : (s w : List ℕ) (i b k : ℕ) (v : List ℕ) → k < 8 → same (bytes_of s (get_or (names_at w i b) k no_span)) v ≡ same (bytes_of s (span_at w (i + b * k))) v
same_at s w i b k v h = ap (λ (x : Span). same (bytes_of s x) v) (name_at w i b k h)

module _ (w : List ℕ) (i b l : ℕ) where
  pub many_here : (n : ℕ) → 0 < n → l < word_at w (i + b * (n - 1)) → many_at w i b l n ≡ true
  unfolding many_at
  many_here zero h k = absurd (omega arith)
  many_here (suc n) h k = let e : suc n - 1 ≡ n = omega arith in rw (lt-ltb l (word_at w (i + b * n)) (rw e at k))

  pub many_on : (n : ℕ) → 0 < n → word_at w (i + b * (n - 1)) ≤ l → many_at w i b l n ≡ many_at w i b l (n - 1)
  unfolding many_at
  many_on zero h k = absurd (omega arith)
  many_on (suc n) h k = let e : suc n - 1 ≡ n = omega arith in rw (e, le-ltb l (word_at w (i + b * n)) (rw e at k))
