-- What reading gives, in the words of `written`: something and the place behind it, or a refusal.
use Rattle.std.specs.Prelude.{ℕ, Result, Ok, Err}
use Rattle.written.specs.Bytes as written
use Rattle.written.specs.HeaderText as says
use Rattle.error.specs.declared.Refusal.{Refusal}
use Rattle.text_parts.specs.declared.Span.{Span}
use Rattle.head_record.specs.declared.Range.{Range}
use Rattle.head_de.specs.declared.Read.{Read}

pub data Reading (A : Type 0) : Type 0 where
  read : A → ℕ → Reading A
  refused : Refusal → Reading A

abbrev pub mapped : {A B : Type 0} → (A → B) → Reading A → Reading B
mapped f (read a j) = read (f a) j
mapped f (refused r) = refused r

-- an answer of the code, where f says what its value is in those words
abbrev pub reading : {A B : Type 0} → (A → B) → Result (Read A) Refusal → Reading B
reading f (Ok x) = read (f x.value) x.next.at
reading f (Err r) = refused r

abbrev pub of_text : Result (Read Span) Refusal → Reading written.Span
of_text x = reading (λ t. record { start = t.start; len = t.len }) x

abbrev pub of_plain : {A : Type 0} → Result (Read A) Refusal → Reading A
of_plain x = reading (λ a. a) x

abbrev pub of_pair : Result (Read Range) Refusal → Reading says.Range
of_pair x = reading (λ r. record { from = r.from; to = r.to }) x
