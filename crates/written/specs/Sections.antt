-- How a file splits into four parts. From 01's 'Sections'.
use Rattle.std.specs.Prelude.{◌≡◌, List, ◌∷◌, ◌++◌, ℕ, suc, ◌+◌, ◌≤◌, length, replicate}
use Rattle.written.specs.Bytes.{bytes, newline, bracket, Span}

-- The text runs up to the next "\n[": the two bytes stand at the start of what follows, and nowhere before.
pub record UpToNext (text after : List ℕ) : Type 0 where
  pub rest : List ℕ
  pub here : after ≡ newline ∷ bracket ∷ rest
  pub first : (a b : List ℕ) → text ++ after ≡ a ++ (newline ∷ bracket ∷ b) → length text ≤ length a

-- n newlines
abbrev pub newlines : ℕ → List ℕ
newlines n = replicate n newline

-- where the four texts stand
pub record Parts : Type 0 where
  pub global : Span
  pub stream : Span
  pub position : Span
  pub rest : Span

-- `after` is n newlines, a heading, a text that runs up to the next "\n[", and what follows it; `after` stands behind `before` bytes of the file
pub record Part (n : ℕ) (heading : List ℕ) (before : ℕ) (after : List ℕ) (text : Span) (following : List ℕ) : Type 0 where
  pub written : List ℕ
  pub whole : after ≡ newlines n ++ (heading ++ (written ++ following))
  pub up_to : UpToNext written following
  pub start : text.start ≡ before + (n + length heading)
  pub len : text.len ≡ length written

-- Any newlines, "[GLOBAL]\n", text up to the next "\n["; one or more newlines, "[STREAM]\n", likewise; "[POSITION]\n", likewise; "[DATA]\n", the rest.
-- (Since a text runs up to the next "\n[", just one newline is left before each of the last three headings: proofs/OneFile, `one-newline`.)
pub record Sections (file : List ℕ) (p : Parts) : Type 0 where
  pub n_global : ℕ
  pub n_stream : ℕ
  pub n_position : ℕ
  pub n_data : ℕ
  pub after_global : List ℕ
  pub after_stream : List ℕ
  pub after_position : List ℕ
  pub dat : List ℕ
  pub global : Part n_global (bytes "[GLOBAL]\n") 0 file p.global after_global
  pub stream : Part (suc n_stream) (bytes "[STREAM]\n") (p.global.start + p.global.len) after_global p.stream after_stream
  pub position : Part (suc n_position) (bytes "[POSITION]\n") (p.stream.start + p.stream.len) after_stream p.position after_position
  pub rest : after_position ≡ newlines (suc n_data) ++ (bytes "[DATA]\n" ++ dat)
  pub rest_start : p.rest.start ≡ p.position.start + p.position.len + (suc n_data + length (bytes "[DATA]\n"))
  pub rest_len : p.rest.len ≡ length dat
