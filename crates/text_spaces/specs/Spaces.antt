-- What the readers of this crate answer, on the list of bytes and the place.
use Rattle.text_parts.specs.declared.Span.{Span}
use Rattle.text_parts.specs.declared.Read.{Read}
use Rattle.text_parts.specs.Parts.{read_to, cut}
use Rattle.std.specs.declared.option.Option.{Option}
use Rattle.std.specs.Prelude.{cond, List, ℕ, ◌+◌, ◌-◌, ltb, eqb, Some, None}
use Rattle.written.specs.Bytes.{newline, unbrace, blank, space_or_tab, in_name, byte_at}
use Rattle.laws.specs.Runs.{stop}

-- blanks from i up to b, a name from b up to c, blanks from c up to d: at least one byte of each
unfoldable pub name_of : ℕ → ℕ → ℕ → ℕ → Option (Read Span)
name_of i b c d = cond (ltb i b) (cond (ltb b c) (cond (ltb c d) (Some (read_to (cut b (c - b)) d)) None) None) None

-- blanks, a name, blanks
unfoldable pub name_at : List ℕ → ℕ → Option (Read Span)
name_at s i = let b = stop blank s i in let c = stop in_name s b in name_of i b c (stop blank s c)

-- the byte b at i, and where reading goes on from the place past it
unfoldable pub past_byte : ℕ → List ℕ → ℕ → Option ℕ
past_byte b s i = cond (eqb (byte_at s i) b) (Some (i + 1)) None

-- the byte b at the place that was found
abbrev pub then_byte : ℕ → List ℕ → Option ℕ → Option ℕ
then_byte b s (Some i) = past_byte b s i
then_byte b s None = None

-- any spaces or tabs, and a newline
unfoldable pub newline_at : List ℕ → ℕ → Option ℕ
newline_at s i = past_byte newline s (stop space_or_tab s i)

abbrev pub then_at : (ℕ → ℕ) → Option ℕ → Option ℕ
then_at f (Some i) = Some (f i)
then_at f None = None

-- what parts two questions or two trees
unfoldable pub parting_at : List ℕ → ℕ → Option ℕ
parting_at s i = then_at (stop blank s) (newline_at s i)

-- what parts two lines
unfoldable pub line_parting_at : List ℕ → ℕ → Option ℕ
line_parting_at s i = then_at (λ j. stop blank s (stop space_or_tab s j)) (newline_at s i)

-- any blanks, and }
unfoldable pub close_at : List ℕ → ℕ → Option ℕ
close_at s i = past_byte unbrace s (stop blank s i)
