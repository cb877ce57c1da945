-- Where the sections of a file stand, by going from one to the next.
use Rattle.std.specs.Prelude.{Bool, cond, ◌&&◌, List, [], ◌∷◌, ℕ, suc, ◌+◌, ◌-◌, eqb, ltb, length, drop, Option, Some, None}
use Rattle.written.specs.Bytes.{bytes, newline, bracket, is_newline, same, byte_at, part}
use Rattle.laws.specs.Runs.{stop}
use Rattle.head_record.specs.Empty.{span}
use Rattle.head_sections.specs.declared.Parts.{Parts}
use Rattle.head_sections.specs.declared.Section.{Section}

-- w stands at i
unfoldable pub starts_at : List ℕ → ℕ → List ℕ → Bool
starts_at s i w = same (part s i (length w)) w

-- how far it is to the next "\n[", or to the end
unfoldable pub break_in : List ℕ → ℕ
break_in [] = 0
break_in (b ∷ s) = cond (eqb b newline && eqb (byte_at s 0) bracket) 0 (suc (break_in s))

-- "\n[" stands at i
unfoldable pub break_here : List ℕ → ℕ → Bool
break_here s i = eqb (byte_at s i) newline && eqb (byte_at s (i + 1)) bracket

unfoldable pub break_at : List ℕ → ℕ → ℕ
break_at s i = i + break_in (drop i s)

-- the text from i up to e
abbrev pub text : ℕ → ℕ → Option Section
text i e = Some (record { start = i; end = e })

-- a text from i that runs up to a "\n[" at e
abbrev pub text_to : List ℕ → ℕ → ℕ → Option Section
text_to s i e = cond (ltb e (length s)) (text i e) None

unfoldable pub section_at : List ℕ → ℕ → List ℕ → Option Section
section_at s i w = cond (starts_at s i w) (text_to s (i + length w) (break_at s (i + length w))) None

-- ---- one section after the other, each behind the newline before its heading

abbrev pub data_of : List ℕ → ℕ → ℕ → ℕ → ℕ → Option Section → Option Parts
data_of s g h a b None = None
data_of s g h a b (Some p) =
    cond (starts_at s (p.end + 1) (bytes "[DATA]\n"))
    (Some (record { global = span g (h - g); stream = span a (b - a); position = span p.start (p.end - p.start); rest = span (p.end + 8) (length s - (p.end + 8)) }))
    None

abbrev pub position_of : List ℕ → ℕ → ℕ → Option Section → Option Parts
position_of s g h None = None
position_of s g h (Some a) = data_of s g h a.start a.end (section_at s (a.end + 1) (bytes "[POSITION]\n"))

abbrev pub stream_of : List ℕ → Option Section → Option Parts
stream_of s None = None
stream_of s (Some g) = position_of s g.start g.end (section_at s (g.end + 1) (bytes "[STREAM]\n"))

unfoldable pub split_of : List ℕ → Option Parts
split_of s = stream_of s (section_at s (stop is_newline s 0) (bytes "[GLOBAL]\n"))
