-- What the readers of this crate answer, of the trees, lines and questions that are read of a text.
use Rattle.std.specs.declared.option.Option.{Option}
use Rattle.std.specs.Prelude.{◌≡◌, Bool, true, false, cond, List, [], ◌∷◌, ℕ, zero, suc, ◌+◌, eqb, length, Some, None}
use Rattle.written.specs.Bytes.{same}
use Rattle.written.specs.Said.{QuestionPlace}
use Rattle.laws.specs.Steps.{Step, next, last, broken}
use Rattle.tree_line.specs.Lines.{lines_at}
use Rattle.tree_line.specs.declared.Line.{Line}
use Rattle.tree_body.specs.Trees.{Tree}
use Rattle.link_order.specs.Keys.{id_key}
use Rattle.text_parts.specs.Parts.{part_inside}
use Rattle.link_find.specs.declared.NameStep.{NameStep}
use Rattle.link_find.specs.declared.NameStep.TheVariants as name

-- ---- trees

-- where tree n stands
unfoldable pub star_of : List Tree → ℕ → Option ℕ
star_of [] n = None
star_of (t ∷ ts) zero = Some t.star
star_of (t ∷ ts) (suc n) = star_of ts n

-- ---- the last of a list of which a test is true, counted from k; f is what was found before

module _ {A : Type 0} (p : A → Bool) where
  unfoldable pub last_from : ℕ → Option ℕ → List A → Option ℕ
  last_from k f [] = f
  last_from k f (x ∷ xs) = last_from (suc k) (cond (p x) (Some k) f) xs

-- ---- questions

abbrev pub name_step : Step QuestionPlace → NameStep
name_step (next q i) = name.Next q.name.start q.name.len i
name_step (last q i) = name.Last q.name.start q.name.len
name_step (broken i) = name.Broken

abbrev pub named : List ℕ → List ℕ → QuestionPlace → Bool
named s w q = same (part_inside s q.name.start q.name.len) w

-- the last question of a name
abbrev pub asked : List ℕ → List ℕ → List QuestionPlace → Option ℕ
asked s w qs = last_from (named s w) 0 None qs

-- ---- lines

-- a line bears the id of a key
abbrev pub bears : ℕ → Line → Bool
bears x l = eqb (id_key l.id) x

-- the number of the last line that bears it
abbrev pub bearer : ℕ → List Line → Option ℕ
bearer x ls = last_from (bears x) 0 None ls

-- the line itself; g is what was kept before
unfoldable pub bearing_from : ℕ → Option Line → List Line → Option Line
bearing_from x g [] = g
bearing_from x g (l ∷ ls) = bearing_from x (cond (bears x l) (Some l) g) ls

abbrev pub bearing : ℕ → List Line → Option Line
bearing x ls = bearing_from x None ls

-- line k bears the id -k: moved up, 2^63 - k
abbrev pub placed : ℕ → Line → Bool
placed k l = eqb (id_key l.id + k) 9223372036854775808

unfoldable pub ordered : ℕ → List Line → Bool
ordered k [] = true
ordered k (l ∷ ls) = cond (placed k l) (ordered (suc k) ls) false

-- what is known of a tree's lines before one is looked for: how many there are, and whether their ids are in order
pub record Lines (s : List ℕ) (first n : ℕ) (b : Bool) : Type 0 where
  pub many : n ≡ length (lines_at s first).items
  pub order : b ≡ ordered 0 (lines_at s first).items
