-- What the functions of this crate answer: of a tree's lines, those whose references lead nowhere, and the first of them.
use Rattle.std.specs.declared.option.Option.{Option}
use Rattle.std.specs.Prelude.{Bool, cond, ◌||◌, List, [], ◌∷◌, ℕ, suc, Some, None}
use Rattle.tree_line.specs.declared.Line.{Line}
use Rattle.tree_line.specs.declared.LineStep.{LineStep}
use Rattle.tree_line.specs.declared.LineStep.TheVariants as step
use Rattle.link_alone.specs.Alone.{target_in}
use Rattle.link_fits.specs.Fits.{nowhere}
use Rattle.link_stray.specs.declared.Stray.{Stray}
use Rattle.link_stray.specs.declared.Stray.TheVariants.{Astray, Next, Clean}

-- the first of a list of which a test is true, counted from k
module _ {A : Type 0} (p : A → Bool) where
  unfoldable pub first_from : ℕ → List A → Option ℕ
  first_from k [] = None
  first_from k (x ∷ xs) = cond (p x) (Some k) (first_from (suc k) xs)

-- its yes or its no leads nowhere
abbrev pub strays : List Line → Line → Bool
strays ls l = nowhere (target_in ls l.yes) || nowhere (target_in ls l.no)

-- the line that was read, and whether another follows it
abbrev pub stray_of : List Line → LineStep → Stray
stray_of ls (step.Next l j) = cond (strays ls l) Astray (Next j)
stray_of ls (step.Last l j) = cond (strays ls l) Astray Clean
stray_of ls step.Broken = Clean
