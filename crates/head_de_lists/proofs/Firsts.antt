-- The first places of a list in a longer array are the list in a shorter one.
use mathlib.Core.Path.{◌≡◌, refl}
use mathlib.Core.List.{List, [], ◌∷◌}
use Rattle.head_record.specs.Empty.{no_span}
use Rattle.head_record.specs.Lists.{filled}
use Rattle.text_parts.specs.declared.Span.{Span}
use Rattle.head_de_lists.specs.Lists.{firsts}

pub first8 : (l : List Span) → firsts 8 (filled 32 no_span l) 0 ≡ filled 8 no_span l
unfolding firsts filled
first8 [] = refl
first8 (x0 ∷ []) = refl
first8 (x0 ∷ x1 ∷ []) = refl
first8 (x0 ∷ x1 ∷ x2 ∷ []) = refl
first8 (x0 ∷ x1 ∷ x2 ∷ x3 ∷ []) = refl
first8 (x0 ∷ x1 ∷ x2 ∷ x3 ∷ x4 ∷ []) = refl
first8 (x0 ∷ x1 ∷ x2 ∷ x3 ∷ x4 ∷ x5 ∷ []) = refl
first8 (x0 ∷ x1 ∷ x2 ∷ x3 ∷ x4 ∷ x5 ∷ x6 ∷ []) = refl
first8 (x0 ∷ x1 ∷ x2 ∷ x3 ∷ x4 ∷ x5 ∷ x6 ∷ x7 ∷ l) = refl

pub first16 : (l : List Span) → firsts 16 (filled 32 no_span l) 0 ≡ filled 16 no_span l
unfolding firsts filled
first16 [] = refl
first16 (x0 ∷ []) = refl
first16 (x0 ∷ x1 ∷ []) = refl
first16 (x0 ∷ x1 ∷ x2 ∷ []) = refl
first16 (x0 ∷ x1 ∷ x2 ∷ x3 ∷ []) = refl
first16 (x0 ∷ x1 ∷ x2 ∷ x3 ∷ x4 ∷ []) = refl
first16 (x0 ∷ x1 ∷ x2 ∷ x3 ∷ x4 ∷ x5 ∷ []) = refl
first16 (x0 ∷ x1 ∷ x2 ∷ x3 ∷ x4 ∷ x5 ∷ x6 ∷ []) = refl
first16 (x0 ∷ x1 ∷ x2 ∷ x3 ∷ x4 ∷ x5 ∷ x6 ∷ x7 ∷ []) = refl
first16 (x0 ∷ x1 ∷ x2 ∷ x3 ∷ x4 ∷ x5 ∷ x6 ∷ x7 ∷ x8 ∷ []) = refl
first16 (x0 ∷ x1 ∷ x2 ∷ x3 ∷ x4 ∷ x5 ∷ x6 ∷ x7 ∷ x8 ∷ x9 ∷ []) = refl
first16 (x0 ∷ x1 ∷ x2 ∷ x3 ∷ x4 ∷ x5 ∷ x6 ∷ x7 ∷ x8 ∷ x9 ∷ x10 ∷ []) = refl
first16 (x0 ∷ x1 ∷ x2 ∷ x3 ∷ x4 ∷ x5 ∷ x6 ∷ x7 ∷ x8 ∷ x9 ∷ x10 ∷ x11 ∷ []) = refl
first16 (x0 ∷ x1 ∷ x2 ∷ x3 ∷ x4 ∷ x5 ∷ x6 ∷ x7 ∷ x8 ∷ x9 ∷ x10 ∷ x11 ∷ x12 ∷ []) = refl
first16 (x0 ∷ x1 ∷ x2 ∷ x3 ∷ x4 ∷ x5 ∷ x6 ∷ x7 ∷ x8 ∷ x9 ∷ x10 ∷ x11 ∷ x12 ∷ x13 ∷ []) = refl
first16 (x0 ∷ x1 ∷ x2 ∷ x3 ∷ x4 ∷ x5 ∷ x6 ∷ x7 ∷ x8 ∷ x9 ∷ x10 ∷ x11 ∷ x12 ∷ x13 ∷ x14 ∷ []) = refl
first16 (x0 ∷ x1 ∷ x2 ∷ x3 ∷ x4 ∷ x5 ∷ x6 ∷ x7 ∷ x8 ∷ x9 ∷ x10 ∷ x11 ∷ x12 ∷ x13 ∷ x14 ∷ x15 ∷ l) = refl
