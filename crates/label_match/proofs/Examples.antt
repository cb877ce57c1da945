-- Worked cases of 02's Wish 1, by computation.
use mathlib.Core.Path.{◌≡◌, refl}
use mathlib.Core.Bool.{Bool, true, false}
use mathlib.Core.List.{[], ◌∷◌}
use Prim.Native.String.{String}
use Rattle.written.specs.Bytes.{bytes}
use Rattle.label_match.specs.Matched.{passes, some_end, match_of}

matches : String → String → Bool
matches p l = match_of (bytes p) (bytes l)

-- * any run, empty too; ? one byte
empty-run : matches "*" "" ≡ true
unfolding matches bytes passes some_end match_of
empty-run = refl

one_byte : matches "?" "" ≡ false
unfolding matches bytes passes some_end match_of
one_byte = refl

-- the whole label
whole : matches "-i+" "x-i+" ≡ false
unfolding matches bytes passes some_end match_of
whole = refl

inside : matches "*-i+*" "-i+" ≡ true
unfolding matches bytes passes some_end match_of
inside = refl

-- a way back behind a star
later : matches "*aab" "aaab" ≡ true
unfolding matches bytes passes some_end match_of
later = refl

last : matches "*ab" "abab" ≡ true
unfolding matches bytes passes some_end match_of
last = refl

no_room : matches "*ab*b" "ab" ≡ false
unfolding matches bytes passes some_end match_of
no_room = refl

twice : matches "*a*a*" "a" ≡ false
unfolding matches bytes passes some_end match_of
twice = refl

-- wildcards of the label are bytes
themselves : matches "a*b?c" "a*b?c" ≡ true
unfolding matches bytes passes some_end match_of
themselves = refl

-- one character of three bytes
three : match_of (bytes "???") (227 ∷ 129 ∷ 130 ∷ []) ≡ true
unfolding bytes passes some_end match_of
three = refl
