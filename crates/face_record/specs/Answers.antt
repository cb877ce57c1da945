-- What the calls on the words of a record answer in numbers (host/larsavim.h): COMMENT, and the fields of the record.
use Rattle.std.specs.Prelude.{Bool, cond, List, ℕ, ◌+◌, ◌-◌, ltb, eqb, length}
use Rattle.head_words.specs.Words.{word_at, flags_fit}
use Rattle.face_record.specs.declared.Said.{Said}
use Rattle.face_record.specs.declared.Part.{Part}
use Rattle.face_record.specs.declared.Pair.{Pair}

abbrev pub said : ℕ → ℕ → Said
said n p = record { number = n; place = p }

-- ---- words: 20 where they are too few, 16 where a flag is neither 0 nor 1

unfoldable pub judged_of : List ℕ → ℕ
judged_of w = cond (ltb (length w) 647) 20 (cond (flags_fit w) 0 16)

-- ---- COMMENT, of a file of n bytes and a fallback of f bytes: in the file (0), or the fallback (1)

abbrev pub part_of : ℕ → ℕ → ℕ → ℕ → Part
part_of n x i l = record { number = n; slice = x; start = i; len = l }

unfoldable pub comment_in : ℕ → ℕ → Bool → ℕ → ℕ → Part
comment_in n f b i l = cond b (cond (ltb n i) (part_of 0 1 0 f) (cond (ltb (n - i) l) (part_of 0 1 0 f) (part_of 0 0 i l))) (part_of 0 1 0 f)

-- where the words are judged so
abbrev pub comment_by : ℕ → List ℕ → ℕ → ℕ → Part
comment_by n w f j = cond (eqb j 0) (comment_in n f (eqb (word_at w 94) 1) (word_at w 92) (word_at w 93)) (part_of j 0 0 0)

unfoldable pub comment_said : ℕ → List ℕ → ℕ → Part
comment_said n w f = comment_by n w f (judged_of w)

-- ---- fields

abbrev pub pair_of : ℕ → ℕ → ℕ → Pair
pair_of n a b = record { number = n; first = a; second = b }

abbrev pub get_by : List ℕ → ℕ → ℕ → Said
get_by w i j = cond (eqb j 0) (cond (ltb i 647) (said 0 (word_at w i)) (said 16 0)) (said j 0)

unfoldable pub get_said : List ℕ → ℕ → Said
get_said w i = get_by w i (judged_of w)

abbrev pub pair_by : List ℕ → ℕ → ℕ → Pair
pair_by w i j = cond (eqb j 0) (cond (ltb i 646) (pair_of 0 (word_at w i) (word_at w (i + 1))) (pair_of 16 0 0)) (pair_of j 0 0)

unfoldable pub pair_said : List ℕ → ℕ → Pair
pair_said w i = pair_by w i (judged_of w)
