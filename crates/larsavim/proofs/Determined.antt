-- What each exported contract fixes: any two outcomes that it allows are equal, what is returned and every lent slice.
use mathlib.Core.Path.{◌≡◌, sym, ◌∙◌}
use mathlib.Core.List.{List}
use Prim.Native.Nat.{ℕ}
use Rattle.face_record.specs.Answers.{comment_said, get_said, pair_said}
use Rattle.face_model.specs.Answers.{needed_of, ended_of}
use Rattle.load_model.specs.Load.{Tables}
use Rattle.larsavim.specs.Face.{said_numbers, part_numbers, pair_numbers, ended_numbers, Answers, Opens, Comments, Gets, Pairs, Needs, Loads, Walks, Leaves}
use Rattle.face_put.specs.Put.{needed_numbers}
use Rattle.larsavim.specs.Write.{Measures, Writes}

-- what equals one thing is equal
once : {A : Type 0} {x y z : A} → x ≡ z → y ≡ z → x ≡ y
once p q = p ∙ sym q

answers_once : (out : List ℕ) (n x : ℕ) (l : List ℕ) {r r' : ℕ} {o o' : List ℕ} → Answers out n x l r o → Answers out n x l r' o' → (r ≡ r') × (o ≡ o')
answers_once out n x l a b = (once a.0 b.0, once a.1 b.1)

-- ---- larsavim_open

pub open_once : (s w out : List ℕ) {r r' : ℕ} {u u' o o' : List ℕ} → Opens s w out r u o → Opens s w out r' u' o' → (r ≡ r') × (u ≡ u') × (o ≡ o')
open_once s w out a b = (once a.0 b.0, once a.1 b.1, once a.2 b.2)

-- ---- larsavim_comment

pub comment_once : (n : ℕ) (w : List ℕ) (f : ℕ) (out : List ℕ) {r r' : ℕ} {o o' : List ℕ} → Comments n w f out r o → Comments n w f out r' o' → (r ≡ r') × (o ≡ o')
comment_once n w f out = answers_once out 4 (comment_said n w f).number (part_numbers (comment_said n w f))

-- ---- larsavim_get

pub get_once : (w : List ℕ) (i : ℕ) (out : List ℕ) {r r' : ℕ} {o o' : List ℕ} → Gets w i out r o → Gets w i out r' o' → (r ≡ r') × (o ≡ o')
get_once w i out = answers_once out 2 (get_said w i).number (said_numbers (get_said w i))

-- ---- larsavim_pair

pub pair_once : (w : List ℕ) (i : ℕ) (out : List ℕ) {r r' : ℕ} {o o' : List ℕ} → Pairs w i out r o → Pairs w i out r' o' → (r ≡ r') × (o ≡ o')
pair_once w i out = answers_once out 3 (pair_said w i).number (pair_numbers (pair_said w i))

-- ---- larsavim_needs

pub needs_once : (s w : List ℕ) (k : ℕ) (out : List ℕ) {r r' : ℕ} {o o' : List ℕ} → Needs s w k out r o → Needs s w k out r' o' → (r ≡ r') × (o ≡ o')
needs_once s w k out = answers_once out 10 (needed_of s w k).number (needed_numbers (needed_of s w k))

-- ---- larsavim_load

pub load_once : (s u : List ℕ) (n : ℕ) (T : Tables) (out : List ℕ) {x x' : ℕ} {T₁ T₂ : Tables} {o o' : List ℕ} → Loads s u n T out x T₁ o → Loads s u n T out x' T₂ o' → (x ≡ x') × (T₁ ≡ T₂) × (o ≡ o')
load_once s u n T out c d = (once c.0 d.0, once c.1 d.1, once c.2 d.2)

-- ---- larsavim_walk

pub walk_once : (T R : List ℕ) (t : ℕ) (bytes : List ℕ) (limit : ℕ) (out : List ℕ) {r r' : ℕ} {o o' : List ℕ} → Walks T R t bytes limit out r o → Walks T R t bytes limit out r' o' → (r ≡ r') × (o ≡ o')
walk_once T R t bytes limit out = answers_once out 3 (ended_of T R t bytes limit).number (ended_numbers (ended_of T R t bytes limit))

-- ---- larsavim_leaves

pub leaves_once : (Q T R X : List ℕ) (width : ℕ) {r r' : ℕ} → Leaves Q T R X width r → Leaves Q T R X width r' → r ≡ r'
leaves_once Q T R X width a b = once a b

-- ---- larsavim_write_needs, larsavim_write

pub write_needs_once : {d Q P T R out : List ℕ} {r r' : ℕ} {o o' : List ℕ} → Measures d Q P T R out r o → Measures d Q P T R out r' o' → (r ≡ r') × (o ≡ o')
write_needs_once a b = (once a.number b.number, once a.answer b.answer)

pub write_once : {d Q P T R b out : List ℕ} {r r' : ℕ} {e e' o o' : List ℕ} → Writes d Q P T R b out r e o → Writes d Q P T R b out r' e' o' → (r ≡ r') × (e ≡ e') × (o ≡ o')
write_once a b = (once a.number b.number, once a.buffer b.buffer, once a.answer b.answer)
