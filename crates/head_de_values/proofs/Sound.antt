-- A value of any kind answers as `written` says.
use mathlib.Core.Path.{◌≡◌, refl, sym, ◌∙◌}
use mathlib.Core.Bool.{Bool, true, false, cond, ◌||◌}
use mathlib.Core.List.{List, [], ◌∷◌}
use mathlib.Core.Option.{some, none}
use Prim.Native.Nat.{ℕ, ◌≤◌}
use native.Mathlib.Omega.{arith}
use lib.Dec.{eqb}
use lib.ListN.{length, get_or}
use Rattle.written.specs.Bytes.{newline, comma, dash, is_newline, one_of, none_of, Ends, over, met}
use Rattle.written.specs.HeaderText.{Text, Pair, Range, Kind, a_string, a_number, a_bool, strings, a_pair, pairs, perhaps_a_pair, anything, text, number, flag, texts, range, ranges, perhaps, Reads, is_string, is_number, is_bool, are_strings, is_pair, are_pairs, is_absent, is_present, is_unknown}
use Rattle.written.specs.Faults.{NoText, NoPair, Unreadable, no_string, no_number, no_bool, no_strings, no_pair, no_pairs, no_present}
use Rattle.laws.specs.Runs.{stop}
use Rattle.laws.proofs.Cursor.{stop_each, unknown_value}
use Rattle.error.specs.Numbers as error
use Rattle.head_de.specs.Values.{ends_at, text_at, number_at, flag_at, pair_at}
use Rattle.head_de.specs.Readings.{Reading, read, refused, mapped, of_text, of_plain, of_pair}
use Rattle.head_de.proofs.Sound.{Answers, right, wrong, Bytes, ends_so, ends_not, text_sound, number_sound, flag_sound, pair_sound}
use Rattle.head_de_lists.specs.Lists.{list_at}
use Rattle.head_de_lists.proofs.Sound.{list_sound}
use Rattle.head_de_values.specs.Values.{read_at}

-- what is open around a value: no comma, no dash
pub record Around (D : List ℕ) : Type 0 where
  pub no_comma : one_of D comma ≡ false
  pub no_dash : one_of D dash ≡ false

pub around_newline : Around (newline ∷ [])
unfolding one_of
around_newline = record { no_comma = refl; no_dash = refl }

pub around_nothing : Around []
unfolding one_of
around_nothing = record { no_comma = refl; no_dash = refl }

-- nor does an open comma add a dash
comma-dash : (D : List ℕ) → one_of D dash ≡ false → one_of (comma ∷ D) dash ≡ false
unfolding one_of
comma-dash D e = e

mapped_sound : {A B : Type 0} {s : List ℕ} {i : ℕ} {R : A → ℕ → Type 0} {N : ℕ → ℕ → Type 0} {Q : B → ℕ → Type 0} {M : ℕ → ℕ → Type 0} (f : A → B) → ((a : A) (j : ℕ) → R a j → Q (f a) j)
    → ((n p : ℕ) → N n p → M n p) → (x : Reading A) → Answers s i R N x → Answers s i Q M (mapped f x)
mapped_sound f g h (read a j) (right p q r) = right {j = j} p q (g a j r)
mapped_sound f g h (refused r) (wrong n) = wrong (h (error.number_of r) (error.place_of r) n)

-- one newline, as a set and as a test
one_newline : (c : ℕ) → one_of (newline ∷ []) c ≡ is_newline c
unfolding one_of
one_newline c = go (eqb c newline)
  where
    go : (t : Bool) → (t || false) ≡ t
    go true = refl
    go false = refl

pub newline_ends : {s : List ℕ} {i : ℕ} → Ends (one_of (newline ∷ [])) s i → Ends is_newline s i
newline_ends (over e) = over e
newline_ends {s} {i} (met l e) = met l (sym (one_newline (get_or s i 0)) ∙ e)

pub ends_newline : {s : List ℕ} {i : ℕ} → Ends is_newline s i → Ends (one_of (newline ∷ [])) s i
ends_newline (over e) = over e
ends_newline {s} {i} (met l e) = met l (one_newline (get_or s i 0) ∙ e)

pub value_sound : {s : List ℕ} → Bytes s → (D : List ℕ) → Around D → (i : ℕ) → i ≤ length s → (t : Kind) → Answers s i (Reads D s i t) (Unreadable D s i t) (read_at D s i t)
unfolding read_at
value_sound {s} b D o i h a_string = mapped_sound text (λ a j r. is_string r) (λ n p r. no_string r) (of_text (text_at D s i)) (text_sound D s i h)
value_sound {s} b D o i h a_number = mapped_sound number (λ a j r. is_number r) (λ n p r. no_number r) (of_plain (number_at s i)) (number_sound b i h)
value_sound {s} b D o i h a_bool = mapped_sound flag (λ a j r. is_bool r) (λ n p r. no_bool r) (of_plain (flag_at s i)) (flag_sound b i h)
value_sound {s} b D o i h strings =
    mapped_sound texts (λ a j r. are_strings r) (λ n p r. no_strings r) (list_at (λ k. of_text (text_at (comma ∷ D) s k)) D s i)
    (list_sound (Text (comma ∷ D) s) (NoText s) b D o.no_comma (λ k. of_text (text_at (comma ∷ D) s k)) (λ k l. text_sound (comma ∷ D) s k l) i h)
value_sound {s} b D o i h a_pair = mapped_sound range (λ a j r. is_pair r) (λ n p r. no_pair r) (of_pair (pair_at D s i)) (pair_sound b D o.no_dash i h)
value_sound {s} b D o i h pairs =
    mapped_sound ranges (λ a j r. are_pairs r) (λ n p r. no_pairs r) (list_at (λ k. of_pair (pair_at (comma ∷ D) s k)) D s i)
    (list_sound (Pair s) (NoPair (comma ∷ D) s) b D o.no_comma (λ k. of_pair (pair_at (comma ∷ D) s k)) (λ k l. pair_sound b (comma ∷ D) (comma-dash D o.no_dash) k l) i h)
value_sound {s} b D o i h perhaps_a_pair = go (ends_at (newline ∷ []) s i) refl
  where
    go : (t : Bool) → ends_at (newline ∷ []) s i ≡ t
        → Answers s i (Reads D s i perhaps_a_pair) (Unreadable D s i perhaps_a_pair) (cond t (read (perhaps none) i) (mapped (λ (r : Range). perhaps (some r)) (of_pair (pair_at D s i))))
    go true e = right {j = i} (omega arith) h (is_absent (newline_ends (ends_so b (newline ∷ []) i h e)))
    go false e =
        let n : ¬ Ends is_newline s i = λ f. ends_not (newline ∷ []) s i e (ends_newline f) in
        mapped_sound (λ (r : Range). perhaps (some r)) (λ a j r. is_present n r) (λ m p r. no_present n r) (of_pair (pair_at D s i)) (pair_sound b D o.no_dash i h)
value_sound {s} b D o i h anything = let k = stop_each (none_of D) s i h in right {j = stop (none_of D) s i} k.order k.inside (is_unknown (unknown_value D s i h))
