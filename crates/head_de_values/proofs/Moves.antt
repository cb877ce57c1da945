-- A value never moves the cursor back.
use mathlib.Core.Bool.{Bool, true, false, cond}
use mathlib.Core.List.{List, [], ◌∷◌}
use mathlib.Core.Option.{some, none}
use Prim.Native.Nat.{ℕ, ◌≤◌}
use native.Mathlib.Omega.{arith}
use Rattle.written.specs.Bytes.{newline, comma, none_of}
use Rattle.written.specs.HeaderText.{Kind, a_string, a_number, a_bool, strings, a_pair, pairs, perhaps_a_pair, anything, Range, text, number, flag, texts, range, ranges, perhaps}
use Rattle.laws.proofs.Runs.{stop_from}
use Rattle.head_de.specs.Values.{ends_at, text_at, number_at, flag_at, pair_at}
use Rattle.head_de.specs.Readings.{Reading, read, refused, mapped, of_text, of_plain, of_pair}
use Rattle.head_de.proofs.Moves.{behind, Onward, text_moves, number_moves, flag_moves, pair_moves}
use Rattle.head_de_lists.specs.Lists.{list_at}
use Rattle.head_de_lists.proofs.Moves.{list_moves}
use Rattle.head_de_values.specs.Values.{read_at}

mapped_moves : {A B : Type 0} {i : ℕ} (f : A → B) (x : Reading A) → i ≤ behind i x → i ≤ behind i (mapped f x)
mapped_moves f (read a j) h = h
mapped_moves f (refused r) h = omega arith

pub value_moves : (D s : List ℕ) (i : ℕ) (t : Kind) → Onward i (read_at D s i t)
unfolding read_at
value_moves D s i a_string = record { moves = mapped_moves text (of_text (text_at D s i)) (text_moves D s i).moves }
value_moves D s i a_number = record { moves = mapped_moves number (of_plain (number_at s i)) (number_moves s i).moves }
value_moves D s i a_bool = record { moves = mapped_moves flag (of_plain (flag_at s i)) (flag_moves s i).moves }
value_moves D s i strings =
    record { moves = mapped_moves texts (list_at (λ k. of_text (text_at (comma ∷ D) s k)) D s i) (list_moves (λ k. of_text (text_at (comma ∷ D) s k)) (λ k. text_moves (comma ∷ D) s k) D s i).moves }
value_moves D s i a_pair = record { moves = mapped_moves range (of_pair (pair_at D s i)) (pair_moves D s i).moves }
value_moves D s i pairs =
    record { moves = mapped_moves ranges (list_at (λ k. of_pair (pair_at (comma ∷ D) s k)) D s i) (list_moves (λ k. of_pair (pair_at (comma ∷ D) s k)) (λ k. pair_moves (comma ∷ D) s k) D s i).moves }
value_moves D s i perhaps_a_pair = record { moves = go (ends_at (newline ∷ []) s i) }
  where
    go : (t : Bool) → i ≤ behind i (cond t (read (perhaps none) i) (mapped (λ (r : Range). perhaps (some r)) (of_pair (pair_at D s i))))
    go true = omega arith
    go false = mapped_moves (λ (r : Range). perhaps (some r)) (of_pair (pair_at D s i)) (pair_moves D s i).moves
value_moves D s i anything = record { moves = stop_from (none_of D) s i }
