-- How far a step moves the cursor: a value never back, and a delimiter that is passed by one.
use mathlib.Core.Path.{◌≡◌, refl, sym, ap}
use mathlib.Core.Bool.{Bool, true, false, cond}
use mathlib.Core.List.{List, [], ◌∷◌}
use Prim.Native.Nat.{ℕ, ◌+◌, ◌-◌, ◌^◌, ◌≤◌, ◌<◌}
use native.Mathlib.Omega.{arith}
use native.Mathlib.Decide.{dec_lt}
use borrow.Author.Tests.{eqb-false}
use lib.Dec.{eqb, ltb}
use lib.ListN.{length, drop}
use Rattle.text_parts.specs.declared.Read.{Read as Found}
use Rattle.text_numbers.specs.declared.NumberError.TheVariants as fault
use Rattle.text_numbers.specs.declared.NumberError.{NumberError}
use Rattle.text_parts.specs.Parts.{read_to}
use Rattle.std.specs.Prelude.{Result, Ok, Err}
use Rattle.written.specs.Bytes.{quote, dash, digit, one_of, none_of, byte_at, decimal}
use Rattle.laws.specs.Runs.{run, stop}
use Rattle.laws.proofs.Runs.{stop_from, byte_out}
use Rattle.head_record.specs.Empty.{span}
use Rattle.text_numbers.specs.Answers.{unsigned_of, unsigned_from, unsigned_at}
use Rattle.head_de.specs.Values.{cursor, got, text_at, number_of, number_at, flag_at, delimiter_at, element_of, element_at, second_of, first_of, pair_at}
use Rattle.head_de.specs.Readings.{Reading, read, refused, of_text, of_plain, of_pair}
use Rattle.error.specs.declared.Refusal.{Refusal}
use Rattle.error.specs.declared.Refusal.TheVariants as refusal
use Rattle.head_de.specs.declared.Cursor.{Cursor}
use Rattle.head_de.specs.declared.Read.{Read}
use Rattle.head_de.specs.declared.Delimiter.{Delimiter}
use Rattle.head_de.specs.declared.Delimiter.TheVariants as delimiter

-- the place behind what is read, or i where it is refused
abbrev pub behind : {A : Type 0} → ℕ → Reading A → ℕ
behind i (read a j) = j
behind i (refused r) = i

-- what is read ends no earlier than it starts
pub record Onward {A : Type 0} (i : ℕ) (x : Reading A) : Type 0 where
  pub moves : i ≤ behind i x

pub read_moves : {A : Type 0} {i j : ℕ} {a : A} {x : Reading A} → Onward i x → x ≡ read a j → i ≤ j
read_moves {i = i} h e = rw e at h.moves

-- a byte that is not the end's 256 stands inside
pub inside : (s : List ℕ) (i : ℕ) → (byte_at s i ≡ 256 → ⊥) → i < length s
inside s i e = elim (dec_lt i (length s)) [ yes l ↦ l | no n ↦ absurd (e (byte_out s i (omega arith))) ]

-- ---- strings

text_to : (r : Refusal) (i e n : ℕ) (t u : Bool) → i + 1 ≤ e → i ≤ n
    → i ≤ behind i (of_text (cond t (cond u (got (span (i + 1) (e - (i + 1))) (e + 1)) (Err r)) (got (span i (n - i)) n)))
text_to r i e n true true p q = omega arith
text_to r i e n true false p q = omega arith
text_to r i e n false u p q = q

pub text_moves : (D s : List ℕ) (i : ℕ) → Onward i (of_text (text_at D s i))
unfolding text_at
text_moves D s i =
    let e = stop (none_of (quote ∷ [])) s (i + 1) in
    record { moves = text_to (refusal.Eof (length s)) i e (stop (none_of D) s i) (eqb (byte_at s i) quote) (ltb e (length s)) (stop_from _ _ _) (stop_from _ _ _) }

-- ---- numbers and bools

abbrev unsigned_end : ℕ → Result (Found ℕ) NumberError → ℕ
unsigned_end i (Ok r) = r.next
unsigned_end i (Err fault.TooLarge) = i
unsigned_end i (Err fault.NoDigit) = i

unsigned_moves : (s : List ℕ) (i : ℕ) → i ≤ unsigned_end i (unsigned_at s i)
unfolding unsigned_at unsigned_from unsigned_of
unsigned_moves s i = go (digit (byte_at s i)) (ltb (decimal 0 (run digit (drop i s))) (2 ^ 64)) (decimal 0 (run digit (drop i s))) (stop digit s i) (stop_from digit s i)
  where
    go : (t u : Bool) (n e : ℕ) → i ≤ e → i ≤ unsigned_end i (cond t (cond u (Ok (read_to n e)) (Err fault.TooLarge)) (Err fault.NoDigit))
    go true true n e h = h
    go true false n e h = omega arith
    go false u n e h = omega arith

number_of_lem : (s : List ℕ) (k i : ℕ) (u : Result (Found ℕ) NumberError) → k ≤ i → i ≤ unsigned_end i u → k ≤ behind k (of_plain (number_of s i u))
number_of_lem s k i (Ok r) l h = omega arith
number_of_lem s k i (Err fault.TooLarge) l h = omega arith
number_of_lem s k i (Err fault.NoDigit) l h = go (eqb (byte_at s i) 256)
  where
    go : (t : Bool) → k ≤ behind k (of_plain {A = ℕ} (cond t (Err (refusal.Eof (length s))) (Err (refusal.ExpectedInteger i))))
    go true = omega arith
    go false = omega arith

-- seen from a place before it, too
pub number_from : (s : List ℕ) (k i : ℕ) → k ≤ i → Onward k (of_plain (number_at s i))
unfolding number_at
number_from s k i l = record { moves = number_of_lem s k i (unsigned_at s i) l (unsigned_moves s i) }

pub number_moves : (s : List ℕ) (i : ℕ) → Onward i (of_plain (number_at s i))
number_moves s i = number_from s i i (omega arith)

pub flag_moves : (s : List ℕ) (i : ℕ) → Onward i (of_plain (flag_at s i))
unfolding flag_at
flag_moves s i = record { moves = go (eqb (byte_at s i) 256) (eqb (byte_at s i) 48) (eqb (byte_at s i) 49) }
  where
    go : (t u v : Bool) → i ≤ behind i (of_plain (cond t (Err (refusal.Eof (length s))) (cond u (got false (i + 1)) (cond v (got true (i + 1)) (Err (refusal.ExpectedBool i))))))
    go true u v = omega arith
    go false true v = omega arith
    go false false true = omega arith
    go false false false = omega arith

-- ---- pairs

abbrev passed_to : Delimiter → ℕ
passed_to (delimiter.Passed c) = c.at
passed_to delimiter.Closed = 0
passed_to delimiter.Missing = 0

-- a delimiter that is passed stands inside, and moves the cursor by one
pub delimiter_moves : (a : ℕ) (D s : List ℕ) (i : ℕ) {d : Cursor} → delimiter_at a D s i ≡ delimiter.Passed d → (i < length s) × (d.at ≡ i + 1)
unfolding delimiter_at
delimiter_moves a D s i {d} h = go (eqb (byte_at s i) 256) refl (eqb (byte_at s i) a) (one_of D (byte_at s i)) h
  where
    go : (t : Bool) → eqb (byte_at s i) 256 ≡ t → (u v : Bool)
        → cond t delimiter.Closed (cond u (delimiter.Passed (cursor (i + 1))) (cond v delimiter.Closed delimiter.Missing)) ≡ delimiter.Passed d → (i < length s) × (d.at ≡ i + 1)
    go true e u v g = let z : ◌≡◌ {A = ℕ} 0 1 = cc in absurd (omega arith)
    go false e true v g = (inside s i (eqb-false _ _ e), ap passed_to (sym g))
    go false e false true g = let z : ◌≡◌ {A = ℕ} 0 1 = cc in absurd (omega arith)
    go false e false false g = let z : ◌≡◌ {A = ℕ} 0 1 = cc in absurd (omega arith)

element_from : (D : List ℕ) (first : Bool) (s : List ℕ) (k i : ℕ) → k ≤ i → k ≤ behind k (of_plain (element_at D first s i))
unfolding element_at
element_from D first s k i l = go (delimiter_at dash D s i) refl
  where
    bare : (t : Bool) → k ≤ behind k (of_plain (cond t (number_at s i) (Err (refusal.ExpectedArrayComma i))))
    bare true = (number_from s k i l).moves
    bare false = omega arith

    go : (d : Delimiter) → delimiter_at dash D s i ≡ d → k ≤ behind k (of_plain (element_of first s i d))
    go (delimiter.Passed c) e = let h = delimiter_moves dash D s i e in (number_from s k c.at (omega (arith, h.1))).moves
    go delimiter.Closed e = omega arith
    go delimiter.Missing e = bare first

pub pair_moves : (D s : List ℕ) (i : ℕ) → Onward i (of_pair (pair_at D s i))
unfolding pair_at
pair_moves D s i = record { moves = first (element_at D true s i) (element_from D true s i i (omega arith)) }
  where
    second : (a : ℕ) (x : Result (Read ℕ) Refusal) → i ≤ behind i (of_plain x) → i ≤ behind i (of_pair (second_of a x))
    second a (Ok y) h = h
    second a (Err r) h = omega arith

    first : (x : Result (Read ℕ) Refusal) → i ≤ behind i (of_plain x) → i ≤ behind i (of_pair (first_of D s x))
    first (Ok y) h = second y.value (element_at D false s y.next.at) (element_from D false s i y.next.at h)
    first (Err r) h = omega arith
