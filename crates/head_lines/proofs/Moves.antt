-- A line that is read starts inside, and moves the cursor on.
use mathlib.Core.Path.{◌≡◌, refl}
use mathlib.Core.Bool.{Bool, true, false, cond}
use mathlib.Core.List.{List, [], ◌∷◌}
use Prim.Native.Nat.{ℕ, ◌+◌, ◌≤◌, ◌<◌}
use native.Mathlib.Omega.{arith}
use borrow.Author.Tests.{eqb-true}
use lib.Dec.{eqb}
use lib.ListN.{length}
use Rattle.std.specs.Prelude.{Option, Some, None, Result, Ok, Err}
use Rattle.written.specs.Bytes.{newline, colon, is_newline, byte_at}
use Rattle.written.specs.HeaderText.{Kind, Value, Field, kind_of, Entry}
use Rattle.laws.specs.Runs.{stop}
use Rattle.laws.proofs.Runs.{stop_from, byte_in}
use Rattle.error.specs.declared.Refusal.{Refusal}
use Rattle.error.specs.declared.Refusal.TheVariants as refusal
use Rattle.text_parts.specs.declared.Span.{Span}
use Rattle.text_parts.specs.Parts.{bytes_of}
use Rattle.head_de.specs.Values.{ends_at, text_at}
use Rattle.head_de.specs.Readings.{Reading, read, refused, of_text}
use Rattle.head_de.specs.declared.Read.{Read}
use Rattle.head_de.proofs.Moves.{behind, read_moves, text_moves}
use Rattle.head_de_values.specs.Values.{read_at}
use Rattle.head_de_values.proofs.Moves.{value_moves}
use Rattle.head_fields.specs.Fields.{field_index}
use Rattle.head_lines.specs.Lines.{some_of, key_at, ended_of, line_value_at, stood_at, entry, wrong, entry_of, keyed_at, behind_key, line_of, line_at}

pub no : {A : Type 0} → ◌≡◌ {A = ℕ} 0 1 → A
no e = absurd (omega arith)

-- ---- the key

abbrev key_end : ℕ → Result (Option (Read Span)) Refusal → ℕ
key_end i (Ok (Some x)) = x.next.at
key_end i (Ok None) = i
key_end i (Err r) = i

key_of_lem : (k : ℕ) (t : Result (Read Span) Refusal) → k ≤ behind k (of_text t) → k ≤ key_end k (some_of t)
key_of_lem k (Ok x) h = h
key_of_lem k (Err r) h = omega arith

pub key_moves : (s : List ℕ) (i : ℕ) {x : Read Span} → key_at s i ≡ Ok (Some x) → i ≤ x.next.at
unfolding key_at
key_moves s i {x} e = let h = rw e at (go (eqb (byte_at s k) 256)) in omega (arith, stop_from is_newline s i)
  where
    k : ℕ
    k = stop is_newline s i

    go : (t : Bool) → k ≤ key_end k (cond t (Ok None) (some_of (text_at (newline ∷ colon ∷ []) s k)))
    go true = omega arith
    go false = key_of_lem k (text_at (newline ∷ colon ∷ []) s k) (text_moves (newline ∷ colon ∷ []) s k).moves

-- ---- the value

pub value_onward : (s : List ℕ) (k : ℕ) (t : Kind) {v : Value} {j : ℕ} → line_value_at s k t ≡ read v j → (k < length s) × (k < j)
unfolding line_value_at
value_onward s k t {v} {j} e = go (eqb (byte_at s k) 256) (eqb (byte_at s k) colon) refl e
  where
    ended : (x : Reading Value) → read_at (newline ∷ []) s (k + 1) t ≡ x → ended_of s x ≡ read v j → k + 1 ≤ j
    ended (read w i) f g = shut (ends_at (newline ∷ []) s i) g
      where
        shut : (u : Bool) → cond u (read w i) (refused (refusal.ExpectedMapNewline i)) ≡ read v j → k + 1 ≤ j
        shut true h = let q : i ≡ j = cc in omega (arith, read_moves (value_moves (newline ∷ []) s (k + 1) t) f)
        shut false h = no cc
    ended (refused r) f g = no cc

    go : (t' u : Bool) → eqb (byte_at s k) colon ≡ u → cond t' (refused (refusal.Eof (length s))) (cond u (ended_of s (read_at (newline ∷ []) s (k + 1) t)) (refused (refusal.ExpectedMapColon k))) ≡ read v j → (k < length s) × (k < j)
    go true u f g = no cc
    go false true f g = (byte_in s k (eqb-true _ _ f) (omega arith), omega (arith, ended (read_at (newline ∷ []) s (k + 1) t) refl g))
    go false false f g = no cc

-- ---- the line

pub line_moves : (T : List Field) (m : List Bool) (s : List ℕ) (i : ℕ) {x : Entry} {j : ℕ} → line_at T m s i ≡ entry x j → (i < length s) × (i < j)
unfolding line_at keyed_at
line_moves T m s i {x} {j} e = go (key_at s i) refl e
  where
    value : (a : ℕ) (w : List ℕ) (k : ℕ) (y : Reading Value) → line_value_at s k (kind_of T w) ≡ y → entry_of a w y ≡ entry x j → (k < length s) × (k < j)
    value a w k (read v h) f g = let q : h ≡ j = cc in let o = value_onward s k (kind_of T w) f in (o.0, omega (arith, o.1))
    value a w k (refused r) f g = no cc

    keyed : (a : ℕ) (w : List ℕ) (k : ℕ) (t : Bool) → cond t (wrong refusal.Field) (entry_of a w (line_value_at s k (kind_of T w))) ≡ entry x j → (k < length s) × (k < j)
    keyed a w k true g = no cc
    keyed a w k false g = value a w k (line_value_at s k (kind_of T w)) refl g

    at : (y : Read Span) → i ≤ y.next.at → behind_key T m s y ≡ entry x j → (i < length s) × (i < j)
    at y h g = let o = keyed y.value.start (bytes_of s y.value) y.next.at (stood_at m (field_index T (bytes_of s y.value))) g in (omega (arith, o.0), omega (arith, o.1))

    go : (d : Result (Option (Read Span)) Refusal) → key_at s i ≡ d → line_of T m s d ≡ entry x j → (i < length s) × (i < j)
    go (Ok (Some y)) f g = at y (key_moves s i f) g
    go (Ok None) f g = no cc
    go (Err r) f g = no cc
