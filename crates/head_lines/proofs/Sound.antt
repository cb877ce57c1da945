-- The lines of a section answer as `written` says: whole lines are a section, and a refusal is what is wrong with it, with its number and place.
--
use mathlib.Core.Path.{◌≡◌, refl, ap, subst}
use mathlib.Core.Bool.{Bool, true, false, not, cond}
use mathlib.Core.List.{List, [], ◌∷◌, ◌++◌}
use Prim.Native.Nat.{ℕ, zero, suc, ◌+◌, ◌≤◌, ◌<◌}
use native.Mathlib.Omega.{arith}
use borrow.Author.Tests.{not-true}
use lib.Dec.{eqb}
use lib.ListN.{length, get_or}
use Rattle.std.specs.Prelude.{None, Result, Ok, Err}
use Rattle.written.specs.Bytes.{newline, colon, is_newline, byte_at, At, Each, Ends, over, met, part}
use Rattle.written.specs.HeaderText.{Text, Value, Reads, Field, kind_of, Entry, values_of, Distinct, Key, NextLine, Many, none, Section}
use Rattle.written.specs.Faults.{NoText, Unreadable, Repeats, NoValue, NoLine, NoSection}
use Rattle.written.proofs.Tests.{differ}
use Rattle.laws.specs.Runs.{stop}
use Rattle.laws.proofs.Cursor.{stop_each, stop_ends}
use Rattle.written_total.proofs.Total.{snoc, distinct_more}
use Rattle.error.specs.Numbers as error
use Rattle.error.specs.declared.Refusal.{Refusal}
use Rattle.error.specs.declared.Refusal.TheVariants as refusal
use Rattle.text_parts.specs.declared.Span.{Span}
use Rattle.head_de.specs.Values.{ends_at, text_at}
use Rattle.head_de.specs.Readings.{Reading, read, refused, of_text}
use Rattle.head_de.specs.declared.Read.{Read}
use Rattle.head_de.proofs.Sound.{Answers, right, wrong as fault, Bytes, at_byte, not_at, at_end, before_end, ends_so, ends_not, text_sound}
use Rattle.head_de_values.specs.Values.{read_at}
use Rattle.head_de_values.proofs.Sound.{around_newline, newline_ends, ends_newline, value_sound}
use Rattle.head_fields.specs.Fields.{field_index}
use Rattle.head_lines.specs.Lines.{some_of, key_at, ended_of, line_value_at, stood_at, Next, entry, end, wrong, entry_of, keyed_at, line_of, line_at, marked, Lines, whole, faulty, onward, lines_from, lines_at}
use Rattle.head_lines.proofs.Marks.{Marks, marks_none, stood_repeats, new_repeats, marks_more}

-- ---- the value behind a key

-- a value and a newline or the end, or what is wrong behind the key w, which ends at k
pub data ValueAnswers (T : List Field) (s : List ℕ) (w : List ℕ) (k : ℕ) : Reading Value → Type 0 where
  a_value : {v : Value} {j : ℕ} → At s k colon → k + 1 ≤ j → j ≤ length s → Reads (newline ∷ []) s (k + 1) (kind_of T w) v j → Ends is_newline s j → ValueAnswers T s w k (read v j)
  no_value : {r : Refusal} → NoValue T s w k (error.number_of r) (error.place_of r) → ValueAnswers T s w k (refused r)

pub behind_key : (T : List Field) {s : List ℕ} → Bytes s → (w : List ℕ) (k : ℕ) → k ≤ length s → ValueAnswers T s w k (line_value_at s k (kind_of T w))
unfolding line_value_at
behind_key T {s} b w k h = go (eqb (byte_at s k) 256) refl (eqb (byte_at s k) colon) refl
  where
    ended : (c : At s k colon) (v : Value) (j : ℕ) → k + 1 ≤ j → j ≤ length s → Reads (newline ∷ []) s (k + 1) (kind_of T w) v j → (t : Bool) → ends_at (newline ∷ []) s j ≡ t
        → ValueAnswers T s w k (cond t (read v j) (refused (refusal.ExpectedMapNewline j)))
    ended c v j p q g true e = a_value c p q g (newline_ends (ends_so b (newline ∷ []) j q e))
    ended c v j p q g false e = no_value (NoValue.unended c g (λ f. ends_not (newline ∷ []) s j e (ends_newline f)))

    value : (c : At s k colon) (x : Reading Value) → Answers s (k + 1) (Reads (newline ∷ []) s (k + 1) (kind_of T w)) (Unreadable (newline ∷ []) s (k + 1) (kind_of T w)) x → ValueAnswers T s w k (ended_of s x)
    value c (read v j) (right p q g) = ended c v j p q g (ends_at (newline ∷ []) s j) refl
    value c (refused r) (fault g) = no_value (NoValue.value c g)

    go : (t : Bool) → eqb (byte_at s k) 256 ≡ t → (u : Bool) → eqb (byte_at s k) colon ≡ u
        → ValueAnswers T s w k (cond t (refused (refusal.Eof (length s))) (cond u (ended_of s (read_at (newline ∷ []) s (k + 1) (kind_of T w))) (refused (refusal.ExpectedMapColon k))))
    go true e u f = no_value (NoValue.over (at_end b k h e))
    go false e true f = let c = at_byte s k colon (omega arith) f in value c (read_at (newline ∷ []) s (k + 1) (kind_of T w)) (value_sound b (newline ∷ []) around_newline (k + 1) (omega (arith, c.inside)) (kind_of T w))
    go false e false f = no_value (NoValue.unsplit (before_end s k e) (not_at s k colon f))

-- ---- a line

pub data LineAnswers (T : List Field) (xs : List Entry) (s : List ℕ) (i : ℕ) : Next → Type 0 where
  a_line : {x : Entry} {j : ℕ} → i < j → j ≤ length s → NextLine T s i x j → ¬ Repeats T xs x.name → LineAnswers T xs s i (entry x j)
  no_more : Each is_newline s i (length s) → LineAnswers T xs s i end
  no_line : (k : ℕ) {r : Refusal} → Each is_newline s i k → ¬ Ends is_newline s k → NoLine T xs s k (error.number_of r) (error.place_of r) → LineAnswers T xs s i (wrong r)

pub line_sound : (T : List Field) {m : List Bool} {xs : List Entry} → Marks T m xs → {s : List ℕ} → Bytes s → (i : ℕ) → i ≤ length s → LineAnswers T xs s i (line_at T m s i)
unfolding line_at key_at keyed_at
line_sound T {m} {xs} marks {s} b i h = start (eqb (byte_at s k) 256) refl
  where
    k : ℕ
    k = stop is_newline s i

    blank : Each is_newline s i k
    blank = stop_each is_newline s i h

    here : k < length s → ¬ Ends is_newline s k
    here l = none_of (stop_ends is_newline s i h (λ c. not (is_newline c)) (λ c e. ap not e))
      where
        none_of : Ends (λ c. not (is_newline c)) s k → ¬ Ends is_newline s k
        none_of (over e) f = omega arith
        none_of (met u e) (over f) = omega arith
        none_of (met u e) (met v f) = differ {A = ⊥} f (not-true (is_newline (get_or s k 0)) e)

    -- the value, behind the key w, which starts at a and ends at j
    valued : k < length s → (a n j : ℕ) → k ≤ j → Key s k a (part s a n) j → ¬ Repeats T xs (part s a n) → (x : Reading Value) → ValueAnswers T s (part s a n) j x → LineAnswers T xs s i (entry_of a (part s a n) x)
    valued l a n j p q r (read v e) (a_value c x y g z) =
        a_line {j = e} (omega (arith, blank.order)) y (record { k = k; blank = blank; line = record { k = j; key = q; split = c; value = g }; ends = z }) r
    valued l a n j p q r (refused f) (no_value g) = no_line k blank (here l) (NoLine.behind q r g)

    keyed : k < length s → (a n j : ℕ) → k ≤ j → j ≤ length s → Key s k a (part s a n) j → (t : Bool) → stood_at m (field_index T (part s a n)) ≡ t
        → LineAnswers T xs s i (cond t (wrong refusal.Field) (entry_of a (part s a n) (line_value_at s j (kind_of T (part s a n)))))
    keyed l a n j p y q true e = no_line k blank (here l) (NoLine.repeated q (stood_repeats marks (part s a n) e))
    keyed l a n j p y q false e = valued l a n j p q (new_repeats marks (part s a n) e) (line_value_at s j (kind_of T (part s a n))) (behind_key T b (part s a n) j y)

    named : k < length s → (t : Result (Read Span) Refusal) → Answers s k (Text (newline ∷ colon ∷ []) s k) (NoText s k) (of_text t) → LineAnswers T xs s i (line_of T m s (some_of t))
    named l (Ok x) (right p q g) = keyed l x.value.start x.value.len x.next.at p q (record { len = x.value.len; string = g; bytes_of = refl }) (stood_at m (field_index T (part s x.value.start x.value.len))) refl
    named l (Err r) (fault g) = no_line k blank (here l) (NoLine.key g)

    start : (t : Bool) → eqb (byte_at s k) 256 ≡ t → LineAnswers T xs s i (line_of T m s (cond t (Ok None) (some_of (text_at (newline ∷ colon ∷ []) s k))))
    start true e = no_more (subst (λ (n : ℕ). Each is_newline s i n) (at_end b k blank.inside e) blank)
    start false e = named (before_end s k e) (text_at (newline ∷ colon ∷ []) s k) (text_sound (newline ∷ colon ∷ []) s k blank.inside)

-- ---- a section

pub data LinesAnswer (T : List Field) (s : List ℕ) (i : ℕ) : Lines → Type 0 where
  a_section : {m : List Bool} {xs : List Entry} → Section T s i xs → Marks T m xs → LinesAnswer T s i (whole m xs)
  no_section : {r : Refusal} → NoSection T s i (error.number_of r) (error.place_of r) → LinesAnswer T s i (faulty r)

lines_from_lem : (T : List Field) {s : List ℕ} → Bytes s → (i f : ℕ) {m : List Bool} (xs : List Entry) (k : ℕ) → k ≤ length s → length s < k + f → Many (NextLine T s) i xs k → Distinct T xs → Marks T m xs
    → LinesAnswer T s i (lines_from f T s m xs k)
unfolding lines_from
lines_from_lem T {s} b i zero xs k h w n d marks = absurd (omega arith)
lines_from_lem T {s} b i (suc f) {m} xs k h w n d marks = go (line_at T m s k) (line_sound T marks b k h) (λ y ys j p q r u v. lines_from_lem T b i f {m = y} ys j p q r u v)
  where
    go : (x : Next) → LineAnswers T xs s k x
        → ((y : List Bool) (ys : List Entry) (j : ℕ) → j ≤ length s → length s < j + f → Many (NextLine T s) i ys j → Distinct T ys → Marks T y ys → LinesAnswer T s i (lines_from f T s y ys j))
        → LinesAnswer T s i (onward (lines_from f T s) T m xs x)
    go (entry x j) (a_line p q l r) rec = rec (marked (length T) m (field_index T x.name)) (xs ++ (x ∷ [])) j q (omega arith) (snoc n l) (distinct_more x d r) (marks_more marks x)
    go end (no_more e) rec = a_section (record { k = k; lines = n; blank = e; distinct = d }) marks
    go (wrong r) (no_line e p q g) rec = no_section (record { k = k; m = e; xs = xs; lines = n; distinct = d; blank = p; here = q; wrong = g })

distinct_none : (T : List Field) → Distinct T []
unfolding values_of
distinct_none T = record { once = λ f m. omega arith }

-- every text from i on is a section that is read, or is refused as `written` says
pub lines_sound : (T : List Field) → length T ≤ 10 → {s : List ℕ} → Bytes s → (i : ℕ) → i ≤ length s → LinesAnswer T s i (lines_at T s i)
unfolding lines_at
lines_sound T l {s} b i h = lines_from_lem T b i (suc (length s)) [] i h (omega arith) none (distinct_none T) (marks_none T l)
