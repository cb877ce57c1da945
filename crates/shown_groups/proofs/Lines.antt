-- The lines of a section that belong to groups, as they are found, are the rows that its lines say.
use mathlib.Core.Path.{◌≡◌, refl, sym, ap, ap₂, ◌∙◌, subst}
use mathlib.Core.Bool.{Bool, true, false, not, cond, ◌&&◌, ◌||◌}
use mathlib.Core.List.{List, [], ◌∷◌, map}
use mathlib.Core.Logic.{◌⊎◌, ⊎_elim}
use Prim.Native.Nat.{ℕ, zero, suc, ◌+◌, ◌-◌, ◌≤◌, ◌<◌}
use native.Mathlib.Omega.{arith}
use native.Mathlib.Decide.{dec_lt}
use borrow.Author.Tests.{eqb-true, ne_eqb, eq-eqb}
use lib.Dec.{eqb, leb}
use lib.ListN.{length, get_or, take, drop, length-drop}
use lib.Seq.{drop-drop, length-take-le, take-take, take-nil}
use Rattle.std.specs.Prelude.{Option, Some, None, Result, Ok, Err}
use Rattle.written.specs.Bytes.{newline, colon, dash, digit, is_newline, one_of, none_of, byte_at, At, Each, Ends, over, met, part, Span}
use Rattle.written.specs.HeaderText.{Text, Led, swallowed, plain, Range, Pair, Kind, a_pair, anything, Value, unread, Reads, is_pair, is_unknown, Field, kind_of, Entry, Key, NextLine, Many, none, more, Section}
use Rattle.written.specs.Faults.{NoText}
use Rattle.written.specs.Groups as says
use Rattle.written.specs.Groups.{Bracketed, Rows, grouped, dropped, name_of}
use Rattle.written.specs.Record.{All, next}
use Rattle.written.proofs.Tests.{differ}
use Rattle.written.proofs.One.{text_one, line_starts}
use Rattle.written.proofs.OneFile.{rows_one}
use Rattle.written_apart.proofs.Apart.{text_never}
use Rattle.laws.specs.Runs.{stop}
use Rattle.laws.proofs.Runs.{stop_on, stop_here, stop_end, byte_is, byte_out}
use Rattle.head_record.specs.Empty.{span}
use Rattle.head_de.specs.Values.{got, text_at}
use Rattle.head_de.specs.Readings.{of_text}
use Rattle.error.specs.declared.Refusal.{Refusal}
use Rattle.text_parts.specs.declared.Span as of-span
use Rattle.head_de.specs.declared.Read as of-read
use Rattle.head_de.proofs.Sound.{Answers, right, wrong, Bytes, text_sound}
use Rattle.head_lines.specs.Lines.{some_of, key_from, key_at}
use Rattle.head_brackets.specs.Rows.{bracketed, split_of, split_row, key_row, row_of, row_at, onward_row, rows_from, rows_at}
use Rattle.text_parts.specs.Parts.{bytes_of}
use Rattle.head_brackets.specs.declared.Brackets.{Brackets}
use Rattle.head_brackets.specs.declared.Row.{Row}
use Rattle.head_brackets.specs.declared.RowAt.TheVariants as found
use Rattle.head_brackets.proofs.Rows.{split_whole}
use Rattle.shown_groups.specs.Said.{span_said, row_said}
use Rattle.shown_groups.proofs.Keys.{split_bracketed, plain_split}

-- ---- runs

-- where a run of bytes that pass p ends, if what follows does not pass it
pub stop_is : (p : ℕ → Bool) (s : List ℕ) (n i k : ℕ) → k ≡ i + n → Each p s i k → (k < length s → p (get_or s k 0) ≡ false) → stop p s i ≡ k
stop_is p s zero i k q e f = go (dec_lt k (length s))
  where
    z : k ≡ i
    z = omega arith

    go : Dec (k < length s) → stop p s i ≡ k
    go (yes l) = ap (stop p s) (sym z) ∙ stop_here p s k l (f l)
    go (no l) = ap (stop p s) (sym z) ∙ stop_end p s k (omega arith)
stop_is p s (suc n) i k q e f =
    let h : i < length s = omega (arith, e.inside) in
    let r : Each p s (i + 1) k = record { order = omega arith; inside = e.inside; passes = λ m a b. e.passes m (omega arith) b } in
    stop_on p s i h (e.passes i (omega arith) (omega arith)) ∙ stop_is p s n (i + 1) k (omega arith) r f

each_then : {p : ℕ → Bool} {s : List ℕ} {i j k : ℕ} → Each p s i j → Each p s j k → Each p s i k
each_then {p} {s} {i} {j} {k} a b = record { order = omega (arith, a.order, b.order); inside = b.inside; passes = λ m x y. go m x y (dec_lt m j) }
  where
    go : (m : ℕ) → i ≤ m → m < k → Dec (m < j) → p (get_or s m 0) ≡ true
    go m x y (yes l) = a.passes m x l
    go m x y (no l) = b.passes m (omega arith) y

each_one : {p : ℕ → Bool} {s : List ℕ} {i b : ℕ} → At s i b → p b ≡ true → Each p s i (i + 1)
each_one {p} {s} {i} {b} a e =
    record { order = omega arith; inside = omega (arith, a.inside); passes = λ m x y. let z : m ≡ i = omega arith in ap (λ (n : ℕ). p (get_or s n 0)) z ∙ ap p a.byte ∙ e }

each_of : {p q : ℕ → Bool} {s : List ℕ} {i j : ℕ} → ((b : ℕ) → p b ≡ true → q b ≡ true) → Each p s i j → Each q s i j
each_of {p} {q} {s} f e = record { order = e.order; inside = e.inside; passes = λ m x y. f (get_or s m 0) (e.passes m x y) }

-- ---- values without a newline

abbrev on_line : ℕ → Bool
on_line b = none_of (newline ∷ []) b

digit_on_line : (b : ℕ) → digit b ≡ true → on_line b ≡ true
unfolding digit one_of
digit_on_line b e = go (eqb b newline) refl
  where
    go : (t : Bool) → eqb b newline ≡ t → not (t || false) ≡ true
    go true f = let z : b ≡ newline = eqb-true b newline f in differ e (ap (λ (c : ℕ). leb 48 c && leb c 57) z)
    go false f = refl

dash_on_line : on_line dash ≡ true
unfolding one_of
dash_on_line = refl

pair_on_line : {s : List ℕ} {i j : ℕ} {r : Range} → Pair s i r j → Each on_line s i j
pair_on_line {s} {i} {j} p =
    each_then (led p.k (omega (arith, p.first.digits.digits.order, p.first.digits.digits.inside)) p.led) (each_then (each_of digit_on_line p.first.digits.digits) (each_then (each_one p.split dash_on_line) (each_of digit_on_line p.second.digits.digits)))
  where
    led : (k : ℕ) → k ≤ length s → Led dash s i k → Each on_line s i k
    led k h (swallowed a e) = subst (λ (n : ℕ). Each on_line s i n) (sym e) (each_one a dash_on_line)
    led k h (plain a e) = record { order = omega arith; inside = h; passes = λ m x y. absurd (omega arith) }

-- ---- tables whose own keys are no group's

-- a bracketed key is an unknown one, and the other values are pairs
pub record Ungrouped (T : List Field) : Type 0 where
  pub unknown : (w f n : List ℕ) → Bracketed w f n → kind_of T w ≡ anything
  pub pairs : (w : List ℕ) → (kind_of T w ≡ anything) ⊎ (kind_of T w ≡ a_pair)

value_on_line : {s : List ℕ} {i j : ℕ} {t : Kind} {v : Value} → (t ≡ anything) ⊎ (t ≡ a_pair) → Reads (newline ∷ []) s i t v j → Each on_line s i j
value_on_line {s} {i} {j} {t} {v} o r = ⊎_elim (λ e. any (subst (λ (k : Kind). Reads (newline ∷ []) s i k v j) e r)) (λ e. pair (subst (λ (k : Kind). Reads (newline ∷ []) s i k v j) e r)) o
  where
    any : {v : Value} → Reads (newline ∷ []) s i anything v j → Each on_line s i j
    any (is_unknown u) = u.run

    pair : {v : Value} → Reads (newline ∷ []) s i a_pair v j → Each on_line s i j
    pair (is_pair p) = pair_on_line p

not_on_line : {s : List ℕ} {j : ℕ} → Ends is_newline s j → j < length s → on_line (get_or s j 0) ≡ false
unfolding one_of
not_on_line (over e) l = absurd (omega arith)
not_on_line {s} {j} (met h e) l = ap (λ (t : Bool). not (t || false)) e

unread_of : {s : List ℕ} {i j : ℕ} {v : Value} → Reads (newline ∷ []) s i anything v j → v ≡ unread (record { start = i; len = j - i })
unread_of {s} {i} {j} (is_unknown {x = x} u) =
    let a : x.start ≡ i = u.start in
    let b : x.len ≡ j - i = omega (arith, u.len) in
    λ k. unread (record { start = a k; len = b k })

-- ---- a key, from what is written to the answer

text_read : {D s : List ℕ} {i j : ℕ} {x : Span} → i ≤ length s → Text D s i x j → text_at D s i ≡ got (span x.start x.len) j
text_read {D} {s} {i} {j} {x} h t = go (text_at D s i) refl (text_sound D s i h)
  where
    go : (u : Result (of-read.Read of-span.Span) Refusal) → text_at D s i ≡ u → Answers s i (Text D s i) (NoText s i) (of_text u) → text_at D s i ≡ got (span x.start x.len) j
    go (Ok u) e (right p q g) =
        let o = text_one D s i (record { start = u.value.start; len = u.value.len }) x u.next.at j g t in
        e ∙ (λ k. got (span (o.0 k).start (o.0 k).len) (o.1 k))
    go (Err r) e (wrong n) = absurd (text_never D s _ _ _ _ _ t n)

key_read : {s : List ℕ} → Bytes s → {i k at j : ℕ} {w : List ℕ} → Each is_newline s i k → ¬ Ends is_newline s k → (q : Key s k at w j) → key_at s i ≡ some_of (got (span at q.len) j)
unfolding key_at
key_read {s} b {i} {k} {at} {j} e n q =
    let l : k < length s = inside (dec_lt k (length s)) in
    let d : stop is_newline s i ≡ k = stop_is is_newline s (k - i) i k (omega (arith, e.order)) e (λ h. no_newline (is_newline (get_or s k 0)) refl h) in
    let t : eqb (byte_at s k) 256 ≡ false = ne_eqb (byte_at s k) 256 (λ f. omega (arith, b.below k, byte_is s k l)) in
    ap (key_from s) d ∙ ap (λ (u : Bool). cond u (Ok None) (some_of (text_at (newline ∷ colon ∷ []) s k))) t ∙ ap some_of (text_read e.inside q.string)
  where
    inside : Dec (k < length s) → k < length s
    inside (yes l) = l
    inside (no l) = let z : k ≡ length s = omega (arith, e.inside) in absurd (n (over z))

    no_newline : (t : Bool) → is_newline (get_or s k 0) ≡ t → k < length s → t ≡ false
    no_newline true f h = absurd (n (met h f))
    no_newline false f h = refl

-- ---- a row

-- where a row's parts stand
pub record Standing (s : List ℕ) (r : Row) : Type 0 where
  pub named : r.name.start ≡ r.field.start + (r.field.len + 1)
  pub names : r.name.start + r.name.len ≤ length s
  pub order : r.value ≤ r.end
  pub inside : r.end ≤ length s

pub length_part : (s : List ℕ) (i n : ℕ) → i + n ≤ length s → length (part s i n) ≡ n
length_part s i n h = length-take-le n (drop i s) (omega (arith, length-drop i s))

-- where a group's name stands in its row's key
pub name_said : (s : List ℕ) (r : Row) → Standing s r → name_of (row_said s r) ≡ span_said r.name
unfolding row_said
name_said s r h =
    let a : length (bytes_of s r.field) ≡ r.field.len = length_part s r.field.start r.field.len (omega (arith, h.named, h.names)) in
    let b : length (bytes_of s r.name) ≡ r.name.len = length_part s r.name.start r.name.len h.names in
    let c : r.field.start + (length (bytes_of s r.field) + 1) ≡ r.name.start = omega (arith, h.named) in
    λ k. record { start = c k; len = b k }

-- a part of a part
part-front : (s : List ℕ) (a n b : ℕ) → b ≤ n → take b (part s a n) ≡ part s a b
part-front s a n b h = take-take b n (drop a s) h

drop-take : (l : List ℕ) (n b : ℕ) → drop b (take (b + n) l) ≡ take n (drop b l)
drop-take l n zero = let e : 0 + n ≡ n = omega arith in ap (λ (m : ℕ). take m l) e
drop-take [] n (suc b) = ap (drop (suc b)) (take-nil {A = ℕ} (suc b + n)) ∙ sym (take-nil {A = ℕ} n)
drop-take (c ∷ l) n (suc b) = let e : suc b + n ≡ suc (b + n) = omega arith in ap (λ (m : ℕ). drop (suc b) (take m (c ∷ l))) e ∙ drop-take l n b

part-part : (s : List ℕ) (a n b m : ℕ) → b + m ≤ n → part (part s a n) b m ≡ part s (a + b) m
part-part s a n b m h =
    let e : b + (n - b) ≡ n = omega arith in
    ap (λ (k : ℕ). take m (drop b (take k (drop a s)))) (sym e) ∙ ap (take m) (drop-take (drop a s) (n - b) b) ∙ take-take m (n - b) (drop b (drop a s)) (omega arith) ∙ ap (take m) (drop-drop b a s)

row_of_lem : ℕ → ℕ → ℕ → ℕ → ℕ → Row
row_of_lem a b n v e = record { field = span a b; name = span (a + b + 1) n; value = v; end = e }

-- ---- the rows

-- the rows of the reader, in the words of `written`
pub record RowsSaid (s : List ℕ) (xs : List Entry) (rs : List Row) : Type 0 where
  pub rows : Rows xs (map (row_said s) rs)
  pub standing : All (Standing s) rs

module _ (T : List Field) (ungrouped : Ungrouped T) {s : List ℕ} (b : Bytes s) where
  -- a line of the section is found, and ends where its value does
  row_read : {i j : ℕ} {x : Entry} (l : NextLine T s i x j) → row_at s i ≡ split_row x.at (l.line.k + 1) j (split_of x.name)
  unfolding row_at key_row
  row_read {i} {j} {x} l =
      let q = l.line.key in
      let h = l.line.split in
      let e : key_at s i ≡ some_of (got (span x.at q.len) l.line.k) = key_read b l.blank (line_starts l.line) q in
      let v = value_on_line (ungrouped.pairs x.name) l.line.value in
      let d : stop (none_of (newline ∷ [])) s (l.line.k + 1) ≡ j = stop_is on_line s (j - (l.line.k + 1)) (l.line.k + 1) j (omega (arith, v.order)) v (λ k. not_on_line l.ends k) in
      let c : eqb (byte_at s l.line.k) colon ≡ true = eq-eqb (byte_at s l.line.k) colon (byte_is s l.line.k h.inside ∙ h.byte) in
      ap (row_of s) e
      ∙ ap₂ (λ (t : Bool) (m : ℕ). cond t (split_row x.at (l.line.k + 1) m (split_of (part s x.at q.len))) found.End) c d
      ∙ ap (λ (w : List ℕ). split_row x.at (l.line.k + 1) j (split_of w)) (sym q.bytes_of)

  -- a line's row
  row_said_lem : {x : Entry} {rs : List Row} {xs : List Entry} (v j : ℕ) → x.value ≡ unread (record { start = v; len = j - v }) → v ≤ j → j ≤ length s → (n : ℕ) → x.name ≡ part s x.at n → x.at + n ≤ length s
      → (c m : ℕ) → split_of x.name ≡ bracketed c m → RowsSaid s xs rs → RowsSaid s (x ∷ xs) (row_of_lem x.at c m v j ∷ rs)
  unfolding row_said row_of_lem
  row_said_lem {x} {rs} {xs} v j e h l n w i c m f r =
      let k : c + m + 2 ≡ length x.name = split_whole x.name f in
      let k2 : length x.name ≡ n = ap length w ∙ length_part s x.at n i in
      let p : take c x.name ≡ part s x.at c = ap (take c) w ∙ part-front s x.at n c (omega arith) in
      let z : x.at + (c + 1) ≡ x.at + c + 1 = omega arith in
      let q : part x.name (c + 1) m ≡ part s (x.at + c + 1) m = ap (λ (u : List ℕ). part u (c + 1) m) w ∙ part-part s x.at n (c + 1) m (omega arith) ∙ ap (λ (u : ℕ). part s u m) z in
      let g : Bracketed x.name (part s x.at c) (part s (x.at + c + 1) m) =
      subst (λ (u : List ℕ). Bracketed x.name u (part s (x.at + c + 1) m)) p (subst (λ (u : List ℕ). Bracketed x.name (take c x.name) u) q (split_bracketed x.name f)) in
      let st : Standing s (row_of_lem x.at c m v j) = record { named = omega arith; names = omega arith; order = h; inside = l } in
      record {
        rows = subst (λ (u : Value). Rows (record { at = x.at; name = x.name; value = u } ∷ xs) (map (row_said s) (row_of_lem x.at c m v j ∷ rs))) (sym e) (grouped g r.rows);
        standing = next st r.standing;
      }

  text_in : {D : List ℕ} {i j : ℕ} {x : Span} → i ≤ length s → Text D s i x j → x.start + x.len ≤ length s
  text_in h (Text.quoted a e f g q) = f.inside
  text_in h (Text.bare a e f g q) = omega (arith, f.inside)

  line_rows : {i j : ℕ} {x : Entry} (l : NextLine T s i x j) (f : ℕ) {xs : List Entry} → RowsSaid s xs (rows_from f s j) → RowsSaid s (x ∷ xs) (rows_from (suc f) s i)
  unfolding rows_from row_of_lem
  line_rows {i} {j} {x} l f {xs} r = subst (RowsSaid s (x ∷ xs)) (sym (ap (onward_row (rows_from f s)) (row_read l))) (go (split_of x.name) refl)
    where
      v : ℕ
      v = l.line.k + 1

      go : (d : Option Brackets) → split_of x.name ≡ d → RowsSaid s (x ∷ xs) (onward_row (rows_from f s) (split_row x.at v j d))
      go (Some d) e =
          let g = split_bracketed x.name {b = d.field} {n = d.name} e in
          let k : Reads (newline ∷ []) s v anything x.value j = subst (λ (t : Kind). Reads (newline ∷ []) s v t x.value j) (ungrouped.unknown x.name (take d.field x.name) (part x.name (d.field + 1) d.name) g) l.line.value in
          let o = value_on_line (ungrouped.pairs x.name) l.line.value in
          row_said_lem v j (unread_of k) o.order o.inside l.line.key.len l.line.key.bytes_of (text_in l.blank.inside l.line.key.string) d.field d.name e r
      go None e = record { rows = dropped (plain_split x.name e) r.rows; standing = r.standing }

  no_rows : {i : ℕ} → Each is_newline s i (length s) → row_at s i ≡ found.End
  unfolding row_at key_at
  no_rows {i} e =
      let d : stop is_newline s i ≡ length s = stop_is is_newline s (length s - i) i (length s) (omega (arith, e.order)) e (λ h. absurd (omega arith)) in
      let t : eqb (byte_at s (length s)) 256 ≡ true = eq-eqb (byte_at s (length s)) 256 (byte_out s (length s) (omega arith)) in
      ap (λ (k : ℕ). row_of s (key_from s k)) d ∙ ap (λ (u : Bool). row_of s (cond u (Ok None) (some_of (text_at (newline ∷ colon ∷ []) s (length s))))) t

  line_moves : {i j : ℕ} {x : Entry} → NextLine T s i x j → i < j
  line_moves {x = x} l = let v = value_on_line (ungrouped.pairs x.name) l.line.value in omega (arith, l.blank.order, v.order, text_on l.line.key.string)
    where
      text_on : {D : List ℕ} {i j : ℕ} {y : Span} → Text D s i y j → i ≤ j
      text_on (Text.quoted a e f g q) = omega (arith, f.order)
      text_on (Text.bare a e f g q) = f.order

  lines_rows : {i k : ℕ} {xs : List Entry} → Many (NextLine T s) i xs k → Each is_newline s k (length s) → (f : ℕ) → length s < i + f → RowsSaid s xs (rows_from f s i)
  unfolding rows_from
  lines_rows {i} m e zero h = absurd (omega (arith, before m, e.order))
    where
      before : {i k : ℕ} {xs : List Entry} → Many (NextLine T s) i xs k → i ≤ k
      before none = omega arith
      before (more l m) = omega (arith, line_moves l, before m)
  lines_rows {i} none e (suc f) h = subst (RowsSaid s []) (sym (ap (onward_row (rows_from f s)) (no_rows e))) (record { rows = Rows.end; standing = All.end })
  lines_rows (more l m) e (suc f) h = line_rows l f (lines_rows m e f (omega (arith, line_moves l)))

  -- the rows that are found are those of the section's lines
  pub section_rows : {i : ℕ} {xs : List Entry} → Section T s i xs → RowsSaid s xs (rows_at s i)
  unfolding rows_at
  section_rows {i} c = lines_rows c.lines c.blank (suc (length s)) (omega arith)

  -- and no others: rows that its lines say are those that are found
  pub rows_found : {i : ℕ} {xs : List Entry} {rs : List says.Row} → Section T s i xs → Rows xs rs → map (row_said s) (rows_at s i) ≡ rs
  rows_found c r = rows_one (section_rows c).rows r
