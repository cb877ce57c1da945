-- What a header text says stands inside it: strings, keys, group names, and the data of a file.
use mathlib.Core.Path.{◌≡◌, sym, ap, subst}
use mathlib.Core.Bool.{Bool, true, false, cond}
use mathlib.Core.List.{List, [], ◌∷◌, ◌++◌}
use mathlib.Core.Option.{Option, some, none}
use Prim.Native.Nat.{ℕ, suc, ◌+◌, ◌≤◌}
use Prim.Native.String.{String}
use native.Mathlib.Omega.{arith}
use lib.ListN.{length, drop, length-take, length-append, length-replicate}
use Rattle.written.specs.Bytes.{bytes, newline, bracket, unbracket, same, Span}
use Rattle.written.specs.Sections.{newlines, Part, Parts, Sections}
use Rattle.written.specs.HeaderText.{Text, quoted, bare, Many, Passed, Listed, empty, full, Kind, Value, text, number, flag, texts, range, ranges, perhaps, unread, Reads, is_string, is_number, is_bool, are_strings, is_pair, are_pairs, is_absent, is_present, is_unknown, Field, Entry, values_of, Line, NextLine}
use Rattle.written.specs.Groups.{Row, Rows, grouped, dropped, of_others, Group, name_of, Grouped, alone, Alone, Pointwise}
use Rattle.written.specs.Record.{Once, AtMostOnce, missing, there, All}

-- ---- of all in a list

module _ {A : Type 0} {P : A → Type 0} where
  pub all_head : {a : A} {l : List A} → All P (a ∷ l) → P a
  all_head (All.next p h) = p

  all_with : {l : List A} {a : A} → All P l → P a → All P (l ++ (a ∷ []))
  all_with All.end q = All.next q All.end
  all_with (All.next p h) q = All.next p (all_with h q)

  pub all_map : {Q : A → Type 0} → ((a : A) → P a → Q a) → {l : List A} → All P l → All Q l
  all_map f All.end = All.end
  all_map f (All.next {a = a} p h) = All.next (f a p) (all_map f h)

-- ---- strings and values

-- a part ends within n bytes
pub record In (n : ℕ) (x : Span) : Type 0 where
  pub ends : x.start + x.len ≤ n

-- the strings of a value do
abbrev pub ValueIn : ℕ → Value → Type 0
ValueIn n (text x) = In n x
ValueIn n (number m) = Unit {0}
ValueIn n (flag b) = Unit {0}
ValueIn n (texts l) = All (In n) l
ValueIn n (range r) = Unit {0}
ValueIn n (ranges l) = Unit {0}
ValueIn n (perhaps r) = Unit {0}
ValueIn n (unread x) = Unit {0}

-- a string that may be absent
abbrev pub PresentIn : ℕ → Option Span → Type 0
PresentIn n none = Unit {0}
PresentIn n (some x) = In n x

pub in_more : {m n : ℕ} → m ≤ n → (x : Span) → In m x → In n x
in_more h x p = record { ends = omega (arith, p.ends) }

pub value_more : {m n : ℕ} → m ≤ n → (v : Value) → ValueIn m v → ValueIn n v
value_more h (text x) p = in_more h x p
value_more h (number m) p = tt
value_more h (flag b) p = tt
value_more h (texts l) p = all_map (in_more h) p
value_more h (range r) p = tt
value_more h (ranges l) p = tt
value_more h (perhaps r) p = tt
value_more h (unread x) p = tt

text_in : {D s : List ℕ} {i j : ℕ} {x : Span} → Text D s i x j → In (length s) x
text_in (quoted a b c d e) = record { ends = omega (arith, d.inside) }
text_in (bare a b c d e) = record { ends = omega (arith, c.inside) }

many_in : {D s : List ℕ} {i k : ℕ} {l : List Span} → Many (Passed (Text D s) s) i l k → All (In (length s)) l
many_in Many.none = All.end
many_in (Many.more p m) = All.next (text_in p.item) (many_in m)

listed_in : {E D s : List ℕ} {i j : ℕ} {l : List Span} → Listed (Text E s) D s i l j → All (In (length s)) l
listed_in (empty e) = All.end
listed_in (full a b m t e) = all_with (many_in m) (text_in t)

reads_in : {D s : List ℕ} {i j : ℕ} {k : Kind} {v : Value} → Reads D s i k v j → ValueIn (length s) v
reads_in (is_string t) = text_in t
reads_in (is_number n) = tt
reads_in (is_bool b) = tt
reads_in (are_strings l) = listed_in l
reads_in (is_pair r) = tt
reads_in (are_pairs l) = tt
reads_in (is_absent e) = tt
reads_in (is_present e r) = tt
reads_in (is_unknown u) = tt

-- ---- lines

pub record EntryIn (n : ℕ) (x : Entry) : Type 0 where
  pub key : x.at + length x.name ≤ n
  pub value : ValueIn n x.value

line_in : {T : List Field} {s : List ℕ} {i j : ℕ} {x : Entry} → Line T s i x j → EntryIn (length s) x
line_in {s = s} {x = x} l =
    record {
      key = omega (arith, (text_in l.key.string).ends, ap length l.key.bytes_of, length-take l.key.len (drop x.at s));
      value = reads_in l.value;
    }

pub lines_in : {T : List Field} {s : List ℕ} {i k : ℕ} {xs : List Entry} → Many (NextLine T s) i xs k → All (EntryIn (length s)) xs
lines_in Many.none = All.end
lines_in (Many.more l m) = All.next (line_in l.line) (lines_in m)

-- the rows of a group, each read alone
pub alone_in : {T : List Field} {s : List ℕ} {rs : List Row} {xs : List Entry} → Pointwise (Alone T s) rs xs → All (λ x. ValueIn (length s) x.value) xs
alone_in Pointwise.none = All.end
alone_in {s = s} (Pointwise.more {a = r} {b = x} a m) =
    let h : length (alone s r) ≤ length s = omega (arith, length-take (r.value.start + r.value.len) s) in
    All.next (value_more h x.value (reads_in a.value)) (alone_in m)

-- ---- the values of a field

module _ {n : ℕ} where
  values_in : (w : List ℕ) (xs : List Entry) → All (λ x. ValueIn n x.value) xs → All (ValueIn n) (values_of w xs)
  unfolding values_of
  values_in w [] All.end = All.end
  values_in w (x ∷ xs) (All.next p a) = go (same w x.name) (values_in w xs a)
    where
      go : (b : Bool) → All (ValueIn n) (values_of w xs) → All (ValueIn n) (cond b (x.value ∷ values_of w xs) (values_of w xs))
      go true r = All.next p r
      go false r = r

  module _ {xs : List Entry} (a : All (λ x. ValueIn n x.value) xs) (w : String) where
    one_in : {v : Value} → values_of (bytes w) xs ≡ v ∷ [] → ValueIn n v
    one_in e = all_head (subst (All (ValueIn n)) e (values_in (bytes w) xs a))

    pub text_said : {x : Span} → Once text xs w x → In n x
    text_said o = one_in o.value

    pub texts_said : {l : List Span} → Once texts xs w l → All (In n) l
    texts_said o = one_in o.value

    pub texts_perhaps : {l : List Span} → AtMostOnce texts (λ m. m) [] xs w l → All (In n) l
    texts_perhaps (missing e q) = subst (All (In n)) (sym q) All.end
    texts_perhaps (there l e q) = subst (All (In n)) (sym q) (one_in e)

    pub text_perhaps : {x : Option Span} → AtMostOnce text some none xs w x → PresentIn n x
    text_perhaps (missing e q) = subst (PresentIn n) (sym q) tt
    text_perhaps (there x e q) = subst (PresentIn n) (sym q) (one_in e)

-- ---- groups

module _ {n : ℕ} where
  rows_in : {xs : List Entry} {rs : List Row} → Rows xs rs → All (EntryIn n) xs → All (λ r. In n (name_of r)) rs
  rows_in Rows.end a = All.end
  rows_in (grouped {at = at} {key = key} {field = field} {name = name} b r) (All.next e a) =
      let q : at + (length field + 1) + length name ≤ n =
      omega (arith, e.key, ap length b.whole, length-append field (bracket ∷ (name ++ (unbracket ∷ []))), length-append name (unbracket ∷ [])) in
      All.next (record { ends = q }) (rows_in r a)
  rows_in (dropped f r) (All.next e a) = rows_in r a

  others_in : (w : List ℕ) (rs : List Row) → All (λ r. In n (name_of r)) rs → All (λ r. In n (name_of r)) (of_others w rs)
  unfolding of_others
  others_in w [] All.end = All.end
  others_in w (r ∷ rs) (All.next p a) = go (same w r.group) (others_in w rs a)
    where
      go : (b : Bool) → All (λ r. In n (name_of r)) (of_others w rs) → All (λ r. In n (name_of r)) (cond b (of_others w rs) (r ∷ of_others w rs))
      go true q = q
      go false q = All.next p q

  grouped_in : {rs : List Row} {gs : List Group} → Grouped rs gs → All (λ r. In n (name_of r)) rs → All (λ g. In n g.name) gs
  grouped_in Grouped.end a = All.end
  grouped_in (Grouped.next {r = r} {rs = rs} g) (All.next p a) = All.next p (grouped_in g (others_in r.group rs a))

  pub groups_in : {xs : List Entry} {rs : List Row} {gs : List Group} → Rows xs rs → Grouped rs gs → All (EntryIn n) xs → All (λ g. In n g.name) gs
  groups_in r g a = grouped_in g (rows_in r a)

-- ---- the data

part_ends : {n : ℕ} {heading : List ℕ} {before : ℕ} {after : List ℕ} {x : Span} {following : List ℕ} → Part n heading before after x following
    → x.start + x.len + length following ≡ before + length after
part_ends {n} {heading} {before} {after} {x} {following} p =
    omega (
      arith,
      p.start,
      p.len,
      ap length p.whole,
      length-append (newlines n) (heading ++ (p.written ++ following)),
      length-replicate n newline,
      length-append heading (p.written ++ following),
      length-append p.written following,
    )

pub data_in : {file : List ℕ} {p : Parts} → Sections file p → In (length file) p.rest
data_in {file} {p} s =
    record {
      ends =
          omega (
            arith,
            part_ends s.global,
            part_ends s.stream,
            part_ends s.position,
            s.rest_start,
            s.rest_len,
            ap length s.rest,
            length-append (newlines (suc s.n_data)) (bytes "[DATA]\n" ++ s.dat),
            length-replicate (suc s.n_data) newline,
            length-append (bytes "[DATA]\n") s.dat,
          );
    }
