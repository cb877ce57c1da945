-- The names that a record has, and COMMENT, stand inside the file.
use mathlib.Core.Path.{◌≡◌, sym, ap, ◌∙◌, subst}
use mathlib.Core.Bool.{Bool, true, false, cond}
use mathlib.Core.List.{List, [], ◌∷◌, ◌++◌}
use mathlib.Core.Option.{Option, some, none}
use Prim.Native.Nat.{ℕ, ◌+◌, ◌≤◌}
use native.Mathlib.Omega.{arith}
use lib.ListN.{length, drop, length-append, length-drop}
use lib.Seq.{length-take-le}
use Rattle.written.specs.Bytes.{bytes, bracket, unbracket, same, Span}
use Rattle.written.specs.HeaderText.{Text, quoted, bare, Many, Passed, Listed, empty, full, Kind, Value, text, number, flag, texts, range, ranges, perhaps, unread, Reads, is_string, is_number, is_bool, are_strings, is_pair, are_pairs, is_absent, is_present, is_unknown, Field, Entry, values_of, Key, NextLine, Section}
use Rattle.written.specs.Groups.{Row, Rows, grouped, dropped, Group, name_of, of_others, Grouped, Pointwise}
use Rattle.written.specs.Record.{Header, up_to, GroupsOf, All, AtMostOnce, Says}
use Rattle.written.specs.Linking.{Nth, here, there}
use Rattle.written.specs.Models.{stream_name, position_name}
use Rattle.written_models.proofs.Longer.{sections_inside}

-- a part stands before n
abbrev pub Before : ℕ → Span → Type 0
Before n x = x.start + x.len ≤ n

pub all_nth : {A : Type 0} {P : A → Type 0} {l : List A} {k : ℕ} {x : A} → All P l → Nth l k x → P x
all_nth (All.next p a) here = p
all_nth (All.next p a) (there h) = all_nth a h
all_nth {A = A} {P = P} {k = k} Rattle.written.specs.Record.end x6 = elim x6 [ ]

all_append : {A : Type 0} {P : A → Type 0} {l m : List A} → All P l → All P m → All P (l ++ m)
all_append All.end b = b
all_append (All.next p a) b = All.next p (all_append a b)

all_map : {A : Type 0} {P Q : A → Type 0} → ((a : A) → P a → Q a) → {l : List A} → All P l → All Q l
all_map f All.end = All.end
all_map f (All.next {a = x} p a) = All.next (f x p) (all_map f a)

-- ---- strings and lists of strings

text_before : {D s : List ℕ} {i j : ℕ} {x : Span} → Text D s i x j → Before (length s) x
text_before (quoted a p b c e) = omega (arith, c.inside)
text_before (bare n p b c e) = omega (arith, b.inside)

many_before : {D s : List ℕ} {i j : ℕ} {l : List Span} → Many (Passed (Text D s) s) i l j → All (Before (length s)) l
many_before Many.none = All.end
many_before (Many.more p m) = All.next (text_before p.item) (many_before m)

listed_before : {D E s : List ℕ} {i j : ℕ} {l : List Span} → Listed (Text D s) E s i l j → All (Before (length s)) l
listed_before (empty e) = All.end
listed_before (full n l m a e) = all_append (many_before m) (All.next (text_before a) All.end)

-- ---- the strings of a value

abbrev Inner : ℕ → Value → Type 0
Inner n (text x) = Before n x
Inner n (number x) = Unit {0}
Inner n (flag x) = Unit {0}
Inner n (texts l) = All (Before n) l
Inner n (range x) = Unit {0}
Inner n (ranges x) = Unit {0}
Inner n (perhaps x) = Unit {0}
Inner n (unread x) = Unit {0}

reads_inner : {D s : List ℕ} {i j : ℕ} {k : Kind} {v : Value} → Reads D s i k v j → Inner (length s) v
reads_inner (is_string a) = text_before a
reads_inner (is_number a) = tt
reads_inner (is_bool a) = tt
reads_inner (are_strings a) = listed_before a
reads_inner (is_pair a) = tt
reads_inner (are_pairs a) = tt
reads_inner (is_absent a) = tt
reads_inner (is_present n a) = tt
reads_inner (is_unknown a) = tt

-- what is known of an entry of a text of n bytes: its key and its value stand inside
pub record Held (n : ℕ) (x : Entry) : Type 0 where
  pub key : x.at + length x.name ≤ n
  pub value : Inner n x.value

next_held : {T : List Field} {s : List ℕ} {i j : ℕ} {x : Entry} → NextLine T s i x j → Held (length s) x
next_held {T} {s} {i} {j} {x} a = record { key = key a.line.key; value = reads_inner a.line.value }
  where
    key : {i k : ℕ} → Key s i x.at x.name k → x.at + length x.name ≤ length s
    key k =
        let b : x.at + k.len ≤ length s = text_before k.string in
        let c : k.len ≤ length (drop x.at s) = omega (arith, length-drop x.at s) in
        let d : length x.name ≡ k.len = ap length k.bytes_of ∙ length-take-le k.len (drop x.at s) c in
        omega arith

lines_held : {T : List Field} {s : List ℕ} {i j : ℕ} {xs : List Entry} → Many (NextLine T s) i xs j → All (Held (length s)) xs
lines_held Many.none = All.end
lines_held (Many.more a m) = All.next (next_held a) (lines_held m)

-- the entries of a section, in the whole file
section_held : {T : List Field} (file : List ℕ) (x : Span) {xs : List Entry} → Before (length file) x → Section T (up_to file x) x.start xs → All (Held (length file)) xs
section_held file x {xs} l a =
    let e : length (up_to file x) ≡ x.start + x.len = length-take-le (x.start + x.len) file l in
    all_map (λ z h. up e z h) (lines_held a.lines)
  where
    inner : {n m : ℕ} → n ≤ m → (v : Value) → Inner n v → Inner m v
    inner o (text y) h = omega arith
    inner o (number y) h = tt
    inner o (flag y) h = tt
    inner o (texts y) h = all_map (λ z q. omega arith) h
    inner o (range y) h = tt
    inner o (ranges y) h = tt
    inner o (perhaps y) h = tt
    inner o (unread y) h = tt

    up : length (up_to file x) ≡ x.start + x.len → (z : Entry) → Held (length (up_to file x)) z → Held (length file) z
    up e z h = let o : length (up_to file x) ≤ length file = omega arith in record { key = omega (arith, h.key); value = inner o z.value h.value }

values_inner : {n : ℕ} (w : List ℕ) {xs : List Entry} → All (Held n) xs → All (Inner n) (values_of w xs)
unfolding values_of
values_inner w All.end = All.end
values_inner {n} w (All.next {a = x} {l = xs} p a) = go (same w x.name) (values_inner w a)
  where
    go : (b : Bool) → All (Inner n) (values_of w xs) → All (Inner n) (cond b (x.value ∷ values_of w xs) (values_of w xs))
    go true r = All.next p.value r
    go false r = r

-- ---- names of groups

rows_before : {n : ℕ} {xs : List Entry} {rs : List Row} → Rows xs rs → All (Held n) xs → All (λ r. Before n (name_of r)) rs
rows_before Rows.end a = All.end
rows_before {n} (grouped {at = at} {key = key} {field = f} {name = m} b r) (All.next p a) =
    let e = ap length b.whole ∙ length-append f (bracket ∷ (m ++ (unbracket ∷ []))) in
    let g = length-append m (unbracket ∷ []) in
    let o : at + (length f + 1) + length m ≤ n = omega (arith, e, g, p.key) in
    All.next o (rows_before r a)
rows_before (dropped d r) (All.next p a) = rows_before r a

others_all : {P : Row → Type 0} (w : List ℕ) {rs : List Row} → All P rs → All P (of_others w rs)
unfolding of_others
others_all w All.end = All.end
others_all {P} w (All.next {a = r} {l = rs} p a) = go (same w r.group) (others_all w a)
  where
    go : (b : Bool) → All P (of_others w rs) → All P (cond b (of_others w rs) (r ∷ of_others w rs))
    go true q = q
    go false q = All.next p q

grouped_before : {n : ℕ} {rs : List Row} {gs : List Group} → Grouped rs gs → All (λ r. Before n (name_of r)) rs → All (λ g. Before n g.name) gs
grouped_before Grouped.end a = All.end
grouped_before (Grouped.next {r = r} g) (All.next p a) = All.next p (grouped_before g (others_all r.group a))

groups_before : {n : ℕ} {xs : List Entry} {gs : List Group} → GroupsOf xs gs → All (Held n) xs → All (λ g. Before n g.name) gs
groups_before g a = grouped_before g.by_name (rows_before g.of_lines a)

said_before : {n : ℕ} {D : Type 0} (name : D → Span) {R : Group → D → Type 0} → ((g : Group) (d : D) → R g d → name d ≡ g.name)
    → {gs : List Group} {ds : List D} → Pointwise R gs ds → All (λ g. Before n g.name) gs → All (λ d. Before n (name d)) ds
said_before name f Pointwise.none a = All.end
said_before {n} name f (Pointwise.more {a = g} {b = d} r q) (All.next p a) = All.next (subst (Before n) (sym (f g d r)) p) (said_before name f q a)

-- ---- the record

pub record NamesInside (file : List ℕ) (h : Header) : Type 0 where
  pub types : All (Before (length file)) h.global.stream_type
  pub streams : All (λ d. Before (length file) (stream_name d)) h.streams
  pub positions : All (λ d. Before (length file) (position_name d)) h.positions
  pub comment : (x : Span) → h.global.comment ≡ some x → Before (length file) x

only : {A : Type 0} {P : A → Type 0} {a : A} {l : List A} → l ≡ a ∷ [] → All P l → P a
only {A} {P} {a} {l} e h = all_nth (subst (All P) e h) here

some_one : {x y : Span} → some x ≡ some y → x ≡ y
some_one e = cc

-- a COMMENT that is there
said_comment : {n : ℕ} {xs : List Entry} {c : Option Span} → AtMostOnce text some none xs "COMMENT" c → All (Inner n) (values_of (bytes "COMMENT") xs) → (x : Span) → c ≡ some x → Before n x
said_comment (AtMostOnce.missing e c) a x f = let z : none ≡ some x = sym c ∙ f in let u : ◌≡◌ {A = ℕ} 0 1 = cc in absurd (omega arith)
said_comment {n} (AtMostOnce.there y e c) a x f = subst (Before n) (some_one (sym c ∙ f)) (only {P = Inner n} e a)

pub names_inside : {file : List ℕ} {h : Header} → Says file h → NamesInside file h
names_inside {file} {h} a =
    let i = sections_inside a.split in
    let n = length file in
    record {
      types = only {P = Inner n} a.global.says.stream_type.value (values_inner (bytes "STREAM_TYPE") (section_held file a.parts.global i.global a.global.lines));
      streams = said_before stream_name (λ g d r. r.says.0) a.streams.say (groups_before a.streams.groups (section_held file a.parts.stream i.stream a.streams.lines));
      positions = said_before position_name (λ g d r. r.says.0) a.positions.say (groups_before a.positions.groups (section_held file a.parts.position i.position a.positions.lines));
      comment = λ x e. said_comment a.global.says.comment (values_inner (bytes "COMMENT") (section_held file a.parts.global i.global a.global.lines)) x e;
    }
