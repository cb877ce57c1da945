-- A file splits in at most one way, and says at most one record.
use mathlib.Core.Path.{◌≡◌, refl, sym, ap, ap₂, ◌∙◌, subst}
use mathlib.Core.Bool.{Bool, true, false, ◌||◌}
use mathlib.Core.List.{List, [], ◌∷◌, ◌++◌}
use Prim.Native.Nat.{ℕ, zero, suc, ◌+◌, ◌≤◌}
use Prim.Native.String.{String}
use native.Mathlib.Omega.{arith}
use lib.Dec.{eqb}
use lib.ListN.{length, length-append}
use borrow.Author.Tests.{eq-eqb}
use Rattle.written.specs.Bytes.{bytes, bracket, unbracket, one_of, Span}
use Rattle.written.specs.Sections.{UpToNext, newlines, Part, Parts, Sections}
use Rattle.written.specs.HeaderText.{Range, Value, text, number, flag, texts, range, ranges, perhaps, Field, Entry}
use Rattle.written.specs.Groups.{Bracketed, Row, Rows, grouped, dropped, Group, name_of, of_group, Grouped, next, alone, Alone, Pointwise, Entries}
use Rattle.written.specs.Groups as H
use Rattle.written.specs.Record.{Global, Stream, Position, Header, Once, AtMostOnce, missing, there, SaysGlobal, SaysDurations, up_to, GroupSays, GroupsOf, GlobalText, StreamSays, StreamText, PositionSays, PositionText, Says, stream_group, position_group}
use Rattle.written.proofs.Tests.{differ}
use Rattle.written.proofs.One.{reads_one, section_one}

-- ---- lists

pub heads : {x y : ℕ} {a b : List ℕ} → x ∷ a ≡ y ∷ b → x ≡ y
heads e = cc

pub tails : {x y : ℕ} {a b : List ℕ} → x ∷ a ≡ y ∷ b → a ≡ b
tails e = cc

append_left : (a : List ℕ) {b c : List ℕ} → a ++ b ≡ a ++ c → b ≡ c
append_left [] e = e
append_left (x ∷ a) e = append_left a (tails e)

pub append_same : (a b : List ℕ) {c d : List ℕ} → length a ≡ length b → a ++ c ≡ b ++ d → (a ≡ b) × (c ≡ d)
append_same [] [] l e = (refl, e)
append_same [] (y ∷ b) l e = absurd (omega arith)
append_same (x ∷ a) [] l e = absurd (omega arith)
append_same (x ∷ a) (y ∷ b) l e = let h = append_same a b (omega arith) (tails e) in (ap₂ ◌∷◌ (heads e) h.0, h.1)

-- ---- sections

lead_one : (n m : ℕ) (x y : List ℕ) → newlines n ++ (bracket ∷ x) ≡ newlines m ++ (bracket ∷ y) → (n ≡ m) × (x ≡ y)
lead_one zero zero x y e = (refl, tails e)
lead_one zero (suc m) x y e = absurd (omega (arith, heads e))
lead_one (suc n) zero x y e = absurd (omega (arith, heads e))
lead_one (suc n) (suc m) x y e = let h = lead_one n m x y (tails e) in (ap suc h.0, h.1)

up_to_one : {w v f g : List ℕ} → UpToNext w f → UpToNext v g → w ++ f ≡ v ++ g → (w ≡ v) × (f ≡ g)
up_to_one {w} {v} {f} {g} a b e =
    let x : length w ≤ length v = a.first v b.rest (e ∙ ap (λ (l : List ℕ). v ++ l) b.here) in
    let y : length v ≤ length w = b.first w a.rest (sym e ∙ ap (λ (l : List ℕ). w ++ l) a.here) in
    append_same w v (omega arith) e

-- what follows a text has just one newline before its "["
pub one_newline : {w : List ℕ} (n : ℕ) (x : List ℕ) → UpToNext w (newlines (suc n) ++ (bracket ∷ x)) → n ≡ 0
one_newline n x u = let h = lead_one n 0 x u.rest (tails u.here) in h.0

span_path : {x y : Span} → x.start ≡ y.start → x.len ≡ y.len → x ≡ y
span_path p q = λ i. record { start = p i; len = q i }

part_one :
    (h : List ℕ) {n m b c : ℕ} {s t f g : List ℕ} {x y : Span} → b ≡ c → s ≡ t → Part n (bracket ∷ h) b s x f → Part m (bracket ∷ h) c t y g
    → (x ≡ y) × (f ≡ g)
part_one h {n} {m} {x = x} {y = y} e d p q =
    let l = lead_one n m (h ++ (p.written ++ _)) (h ++ (q.written ++ _)) (sym p.whole ∙ d ∙ q.whole) in
    let u = up_to_one p.up_to q.up_to (append_left h l.1) in
    let st : x.start ≡ y.start = omega (arith, p.start, q.start, l.0) in
    (span_path st (p.len ∙ ap length u.0 ∙ sym q.len), u.1)

behind : {x y : Span} → x ≡ y → x.start + x.len ≡ y.start + y.len
behind e = ap (λ (z : Span). z.start + z.len) e

-- a file splits in at most one way
pub sections_one : {file : List ℕ} {p q : Parts} → Sections file p → Sections file q → p ≡ q
unfolding bytes
sections_one {file} {p} {q} a b =
    let g = part_one (bytes "GLOBAL]\n") refl refl a.global b.global in
    let s = part_one (bytes "STREAM]\n") (behind g.0) g.1 a.stream b.stream in
    let o = part_one (bytes "POSITION]\n") (behind s.0) s.1 a.position b.position in
    let l = lead_one (suc a.n_data) (suc b.n_data) (bytes "DATA]\n" ++ a.dat) (bytes "DATA]\n" ++ b.dat) (sym a.rest ∙ o.1 ∙ b.rest) in
    let d = append_left (bytes "DATA]\n") l.1 in
    let st : p.rest.start ≡ q.rest.start = omega (arith, a.rest_start, b.rest_start, l.0, behind o.0) in
    let r : p.rest ≡ q.rest = span_path st (a.rest_len ∙ ap length d ∙ sym b.rest_len) in
    λ i. record { global = g.0 i; stream = s.0 i; position = o.0 i; rest = r i }

-- ---- groups

no_head : (x : ℕ) (a : List ℕ) → one_of (x ∷ a) x ≡ false → ⊥
unfolding one_of
no_head x a e = differ {A = ⊥} (ap (λ (t : Bool). t || one_of a x) (eq-eqb x x refl)) e

no_tail : (x y : ℕ) (a : List ℕ) → one_of (y ∷ a) x ≡ false → one_of a x ≡ false
unfolding one_of
no_tail x y a e = go (eqb x y) e
  where
    go : (t : Bool) → (t || one_of a x) ≡ false → one_of a x ≡ false
    go true h = differ refl h
    go false h = h

-- the text before the first x
first_one : (x : ℕ) (a b : List ℕ) {c d : List ℕ} → one_of a x ≡ false → one_of b x ≡ false → a ++ (x ∷ c) ≡ b ++ (x ∷ d) → (a ≡ b) × (c ≡ d)
first_one x [] [] p q e = (refl, tails e)
first_one x [] (y ∷ b) p q e = absurd (no_head x b (subst (λ (z : ℕ). one_of (z ∷ b) x ≡ false) (sym (heads e)) q))
first_one x (y ∷ a) [] p q e = absurd (no_head x a (subst (λ (z : ℕ). one_of (z ∷ a) x ≡ false) (heads e) p))
first_one x (y ∷ a) (z ∷ b) p q e = let h = first_one x a b (no_tail x y a p) (no_tail x z b q) (tails e) in (ap₂ ◌∷◌ (heads e) h.0, h.1)

last_one : (x : ℕ) (a b : List ℕ) → a ++ (x ∷ []) ≡ b ++ (x ∷ []) → a ≡ b
last_one x [] [] e = refl
last_one x [] (y ∷ b) e = absurd (omega (arith, ap length (tails e), length-append b (x ∷ [])))
last_one x (y ∷ a) [] e = absurd (omega (arith, ap length (tails e), length-append a (x ∷ [])))
last_one x (y ∷ a) (z ∷ b) e = ap₂ ◌∷◌ (heads e) (last_one x a b (tails e))

-- a key belongs to at most one group
pub bracketed_one : {key f g n m : List ℕ} → Bracketed key f n → Bracketed key g m → (f ≡ g) × (n ≡ m)
bracketed_one {key} {f} {g} {n} {m} a b =
    let h = first_one bracket f g a.first b.first (sym a.whole ∙ b.whole) in (h.0, last_one unbracket n m h.1)

pub rows_one : {xs : List Entry} {rs qs : List Row} → Rows xs rs → Rows xs qs → rs ≡ qs
rows_one Rows.end Rows.end = refl
rows_one (grouped {at = at} {v = v} a p) (grouped b q) =
    let h = bracketed_one a b in let r = rows_one p q in λ i. record { at = at; field = h.0 i; group = h.1 i; value = v } ∷ r i
rows_one (grouped {field = f} {name = n} a p) (dropped b q) = absurd (b f n a)
rows_one (dropped b q) (grouped {field = f} {name = n} a p) = absurd (b f n a)
rows_one (dropped a p) (dropped b q) = rows_one p q

grouped_one : {rs : List Row} {gs hs : List Group} → Grouped rs gs → Grouped rs hs → gs ≡ hs
grouped_one Grouped.end Grouped.end = refl
grouped_one (next {r = r} {rs = rs} p) (next q) = ap (λ (l : List Group). record { name = name_of r; rows = r ∷ of_group r.group rs } ∷ l) (grouped_one p q)

pub groups_one : {xs : List Entry} {gs hs : List Group} → GroupsOf xs gs → GroupsOf xs hs → gs ≡ hs
groups_one {gs = gs} a b = grouped_one (subst (λ (l : List Row). Grouped l gs) (rows_one a.of_lines b.of_lines) a.by_name) b.by_name

pub alone_one : (T : List Field) (s : List ℕ) {r : Row} {x y : Entry} → Alone T s r x → Alone T s r y → x ≡ y
unfolding one_of
alone_one T s {r} {x} {y} a b =
    let h = reads_one [] (alone s r) refl a.value b.value in
    let p : x.at ≡ y.at = a.at ∙ sym b.at in
    let q : x.name ≡ y.name = a.name ∙ sym b.name in
    λ i. record { at = p i; name = q i; value = h.0 i }

pub pointwise_one : {A B : Type 0} {R : A → B → Type 0} → ((a : A) (b c : B) → R a b → R a c → b ≡ c) → {l : List A} {m n : List B} → Pointwise R l m → Pointwise R l n → m ≡ n
pointwise_one one H.Pointwise.none H.Pointwise.none = refl
pointwise_one one (H.Pointwise.more a p) (H.Pointwise.more b q) = ap₂ ◌∷◌ (one _ _ _ a b) (pointwise_one one p q)

pub entries_one : (T : List Field) (s : List ℕ) {rs : List Row} {xs ys : List Entry} → Entries T s rs xs → Entries T s rs ys → xs ≡ ys
entries_one T s a b = pointwise_one (λ r x y p q. alone_one T s p q) a.says b.says

-- ---- fields

-- what a kind of value holds is determined by the value
abbrev Holds : {A : Type 0} → (A → Value) → Type 0
Holds {A} made = (a b : A) → made a ≡ made b → a ≡ b

holds_text : Holds text
holds_text a b e = cc

holds_number : Holds number
holds_number a b e = cc

holds_flag : Holds flag
holds_flag a b e = cc

holds_texts : Holds texts
holds_texts a b e = cc

holds-range : Holds range
holds-range a b e = cc

holds_ranges : Holds ranges
holds_ranges a b e = cc

holds_perhaps : Holds perhaps
holds_perhaps a b e = cc

same_value : {v w : Value} {vs : List Value} → vs ≡ v ∷ [] → vs ≡ w ∷ [] → v ≡ w
same_value p q = cc

pub none_or_one : {B : Type 0} {v : Value} {vs : List Value} → vs ≡ [] → vs ≡ v ∷ [] → B
none_or_one {B} {v} {vs} p q = let z : ◌≡◌ {A = ℕ} 0 1 = cc in let bad : ⊥ = omega arith in absurd bad

once_one : {A : Type 0} {made : A → Value} {xs : List Entry} {w : String} {a b : A} → Holds made → Once made xs w a → Once made xs w b → a ≡ b
once_one {a = a} {b = b} inj p q = inj a b (same_value p.value q.value)

at_most_one : {A B : Type 0} {made : A → Value} {held : A → B} {d : B} {xs : List Entry} {w : String} {a b : B} → Holds made → AtMostOnce made held d xs w a → AtMostOnce made held d xs w b → a ≡ b
at_most_one inj (missing p e) (missing q f) = e ∙ sym f
at_most_one inj (missing p e) (there b q f) = none_or_one p q
at_most_one inj (there a p e) (missing q f) = none_or_one q p
at_most_one {held = held} inj (there a p e) (there b q f) = e ∙ ap held (inj a b (same_value p q)) ∙ sym f

global_one : {xs : List Entry} {g h : Global} → SaysGlobal xs g → SaysGlobal xs h → g ≡ h
global_one {xs} {g} {h} a b =
    let x1 = once_one holds_text a.hts_voice_version b.hts_voice_version in
    let x2 = once_one holds_number a.sampling_frequency b.sampling_frequency in
    let x3 = once_one holds_number a.frame_period b.frame_period in
    let x4 = once_one holds_number a.num_states b.num_states in
    let x5 = once_one holds_number a.num_streams b.num_streams in
    let x6 = once_one holds_texts a.stream_type b.stream_type in
    let x7 = once_one holds_text a.fullcontext_format b.fullcontext_format in
    let x8 = once_one holds_text a.fullcontext_version b.fullcontext_version in
    let x9 = at_most_one holds_texts a.gv_off_context b.gv_off_context in
    let x10 = at_most_one holds_text a.comment b.comment in
    λ i. record { hts_voice_version = x1 i; sampling_frequency = x2 i; frame_period = x3 i; num_states = x4 i; num_streams = x5 i; stream_type = x6 i; fullcontext_format = x7 i; fullcontext_version = x8 i; gv_off_context = x9 i; comment = x10 i }

stream_one : (g : Group) (xs : List Entry) {d e : Stream} → StreamSays g xs d → StreamSays g xs e → d ≡ e
stream_one g xs {d} {e} (n, a) (m, b) =
    let x0 = n ∙ sym m in
    let x1 = once_one holds_number a.vector_length b.vector_length in
    let x2 = once_one holds_number a.num_windows b.num_windows in
    let x3 = once_one holds_flag a.is_msd b.is_msd in
    let x4 = at_most_one holds_flag a.use_gv b.use_gv in
    let x5 = at_most_one holds_texts a.option b.option in
    λ i. record { name = x0 i; vector_length = x1 i; num_windows = x2 i; is_msd = x3 i; use_gv = x4 i; option = x5 i }

position_one : (g : Group) (xs : List Entry) {d e : Position} → PositionSays g xs d → PositionSays g xs e → d ≡ e
position_one g xs {d} {e} (n, a) (m, b) =
    let x0 = n ∙ sym m in
    let x1 = once_one holds_ranges a.stream_win b.stream_win in
    let x2 = once_one holds-range a.stream_pdf b.stream_pdf in
    let x3 = once_one holds-range a.stream_tree b.stream_tree in
    let x4 = at_most_one holds_perhaps a.gv_pdf b.gv_pdf in
    let x5 = at_most_one holds_perhaps a.gv_tree b.gv_tree in
    λ i. record { name = x0 i; stream_win = x1 i; stream_pdf = x2 i; stream_tree = x3 i; gv_pdf = x4 i; gv_tree = x5 i }

-- ---- the record

group_one :
    {D : Type 0} (T : List Field) (Say : Group → List Entry → D → Type 0) (s : List ℕ) → ((g : Group) (xs : List Entry) (d e : D) → Say g xs d → Say g xs e → d ≡ e)
    → (g : Group) (d e : D) → GroupSays T Say s g d → GroupSays T Say s g e → d ≡ e
group_one T Say s one g d e a b = one g b.xs d e (subst (λ (l : List Entry). Say g l d) (entries_one T s a.entries b.entries) a.says) b.says

pub global_text_one : {file : List ℕ} {x : Span} {g h : Global} → GlobalText file x g → GlobalText file x h → g ≡ h
global_text_one {file} {x} {g} {h} a b = global_one (subst (λ (l : List Entry). SaysGlobal l g) (section_one a.lines b.lines) a.says) b.says

pub stream_text_one : {file : List ℕ} {x : Span} {ds es : List Stream} → StreamText file x ds → StreamText file x es → ds ≡ es
stream_text_one {file} {x} {ds} {es} a b =
    let e = section_one a.lines b.lines in
    let g = groups_one (subst (λ (l : List Entry). GroupsOf l a.gs) e a.groups) b.groups in
    pointwise_one (group_one stream_group StreamSays (up_to file x) (λ g xs d e p q. stream_one g xs p q))
    (subst (λ (l : List Group). Pointwise (GroupSays stream_group StreamSays (up_to file x)) l ds) g a.say) b.say

pub position_text_one :
    {file : List ℕ} {x : Span} {p q t u : Range} {ds es : List Position} → PositionText file x p t ds → PositionText file x q u es → (p ≡ q) × (t ≡ u) × (ds ≡ es)
position_text_one {file} {x} {p} {q} {t} {u} {ds} {es} a b =
    let e = section_one a.lines b.lines in
    let d = subst (λ (l : List Entry). SaysDurations l p t) e a.durations in
    let g = groups_one (subst (λ (l : List Entry). GroupsOf l a.gs) e a.groups) b.groups in (
      once_one holds-range d.duration_pdf b.durations.duration_pdf,
      once_one holds-range d.duration_tree b.durations.duration_tree,
      pointwise_one (group_one position_group PositionSays (up_to file x) (λ g xs d e p q. position_one g xs p q))
          (subst (λ (l : List Group). Pointwise (GroupSays position_group PositionSays (up_to file x)) l ds) g a.say) b.say,
    )

-- a file says at most one record
pub says_one : {file : List ℕ} {h k : Header} → Says file h → Says file k → h ≡ k
says_one {file} {h} {k} a b =
    let p = sections_one a.split b.split in
    let g = global_text_one (subst (λ (z : Parts). GlobalText file z.global h.global) p a.global) b.global in
    let s = stream_text_one (subst (λ (z : Parts). StreamText file z.stream h.streams) p a.streams) b.streams in
    let o = position_text_one (subst (λ (z : Parts). PositionText file z.position h.duration_pdf h.duration_tree h.positions) p a.positions) b.positions in
    let d = a.datum ∙ ap (λ (z : Parts). z.rest) p ∙ sym b.datum in
    λ i. record { global = g i; streams = s i; duration_pdf = o.0 i; duration_tree = o.1 i; positions = o.2 i; datum = d i }
