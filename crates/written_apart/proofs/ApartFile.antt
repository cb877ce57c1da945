-- A file that says a record is not refused, and a refusal of a file is determined, number and place.
use mathlib.Core.Path.{◌≡◌, refl, sym, ap, ap₂, ◌∙◌, subst}
use mathlib.Core.Bool.{Bool, true, false, ◌&&◌, ◌||◌, cond}
use mathlib.Core.List.Memᴰ
use mathlib.Core.List.{List, [], ◌∷◌, ◌++◌, append_assoc, Memᴰ}
use mathlib.Core.Logic.{⊎_elim}
use Prim.Native.Nat.{ℕ, suc, ◌+◌, ◌≤◌, ◌<◌}
use native.Mathlib.Omega.{arith}
use native.Mathlib.Decide.{dec_lt}
use lib.Dec.{eqb, ltb}
use lib.ListN.{length, take, drop, length-append, length-take, length-drop, take-append-drop}
use lib.Seq.{take-take, drop-append-le}
use borrow.Author.Tests.{eq-eqb, eqb-true, ltb-true}
use Rattle.written.specs.Bytes.{is_newline, same, Each, Ends, over, met, Span}
use Rattle.written.specs.Rfc3629.{Range as Bytes, ◌⋯◌, table, Fit, none as fit_none, one as fit_one, Char, row, Octets, end as octets_end, more as octets_more, FirstBad}
use Rattle.written.specs.Sections.{Parts}
use Rattle.written.specs.HeaderText.{Range, anything, Many, none, more, Field, kind_of, Entry, values_of, Distinct, Line, NextLine, Section}
use Rattle.written.specs.Groups.{Row, Group, alone, Alone, Pointwise, Entries}
use Rattle.written.specs.Groups as H
use Rattle.written.specs.Record.{All, Global, Stream, Position, Header, global_fields, stream_fields, stream_group, position_fields, position_group, SaysGlobal, SaysStream, SaysDurations, SaysPosition, up_to, GroupSays, GroupsOf, GlobalText, StreamSays, StreamText, PositionSays, PositionText, GlobalFits, StreamsFit, PositionsFit, Says}
use Rattle.written.specs.Record as K
use Rattle.written.specs.Faults.{Repeats, NoLine, NoSection, Missing, Unreadable, NoRow, NoGroup, bad_row, Sound, NoGroups, Wrong, NoGlobal, NoStreams, NoPositions, NoHeader, Refused}
use Rattle.written.proofs.Tests.{differ, both}
use Rattle.written.proofs.One.{One, line_starts, blank_one, next_one, last_line, section_one}
use Rattle.written.proofs.OneFile.{append_same, none_or_one, sections_one, groups_one, alone_one, pointwise_one, entries_one, global_text_one, stream_text_one, position_text_one}
use Rattle.written_apart.proofs.Apart.{reads_never, unreadable_one, around_nothing, no_line_one, line_never}

abbrev Same : (n m p q : ℕ) → Type 0
Same n m p q = (n ≡ m) × (p ≡ q)

-- ---- two runs of steps from one place: alike, or one goes on where the other stops

data Compared {A : Type 0} (R : ℕ → A → ℕ → Type 0) (l m : List A) (j k : ℕ) : Type 0 where
  alike : l ≡ m → j ≡ k → Compared R l m j k
  longer : (a : A) (n : ℕ) (rest : List A) → R j a n → m ≡ l ++ (a ∷ rest) → Compared R l m j k
  shorter : (a : A) (n : ℕ) (rest : List A) → R k a n → l ≡ m ++ (a ∷ rest) → Compared R l m j k

further : {A : Type 0} {R : ℕ → A → ℕ → Type 0} {a b : A} {l m : List A} {j k : ℕ} → a ≡ b → Compared R l m j k → Compared R (a ∷ l) (b ∷ m) j k
further e (alike p q) = alike (ap₂ ◌∷◌ e p) q
further e (longer c n rest r p) = longer c n rest r (ap₂ ◌∷◌ (sym e) p)
further e (shorter c n rest r p) = shorter c n rest r (ap₂ ◌∷◌ e p)

compared : {A : Type 0} {R : ℕ → A → ℕ → Type 0} → One R → {i n j k : ℕ} {l m : List A} → i ≡ n → Many R i l j → Many R n m k → Compared R l m j k
compared one w none none = alike refl w
compared {R = R} one w none (more {j = j} {a = a} {l = l} r q) = longer a j l (subst (λ (z : ℕ). R z a j) (sym w) r) refl
compared {R = R} one w (more {j = j} {a = a} {l = l} r q) none = shorter a j l (subst (λ (z : ℕ). R z a j) w r) refl
compared {R = R} one w (more {j = j} {a = a} r q) (more t u) =
    let h = one _ _ _ _ _ (subst (λ (z : ℕ). R z a j) w r) t in further h.0 (compared one h.1 q u)

-- ---- fields that stand twice

pub same_same : (w : List ℕ) → same w w ≡ true
unfolding same
same_same [] = refl
same_same (b ∷ w) = simp (eq-eqb b b refl, same_same w)

pub values_append : (w : List ℕ) (xs ys : List Entry) → length (values_of w (xs ++ ys)) ≡ length (values_of w xs) + length (values_of w ys)
unfolding values_of
values_append w [] ys = omega arith
values_append w (x ∷ xs) ys = go (same w x.name) (values_append w xs ys)
  where
    go : (b : Bool) → length (values_of w (xs ++ ys)) ≡ length (values_of w xs) + length (values_of w ys)
        → length (cond b (x.value ∷ values_of w (xs ++ ys)) (values_of w (xs ++ ys))) ≡ length (cond b (x.value ∷ values_of w xs) (values_of w xs)) + length (values_of w ys)
    go true e = omega arith
    go false e = e

values_head : (x : Entry) (xs : List Entry) → 0 < length (values_of x.name (x ∷ xs))
unfolding values_of
values_head x xs = rw (same_same x.name) (omega arith)

no_repeat : {T : List Field} (xs rest : List Entry) (x : Entry) {w : List ℕ} → Distinct T (xs ++ (x ∷ rest)) → x.name ≡ w → ¬ Repeats T xs w
no_repeat {T} xs rest x {w} d e r =
    let q : r.field.name ≡ x.name = r.same_name ∙ sym e in
    let most : length (values_of x.name (xs ++ (x ∷ rest))) ≤ 1 = subst (λ (v : List ℕ). length (values_of v (xs ++ (x ∷ rest))) ≤ 1) q (d.once r.field r.of_table) in
    let here : 0 < length (values_of x.name xs) = subst (λ (v : List ℕ). 0 < length (values_of v xs)) (sym e) r.before in
    omega (arith, values_append x.name xs (x ∷ rest), values_head x rest)

-- ---- sections

through : {s : List ℕ} {k m : ℕ} → Each is_newline s k (length s) → Each is_newline s k m → Ends is_newline s m
through {s} {k} {m} a b = go (dec_lt m (length s))
  where
    go : Dec (m < length s) → Ends is_newline s m
    go (yes h) = met h (a.passes m b.order h)
    go (no h) = over (omega (arith, b.inside))

-- where the fault is, no line stands
no_line_on : {T : List Field} {s : List ℕ} {i n p j : ℕ} {x : Entry} (rest : List Entry) (a : NoSection T s i n p) → NextLine T s a.k x j → Distinct T (a.xs ++ (x ∷ rest)) → ⊥
no_line_on {T} {s} {j = j} {x = x} rest a l d =
    let q : l.k ≡ a.m = blank_one l.blank (line_starts l.line) a.blank a.here in
    line_never T a.xs s (subst (λ (z : ℕ). Line T s z x j) q l.line) l.ends (no_repeat a.xs rest x d refl) a.wrong

pub section_never : {T : List Field} {s : List ℕ} {i n p : ℕ} {xs : List Entry} → Section T s i xs → NoSection T s i n p → ⊥
section_never {T} {s} {i} {n} {p} {xs} a b = go (compared (next_one T s) refl b.lines a.lines)
  where
    go : Compared (NextLine T s) b.xs xs b.k a.k → ⊥
    go (alike e q) = b.here (through a.blank (subst (λ (z : ℕ). Each is_newline s z b.m) q b.blank))
    go (longer x j rest l e) = no_line_on rest b l (subst (λ (z : List Entry). Distinct T z) e a.distinct)
    go (shorter x j rest l e) = last_line a.blank x j l

pub no_section_one : {T : List Field} {s : List ℕ} {i n m p q : ℕ} → NoSection T s i n p → NoSection T s i m q → Same n m p q
no_section_one {T} {s} {i} {n} {m} {p} {q} a b = go (compared (next_one T s) refl a.lines b.lines)
  where
    go : Compared (NextLine T s) a.xs b.xs a.k b.k → Same n m p q
    go (alike e f) =
        let h : a.m ≡ b.m = blank_one (subst (λ (z : ℕ). Each is_newline s z a.m) f a.blank) a.here b.blank b.here in
        no_line_one T b.xs s _ _ _ _ _ (subst (λ (z : List Entry). NoLine T z s b.m n p) e (subst (λ (z : ℕ). NoLine T a.xs s z n p) h a.wrong)) b.wrong
    go (longer x j rest l e) = absurd (no_line_on rest a l (subst (λ (z : List Entry). Distinct T z) e b.distinct))
    go (shorter x j rest l e) = absurd (no_line_on rest b l (subst (λ (z : List Entry). Distinct T z) e a.distinct))

-- ---- required fields

all_mem : {A : Type 0} {P : A → Type 0} {l : List A} → All P l → (a : A) → Memᴰ a l → P a
all_mem K.All.end a m = elim m [ ]
all_mem {P = P} (K.All.next h r) a m = ⊎_elim (λ e. subst P (sym e) h) (λ k. all_mem r a k) (Memᴰ.cases_cons m)

-- a field that is there if it must be
record Kept (xs : List Entry) (f : Field) : Type 0 where
  kept : f.required ≡ true → values_of f.name xs ≡ [] → ⊥

whole : {T : List Field} {xs : List Entry} → All (Kept xs) T → ¬ Missing T xs
whole {T} {xs} a m = (all_mem a m.field m.of_table).kept m.required m.nowhere

free : {xs : List Entry} {f : Field} → f.required ≡ false → Kept xs f
free e = record { kept = λ r v. differ {A = ⊥} r e }

pub global_whole : {xs : List Entry} {g : Global} → SaysGlobal xs g → ¬ Missing global_fields xs
unfolding global_fields
global_whole {xs} {g} a =
    whole
    (K.All.next (record { kept = λ r e. none_or_one e a.hts_voice_version.value })
    (K.All.next (record { kept = λ r e. none_or_one e a.sampling_frequency.value })
    (K.All.next (record { kept = λ r e. none_or_one e a.frame_period.value })
    (K.All.next (record { kept = λ r e. none_or_one e a.num_states.value })
    (K.All.next (record { kept = λ r e. none_or_one e a.num_streams.value })
    (K.All.next (record { kept = λ r e. none_or_one e a.stream_type.value })
    (K.All.next (record { kept = λ r e. none_or_one e a.fullcontext_format.value })
    (K.All.next (record { kept = λ r e. none_or_one e a.fullcontext_version.value }) (K.All.next (free refl) (K.All.next (free refl) K.All.end))))))))))

pub stream_whole : {xs : List Entry} {d : Stream} → SaysStream xs d → ¬ Missing stream_group xs
unfolding stream_group
stream_whole {xs} {d} a =
    whole
    (K.All.next (record { kept = λ r e. none_or_one e a.vector_length.value })
    (K.All.next (record { kept = λ r e. none_or_one e a.num_windows.value })
    (K.All.next (record { kept = λ r e. none_or_one e a.is_msd.value }) (K.All.next (free refl) (K.All.next (free refl) K.All.end)))))

pub durations_whole : {xs : List Entry} {p t : Range} → SaysDurations xs p t → ¬ Missing position_fields xs
unfolding position_fields
durations_whole {xs} {p} {t} a = whole (K.All.next (record { kept = λ r e. none_or_one e a.duration_pdf.value }) (K.All.next (record { kept = λ r e. none_or_one e a.duration_tree.value }) K.All.end))

pub position_whole : {xs : List Entry} {d : Position} → SaysPosition xs d → ¬ Missing position_group xs
unfolding position_group
position_whole {xs} {d} a =
    whole
    (K.All.next (record { kept = λ r e. none_or_one e a.stream_win.value })
    (K.All.next (record { kept = λ r e. none_or_one e a.stream_pdf.value })
    (K.All.next (record { kept = λ r e. none_or_one e a.stream_tree.value }) (K.All.next (free refl) (K.All.next (free refl) K.All.end)))))

-- ---- groups

record Halves {A B : Type 0} (R : A → B → Type 0) (l : List A) (a : A) (m : List B) : Type 0 where
  before : List B
  here : B
  after : List B
  whole_list : m ≡ before ++ (here ∷ after)
  pairs_before : Pointwise R l before
  pair : R a here

halves : {A B : Type 0} {R : A → B → Type 0} (l : List A) (a : A) (k : List A) {m : List B} → Pointwise R (l ++ (a ∷ k)) m → Halves R l a m
halves [] a k (H.Pointwise.more {b = b} {m = m} r q) = record { before = []; here = b; after = m; whole_list = refl; pairs_before = H.Pointwise.none; pair = r }
halves (c ∷ l) a k (H.Pointwise.more {b = b} r q) =
    let h = halves l a k q in
    record { before = b ∷ h.before; here = h.here; after = h.after; whole_list = ap (◌∷◌ b) h.whole_list; pairs_before = H.Pointwise.more r h.pairs_before; pair = h.pair }

-- a row of a good group is good
row_never : (T : List Field) (s : List ℕ) (before after : List Row) (r : Row) {xs : List Entry} {n p : ℕ} → Entries T s (before ++ (r ∷ after)) xs → NoRow T s before r n p → ⊥
row_never T s before after r {xs} e w = go w
  where
    h : Halves (Alone T s) before r xs
    h = halves before r after e.says

    names : {ys : List Entry} → Entries T s before ys → ¬ Repeats T ys r.field
    names {ys} f =
        let q : ys ≡ h.before = pointwise_one (λ r x y p q. alone_one T s p q) f.says h.pairs_before in
        let d : Distinct T (ys ++ (h.here ∷ h.after)) = subst (λ (z : List Entry). Distinct T z) (h.whole_list ∙ ap (λ (z : List Entry). z ++ (h.here ∷ h.after)) (sym q)) e.distinct in
        no_repeat ys h.after h.here d h.pair.name

    go : {n p : ℕ} → NoRow T s before r n p → ⊥
    go (NoRow.repeated f g) = names f g
    go (NoRow.value f g u) = reads_never [] (alone s r) around_nothing h.pair.value u

no_row_one : (T : List Field) (s : List ℕ) (before : List Row) (r : Row) {n m p q : ℕ} → NoRow T s before r n p → NoRow T s before r m q → Same n m p q
no_row_one T s before r (NoRow.repeated f g) (NoRow.repeated h k) = (refl, refl)
no_row_one T s before r (NoRow.repeated f g) (NoRow.value h k u) = absurd (k (subst (λ (z : List Entry). Repeats T z r.field) (entries_one T s f h) g))
no_row_one T s before r (NoRow.value h k u) (NoRow.repeated f g) = absurd (k (subst (λ (z : List Entry). Repeats T z r.field) (entries_one T s f h) g))
no_row_one T s before r (NoRow.value f g u) (NoRow.value h k v) = unreadable_one [] (alone s r) around_nothing u v

-- two ways to cut a list before an element
data Cut {A : Type 0} (a c : List A) (x y : A) : Type 0 where
  level : a ≡ c → x ≡ y → Cut a c x y
  earlier : (e : List A) → c ≡ a ++ (x ∷ e) → Cut a c x y
  later : (e : List A) → a ≡ c ++ (y ∷ e) → Cut a c x y

module _ {A : Type 0} (x y : A) (b d : List A) where
  cut : (a c : List A) → a ++ (x ∷ b) ≡ c ++ (y ∷ d) → Cut a c x y
  cut [] [] e = let p : x ≡ y = cc in level refl p
  cut [] (z ∷ c) e = let p : z ≡ x = cc in earlier c (ap₂ ◌∷◌ p refl)
  cut (z ∷ a) [] e = let p : z ≡ y = cc in later a (ap₂ ◌∷◌ p refl)
  cut (z ∷ a) (w ∷ c) e = let t : a ++ (x ∷ b) ≡ c ++ (y ∷ d) = cc in let h : z ≡ w = cc in up h (cut a c t)
    where
      up : z ≡ w → Cut a c x y → Cut (z ∷ a) (w ∷ c) x y
      up h (level p q) = level (ap₂ ◌∷◌ h p) q
      up h (earlier f p) = earlier f (ap₂ ◌∷◌ (sym h) p)
      up h (later f p) = later f (ap₂ ◌∷◌ h p)

rows_of : {T : List Field} {s : List ℕ} {before : List Row} {r : Row} {n p : ℕ} → NoRow T s before r n p → (xs : List Entry) × Entries T s before xs
rows_of (NoRow.repeated {xs = xs} f g) = (xs, f)
rows_of (NoRow.value {xs = xs} f g u) = (xs, f)

pub no_group_one : (T : List Field) (s : List ℕ) (rows : List Row) {n m p q : ℕ} → NoGroup T s rows n p → NoGroup T s rows m q → Same n m p q
no_group_one T s rows {n} {m} {p} {q} (bad_row b a r e w) (bad_row d c t f v) = go (cut r t a c b d (sym e ∙ f))
  where
    go : Cut b d r t → Same n m p q
    go (level g h) = no_row_one T s d t (subst (λ (z : Row). NoRow T s d z n p) h (subst (λ (z : List Row). NoRow T s z r n p) g w)) v
    go (earlier k g) = let x = rows_of v in absurd (row_never T s b k r (subst (λ (z : List Row). Entries T s z x.0) g x.1) w)
    go (later k g) = let x = rows_of w in absurd (row_never T s d k t (subst (λ (z : List Row). Entries T s z x.0) g x.1) v)
no_group_one T s rows (bad_row b a r e w) (NoGroup.missing {xs = xs} f g) = absurd (row_never T s b a r (subst (λ (z : List Row). Entries T s z xs) e f) w)
no_group_one T s rows (NoGroup.missing {xs = xs} f g) (bad_row b a r e w) = absurd (row_never T s b a r (subst (λ (z : List Row). Entries T s z xs) e f) w)
no_group_one T s rows (NoGroup.missing f g) (NoGroup.missing h k) = (refl, refl)

sound_never : (T : List Field) (s : List ℕ) (g : Group) {n p : ℕ} → Sound T s g → NoGroup T s g.rows n p → ⊥
sound_never T s g a (bad_row b c r e w) = row_never T s b c r (subst (λ (z : List Row). Entries T s z a.xs) e a.entries) w
sound_never T s g a (NoGroup.missing f m) = a.whole (subst (λ (z : List Entry). Missing T z) (entries_one T s f a.entries) m)

pub no_groups_one : (T : List Field) (s : List ℕ) {gs : List Group} {n m p q : ℕ} → NoGroups T s gs n p → NoGroups T s gs m q → Same n m p q
no_groups_one T s (NoGroups.here {g = g} a) (NoGroups.here b) = no_group_one T s g.rows a b
no_groups_one T s (NoGroups.here {g = g} a) (NoGroups.later b c) = absurd (sound_never T s g b a)
no_groups_one T s (NoGroups.later {g = g} b c) (NoGroups.here a) = absurd (sound_never T s g b a)
no_groups_one T s (NoGroups.later a b) (NoGroups.later c d) = no_groups_one T s b d

groups_never :
    {D : Type 0} (T : List Field) (Say : Group → List Entry → D → Type 0) (s : List ℕ) → ((g : Group) (xs : List Entry) (d : D) → Say g xs d → ¬ Missing T xs)
    → {gs : List Group} {ds : List D} {n p : ℕ} → Pointwise (GroupSays T Say s) gs ds → NoGroups T s gs n p → ⊥
groups_never T Say s w (H.Pointwise.more {a = g} {b = d} r q) (NoGroups.here a) = sound_never T s g (record { xs = r.xs; entries = r.entries; whole = w g r.xs d r.says }) a
groups_never T Say s w (H.Pointwise.more r q) (NoGroups.later a b) = groups_never T Say s w q b
groups_never {D = D} T Say s w {n = n} {p = p} H.none x4 = elim x4 [ ]

-- ---- UTF-8

-- rows of the table that share a first byte are of one length
abbrev agree : List Bytes → List Bytes → Bool
agree [] r = false
agree (x ∷ r) [] = false
agree (lo ⋯ hi ∷ r) (lo' ⋯ hi' ∷ r') = (ltb hi lo' || ltb hi' lo) || eqb (length r) (length r')

abbrev all_of : {A : Type 0} → (A → Bool) → List A → Bool
all_of p [] = true
all_of p (a ∷ l) = p a && all_of p l

all_of_lem : {A : Type 0} (p : A → Bool) (l : List A) → all_of p l ≡ true → (a : A) → Memᴰ a l → p a ≡ true
all_of_lem p [] e a m = elim m [ ]
all_of_lem p (b ∷ l) e a m = let h = both (p b) (all_of p l) e in ⊎_elim (λ q. ap p q ∙ h.0) (λ k. all_of_lem p l h.1 a k) (Memᴰ.cases_cons m)

rows_agree : (r r' : List Bytes) → Memᴰ r table → Memᴰ r' table → agree r r' ≡ true
unfolding table
rows_agree r r' m m' = all_of_lem (λ z. agree r z) table (all_of_lem (λ y. all_of (λ z. agree y z) table) table refl r m) r' m'

third : (a b c : Bool) → ((a || b) || c) ≡ true → (a ≡ true → ⊥) → (b ≡ true → ⊥) → c ≡ true
third true b c e f g = absurd (f refl)
third false true c e f g = absurd (g refl)
third false false c e f g = e

fit_length : {r : List Bytes} {c : List ℕ} → Fit r c → length r ≡ length c
fit_length fit_none = refl
fit_length (fit_one p q f) = ap suc (fit_length f)

fits-length : (s t : List ℕ) {r r' : List Bytes} {c d : List ℕ} → agree r r' ≡ true → Fit r c → Fit r' d → c ++ s ≡ d ++ t → length c ≡ length d
fits-length s t a fit_none g e = differ a refl
fits-length s t a (fit_one p q f) fit_none e = differ a refl
fits-length s t a (fit_one {lo = lo} {hi = hi} {b = b} {r = r} p q f) (fit_one {lo = lo'} {hi = hi'} {b = b'} {r = r'} p' q' f') e =
    let h : b ≡ b' = cc in
    let low : ltb hi lo' ≡ true → ⊥ = λ k. let l : hi < lo' = ltb-true hi lo' k in let bad : ⊥ = omega arith in bad in
    let high : ltb hi' lo ≡ true → ⊥ = λ k. let l : hi' < lo = ltb-true hi' lo k in let bad : ⊥ = omega arith in bad in
    let n : length r ≡ length r' = eqb-true (length r) (length r') (third (ltb hi lo') (ltb hi' lo) (eqb (length r) (length r')) a low high) in
    omega (arith, fit_length f, fit_length f')

char_one : {c d : List ℕ} (s t : List ℕ) → Char c → Char d → c ++ s ≡ d ++ t → s ≡ t
char_one {c} {d} s t (row {r = r} m f) (row {r = r'} m' g) e = (append_same c d (fits-length s t (rows_agree r r' m m') f g e) e).1

-- characters, and a beginning that is characters: the next one
record Next (r : List ℕ) : Type 0 where
  char : List ℕ
  rest : List ℕ
  is_char : Char char
  whole_rest : r ≡ char ++ rest

next_char : {u b : List ℕ} → Octets u → Octets b → (r : List ℕ) → u ≡ b ++ r → 0 < length r → Next r
next_char octets_end octets_end r e l = absurd (omega (arith, ap length e))
next_char (octets_more {c = c} {s = s} h o) octets_end r e l = record { char = c; rest = s; is_char = h; whole_rest = sym e }
next_char octets_end (octets_more {c = c} {s = s} h o) r e l = absurd (omega (arith, ap length e, length-append (c ++ s) r))
next_char (octets_more {c = d} {s = t} k u) (octets_more {c = c} {s = s} h o) r e l = next_char u o r (char_one t (s ++ r) k h (e ∙ append_assoc c s r)) l

pub octets_never : {u : List ℕ} {q : ℕ} → Octets u → FirstBad u q → ⊥
octets_never {u} {q} o b =
    let n = next_char o b.before (drop q u) (sym (take-append-drop q u)) (omega (arith, length-drop q u, b.inside)) in
    b.here n.char n.rest n.is_char n.whole_rest

no_later : {u : List ℕ} {q k : ℕ} → FirstBad u q → FirstBad u k → k ≤ q
no_later {u} {q} {k} a b = go (dec_lt q k)
  where
    go : Dec (q < k) → k ≤ q
    go (no h) = omega arith
    go (yes h) =
        let le : q ≤ k = omega arith in
        let wide : length (take k u) ≡ k = omega (arith, length-take k u, b.inside) in
        let v : Octets (take q (take k u)) = subst (λ (z : List ℕ). Octets z) (sym (take-take q k u le)) a.before in
        let n = next_char b.before v (drop q (take k u)) (sym (take-append-drop q (take k u))) (omega (arith, length-drop q (take k u), wide)) in
        let e : drop q u ≡ n.char ++ (n.rest ++ drop k u) =
        ap (drop q) (sym (take-append-drop k u)) ∙ drop-append-le q (take k u) (drop k u) (omega (arith, wide)) ∙ ap (λ (z : List ℕ). z ++ drop k u) n.whole_rest
        ∙ append_assoc n.char n.rest (drop k u) in
        absurd (a.here n.char (n.rest ++ drop k u) n.is_char e)

pub first_bad_one : {u : List ℕ} {q k : ℕ} → FirstBad u q → FirstBad u k → q ≡ k
first_bad_one a b = let x = no_later a b in let y = no_later b a in omega arith

-- ---- a section

pub wrong_one : (T G : List Field) (file : List ℕ) (x : Span) {n m p q : ℕ} → Wrong T G file x n p → Wrong T G file x m q → Same n m p q
wrong_one T G file x (Wrong.utf8 a) (Wrong.utf8 b) = (refl, ap (λ (z : ℕ). x.start + z) (first_bad_one a b))
wrong_one T G file x (Wrong.utf8 a) (Wrong.lines o b) = absurd (octets_never o a)
wrong_one T G file x (Wrong.utf8 a) (Wrong.missing o b c) = absurd (octets_never o a)
wrong_one T G file x (Wrong.utf8 a) (Wrong.groups o b c d e) = absurd (octets_never o a)
wrong_one T G file x (Wrong.lines o b) (Wrong.utf8 a) = absurd (octets_never o a)
wrong_one T G file x (Wrong.lines o a) (Wrong.lines u b) = no_section_one a b
wrong_one T G file x (Wrong.lines o a) (Wrong.missing u b c) = absurd (section_never b a)
wrong_one T G file x (Wrong.lines o a) (Wrong.groups u b c d e) = absurd (section_never b a)
wrong_one T G file x (Wrong.missing o b c) (Wrong.utf8 a) = absurd (octets_never o a)
wrong_one T G file x (Wrong.missing u b c) (Wrong.lines o a) = absurd (section_never b a)
wrong_one T G file x (Wrong.missing o a b) (Wrong.missing u c d) = (refl, refl)
wrong_one T G file x (Wrong.missing o a b) (Wrong.groups u c d e f) = absurd (d (subst (λ (z : List Entry). Missing T z) (section_one a c) b))
wrong_one T G file x (Wrong.groups o b c d e) (Wrong.utf8 a) = absurd (octets_never o a)
wrong_one T G file x (Wrong.groups u b c d e) (Wrong.lines o a) = absurd (section_never b a)
wrong_one T G file x (Wrong.groups u c d e f) (Wrong.missing o a b) = absurd (d (subst (λ (z : List Entry). Missing T z) (section_one a c) b))
wrong_one T G file x {n} {m} {p} {q} (Wrong.groups {gs = gs} o a b c d) (Wrong.groups u e f g h) =
    let y = groups_one (subst (λ (z : List Entry). GroupsOf z gs) (section_one a e) c) g in
    no_groups_one G (up_to file x) (subst (λ (z : List Group). NoGroups G (up_to file x) z n p) y d) h

-- [GLOBAL] has no groups, so no faults in groups
no_kind : {D s : List ℕ} {i n p : ℕ} → Unreadable D s i anything n p → ⊥
no_kind u = elim u [ ]

no_field_group : {s : List ℕ} {rows : List Row} {n p : ℕ} → NoGroup [] s rows n p → ⊥
unfolding kind_of
no_field_group (bad_row b a r e (NoRow.repeated f g)) = elim g.of_table [ ]
no_field_group (bad_row b a r e (NoRow.value f g u)) = no_kind u
no_field_group (NoGroup.missing f m) = elim m.of_table [ ]

no_field_groups : {s : List ℕ} {gs : List Group} {n p : ℕ} → NoGroups [] s gs n p → ⊥
no_field_groups (NoGroups.here a) = no_field_group a
no_field_groups (NoGroups.later a b) = no_field_groups b

-- ---- a section that says something is not refused

global_never : {file : List ℕ} {x : Span} {g : Global} {n p : ℕ} → GlobalText file x g → Wrong global_fields [] file x n p → ⊥
global_never a (Wrong.utf8 b) = octets_never a.utf8 b
global_never a (Wrong.lines o b) = section_never a.lines b
global_never a (Wrong.missing o b c) = global_whole a.says (subst (λ (z : List Entry). Missing global_fields z) (section_one b a.lines) c)
global_never a (Wrong.groups o b c d e) = no_field_groups e

streams_never : {file : List ℕ} {x : Span} {ds : List Stream} {n p : ℕ} → StreamText file x ds → Wrong stream_fields stream_group file x n p → ⊥
unfolding stream_fields
streams_never a (Wrong.utf8 b) = octets_never a.utf8 b
streams_never a (Wrong.lines o b) = section_never a.lines b
streams_never a (Wrong.missing o b c) = elim c.of_table [ ]
streams_never {file} {x} {n = n} {p = p} a (Wrong.groups {gs = gs} o b c d e) =
    let y = groups_one (subst (λ (z : List Entry). GroupsOf z gs) (section_one b a.lines) d) a.groups in
    groups_never stream_group StreamSays (up_to file x) (λ g xs d h. stream_whole h.1) a.say (subst (λ (z : List Group). NoGroups stream_group (up_to file x) z n p) y e)

positions_never :
    {file : List ℕ} {x : Span} {pdf tree : Range} {ds : List Position} {n p : ℕ} → PositionText file x pdf tree ds → Wrong position_fields position_group file x n p → ⊥
positions_never a (Wrong.utf8 b) = octets_never a.utf8 b
positions_never a (Wrong.lines o b) = section_never a.lines b
positions_never a (Wrong.missing o b c) = durations_whole a.durations (subst (λ (z : List Entry). Missing position_fields z) (section_one b a.lines) c)
positions_never {file} {x} {n = n} {p = p} a (Wrong.groups {gs = gs} o b c d e) =
    let y = groups_one (subst (λ (z : List Entry). GroupsOf z gs) (section_one b a.lines) d) a.groups in
    groups_never position_group PositionSays (up_to file x) (λ g xs d h. position_whole h.1) a.say (subst (λ (z : List Group). NoGroups position_group (up_to file x) z n p) y e)

-- ---- with the limits on counts

no_global_one : {file : List ℕ} {x : Span} {n m p q : ℕ} → NoGlobal file x n p → NoGlobal file x m q → Same n m p q
no_global_one {file} {x} (NoGlobal.wrong a) (NoGlobal.wrong b) = wrong_one global_fields [] file x a b
no_global_one (NoGlobal.wrong a) (NoGlobal.too_many b c) = absurd (global_never b a)
no_global_one (NoGlobal.too_many b c) (NoGlobal.wrong a) = absurd (global_never b a)
no_global_one (NoGlobal.too_many a b) (NoGlobal.too_many c d) = (refl, refl)

pub no_global_never : {file : List ℕ} {x : Span} {g : Global} {n p : ℕ} → GlobalText file x g → GlobalFits g → NoGlobal file x n p → ⊥
no_global_never a f (NoGlobal.wrong b) = global_never a b
no_global_never a f (NoGlobal.too_many b c) = c (subst (λ (z : Global). GlobalFits z) (global_text_one a b) f)

no_streams_one : {file : List ℕ} {x : Span} {n m p q : ℕ} → NoStreams file x n p → NoStreams file x m q → Same n m p q
no_streams_one {file} {x} (NoStreams.wrong a) (NoStreams.wrong b) = wrong_one stream_fields stream_group file x a b
no_streams_one (NoStreams.wrong a) (NoStreams.too_many b c) = absurd (streams_never b a)
no_streams_one (NoStreams.too_many b c) (NoStreams.wrong a) = absurd (streams_never b a)
no_streams_one (NoStreams.too_many a b) (NoStreams.too_many c d) = (refl, refl)

pub no_streams_never : {file : List ℕ} {x : Span} {ds : List Stream} {n p : ℕ} → StreamText file x ds → StreamsFit ds → NoStreams file x n p → ⊥
no_streams_never a f (NoStreams.wrong b) = streams_never a b
no_streams_never a f (NoStreams.too_many b c) = c (subst (λ (z : List Stream). StreamsFit z) (stream_text_one a b) f)

no_positions_one : {file : List ℕ} {x : Span} {n m p q : ℕ} → NoPositions file x n p → NoPositions file x m q → Same n m p q
no_positions_one {file} {x} (NoPositions.wrong a) (NoPositions.wrong b) = wrong_one position_fields position_group file x a b
no_positions_one (NoPositions.wrong a) (NoPositions.too_many b c) = absurd (positions_never b a)
no_positions_one (NoPositions.too_many b c) (NoPositions.wrong a) = absurd (positions_never b a)
no_positions_one (NoPositions.too_many a b) (NoPositions.too_many c d) = (refl, refl)

pub no_positions_never :
    {file : List ℕ} {x : Span} {pdf tree : Range} {ds : List Position} {n p : ℕ} → PositionText file x pdf tree ds → PositionsFit ds → NoPositions file x n p → ⊥
no_positions_never a f (NoPositions.wrong b) = positions_never a b
no_positions_never a f (NoPositions.too_many b c) = c (subst (λ (z : List Position). PositionsFit z) (position_text_one a b).2 f)

no_header_one : {file : List ℕ} {x : Parts} {n m p q : ℕ} → NoHeader file x n p → NoHeader file x m q → Same n m p q
no_header_one (NoHeader.no_global a) (NoHeader.no_global b) = no_global_one a b
no_header_one (NoHeader.no_global a) (NoHeader.no_streams b c d) = absurd (no_global_never b c a)
no_header_one (NoHeader.no_global a) (NoHeader.no_positions b c d e f) = absurd (no_global_never b c a)
no_header_one (NoHeader.no_streams b c d) (NoHeader.no_global a) = absurd (no_global_never b c a)
no_header_one (NoHeader.no_streams a b c) (NoHeader.no_streams d e f) = no_streams_one c f
no_header_one (NoHeader.no_streams a b c) (NoHeader.no_positions d e f g h) = absurd (no_streams_never f g c)
no_header_one (NoHeader.no_positions b c d e f) (NoHeader.no_global a) = absurd (no_global_never b c a)
no_header_one (NoHeader.no_positions d e f g h) (NoHeader.no_streams a b c) = absurd (no_streams_never f g c)
no_header_one (NoHeader.no_positions a b c d e) (NoHeader.no_positions f g h i j) = no_positions_one e j

-- ---- the file

-- a file is refused with at most one number and place
pub refused_one : {file : List ℕ} {n m p q : ℕ} → Refused file n p → Refused file m q → Same n m p q
refused_one (Refused.too_long a) (Refused.too_long b) = (refl, refl)
refused_one (Refused.too_long a) (Refused.unsplit b c) = absurd (omega arith)
refused_one (Refused.too_long a) (Refused.sections b c d) = absurd (omega arith)
refused_one (Refused.unsplit b c) (Refused.too_long a) = absurd (omega arith)
refused_one (Refused.unsplit a b) (Refused.unsplit c d) = (refl, refl)
refused_one (Refused.unsplit a b) (Refused.sections {x = x} c d e) = absurd (b x d)
refused_one (Refused.sections b c d) (Refused.too_long a) = absurd (omega arith)
refused_one (Refused.sections {x = x} c d e) (Refused.unsplit a b) = absurd (b x d)
refused_one {file} {n} {m} {p} {q} (Refused.sections a b c) (Refused.sections d e f) = no_header_one (subst (λ (z : Parts). NoHeader file z n p) (sections_one b e) c) f

header_never : {file : List ℕ} {h : Header} {n p : ℕ} (a : Says file h) → NoHeader file a.parts n p → ⊥
header_never a (NoHeader.no_global b) = no_global_never a.global a.global_fits b
header_never a (NoHeader.no_streams b c d) = no_streams_never a.streams a.streams_fit d
header_never a (NoHeader.no_positions b c d e f) = no_positions_never a.positions a.positions_fit f

-- a file that says a record is not refused
pub says_never : {file : List ℕ} {h : Header} {n p : ℕ} → Says file h → Refused file n p → ⊥
says_never a (Refused.too_long b) = omega (arith, a.fits)
says_never a (Refused.unsplit b c) = c a.parts a.split
says_never {file} {n = n} {p = p} a (Refused.sections b c d) = header_never a (subst (λ (z : Parts). NoHeader file z n p) (sections_one c a.split) d)
