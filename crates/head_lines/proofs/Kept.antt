-- From the lines of a section, or of a group, to its fields: what is kept of a field is its one value, whose kind is the field's; and which fields are
-- missing.
use mathlib.Core.Path.{◌≡◌, refl, sym, ap, ◌∙◌, subst}
use mathlib.Core.Bool.{Bool, true, false, cond, ◌&&◌}
use mathlib.Core.List.Memᴰ
use mathlib.Core.List.{List, [], ◌∷◌, Memᴰ}
use mathlib.Core.Logic.{⊎_elim}
use mathlib.Core.Option.{Option, some, none as nothing}
use Prim.Native.Nat.{ℕ, zero, suc, ◌≤◌, ◌<◌}
use native.Mathlib.Omega.{arith}
use native.Mathlib.Decide.{dec_lt}
use borrow.Author.Tests.{eq-eqb, ne_eqb, eqb-true, ltb-true, ltb-false}
use lib.Dec.{eqb, ltb}
use lib.ListN.{length, get_or}
use Rattle.written.specs.Bytes.{same, Span}
use Rattle.written.specs.HeaderText.{Range, Kind, a_string, a_number, a_bool, strings, a_pair, pairs, perhaps_a_pair, anything, Value, text, number, flag, texts, range, ranges, perhaps, unread, Reads, is_string, is_number, is_bool, are_strings, is_pair, are_pairs, is_absent, is_present, is_unknown, Field, kind_of, Entry, values_of, Distinct, Many, none, more, NextLine}
use Rattle.written.specs.Faults.{Missing}
use Rattle.written.proofs.Tests.{differ, both}
use Rattle.laws.proofs.Ranges.{all, at}
use Rattle.written_apart.proofs.ApartFile.{same_same}
use Rattle.written_total.proofs.Total.{same_true}
use Rattle.head_fields.specs.Fields.{field_index, any_missing}
use Rattle.head_fields.proofs.Names.{index_named, index_one}
use Rattle.head_lines.specs.Lines.{kept}
use Rattle.head_lines.proofs.Moves.{no as never}
use Rattle.head_lines.proofs.Marks.{Marks}

-- ---- the kinds of values

pub data OfKind : Kind → Value → Type 0 where
  a_text : (x : Span) → OfKind a_string (text x)
  a_count : (n : ℕ) → OfKind a_number (number n)
  a_flag : (b : Bool) → OfKind a_bool (flag b)
  some_texts : (l : List Span) → OfKind strings (texts l)
  a_range : (r : Range) → OfKind a_pair (range r)
  some_ranges : (l : List Range) → OfKind pairs (ranges l)
  perhaps_range : (o : Option Range) → OfKind perhaps_a_pair (perhaps o)
  not_read : (x : Span) → OfKind anything (unread x)

pub reads_kind : {D s : List ℕ} {i j : ℕ} {t : Kind} {v : Value} → Reads D s i t v j → OfKind t v
reads_kind (is_string {x = x} r) = a_text x
reads_kind (is_number {n = n} r) = a_count n
reads_kind (is_bool {v = b} r) = a_flag b
reads_kind (are_strings {l = l} r) = some_texts l
reads_kind (is_pair {r = r} q) = a_range r
reads_kind (are_pairs {l = l} r) = some_ranges l
reads_kind (is_absent e) = perhaps_range nothing
reads_kind (is_present {r = r} e q) = perhaps_range (some r)
reads_kind (is_unknown {x = x} r) = not_read x

-- each line's value is of its key's kind
pub data Kinded (T : List Field) : List Entry → Type 0 where
  end : Kinded T []
  next : {x : Entry} {xs : List Entry} → OfKind (kind_of T x.name) x.value → Kinded T xs → Kinded T (x ∷ xs)

pub lines_kinded : {T : List Field} {s : List ℕ} {i k : ℕ} {xs : List Entry} → Many (NextLine T s) i xs k → Kinded T xs
lines_kinded none = end
lines_kinded (more l m) = next (reads_kind l.line.value) (lines_kinded m)

pub value_kind : {T : List Field} {xs : List Entry} → Kinded T xs → (w : List ℕ) {v : Value} → values_of w xs ≡ v ∷ [] → OfKind (kind_of T w) v
unfolding values_of
value_kind end w e = never cc
value_kind {T} (next {x = x} {xs = xs} o k) w {v} e = go (same w x.name) refl e (λ f. value_kind k w f)
  where
    go : (t : Bool) → same w x.name ≡ t → cond t (x.value ∷ values_of w xs) (values_of w xs) ≡ v ∷ [] → (values_of w xs ≡ v ∷ [] → OfKind (kind_of T w) v) → OfKind (kind_of T w) v
    go true f g rec = let h : x.value ≡ v = cc in subst (λ (u : Value). OfKind (kind_of T w) u) h (subst (λ (n : List ℕ). OfKind (kind_of T n) x.value) (sym (same_true w x.name f)) o)
    go false f g rec = rec g

-- ---- a field stands once, or not at all

pub data Stands (xs : List Entry) (w : List ℕ) : Type 0 where
  nowhere : values_of w xs ≡ [] → Stands xs w
  once : (v : Value) → values_of w xs ≡ v ∷ [] → Stands xs w

pub one_or_none : {T : List Field} {xs : List Entry} → Distinct T xs → (f : Field) → Memᴰ f T → Stands xs f.name
one_or_none {T} {xs} d f m = go (values_of f.name xs) refl (d.once f m)
  where
    go : (l : List Value) → values_of f.name xs ≡ l → length (values_of f.name xs) ≤ 1 → Stands xs f.name
    go [] e h = nowhere e
    go (v ∷ []) e h = once v e
    go (v ∷ u ∷ l) e h = absurd (omega (arith, ap length e))

-- ---- what is kept of a field

module _ {A B : Type 0} (with : A → Entry → A) (π : A → B) (T : List Field) (w : List ℕ) (n : ℕ) (held : Value → B)
    (step : (a : A) (x : Entry) → π (with a x) ≡ cond (eqb (field_index T x.name) n) (held x.value) (π a)) (index : field_index T w ≡ n) (known : n < length T) where
  other : (x : Entry) → same w x.name ≡ false → eqb (field_index T x.name) n ≡ false
  other x e = ne_eqb (field_index T x.name) n (λ f. differ {A = ⊥} (ap (λ (v : List ℕ). same w v) (sym (index_one T w x.name (subst (λ (k : ℕ). k < length T) (sym index) known) (index ∙ sym f))) ∙ same_same w) e)

  this : (x : Entry) → same w x.name ≡ true → eqb (field_index T x.name) n ≡ true
  this x e = eq-eqb (field_index T x.name) n (ap (field_index T) (sym (same_true w x.name e)) ∙ index)

  pub kept_none : (a : A) (xs : List Entry) → values_of w xs ≡ [] → π (kept with a xs) ≡ π a
  unfolding kept values_of
  kept_none a [] e = refl
  kept_none a (x ∷ xs) e = go (same w x.name) refl e (λ f. kept_none (with a x) xs f)
    where
      go : (t : Bool) → same w x.name ≡ t → cond t (x.value ∷ values_of w xs) (values_of w xs) ≡ [] → (values_of w xs ≡ [] → π (kept with (with a x) xs) ≡ π (with a x)) → π (kept with (with a x) xs) ≡ π a
      go true f g rec = never cc
      go false f g rec = rec g ∙ step a x ∙ ap (λ (t : Bool). cond t (held x.value) (π a)) (other x f)

  pub kept_one : (a : A) (xs : List Entry) {v : Value} → values_of w xs ≡ v ∷ [] → π (kept with a xs) ≡ held v
  unfolding kept values_of
  kept_one a [] e = never cc
  kept_one a (x ∷ xs) {v} e = go (same w x.name) refl e (λ f. kept_one (with a x) xs f)
    where
      go : (t : Bool) → same w x.name ≡ t → cond t (x.value ∷ values_of w xs) (values_of w xs) ≡ v ∷ [] → (values_of w xs ≡ v ∷ [] → π (kept with (with a x) xs) ≡ held v) → π (kept with (with a x) xs) ≡ held v
      go true f g rec =
          let h : x.value ≡ v = cc in
          let r : values_of w xs ≡ [] = cc in
          kept_none (with a x) xs r ∙ step a x ∙ ap (λ (t : Bool). cond t (held x.value) (π a)) (this x f) ∙ ap held h
      go false f g rec = rec g

-- ---- missing fields

-- the required fields of a table are its first n
pub record Leads (T : List Field) (n : ℕ) : Type 0 where
  pub first : (k : ℕ) → k < n → (f : Field) × Memᴰ f T × (f.required ≡ true) × (field_index T f.name ≡ k)
  pub only : (f : Field) → Memᴰ f T → f.required ≡ true → field_index T f.name < n

seen_all : (m : List Bool) (n : ℕ) → any_missing m n ≡ false → (k : ℕ) → k < n → get_or m k false ≡ true
unfolding any_missing
seen_all m zero e k h = absurd (omega arith)
seen_all m (suc n) e k h = go (get_or m n false) refl e (λ f l. seen_all m n f k l) (dec_lt k n)
  where
    go : (t : Bool) → get_or m n false ≡ t → cond t (any_missing m n) true ≡ false → (any_missing m n ≡ false → k < n → get_or m k false ≡ true) → Dec (k < n) → get_or m k false ≡ true
    go true f g rec (yes l) = rec g l
    go true f g rec (no l) = let q : k ≡ n = omega arith in ap (λ (i : ℕ). get_or m i false) q ∙ f
    go false f g rec d = differ refl g

not_seen : (m : List Bool) (n : ℕ) → any_missing m n ≡ true → (k : ℕ) × (k < n) × (get_or m k false ≡ false)
unfolding any_missing
not_seen m zero e = differ e refl
not_seen m (suc n) e = go (get_or m n false) refl e (λ f. not_seen m n f)
  where
    go : (t : Bool) → get_or m n false ≡ t → cond t (any_missing m n) true ≡ true → (any_missing m n ≡ true → (k : ℕ) × (k < n) × (get_or m k false ≡ false)) → (k : ℕ) × (k < suc n) × (get_or m k false ≡ false)
    go true f g rec = let r = rec g in (r.0, omega (arith, r.1), r.2)
    go false f g rec = (n, omega arith, f)

module _ {T : List Field} {m : List Bool} {xs : List Entry} (marks : Marks T m xs) (n : ℕ) (leads : Leads T n) where
  pub missing_so : any_missing m n ≡ true → Missing T xs
  missing_so e =
      let k = not_seen m n e in
      let f = leads.first k.0 k.1 in
      let i = index_named T f.0.name f.0 f.1 refl in
      let z : ltb 0 (length (values_of f.0.name xs)) ≡ false = sym (marks.stood f.0.name i) ∙ ap (λ (j : ℕ). get_or m j false) f.3 ∙ k.2 in
      record { field = f.0; of_table = f.1; required = f.2; nowhere = empty (values_of f.0.name xs) (ltb-false 0 (length (values_of f.0.name xs)) z) }
    where
      empty : (l : List Value) → length l ≤ 0 → l ≡ []
      empty [] h = refl
      empty (v ∷ l) h = absurd (omega arith)

  pub missing_not : any_missing m n ≡ false → ¬ Missing T xs
  missing_not e h =
      let l = leads.only h.field h.of_table h.required in
      let i = index_named T h.field.name h.field h.of_table refl in
      let t = ltb-true 0 (length (values_of h.field.name xs)) (sym (marks.stood h.field.name i) ∙ seen_all m n e (field_index T h.field.name) l) in
      omega (arith, ap length h.nowhere)

-- ---- a table whose required fields stand first, by computation

unfoldable pub no_field : Field
no_field = record { name = []; kind = anything; required = false }

pub mem_at : (T : List Field) (k : ℕ) → k < length T → Memᴰ (get_or T k no_field) T
mem_at [] k h = absurd (omega arith)
mem_at (f ∷ T) zero h = Memᴰ.head refl
mem_at (f ∷ T) (suc k) h = Memᴰ.tail (mem_at T k (omega arith))

-- the field of the number k is required, and its name has that number
abbrev pub first? : List Field → ℕ → Bool
first? T k = (get_or T k (record { name = []; kind = anything; required = false })).required && eqb (field_index T (get_or T k (record { name = []; kind = anything; required = false })).name) k

abbrev pub only? : List Field → ℕ → List Field → Bool
only? T n [] = true
only? T n (f ∷ U) = cond f.required (ltb (field_index T f.name) n) true && only? T n U

only_mem : (T : List Field) (n : ℕ) (U : List Field) → only? T n U ≡ true → (f : Field) → Memᴰ f U → f.required ≡ true → field_index T f.name < n
only_mem T n [] e f m r = elim m [ ]
only_mem T n (g ∷ U) e f m r =
    let b = both (cond g.required (ltb (field_index T g.name) n) true) (only? T n U) e in
    ⊎_elim
    (λ p. let q : ltb (field_index T f.name) n ≡ true = sym (ap (λ (t : Bool). cond t (ltb (field_index T f.name) n) true) r) ∙ subst (λ (h : Field). cond h.required (ltb (field_index T h.name) n) true ≡ true) (sym p) b.0 in ltb-true (field_index T f.name) n q)
    (λ k. only_mem T n U b.1 f k r) (Memᴰ.cases_cons m)

pub leads : (T : List Field) (n : ℕ) → n ≤ length T → all (first? T) n 0 ≡ true → only? T n T ≡ true → Leads T n
unfolding no_field
leads T n l e f =
    record {
      first = λ k h. let b = both _ _ (at (first? T) n 0 e k (omega arith) (omega arith)) in (get_or T k no_field, mem_at T k (omega arith), b.0, eqb-true _ _ b.1);
      only = λ g m r. only_mem T n T f g m r;
    }

-- ---- the value of a field, by its kind

pub needed : {T : List Field} {xs : List Entry} → Distinct T xs → ¬ Missing T xs → (f : Field) → Memᴰ f T → f.required ≡ true → (v : Value) × (values_of f.name xs ≡ v ∷ [])
needed {T} {xs} d m f i r = go (one_or_none d f i)
  where
    go : Stands xs f.name → (v : Value) × (values_of f.name xs ≡ v ∷ [])
    go (nowhere e) = absurd (m (record { field = f; of_table = i; required = r; nowhere = e }))
    go (once v e) = (v, e)

pub as_text : {v : Value} → OfKind a_string v → (x : Span) × (v ≡ text x)
as_text (a_text x) = (x, refl)

pub as_number : {v : Value} → OfKind a_number v → (n : ℕ) × (v ≡ number n)
as_number (a_count n) = (n, refl)

pub as_flag : {v : Value} → OfKind a_bool v → (b : Bool) × (v ≡ flag b)
as_flag (a_flag b) = (b, refl)

pub as_texts : {v : Value} → OfKind strings v → (l : List Span) × (v ≡ texts l)
as_texts (some_texts l) = (l, refl)

pub as_range : {v : Value} → OfKind a_pair v → (r : Range) × (v ≡ range r)
as_range (a_range r) = (r, refl)

pub as_ranges : {v : Value} → OfKind pairs v → (l : List Range) × (v ≡ ranges l)
as_ranges (some_ranges l) = (l, refl)

pub as_perhaps : {v : Value} → OfKind perhaps_a_pair v → (o : Option Range) × (v ≡ perhaps o)
as_perhaps (perhaps_range o) = (o, refl)
