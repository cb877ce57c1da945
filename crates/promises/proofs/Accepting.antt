-- `larsavim_accepts` keeps its promise, which allows one outcome; accepted rows walk as the text does; our own rows are accepted, and either choice among equal leaves is.
use mathlib.Core.Path.{◌≡◌, refl, sym, ap, subst}
use mathlib.Core.Bool.{Bool}
use mathlib.Core.List.{List, [], ◌∷◌, ◌++◌, map, Forall₂}
use Prim.Native.Nat.{ℕ, suc, ◌≤◌, ◌<◌}
use native.Mathlib.Decide.{dec_lt}
use native.Mathlib.Omega.{arith}
use lib.ListN.{length}
use lib.Seq.{sets}
use Rattle.error.specs.declared.Refusal.{Refusal}
use Rattle.walk.specs.declared.Walked.{Walked}
use Rattle.std.specs.declared.result.Result.{Result}
use Rattle.written.specs.Said.{Ref, Line, Body, braces, Tree, Question, Text, Layout}
use Rattle.written.specs.TreeText.{Says}
use Rattle.written.specs.Linking as L
use Rattle.written.specs.Linking.{Nth, here, there, NotSingle, Row, leaf, LineRow, row, ToLeaf, Linked, Records, Refused}
use Rattle.written.specs.Tables.{Negative}
use Rattle.written.specs.Walks.{Ending, Written, Answers}
use Rattle.written.specs.Suppliers.{Accepts, AcceptsIn, breaks, says}
use Rattle.written.proofs.Once.{says_once}
use Rattle.written.proofs.Walk.{nth_once}
use Rattle.written.proofs.Link.{refused_no_records, refused_once}
use Rattle.written_total.proofs.Broken.{breaks_silent, breaks_once}
use Rattle.written_alone.proofs.Accepting.{own_accepted}
use Rattle.table_rows.specs.Rows.{HasTree}
use Rattle.walk.specs.Walking.{walk_of}
use Rattle.walk.specs.Answer.{answer_of, ending_answer}
use Rattle.walk.proofs.Demand.{walk_demand₃}
use Rattle.larsavim.specs.Accepts.{AcceptTells, no_room, told}
use Rattle.shown_accepts.proofs.Accepts.{accepts_said}
use Rattle.written_models.proofs.Numbers.{refused_number}
use Rattle.promises.proofs.Moved.{moved₂}
use Rattle.promises.specs.Accepting.{AfterAccepts, short_out, judged, Retargeted, stays, moves, Rechosen, rechosen}

-- ---- the promise

pub accepts_kept : {s : List ℕ} {t : ℕ} {R out : List ℕ} {r : ℕ} {out' : List ℕ} → AcceptTells s t R out r out' → AfterAccepts s t R out r out'
accepts_kept {s} {t} {R} {out} (no_room h a b) = moved₂ (AfterAccepts s t R out) a b (short_out h)
accepts_kept {s} {t} {R} {out} (told h a b) = moved₂ (AfterAccepts s t R out) a b (judged h (accepts_said s t R))

-- ---- one outcome

clash : {A : Type 0} → ◌≡◌ {A = ℕ} 0 1 → A
clash e = absurd (omega arith)

record Same (c p k c' p' k' : ℕ) : Type 0 where
  number : c ≡ c'
  place : p ≡ p'
  line : k ≡ k'

module _ (x : Text) (rows : List Row) (t : ℕ) where
  body_is : {e e' : Tree} → Nth x.trees t e → Nth x.trees t e' → e.body ≡ e'.body
  body_is h g = ap (λ (e : Tree). e.body) (nth_once h g)

  refused_at : {e e' : Tree} {c k : ℕ} → Nth x.trees t e → Nth x.trees t e' → Refused x.questions e.body c k → Refused x.questions e'.body c k
  refused_at {c = c} {k = k} h g r = subst (λ (b : Body). Refused x.questions b c k) (body_is h g) r

  linked_at : {e e' : Tree} → Nth x.trees t e → Nth x.trees t e' → Linked x.questions e.body rows → Linked x.questions e'.body rows
  linked_at h g r = subst (λ (b : Body). Linked x.questions b rows) (body_is h g) r

  never_both : {e e' : Tree} {c k : ℕ} {own : List Row} → Nth x.trees t e → Nth x.trees t e' → Refused x.questions e.body c k → Records x.questions e'.body own → ⊥
  never_both h g r o = refused_no_records (refused_at h g r) o

  accepts_one : {c p k c' p' k' : ℕ} → Accepts x rows t c p k → Accepts x rows t c' p' k' → Same c p k c' p' k'
  accepts_one (Accepts.negative n) (Accepts.negative m) = record { number = refl; place = refl; line = refl }
  accepts_one (Accepts.negative n) (Accepts.missing m g) = absurd (m n)
  accepts_one (Accepts.negative n) (Accepts.unlinked m g r) = absurd (m n)
  accepts_one (Accepts.negative n) (Accepts.accepted m g r l) = absurd (m n)
  accepts_one (Accepts.negative n) (Accepts.other m g r l) = absurd (m n)
  accepts_one (Accepts.missing n h) (Accepts.negative m) = absurd (n m)
  accepts_one (Accepts.missing n h) (Accepts.missing m g) = record { number = refl; place = refl; line = refl }
  accepts_one (Accepts.missing n h) (Accepts.unlinked {e = e} m g r) = absurd (h e g)
  accepts_one (Accepts.missing n h) (Accepts.accepted {e = e} m g r l) = absurd (h e g)
  accepts_one (Accepts.missing n h) (Accepts.other {e = e} m g r l) = absurd (h e g)
  accepts_one (Accepts.unlinked n h r) (Accepts.negative m) = absurd (n m)
  accepts_one (Accepts.unlinked {e = e} n h r) (Accepts.missing m g) = absurd (g e h)
  accepts_one (Accepts.unlinked n h r) (Accepts.unlinked m g w) = let z = refused_once (refused_at h g r) w in record { number = z.0; place = refl; line = z.1 }
  accepts_one (Accepts.unlinked n h r) (Accepts.accepted m g o l) = absurd (never_both h g r o)
  accepts_one (Accepts.unlinked n h r) (Accepts.other m g o l) = absurd (never_both h g r o)
  accepts_one (Accepts.accepted n h o l) (Accepts.negative m) = absurd (n m)
  accepts_one (Accepts.accepted {e = e} n h o l) (Accepts.missing m g) = absurd (g e h)
  accepts_one (Accepts.accepted n h o l) (Accepts.unlinked m g r) = absurd (never_both g h r o)
  accepts_one (Accepts.accepted n h o l) (Accepts.accepted m g r w) = record { number = refl; place = refl; line = refl }
  accepts_one (Accepts.accepted n h o l) (Accepts.other m g r w) = absurd (w (linked_at h g l))
  accepts_one (Accepts.other n h o l) (Accepts.negative m) = absurd (n m)
  accepts_one (Accepts.other {e = e} n h o l) (Accepts.missing m g) = absurd (g e h)
  accepts_one (Accepts.other n h o l) (Accepts.unlinked m g r) = absurd (never_both g h r o)
  accepts_one (Accepts.other n h o l) (Accepts.accepted m g r w) = absurd (l (linked_at g h w))
  accepts_one (Accepts.other n h o l) (Accepts.other m g r w) = record { number = refl; place = refl; line = refl }

accepts_in_one : {s : List ℕ} {rows : List Row} {t c p k c' p' k' : ℕ} → AcceptsIn s 0 rows t c p k → AcceptsIn s 0 rows t c' p' k' → Same c p k c' p' k'
accepts_in_one (breaks a) (breaks b) = record { number = refl; place = breaks_once a b; line = refl }
accepts_in_one (breaks a) (says {x = x} {u = u} h w) = absurd (breaks_silent a h)
accepts_in_one (says {x = x} {u = u} h w) (breaks a) = absurd (breaks_silent a h)
accepts_in_one {rows = rows} {t = t} {c = c} {p = p} {k = k} (says h w) (says g v) = accepts_one _ rows t (subst (λ (x : Text). Accepts x rows t c p k) (says_once h g).0 w) v

pub after_accepts_once : {s : List ℕ} {t : ℕ} {R out : List ℕ} {r r' : ℕ} {o o' : List ℕ} → AfterAccepts s t R out r o → AfterAccepts s t R out r' o' → (r ≡ r') × (o ≡ o')
after_accepts_once (short_out a) (short_out b) = (refl, refl)
after_accepts_once (short_out a) (judged b x) = absurd (omega arith)
after_accepts_once (judged a x) (short_out b) = absurd (omega arith)
after_accepts_once {out = out} (judged a x) (judged b y) = let z = accepts_in_one x y in (z.number, λ i. sets out 0 (z.number i ∷ z.place i ∷ z.line i ∷ []))

-- ---- accepted rows walk as the text does

-- what number 0 says
pub record Fit (s : List ℕ) (rows : List Row) (t : ℕ) : Type 0 where
  pub text : Text
  pub layout : Layout
  pub tree : Tree
  pub read : Says s 0 text layout
  pub stands : Nth text.trees t tree
  pub linked : Linked text.questions tree.body rows

pub accepted_linked : {s : List ℕ} {rows : List Row} {t c p k : ℕ} → AcceptsIn s 0 rows t c p k → c ≡ 0 → Fit s rows t
accepted_linked (breaks a) e = absurd (omega arith)
accepted_linked {s} {rows} {t} (says {x = x} {u = u} h w) e = go w e
  where
    go : {c p k : ℕ} → Accepts x rows t c p k → c ≡ 0 → Fit s rows t
    go (Accepts.negative n) e = absurd (omega arith)
    go (Accepts.missing n g) e = absurd (omega arith)
    go (Accepts.unlinked n g r) e = absurd (omega (arith, (refused_number r).0))
    go (Accepts.accepted {e = b} n g r l) e = record { text = x; layout = u; tree = b; read = h; stands = g; linked = l }
    go (Accepts.other n g r l) e = absurd (omega arith)

-- demand 3, in any tables where the rows stand, for every assignment and limit
pub accepted_walks : {s : List ℕ} {rows : List Row} {t c p k : ℕ} (a : AcceptsIn s 0 rows t c p k) (z : c ≡ 0) {answer : ℕ → Bool} {bytes : List ℕ} → Answers (accepted_linked a z).text.questions answer bytes
    → {T R : List ℕ} {i : ℕ} → HasTree T R i rows → (m : ℕ) {r : Result Walked Refusal} → r ≡ walk_of T R i bytes m
    → (e : Ending) × Written (accepted_linked a z).text.questions answer (accepted_linked a z).tree.body m e × (answer_of r ≡ ending_answer e)
accepted_walks a z given h m q = let d = walk_demand₃ given h (accepted_linked a z).linked m q in (d.0, d.1, d.2)

-- rows that a load writes for a tree are accepted
pub own_rows : {s : List ℕ} {x : Text} {u : Layout} {rows : List Row} {t : ℕ} {e : Tree} → Says s 0 x u → ¬ Negative x.trees → Nth x.trees t e → Records x.questions e.body rows → AcceptsIn s 0 rows t 0 0 0
own_rows h n g r = says h (own_accepted n g r)

-- ---- either choice among equal leaves

nth_left : {A : Type 0} (xs ys : List A) {k : ℕ} {x : A} → Nth (xs ++ ys) k x → k < length xs → Nth xs k x
nth_left [] ys h l = absurd (omega arith)
nth_left (x ∷ xs) ys here l = here
nth_left (x ∷ xs) ys (there h) l = there (nth_left xs ys h (omega arith))

nth_right : {A : Type 0} (xs zs ys : List A) {k : ℕ} {x : A} → length xs ≡ length zs → length xs ≤ k → Nth (xs ++ ys) k x → Nth (zs ++ ys) k x
nth_right [] [] ys e l h = h
nth_right [] (z ∷ zs) ys e l h = absurd (omega arith)
nth_right (x ∷ xs) [] ys e l h = absurd (omega arith)
nth_right (x ∷ xs) (z ∷ zs) ys e l here = absurd (omega arith)
nth_right (x ∷ xs) (z ∷ zs) ys e l (there h) = there (nth_right xs zs ys (omega arith) (omega arith) h)

second : {A B : Type 0} {S : A → B → Type 0} {xs : List A} {ys : List B} {k : ℕ} {x : A} → Forall₂ S xs ys → Nth xs k x → (y : B) × S x y
second (Forall₂.cons {b = b} h t) here = (b, h)
second (Forall₂.cons h t) (there n) = second t n
second {A = A} {B = B} {S = S} {k = k} mathlib.Core.List.Forall₂.nil x8 = elim x8 [ ]

lengths : {A B : Type 0} {S : A → B → Type 0} {xs : List A} {ys : List B} → Forall₂ S xs ys → length xs ≡ length ys
lengths Forall₂.nil = refl
lengths (Forall₂.cons h t) = ap suc (lengths t)

module _ {front front' : List Row} (leaves : List ℕ) (moved : Forall₂ (Rechosen (front ++ map leaf leaves)) front front') where
  no_leaf : {r r' : Row} {n : ℕ} → Rechosen (front ++ map leaf leaves) r r' → r ≡ leaf n → ⊥
  no_leaf (rechosen a b) e = let z : ◌≡◌ {A = ℕ} 0 1 = cc in omega arith

  -- leaves keep their places
  leaf_stays : {k n : ℕ} → Nth (front ++ map leaf leaves) k (leaf n) → Nth (front' ++ map leaf leaves) k (leaf n)
  leaf_stays {k} {n} h = go (dec_lt k (length front))
    where
      go : Dec (k < length front) → Nth (front' ++ map leaf leaves) k (leaf n)
      go (yes l) = let w = second moved (nth_left front (map leaf leaves) h l) in absurd (no_leaf w.1 refl)
      go (no l) = nth_right front front' (map leaf leaves) (lengths moved) (omega arith) h

  leaf_one : {y n m : ℕ} → Nth (front ++ map leaf leaves) y (leaf n) → Nth (front ++ map leaf leaves) y (leaf m) → n ≡ m
  leaf_one h g = let e = nth_once h g in cc

  goes : (ls : List Line) → length ls ≡ length front → {r : Ref} {y y' : ℕ} → ToLeaf ls (front ++ map leaf leaves) r y → Retargeted (front ++ map leaf leaves) y y' → ToLeaf ls (front' ++ map leaf leaves) r y'
  goes ls long (L.ToLeaf.to_line h) stays = L.ToLeaf.to_line h
  goes ls long (L.ToLeaf.to_line {k = k} h) (moves a b) = absurd (no_leaf (second moved (nth_left front (map leaf leaves) a (omega (arith, inside h.stands, long)))).1 refl)
    where
      inside : {A : Type 0} {xs : List A} {j : ℕ} {x : A} → Nth xs j x → j < length xs
      inside here = omega arith
      inside (there n) = omega (arith, inside n)
  goes ls long (L.ToLeaf.to_leaf h) stays = L.ToLeaf.to_leaf (leaf_stays h)
  goes ls long (L.ToLeaf.to_leaf {n = n} h) (moves {y' = y'} {n = m} a b) = L.ToLeaf.to_leaf (leaf_stays (subst (λ (i : ℕ). Nth (front ++ map leaf leaves) y' (leaf i)) (sym (leaf_one h a)) b))

  row_goes : {qs : List Question} (ls : List Line) → length ls ≡ length front → {l : Line} {r r' : Row} → LineRow qs (ToLeaf ls (front ++ map leaf leaves)) l r → Rechosen (front ++ map leaf leaves) r r' → LineRow qs (ToLeaf ls (front' ++ map leaf leaves)) l r'
  row_goes ls long (row a y n) (rechosen u v) = row a (goes ls long y u) (goes ls long n v)

  rows_go : {qs : List Question} (ls : List Line) → length ls ≡ length front → {ks : List Line} {rs rs' : List Row} → Forall₂ (LineRow qs (ToLeaf ls (front ++ map leaf leaves))) ks rs → Forall₂ (Rechosen (front ++ map leaf leaves)) rs rs'
      → Forall₂ (LineRow qs (ToLeaf ls (front' ++ map leaf leaves))) ks rs'
  rows_go ls long Forall₂.nil Forall₂.nil = Forall₂.nil
  rows_go ls long (Forall₂.cons h t) (Forall₂.cons u v) = Forall₂.cons (row_goes ls long h u) (rows_go ls long t v)

-- where rows are linked for lines, so are they with any reference moved to another leaf of the same number
pub either_leaf : {qs : List Question} {l : Line} {ls : List Line} {front front' : List Row} (leaves : List ℕ) → NotSingle (l ∷ ls)
    → Forall₂ (LineRow qs (ToLeaf (l ∷ ls) (front ++ map leaf leaves))) (l ∷ ls) front → Forall₂ (Rechosen (front ++ map leaf leaves)) front front'
    → Linked qs (braces (l ∷ ls)) (front' ++ map leaf leaves)
either_leaf {l = l} {ls = ls} leaves o f m = Linked.lines leaves o (rows_go leaves m (l ∷ ls) (lengths f) f m) refl
