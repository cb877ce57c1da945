-- A file has one list of models; a model stands in one place or is refused with one number; its text says one thing or is refused with one number and place.
use mathlib.Core.Path.{◌≡◌, refl, sym, ap, ◌∙◌, subst}
use mathlib.Core.Option.{Option, some, none}
use mathlib.Core.List.{List, ◌∷◌}
use Prim.Native.Nat.{ℕ, ◌+◌, ◌*◌}
use native.Mathlib.Omega.{arith}
use lib.ListN.{take}
use Rattle.written.specs.Bytes.{Span}
use Rattle.written.specs.HeaderText.{Range}
use Rattle.written.specs.Record.{Stream, Position, Header}
use Rattle.written.specs.Said.{Text, Layout}
use Rattle.written.specs.TreeText as tree
use Rattle.written.specs.Breaks.{Breaks}
use Rattle.written.specs.Linking.{Nth}
use Rattle.written.specs.Tables.{Negative}
use Rattle.written.specs.Models.{Model, duration, stream, gv, OfName, a_stream, a_gv, bytes_of, stream_name, position_name, LastNamed, Unnamed, bit, data_of, Within, EntriesOf, Placed, of_duration, of_stream, of_gv, NoGv, Unplaced, StreamModels, Models, voice, TextOf, NoTextOf}
use Rattle.written.proofs.Once.{says_once}
use Rattle.written_total.proofs.Broken.{breaks_once, breaks_silent}
use Rattle.written.proofs.Walk.{nth_once, last_once}
use Rattle.written.proofs.Tests.{differ}

module _ {A : Type 0} {name : A → Span} {s w : List ℕ} {l : List A} where
  pub named_one : {x y : A} → LastNamed name s w l x → LastNamed name s w l y → x ≡ y
  named_one a b =
      let e = last_once a.last b.last in
      sym a.entry ∙ nth_once (subst (λ (k : ℕ). Nth l k a.last.at) e a.last.stands) b.last.stands ∙ b.entry

  pub named_never : {x : A} → LastNamed name s w l x → Unnamed name s w l → ⊥
  named_never a u = u a.row a.last.at a.last.stands a.last.true_of

named_clash : {A : Type 0} (name : A → Span) (s : List ℕ) {l : List A} {x y : Span} {e : A} → x ≡ y → LastNamed name s (bytes_of s x) l e → Unnamed name s (bytes_of s y) l → ⊥
named_clash name s {l} {e = e} q a u = named_never (subst (λ (z : Span). LastNamed name s (bytes_of s z) l e) q a) u

some_one : {A : Type 0} {o : Option A} {a b : A} → o ≡ some a → o ≡ some b → a ≡ b
some_one p q = cc

some_never : {A : Type 0} {o : Option A} {a : A} → o ≡ some a → o ≡ none → ⊥
some_never p q = let z : ◌≡◌ {A = ℕ} 0 1 = cc in omega arith

-- a model is of one name
of_one : {m : Model} {i k : ℕ} → OfName m i → OfName m k → i ≡ k
of_one a_stream a_stream = refl
of_one a_gv a_gv = refl

name_one : {m : Model} {i k : ℕ} {l : List Span} {x y : Span} → OfName m i → OfName m k → Nth l i x → Nth l k y → x ≡ y
name_one {l = l} {x = x} o q n r = nth_once (subst (λ (i : ℕ). Nth l i x) (of_one o q) n) r

no_such : {m : Model} {i k : ℕ} {l : List Span} {x : Span} → OfName m i → OfName m k → ((x : Span) → ¬ Nth l i x) → Nth l k x → ⊥
no_such {l = l} {x = x} o q n r = n x (subst (λ (i : ℕ). Nth l i x) (of_one q o) r)

-- what is read in a range is read in an equal one
module _ (d : List ℕ) where
  says_in : {r q : Range} {t : Text} {l : Layout} → r ≡ q → tree.Says (take (r.to + 1) d) r.from t l → tree.Says (take (q.to + 1) d) q.from t l
  says_in {t = t} {l = l} e a = subst (λ (r : Range). tree.Says (take (r.to + 1) d) r.from t l) e a

  breaks_in : {r q : Range} {p : ℕ} → r ≡ q → Breaks (take (r.to + 1) d) r.from p → Breaks (take (q.to + 1) d) q.from p
  breaks_in {p = p} e a = subst (λ (r : Range). Breaks (take (r.to + 1) d) r.from p) e a

  within_in : {r q : Range} → r ≡ q → Within r d → Within q d
  within_in e a = subst (λ (r : Range). Within r d) e a

module _ {s : List ℕ} {h : Header} where
  entries_one : {i : ℕ} {d e : Stream} {p q : Position} → EntriesOf s h i d p → EntriesOf s h i e q → (d ≡ e) × (p ≡ q)
  entries_one {i} {d} {e} {p} {q} a b =
      let n = nth_once a.named b.named in (
        named_one (subst (λ (x : Span). LastNamed stream_name s (bytes_of s x) h.streams d) n a.in_streams) b.in_streams,
        named_one (subst (λ (x : Span). LastNamed position_name s (bytes_of s x) h.positions p) n a.in_positions) b.in_positions,
      )

  -- a model stands in one place
  pub placed_one : {m : Model} {x y x' y' : Range} {w w' : ℕ} → Placed s h m x y w → Placed s h m x' y' w' → (x ≡ x') × (y ≡ y') × (w ≡ w')
  placed_one of_duration of_duration = (refl, refl, refl)
  placed_one (of_stream a) (of_stream b) =
      let e = entries_one a b in
      (ap (λ (p : Position). p.stream_tree) e.1, ap (λ (p : Position). p.stream_pdf) e.1, ap (λ (d : Stream). 2 * (d.vector_length * d.num_windows) + bit d.is_msd) e.0)
  placed_one (of_gv a u p q) (of_gv b v r t) =
      let e = entries_one a b in (
        some_one p (ap (λ (z : Position). z.gv_tree) e.1 ∙ r),
        some_one q (ap (λ (z : Position). z.gv_pdf) e.1 ∙ t),
        ap (λ (d : Stream). 2 * d.vector_length) e.0,
      )

  -- of a model of a name: what its entries are, if it stands somewhere
  entries_of : {m : Model} {i w : ℕ} {x y : Range} → OfName m i → Placed s h m x y w → (d : Stream) × (p : Position) × EntriesOf s h i d p
  entries_of a_stream (of_stream {d = d} {p = p} e) = (d, p, e)
  entries_of a_gv (of_gv {d = d} {p = p} e u a b) = (d, p, e)

  -- or is refused
  pub placed_never : {m : Model} {x y : Range} {w n : ℕ} → Placed s h m x y w → Unplaced s h m n → ⊥
  placed_never p (Unplaced.no_name o n) = let e = entries_of o p in n e.2.name e.2.named
  placed_never p (Unplaced.no_position o n u) = let e = entries_of o p in named_clash position_name s (nth_once e.2.named n) e.2.in_positions u
  placed_never p (Unplaced.no_stream o n q u) = let e = entries_of o p in named_clash stream_name s (nth_once e.2.named n) e.2.in_streams u
  placed_never (of_gv a u p q) (Unplaced.no_gv b (NoGv.unused n)) = differ (ap (λ (z : Stream). z.use_gv) (sym (entries_one a b).0) ∙ u) n
  placed_never (of_gv a u p q) (Unplaced.no_gv b (NoGv.no_tree n)) = some_never (ap (λ (z : Position). z.gv_tree) (sym (entries_one a b).1) ∙ p) n
  placed_never (of_gv a u p q) (Unplaced.no_gv b (NoGv.no_block n)) = some_never (ap (λ (z : Position). z.gv_pdf) (sym (entries_one a b).1) ∙ q) n

  pub unplaced_one : {m : Model} {n k : ℕ} → Unplaced s h m n → Unplaced s h m k → n ≡ k
  unplaced_one (Unplaced.no_name o n) (Unplaced.no_name o' n') = refl
  unplaced_one (Unplaced.no_name o n) (Unplaced.no_position o' n' u') = refl
  unplaced_one (Unplaced.no_name o n) (Unplaced.no_stream o' n' p' u') = absurd (no_such o o' n n')
  unplaced_one (Unplaced.no_name o n) (Unplaced.no_gv e g) = absurd (no_such o a_gv n e.named)
  unplaced_one (Unplaced.no_position o n u) (Unplaced.no_name o' n') = refl
  unplaced_one (Unplaced.no_position o n u) (Unplaced.no_position o' n' u') = refl
  unplaced_one (Unplaced.no_position o n u) (Unplaced.no_stream o' n' p' u') = absurd (named_clash position_name s (name_one o' o n' n) p' u)
  unplaced_one (Unplaced.no_position o n u) (Unplaced.no_gv e g) = absurd (named_clash position_name s (name_one a_gv o e.named n) e.in_positions u)
  unplaced_one (Unplaced.no_stream o n p u) (Unplaced.no_name o' n') = absurd (no_such o' o n' n)
  unplaced_one (Unplaced.no_stream o n q u) (Unplaced.no_position o' n' u') = absurd (named_clash position_name s (name_one o o' n n') q u')
  unplaced_one (Unplaced.no_stream o n p u) (Unplaced.no_stream o' n' p' u') = refl
  unplaced_one (Unplaced.no_stream o n p u) (Unplaced.no_gv e g) = absurd (named_clash stream_name s (name_one a_gv o e.named n) e.in_streams u)
  unplaced_one (Unplaced.no_gv e g) (Unplaced.no_name o n) = absurd (no_such o a_gv n e.named)
  unplaced_one (Unplaced.no_gv e g) (Unplaced.no_position o n u) = absurd (named_clash position_name s (name_one a_gv o e.named n) e.in_positions u)
  unplaced_one (Unplaced.no_gv e g) (Unplaced.no_stream o n p u) = absurd (named_clash stream_name s (name_one a_gv o e.named n) e.in_streams u)
  unplaced_one (Unplaced.no_gv e g) (Unplaced.no_gv e' g') = refl

  -- ---- the models of a voice

  streams_one : {i : ℕ} {xs : List Span} {ms ns : List Model} → StreamModels s h i xs ms → StreamModels s h i xs ns → ms ≡ ns
  streams_one StreamModels.end StreamModels.end = refl
  streams_one (StreamModels.both {i = i} a u m) (StreamModels.both b v n) = ap (λ (l : List Model). stream i ∷ gv i ∷ l) (streams_one m n)
  streams_one (StreamModels.both a u m) (StreamModels.alone b v n) = differ (ap (λ (d : Stream). d.use_gv) (sym (named_one a b)) ∙ u) v
  streams_one (StreamModels.both a u m) (StreamModels.unnamed b n) = absurd (named_never a b)
  streams_one (StreamModels.alone a u m) (StreamModels.both b v n) = differ (ap (λ (d : Stream). d.use_gv) (named_one a b) ∙ v) u
  streams_one (StreamModels.alone {i = i} a u m) (StreamModels.alone b v n) = ap (λ (l : List Model). stream i ∷ l) (streams_one m n)
  streams_one (StreamModels.alone a u m) (StreamModels.unnamed b n) = absurd (named_never a b)
  streams_one (StreamModels.unnamed a m) (StreamModels.both b v n) = absurd (named_never b a)
  streams_one (StreamModels.unnamed a m) (StreamModels.alone b v n) = absurd (named_never b a)
  streams_one (StreamModels.unnamed {i = i} a m) (StreamModels.unnamed b n) = ap (λ (l : List Model). stream i ∷ l) (streams_one m n)

  pub models_one : {ms ns : List Model} → Models s h ms → Models s h ns → ms ≡ ns
  models_one (voice a) (voice b) = ap (λ (l : List Model). duration ∷ l) (streams_one a b)

  -- ---- the text of a model

  pub text_one : {m : Model} {t u : Text} {l k : Layout} → TextOf s h m t l → TextOf s h m u k → (t ≡ u) × (l ≡ k)
  text_one a b = says_once (says_in (data_of s h) (placed_one a.placed b.placed).0 a.says) b.says

  pub text_never : {m : Model} {t : Text} {l : Layout} {n p : ℕ} → TextOf s h m t l → NoTextOf s h m n p → ⊥
  text_never a (NoTextOf.unplaced u) = placed_never a.placed u
  text_never a (NoTextOf.outside p o) = o (subst (λ (r : Range). Within r (data_of s h)) (placed_one a.placed p).0 a.inside)
  text_never a (NoTextOf.breaks p i b) = breaks_silent b (says_in (data_of s h) (placed_one a.placed p).0 a.says)
  text_never a (NoTextOf.negative p i y g) =
      a.natural (subst (λ (x : Text). Negative x.trees) (sym (says_once (says_in (data_of s h) (placed_one a.placed p).0 a.says) y).0) g)

  pub no_text_one : {m : Model} {n k p q : ℕ} → NoTextOf s h m n p → NoTextOf s h m k q → (n ≡ k) × (p ≡ q)
  no_text_one (NoTextOf.unplaced a) (NoTextOf.unplaced b) = (unplaced_one a b, refl)
  no_text_one (NoTextOf.unplaced a) (NoTextOf.outside b o) = absurd (placed_never b a)
  no_text_one (NoTextOf.unplaced a) (NoTextOf.breaks b i x) = absurd (placed_never b a)
  no_text_one (NoTextOf.unplaced a) (NoTextOf.negative b i y g) = absurd (placed_never b a)
  no_text_one (NoTextOf.outside a o) (NoTextOf.unplaced b) = absurd (placed_never a b)
  no_text_one (NoTextOf.outside a o) (NoTextOf.outside b p) = (refl, refl)
  no_text_one (NoTextOf.outside a o) (NoTextOf.breaks b i x) = absurd (o (within_in (data_of s h) (placed_one b a).0 i))
  no_text_one (NoTextOf.outside a o) (NoTextOf.negative b i y g) = absurd (o (within_in (data_of s h) (placed_one b a).0 i))
  no_text_one (NoTextOf.breaks a i x) (NoTextOf.unplaced b) = absurd (placed_never a b)
  no_text_one (NoTextOf.breaks a i x) (NoTextOf.outside b o) = absurd (o (within_in (data_of s h) (placed_one a b).0 i))
  no_text_one (NoTextOf.breaks a i x) (NoTextOf.breaks b j y) = (refl, breaks_once (breaks_in (data_of s h) (placed_one a b).0 x) y)
  no_text_one (NoTextOf.breaks a i x) (NoTextOf.negative b j y g) = absurd (breaks_silent (breaks_in (data_of s h) (placed_one a b).0 x) y)
  no_text_one (NoTextOf.negative a i y g) (NoTextOf.unplaced b) = absurd (placed_never a b)
  no_text_one (NoTextOf.negative a i y g) (NoTextOf.outside b o) = absurd (o (within_in (data_of s h) (placed_one a b).0 i))
  no_text_one (NoTextOf.negative a i y g) (NoTextOf.breaks b j x) = absurd (breaks_silent (breaks_in (data_of s h) (placed_one b a).0 x) y)
  no_text_one (NoTextOf.negative a i y g) (NoTextOf.negative b j z k) = (refl, refl)
