-- A tree reached through the trailer: its row points at it, what stands there is that tree and no other, and linked alone it has the records that the whole model has for it.
--
use mathlib.Core.Path.{◌≡◌, refl, sym, ap, ◌∙◌, subst}
use mathlib.Core.List.{List, [], ◌∷◌, ◌++◌, append_assoc, append-nil}
use Prim.Native.Nat.{ℕ, zero, suc, ◌+◌, ◌*◌}
use native.Mathlib.Omega.{arith}
use lib.ListN.{length, take, drop, length-append}
use lib.Seq.{take_at, drop_at}
use Rattle.written.specs.Record.{Header}
use Rattle.written.specs.Said.{Tree, TreePlace, Question, Text, Layout}
use Rattle.written.specs.TreeText.{TreeAt}
use Rattle.written.specs.Linking.{Nth, here, there, Row}
use Rattle.written.specs.Tables.{LinesOf, TreeRows, ModelRefused}
use Rattle.written.specs.Models.{Model, model_number, data_of, TextOf}
use Rattle.written.specs.Trailer.{TrailerRows}
use Rattle.written.proofs.Once.{tree_once}
use Rattle.written.proofs.Walk.{nth_once}
use Rattle.written_trailer.proofs.TrailerFits.{tree_there}

-- ---- the k-th row of a model

-- its three numbers, of the rows ns
pub record RowOf (ns : List ℕ) (k m star lines : ℕ) : Type 0 where
  pub model : Nth ns (3 * k) m
  pub place : Nth ns (3 * k + 1) star
  pub count : Nth ns (3 * k + 2) lines

three_on : {a b c j v : ℕ} {ns : List ℕ} (i : ℕ) → i ≡ suc (suc (suc j)) → Nth ns j v → Nth (a ∷ b ∷ c ∷ ns) i v
three_on {a} {b} {c} {j} {v} {ns} i e n = subst (λ (k : ℕ). Nth (a ∷ b ∷ c ∷ ns) k v) (sym e) (there (there (there n)))

row_on : {a b c k m star lines : ℕ} {ns : List ℕ} → RowOf ns k m star lines → RowOf (a ∷ b ∷ c ∷ ns) (suc k) m star lines
row_on {k = k} r =
    record {
      model = three_on (3 * suc k) (omega arith) r.model;
      place = three_on (3 * suc k + 1) (omega arith) r.place;
      count = three_on (3 * suc k + 2) (omega arith) r.count;
    }

row_points : {m k : ℕ} {ts : List Tree} {us : List TreePlace} {ns : List ℕ} {x : Tree} {u : TreePlace} → TrailerRows m ts us ns → Nth ts k x → Nth us k u
    → (n : ℕ) × LinesOf x.body n × RowOf ns k m u.star n
row_points (TrailerRows.more {n = n} l r) here here = (n, l, record { model = here; place = there here; count = there (there here) })
row_points (TrailerRows.more l r) (there a) (there b) = let h = row_points r a b in (h.0, h.1, row_on h.2)
row_points {m = m} {k = k} {u = u} Rattle.written.specs.Trailer.none x14 _ = elim x14 [ ]

-- the row of the k-th tree of a model says where it stands and how many lines its row has
pub record Reached (s ns : List ℕ) (m k : ℕ) (x : Tree) : Type 0 where
  pub star : ℕ
  pub lines : ℕ
  pub end : ℕ
  pub place : TreePlace
  pub row : RowOf ns k m star lines
  pub lines_of : LinesOf x.body lines
  pub there_is : TreeAt s star end x place

pub reached : {s ns : List ℕ} {h : Header} {m : Model} {t : Text} {l : Layout} {k : ℕ} {x : Tree} (a : TextOf s h m t l) → TrailerRows (model_number m) t.trees l.trees ns → Nth t.trees k x
    → Reached (take (a.tree.to + 1) (data_of s h)) ns (model_number m) k x
reached a r n =
    let p = tree_there a.says n in
    let q = row_points r n p.2 in
    record { star = p.0.star; lines = q.0; end = p.1; place = p.0; row = q.2; lines_of = q.1; there_is = p.3 }

-- whoever reads a tree at that place reads this one
pub reached_only : {s ns : List ℕ} {m k i j : ℕ} {x y : Tree} {u : TreePlace} (a : Reached s ns m k x) → Nth ns (3 * k + 1) i → TreeAt s i j y u → y ≡ x
reached_only a n t = (tree_once t a.there_is (nth_once n a.row.place)).1

-- ---- linked alone

-- tree k of the rows, and the same tree as the only one
pub record LinkedAlone (qs : List Question) (trees table : List Row) (k : ℕ) (x : Tree) : Type 0 where
  pub state : ℕ
  pub first : ℕ
  pub count : ℕ
  pub lines : ℕ
  pub stands : Nth trees k (state ∷ first ∷ count ∷ lines ∷ [])
  pub by_itself : TreeRows qs 0 (x ∷ []) ((state ∷ 0 ∷ count ∷ lines ∷ []) ∷ []) (take count (drop first table))

cut_out : (pre rows rest : List Row) → take (length rows) (drop (length pre) (pre ++ (rows ++ rest))) ≡ rows
cut_out pre rows rest = ap (take (length rows)) (drop_at pre (rows ++ rest) (length pre) refl) ∙ take_at rows rest (length rows) refl

next_alone : {qs : List Question} {r : Row} {trees table : List Row} {k : ℕ} {x : Tree} → LinkedAlone qs trees table k x → LinkedAlone qs (r ∷ trees) table (suc k) x
next_alone a = record { state = a.state; first = a.first; count = a.count; lines = a.lines; stands = there a.stands; by_itself = a.by_itself }

linked_from : {qs : List Question} {ts : List Tree} {trees records : List Row} {k f : ℕ} {x : Tree} (pre : List Row)
    → TreeRows qs f ts trees records → f ≡ length pre → Nth ts k x → LinkedAlone qs trees (pre ++ records) k x
linked_from {qs} pre (TreeRows.more {f = f} {n = n} {m = m} {t = t} {rows = rows} {records = records} s r l w) e here =
    let c : take (length rows) (drop f (pre ++ (rows ++ records))) ≡ rows = ap (λ k. take (length rows) (drop k (pre ++ (rows ++ records)))) e ∙ cut_out pre rows records in
    record {
      state = n;
      first = f;
      count = length rows;
      lines = m;
      stands = here;
      by_itself = subst (TreeRows qs 0 (t ∷ []) ((n ∷ 0 ∷ length rows ∷ m ∷ []) ∷ [])) (append-nil rows ∙ sym c) (TreeRows.more s r l TreeRows.none);
    }
linked_from {qs} {k = suc k} {x = x} pre (TreeRows.more {f = f} {rows = rows} {trees = trees} {records = records} s r l w) e (there h) =
    next_alone (subst (λ z. LinkedAlone qs trees z k x) (append_assoc pre rows records) (linked_from (pre ++ rows) w (omega (arith, e, length-append pre rows)) h))
linked_from {qs = qs} {k = k} {x = x} pre (Rattle.written.specs.Tables.none {f = f}) e x17 = elim x17 [ ]

-- a tree of a model that links, taken alone, has the records that the model has for it, and the row with its first record at 0
pub linked_alone : {qs : List Question} {ts : List Tree} {trees records : List Row} {k : ℕ} {x : Tree} → TreeRows qs 0 ts trees records → Nth ts k x → LinkedAlone qs trees records k x
linked_alone r n = linked_from [] r refl n

-- the tree at which a model's linking is refused is refused alone, with the same number and line
pub refused_alone : {qs : List Question} {ts : List Tree} {c k j : ℕ} → ModelRefused qs ts c k j → (x : Tree) × Nth ts k x × ModelRefused qs (x ∷ []) c zero j
refused_alone (ModelRefused.here {t = t} r) = (t, here, ModelRefused.here r)
refused_alone (ModelRefused.later w r) = let h = refused_alone r in (h.0, there h.1, h.2)
