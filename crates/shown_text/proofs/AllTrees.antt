-- What is stored of a list of trees is their `TreeRows`, with 0, 0 where their blocks go, and where linking ends at a tree it is `ModelRefused` there, with that number and line.
-- Assumes of the questions what `OneTree` does, and that no state is negative.
use mathlib.Core.Path.{◌≡◌, refl, sym, ap₂, ◌∙◌, subst}
use mathlib.Core.List.{List, [], ◌∷◌, ◌++◌, map, zip_with, flatten}
use Prim.Native.Nat.{ℕ, suc, ◌+◌, ◌^◌, ◌<◌}
use native.Mathlib.Omega.{arith}
use lib.IntN.{ℤ, pos, negsuc}
use lib.ListN.{length}
use Rattle.written.specs.Said.{Tree, TreePlace, Question}
use Rattle.written.specs.TreeText.{Parted, last, next, Parting, TreeAt}
use Rattle.written.specs.Linking as L
use Rattle.written.specs.Linking.{Nth, Row, Records, Refused}
use Rattle.written.specs.Tables as T
use Rattle.written.specs.Tables.{TreeRows, ModelRefused, Negative, negative}
use Rattle.laws.proofs.Nth.{flatten-append}
use Rattle.pdf_values.specs.Folded.{begun}
use Rattle.link_order.specs.Keys.{name_at}
use Rattle.error.specs.Numbers.{fault_number}
use Rattle.tree_body.specs.Trees.{tree_of}
use Rattle.text_parts.specs.Parts.{nat_of}
use Rattle.load_tree.specs.Bodies.{filled, body_result}
use Rattle.load_trees.specs.Trees.{row_words, ended_at, then_rest, trees_end, tree_words, record_words}
use Rattle.shown_text.proofs.OneTree.{Verdict, tree_verdict}
use Rattle.load_tree.specs.declared.Filled.{Filled}
use Rattle.error.specs.declared.LineFault.{LineFault}
use Rattle.load_trees.specs.declared.TreeFault.{TreeFault}
use Rattle.std.specs.Prelude.{Err, Ok, Result, ⊤}

-- refused at tree a, where k is the number of the first
abbrev Refusal : List Question → List Tree → ℕ → ℕ → ℕ → ℕ → Type 0
Refusal qs ts k c a j = (i : ℕ) × (a ≡ k + i) × ModelRefused qs ts c i j

-- what `written` says of trees that end so, with these words, where k is the number of the first and f its first record
abbrev pub ModelVerdict : List Question → List Tree → ℕ → ℕ → Result ⊤ TreeFault → List ℕ → List ℕ → Type 0
ModelVerdict qs ts k f (Ok _) trees records = (t : List Row) × (r : List Row) × TreeRows qs f ts t r × (flatten (map begun t) ≡ trees) × (flatten r ≡ records)
ModelVerdict qs ts k f (Err l) trees records = let record { fault = g; tree = a; line = j } = l in Refusal qs ts k (fault_number g) a j

-- ---- one tree, and then the others

module _ (qs : List Question) (x : Tree) (ts : List Tree) where
  at_once : {c j : ℕ} (k : ℕ) → Refused qs x.body c j → Refusal qs (x ∷ ts) k c k j
  at_once k h = (0, omega arith, T.ModelRefused.here h)

  further : {c a j : ℕ} {rows : List Row} (k : ℕ) → Records qs x.body rows → Refusal qs ts (suc k) c a j → Refusal qs (x ∷ ts) k c a j
  further k r (i, e, m) = (suc i, omega (arith, e), T.ModelRefused.later r m)

  natural : (¬ Negative (x ∷ ts)) → x.state ≡ pos (nat_of x.state)
  natural h = go x.state refl
    where
      go : (z : ℤ) → x.state ≡ z → z ≡ pos (nat_of z)
      go (pos n) e = refl
      go (negsuc n) e = absurd (h (negative L.Nth.here e))

  then : (¬ Negative (x ∷ ts)) → (k f m n : ℕ) (w : List ℕ) → Verdict qs x.body (filled m n) w → (o : Result ⊤ TreeFault) (trees records : List ℕ) → ModelVerdict qs ts (suc k) (f + m) o trees records
      → ModelVerdict qs (x ∷ ts) k f o (nat_of x.state ∷ f ∷ m ∷ n ∷ 0 ∷ 0 ∷ trees) (w ++ records)
  unfolding flatten
  then h k f m n w (rows, r, e, l, d) (Ok _) trees records (t, u, v, a, b) = (
    (nat_of x.state ∷ f ∷ length rows ∷ n ∷ []) ∷ t,
    rows ++ u,
    T.TreeRows.more (natural h) r d (subst (λ (i : ℕ). TreeRows qs (f + i) ts t u) (sym l) v),
    ap₂ (λ (i : ℕ) (y : List ℕ). nat_of x.state ∷ f ∷ i ∷ n ∷ 0 ∷ 0 ∷ y) l a,
    flatten-append rows u ∙ ap₂ ◌++◌ e b,
  )
  then h k f m n w (rows, r, e, l, d) (Err t) trees records g = further k r g

  one_more : (¬ Negative (x ∷ ts)) → (k f : ℕ) (e : Result Filled LineFault) (w : List ℕ) → Verdict qs x.body e w
      → (o : Result ⊤ TreeFault) (trees : ℕ → List ℕ) (records : List ℕ) → ((g : ℕ) → ModelVerdict qs ts (suc k) g o (trees g) records)
      → ModelVerdict qs (x ∷ ts) k f (then_rest e (ended_at k e) (λ m. o)) (row_words (nat_of x.state) f e ++ then_rest e [] (λ m. trees (f + m))) (w ++ then_rest e [] (λ m. records))
  one_more h k f (Ok b) w v o trees records rest = let record { records = m; lines = n } = b in then h k f m n w v o (trees (f + m)) records (rest (f + m))
  one_more h k f (Err b) w v o trees records rest = at_once k v

-- ---- all trees

module _ (s words : List ℕ) (qs : List Question) (named : (e : ℕ) (q : Question) → Nth qs e q → name_at s words e ≡ q.name) (few : length qs < 2 ^ 63) where
  no_trees : (k f : ℕ) → ModelVerdict qs [] k f (trees_end s words (length qs) k []) (tree_words s words (length qs) f []) (record_words s words (length qs) [])
  unfolding trees_end tree_words record_words flatten
  no_trees k f = ([], [], T.TreeRows.none, refl, refl)

  pub trees_verdict : {i j : ℕ} {ts : List Tree} {us : List TreePlace} → Parted (Parting s) (TreeAt s) i j ts us → (¬ Negative ts) → (k f : ℕ)
      → ModelVerdict qs ts k f (trees_end s words (length qs) k (zip_with tree_of ts us)) (tree_words s words (length qs) f (zip_with tree_of ts us)) (record_words s words (length qs) (zip_with tree_of ts us))
  unfolding zip_with trees_end tree_words record_words
  trees_verdict (last {x = x} {y = y} t) h k f =
      let R = body_result s words (length qs) (tree_of x y).body in
      one_more qs x [] h k f R.ends R.rows (tree_verdict s words qs named few t) (trees_end s words (length qs) (suc k) []) (λ g. tree_words s words (length qs) g []) (record_words s words (length qs) []) (no_trees (suc k))
  trees_verdict (next {x = x} {y = y} {xs = xs} {ys = ys} t p r) h k f =
      let R = body_result s words (length qs) (tree_of x y).body in
      one_more qs x xs h k f R.ends R.rows (tree_verdict s words qs named few t) (trees_end s words (length qs) (suc k) (zip_with tree_of xs ys)) (λ g. tree_words s words (length qs) g (zip_with tree_of xs ys))
      (record_words s words (length qs) (zip_with tree_of xs ys)) (trees_verdict r (λ n. h (up n)) (suc k))
    where
      up : Negative xs → Negative (x ∷ xs)
      up (negative n e) = negative (L.Nth.there n) e
