-- The rules on trees: ids that are judged to be in order are numbered (32), and leaves that are judged to fit are within their entries (34), both ways.
use mathlib.Core.Path.{◌≡◌, refl, sym, ap, ◌∙◌, subst}
use mathlib.Core.Bool.{Bool, true, false, cond, ◌&&◌, true≢false}
use mathlib.Core.List.{List, [], ◌∷◌, zip_with, Forall₂}
use Prim.Native.Nat.{ℕ, zero, suc, ◌+◌, ◌-◌, ◌^◌, ◌≤◌, ◌<◌}
use native.Mathlib.Omega.{arith}
use borrow.Author.Tests.{eqb-true, eq-eqb, leb-true, le-leb}
use lib.Dec.{eqb, leb}
use lib.IntN.{ℤ, pos, negsuc, neg_ℤ}
use lib.Signed.{mag}
use Rattle.written.specs.Bytes.{Span}
use Rattle.written.specs.Said as said
use Rattle.written.specs.Linking.{Nth, here, there}
use Rattle.written.specs.TreeText.{Parted, last, next, Parting, BodyAt, one, none, lines, TreeAt, tree}
use Rattle.written.specs.Writing.{Numbered}
use Rattle.written.specs.House.{IdsRun, Leaf}
use Rattle.laws.proofs.Every.{both, first_of, second_of}
use Rattle.tree_reference.specs.References.{index_of}
use Rattle.tree_line.specs.declared.Line as code
use Rattle.tree_body.specs.Trees.{Body, body_of, tree_of}
use Rattle.link_order.specs.Keys.{id_key}
use Rattle.link_find.specs.Find.{placed, ordered}
use Rattle.house_text.specs.Text.{bodies_hold, body_ids, ref_fits, line_fits, lines_fit, body_fits}
use Rattle.shown_accepts.proofs.Lines.{LineSaid, lines_said}

-- ---- a test on each tree

module _ {s : List ℕ} (p : ℕ → Body → Bool) (P : ℕ → said.Body → Type 0)
    (true_of : (k i j : ℕ) (t : said.Body) (ws : List Span) → BodyAt s i j t ws → p k (body_of t ws) ≡ true → P k t)
    (so-true : (k i j : ℕ) (t : said.Body) (ws : List Span) → BodyAt s i j t ws → P k t → p k (body_of t ws) ≡ true) where
  tree_true : (k : ℕ) {i j : ℕ} {t : said.Tree} {u : said.TreePlace} → TreeAt s i j t u → p k (body_of t.body u.names) ≡ true → P k t.body
  tree_true k (tree w a o x c b t) e = true_of k _ _ _ _ t e

  tree_so : (k : ℕ) {i j : ℕ} {t : said.Tree} {u : said.TreePlace} → TreeAt s i j t u → P k t.body → p k (body_of t.body u.names) ≡ true
  tree_so k (tree w a o x c b t) e = so-true k _ _ _ _ t e

  pub hold_each : (k : ℕ) {i j : ℕ} {ts : List said.Tree} {us : List said.TreePlace} → Parted (Parting s) (TreeAt s) i j ts us → bodies_hold p k (zip_with tree_of ts us) ≡ true
      → (m : ℕ) (x : said.Tree) → Nth ts m x → P (k + m) x.body
  unfolding zip_with bodies_hold
  hold_each k (last {x = t} a) e zero x here = let z : k ≡ k + 0 = omega arith in subst (λ (n : ℕ). P n t.body) z (tree_true k a (first_of _ _ e))
  hold_each k (last a) e (suc m) x (there n) = elim n [ ]
  hold_each k (next {x = t} a b c) e zero x here = let z : k ≡ k + 0 = omega arith in subst (λ (n : ℕ). P n t.body) z (tree_true k a (first_of _ _ e))
  hold_each k (next {x = t} {y = u} a b c) e (suc m) x (there n) = let z : suc k + m ≡ k + suc m = omega arith in subst (λ (n : ℕ). P n x.body) z (hold_each (suc k) c (second_of (p k (body_of t.body u.names)) _ e) m x n)

  pub each_hold : (k : ℕ) {i j : ℕ} {ts : List said.Tree} {us : List said.TreePlace} → Parted (Parting s) (TreeAt s) i j ts us
      → ((m : ℕ) (x : said.Tree) → Nth ts m x → P (k + m) x.body) → bodies_hold p k (zip_with tree_of ts us) ≡ true
  unfolding zip_with bodies_hold
  each_hold k (last {x = t} a) f = let z : k + 0 ≡ k = omega arith in both (tree_so k a (subst (λ (n : ℕ). P n t.body) z (f 0 t here))) refl
  each_hold k (next {x = t} a b c) f =
      let z : k + 0 ≡ k = omega arith in
      both (tree_so k a (subst (λ (n : ℕ). P n t.body) z (f 0 t here)))
      (each_hold (suc k) c (λ m x n. let z : k + suc m ≡ suc k + m = omega arith in subst (λ (n : ℕ). P n x.body) z (f (suc m) x (there n))))

-- ---- ids

placed_so : (k : ℕ) (x : ℤ) → mag x < 2 ^ 63 → eqb (id_key x + k) 9223372036854775808 ≡ true → x ≡ neg_ℤ (pos k)
placed_so zero (pos zero) h e = refl
placed_so zero (pos (suc n)) h e = absurd (omega (arith, eqb-true (9223372036854775808 + suc n + 0) 9223372036854775808 e))
placed_so (suc k) (pos n) h e = absurd (omega (arith, eqb-true (9223372036854775808 + n + suc k) 9223372036854775808 e))
placed_so zero (negsuc n) h e = absurd (omega (arith, eqb-true (9223372036854775807 - n + 0) 9223372036854775808 e))
placed_so (suc k) (negsuc n) h e = let z : n ≡ k = omega (arith, eqb-true (9223372036854775807 - n + suc k) 9223372036854775808 e) in ap negsuc z

so_placed : (k : ℕ) (x : ℤ) → mag x < 2 ^ 63 → x ≡ neg_ℤ (pos k) → eqb (id_key x + k) 9223372036854775808 ≡ true
so_placed zero x h e = ap (λ (y : ℤ). eqb (id_key y + 0) 9223372036854775808) e
so_placed (suc k) x h e =
    let m : mag (negsuc k) < 2 ^ 63 = subst (λ (y : ℤ). mag y < 2 ^ 63) e h in
    let z : 9223372036854775807 - k + suc k ≡ 9223372036854775808 = omega arith in
    ap (λ (y : ℤ). eqb (id_key y + suc k) 9223372036854775808) e ∙ eq-eqb _ _ z

module _ {s : List ℕ} where
  ordered_so : (k : ℕ) {ls : List said.Line} {cs : List code.Line} → Forall₂ (LineSaid s) ls cs → ordered k cs ≡ true → Numbered k ls
  unfolding ordered
  ordered_so k Forall₂.nil e = Numbered.none
  ordered_so k {ls = l ∷ ls} {cs = c ∷ cs} (Forall₂.cons a r) e = go (placed k c) refl (λ g. ordered_so (suc k) r g) e
    where
      go : (b : Bool) → placed k c ≡ b → (ordered (suc k) cs ≡ true → Numbered (suc k) ls) → cond b (ordered (suc k) cs) false ≡ true → Numbered k (l ∷ ls)
      go true f rest g = Numbered.more (placed_so k l.id a.small (ap (λ (x : ℤ). eqb (id_key x + k) 9223372036854775808) (sym a.id) ∙ f)) (rest g)
      go false f rest g = absurd (true≢false (sym g))

  so_ordered : (k : ℕ) {ls : List said.Line} {cs : List code.Line} → Forall₂ (LineSaid s) ls cs → Numbered k ls → ordered k cs ≡ true
  unfolding ordered
  so_ordered k Forall₂.nil Numbered.none = refl
  so_ordered k {ls = l ∷ ls} {cs = c ∷ cs} (Forall₂.cons a r) (Numbered.more e n) =
      ap (λ (b : Bool). cond b (ordered (suc k) cs) false) (ap (λ (x : ℤ). eqb (id_key x + k) 9223372036854775808) a.id ∙ so_placed k l.id a.small e) ∙ so_ordered (suc k) r n

  pub ids_run : (k i j : ℕ) (t : said.Body) (ws : List Span) → BodyAt s i j t ws → body_ids (body_of t ws) ≡ true → IdsRun t
  ids_run k i j t ws (one r) e = IdsRun.alone
  ids_run k i j t ws (none o b z) e = IdsRun.lines Numbered.none
  ids_run k i j t ws (lines o b ls c z) e = IdsRun.lines (ordered_so 0 (lines_said s ls) e)

  pub run_ids : (k i j : ℕ) (t : said.Body) (ws : List Span) → BodyAt s i j t ws → IdsRun t → body_ids (body_of t ws) ≡ true
  unfolding ordered zip_with
  run_ids k i j t ws (one r) n = refl
  run_ids k i j t ws (none o b z) n = refl
  run_ids k i j t ws (lines o b ls c z) (IdsRun.lines n) = so_ordered 0 (lines_said s ls) n

-- ---- leaves

-- a number is one of so many entries
abbrev pub Within : ℕ → ℕ → Type 0
Within e n = (1 ≤ n) × (n ≤ e)

leaf_so : (e n : ℕ) → (leb 1 n && leb n e) ≡ true → Within e n
leaf_so e n h = (leb-true 1 n (first_of (leb 1 n) (leb n e) h), leb-true n e (second_of (leb 1 n) (leb n e) h))

so_leaf : (e n : ℕ) → Within e n → (leb 1 n && leb n e) ≡ true
so_leaf e n (a, b) = both (le-leb 1 n a) (le-leb n e b)

ref_so : (e : ℕ) (r : said.Ref) → ref_fits e (index_of r) ≡ true → (n : ℕ) → r ≡ said.pdf n → Within e n
ref_so e (said.node x) h n q = let u : ◌≡◌ {A = ℕ} 0 1 = cc in absurd (omega arith)
ref_so e (said.pdf m) h n q = let z : m ≡ n = cc in subst (Within e) z (leaf_so e m h)

so_ref : (e : ℕ) (r : said.Ref) → ((n : ℕ) → r ≡ said.pdf n → Within e n) → ref_fits e (index_of r) ≡ true
so_ref e (said.node x) f = refl
so_ref e (said.pdf n) f = so_leaf e n (f n refl)

module _ {s : List ℕ} where
  lines_so : (e : ℕ) {ls : List said.Line} {cs : List code.Line} → Forall₂ (LineSaid s) ls cs → lines_fit e cs ≡ true
      → (k : ℕ) (l : said.Line) → Nth ls k l → (n : ℕ) → ((l.yes ≡ said.pdf n → Within e n) × (l.no ≡ said.pdf n → Within e n))
  unfolding lines_fit
  lines_so e {ls = []} {cs = []} Forall₂.nil h k x m n = elim m [ ]
  lines_so e {ls = l ∷ ls} {cs = c ∷ cs} (Forall₂.cons a r) h zero x here n =
      let g = first_of (line_fits e c) (lines_fit e cs) h in (
        ref_so e l.yes (ap (ref_fits e) (sym a.yes) ∙ first_of (ref_fits e c.yes) (ref_fits e c.no) g) n,
        ref_so e l.no (ap (ref_fits e) (sym a.no) ∙ second_of (ref_fits e c.yes) (ref_fits e c.no) g) n,
      )
  lines_so e {cs = c ∷ cs} (Forall₂.cons a r) h (suc k) x (there m) n = lines_so e r (second_of (line_fits e c) (lines_fit e cs) h) k x m n
  lines_so e {ls = l ∷ ls} {cs = []} x14 h k x m n = elim x14 [ ]

  so_lines : (e : ℕ) {ls : List said.Line} {cs : List code.Line} → Forall₂ (LineSaid s) ls cs
      → ((k : ℕ) (l : said.Line) → Nth ls k l → (n : ℕ) → ((l.yes ≡ said.pdf n → Within e n) × (l.no ≡ said.pdf n → Within e n))) → lines_fit e cs ≡ true
  unfolding lines_fit
  so_lines e Forall₂.nil f = refl
  so_lines e {ls = l ∷ ls} (Forall₂.cons a r) f =
      both
      (both (ap (ref_fits e) a.yes ∙ so_ref e l.yes (λ n q. (f 0 l here n).0 q)) (ap (ref_fits e) a.no ∙ so_ref e l.no (λ n q. (f 0 l here n).1 q)))
      (so_lines e r (λ k x m n. f (suc k) x (there m) n))

  pub leaves_fit : (e i j : ℕ) (t : said.Body) (ws : List Span) → BodyAt s i j t ws → body_fits e (body_of t ws) ≡ true → (n : ℕ) → Leaf t n → Within e n
  leaves_fit e i j t ws (one {r = r} a) h n Leaf.alone = ref_so e (said.pdf n) h n refl
  leaves_fit e i j t ws (none o b z) h n (Leaf.yes_side k q) = elim k [ ]
  leaves_fit e i j t ws (none o b z) h n (Leaf.no_side k q) = elim k [ ]
  leaves_fit e i j t ws (lines o b ls c z) h n (Leaf.yes_side {l = l} {k = k} a q) = (lines_so e (lines_said s ls) h k l a n).0 q
  leaves_fit e i j t ws (lines o b ls c z) h n (Leaf.no_side {l = l} {k = k} a q) = (lines_so e (lines_said s ls) h k l a n).1 q

  pub fit_leaves : (e i j : ℕ) (t : said.Body) (ws : List Span) → BodyAt s i j t ws → ((n : ℕ) → Leaf t n → Within e n) → body_fits e (body_of t ws) ≡ true
  unfolding lines_fit zip_with
  fit_leaves e i j t ws (one {r = r} a) f = so_ref e r (λ n q. f n (subst (λ (x : said.Ref). Leaf (said.lone x) n) (sym q) Leaf.alone))
  fit_leaves e i j t ws (none o b z) f = refl
  fit_leaves e i j t ws (lines o b ls c z) f = so_lines e (lines_said s ls) (λ k l a n. (λ q. f n (Leaf.yes_side a q), λ q. f n (Leaf.no_side a q)))
