-- Where linking refuses the model, it refuses that tree alone, with the same number, tree and line.
use mathlib.Core.Path.{◌≡◌, refl, sym, ap, ◌∙◌, subst}
use mathlib.Core.Bool.{false}
use mathlib.Core.List.{List, [], ◌∷◌, zip_with}
use Prim.Native.Nat.{ℕ, suc, ◌+◌, ◌^◌, ◌<◌}
use native.Mathlib.Nat.{zero-add}
use native.Mathlib.Omega.{arith}
use lib.ListN.{length}
use Rattle.written.specs.Said as said
use Rattle.written.specs.Said.{Text, Layout}
use Rattle.written.specs.Linking.{Nth, here, there}
use Rattle.written.proofs.Walk.{no_row}
use Rattle.head_record.specs.declared.Header.{Header}
use Rattle.tree_question.specs.Questions.{questions_at}
use Rattle.tree_body.specs.Trees.{Tree, tree_of, trees_at}
use Rattle.load_choose.specs.declared.Which.{Which}
use Rattle.load_tree.specs.Bodies.{TreeResult}
use Rattle.load_trees.specs.Trees.{all_linked, ended_at, then_rest, tree_result, trees_end}
use Rattle.load_text.specs.Text.{words_at, end_at}
use Rattle.load_plan.specs.Plans.{data_of}
use Rattle.load_plan.specs.declared.Plan.{Plan}
use Rattle.load_model.specs.Load.{Tables, answer_for}
use Rattle.trail_link.specs.One.{one_end}
use Rattle.trail_load.specs.Load.{tree_filled}
use Rattle.shown_text.proofs.Text.{trees_are}
use Rattle.shown_load.specs.Stored.{Chose}
use Rattle.shown_one.proofs.Plan.{one_plan}
use Rattle.shown_one.proofs.AsFull.{S, W, S-short, result_is}
use Rattle.load_tree.specs.declared.Filled.{Filled}
use Rattle.error.specs.declared.LineFault.{LineFault}
use Rattle.load_trees.specs.declared.TreeFault.{TreeFault}
use Rattle.std.specs.Prelude.{Err, Ok, Result, ⊤}

clash : {A : Type 0} → ◌≡◌ {A = ℕ} 0 1 → A
clash e = absurd (omega arith)

-- the tree at which linking ends, where c is the number of the first
record EndsAt (s q : List ℕ) (n c : ℕ) (ts : List Tree) (o : Result ⊤ TreeFault) : Type 0 where
  pub tree : ℕ
  pub it : Tree
  pub stands : Nth ts tree it
  pub ends : ended_at (c + tree) (tree_result s q n it).ends ≡ o

module _ (s q : List ℕ) (n : ℕ) where
  ends_at : (c : ℕ) (ts : List Tree) {o : Result ⊤ TreeFault} → trees_end s q n c ts ≡ o → all_linked o ≡ false → EndsAt s q n c ts o
  unfolding trees_end
  ends_at c [] e f = let z = ap all_linked e ∙ f in clash cc
  ends_at c (t ∷ ts) {o} e f = go (tree_result s q n t).ends refl e (λ g. ends_at (suc c) ts g f)
    where
      here_ends : ended_at c (tree_result s q n t).ends ≡ o → EndsAt s q n c (t ∷ ts) o
      here_ends h = let z : c + 0 ≡ c = omega arith in record { tree = 0; it = t; stands = here; ends = ap (λ (k : ℕ). ended_at k (tree_result s q n t).ends) z ∙ h }

      go : (r : Result Filled LineFault) → (tree_result s q n t).ends ≡ r → then_rest r (ended_at c r) (λ m. trees_end s q n (suc c) ts) ≡ o
          → (trees_end s q n (suc c) ts ≡ o → EndsAt s q n (suc c) ts o) → EndsAt s q n c (t ∷ ts) o
      go (Ok f) h e rest =
          let w = rest e in
          let z : c + suc w.tree ≡ suc c + w.tree = omega arith in
          record { tree = suc w.tree; it = w.it; stands = there w.stands; ends = ap (λ (k : ℕ). ended_at k (tree_result s q n w.it).ends) z ∙ w.ends }
      go (Err f) h e rest = here_ends (ap (ended_at c) h ∙ e)

-- a tree that is read is one of the text, in its place
record Said (ts : List said.Tree) (us : List said.TreePlace) (k : ℕ) (z : Tree) : Type 0 where
  pub tree : said.Tree
  pub place : said.TreePlace
  pub stands : Nth ts k tree
  pub placed : Nth us k place
  pub is : z ≡ tree_of tree place

said_nth : (ts : List said.Tree) (us : List said.TreePlace) {k : ℕ} {z : Tree} → Nth (zip_with tree_of ts us) k z → Said ts us k z
unfolding zip_with
said_nth [] us h = absurd (no_row h)
said_nth (t ∷ ts) [] h = absurd (no_row h)
said_nth (t ∷ ts) (u ∷ us) here = record { tree = t; place = u; stands = here; placed = here; is = refl }
said_nth (t ∷ ts) (u ∷ us) (there h) = let w = said_nth ts us h in record { tree = w.tree; place = w.place; stands = there w.stands; placed = there w.placed; is = w.is }

-- the answers of two plans to a refused linking
same_answer : (p q : Plan) (o : Result ⊤ TreeFault) → all_linked o ≡ false → answer_for p o ≡ answer_for q o
same_answer p q (Ok _) e = clash cc
same_answer p q (Err l) e = refl

-- the model's linking is refused in this tree, and so is the tree's alone
pub record RefusedAlone (s : List ℕ) (h : Header) (p : Plan) (t : Text) (l : Layout) (L : Tables) (o : Result ⊤ TreeFault) : Type 0 where
  pub tree : ℕ
  pub it : said.Tree
  pub place : said.TreePlace
  pub stands : Nth t.trees tree it
  pub placed : Nth l.trees tree place
  pub answers : (tree_filled (data_of s h) tree (one_plan (data_of s h) p (tree_of it place) tree) L).answer ≡ answer_for p o

module _ (s : List ℕ) (h : Header) (which : Which) (short : length s < 2 ^ 63) {p : Plan} {t : Text} {l : Layout} (c : Chose s h which p t l) where
  pub refused_alone : (L : Tables) {o : Result ⊤ TreeFault} → end_at (S s h which short c) p.text p.first ≡ o → all_linked o ≡ false → RefusedAlone s h p t l L o
  unfolding tree_filled
  refused_alone L {o} e f =
      let T = S s h which short c in
      let w = ends_at T (words_at T p.text) (length (questions_at T p.text).items) 0 (trees_at T p.first).items e f in
      let v = said_nth t.trees l.trees (subst (λ (ts : List Tree). Nth ts w.tree w.it) (trees_are c.says (W s h which short c).begins (S-short s h which short c)) w.stands) in
      let r = result_is s h which short c v.stands v.placed in
      let d : ended_at w.tree (tree_result T (words_at T p.text) (length (questions_at T p.text).items) (tree_of v.tree v.place)).ends ≡ o =
      ap (λ (z : Tree). ended_at w.tree (tree_result T (words_at T p.text) (length (questions_at T p.text).items) z).ends) (sym v.is)
      ∙ ap (λ (k : ℕ). ended_at k (tree_result T (words_at T p.text) (length (questions_at T p.text).items) w.it).ends) (sym (zero-add w.tree)) ∙ w.ends in
      let E : one_end T p.text v.place.star w.tree ≡ o = ap (λ (x : TreeResult). ended_at w.tree x.ends) r ∙ d in
      let P = one_plan (data_of s h) p (tree_of v.tree v.place) w.tree in
      record { tree = w.tree; it = v.tree; place = v.place; stands = v.stands; placed = v.placed; answers = ap (answer_for P) E ∙ same_answer P p o f }
