-- The words of a text that is linked have the room that `Fits` asks for, so that they stand in the front of the tables that filling leaves.
use mathlib.Core.Path.{◌≡◌, refl, sym, ap, ◌∙◌, subst}
use mathlib.Core.List.{List, [], ◌∷◌, ◌++◌}
use Prim.Native.Nat.{ℕ, suc, ◌+◌, ◌*◌, ◌≤◌}
use native.Mathlib.Omega.{arith}
use lib.ListN.{length, take, length-append}
use lib.Seq.{sets, take_all}
use Rattle.laws.specs.Totals.{total}
use Rattle.laws.proofs.Tables.{part-sets}
use Rattle.tree_question.specs.Questions.{questions_at}
use Rattle.tree_body.specs.Trees.{Body, lone, braces, Tree, trees_at}
use Rattle.tree_survey.specs.Survey.{body_records, tree_records}
use Rattle.text_parts.specs.Parts.{nat_of}
use Rattle.load_tree.specs.Bodies.{filled, body_result}
use Rattle.load_tree.proofs.Laws.{lines_size, lone_size}
use Rattle.load_trees.specs.Trees.{row_words, ended_at, then_rest, trees_end, tree_words, record_words}
use Rattle.load_text.specs.Text.{Fits, words_at, end_at, trees_stored, records_stored, kept}
use Rattle.load_tree.specs.declared.Filled.{Filled}
use Rattle.error.specs.declared.LineFault.{LineFault}
use Rattle.load_trees.specs.declared.TreeFault.{TreeFault}
use Rattle.std.specs.Prelude.{Err, Ok, Result, ⊤}

-- ---- words in the front of a table

abbrev pub Front : List ℕ → List ℕ → Type 0
Front words t = take (length words) t ≡ words

-- of the table that they are
pub front_exact : (words : List ℕ) → Front words words
front_exact words = take_all (length words) words (omega arith)

-- of a table into which they were stored
pub front-stored : (words t : List ℕ) → length words ≤ length t → Front words (sets t 0 words)
front-stored words t h = part-sets t 0 words (omega arith)

-- ---- how many words are stored

module _ (s words : List ℕ) (n : ℕ) where
  body_size : (b : Body) {a k : ℕ} → (body_result s words n b).ends ≡ filled a k → (a ≡ body_records b) × (length (body_result s words n b).rows ≡ 4 * a)
  body_size (lone r) e = lone_size s words n r e
  body_size (braces ls) e = lines_size s words n ls e

  pub stored-length : (k f : ℕ) (zs : List Tree) → trees_end s words n k zs ≡ Ok tt → (length (tree_words s words n f zs) ≡ 6 * length zs) × (length (record_words s words n zs) ≡ 4 * total tree_records zs)
  unfolding trees_end tree_words record_words total
  stored-length k f [] e = (refl, refl)
  stored-length k f (z ∷ zs) e = go (body_result s words n z.body).ends refl e (λ g. stored-length (suc k) g zs)
    where
      go : (r : Result Filled LineFault) → (body_result s words n z.body).ends ≡ r → then_rest r (ended_at k r) (λ m. trees_end s words n (suc k) zs) ≡ Ok tt
          → ((g : ℕ) → trees_end s words n (suc k) zs ≡ Ok tt → (length (tree_words s words n g zs) ≡ 6 * length zs) × (length (record_words s words n zs) ≡ 4 * total tree_records zs))
          → (length (row_words (nat_of z.state) f r ++ then_rest r [] (λ m. tree_words s words n (f + m) zs)) ≡ 6 * suc (length zs))
          × (length ((body_result s words n z.body).rows ++ then_rest r [] (λ m. record_words s words n zs)) ≡ 4 * (body_records z.body + total tree_records zs))
      go (Ok m) q e rest =
          let record { records = a; lines = j } = m in
          let b = body_size z.body q in
          let c = rest (f + a) e in
          (omega (arith, c.0), omega (arith, length-append (body_result s words n z.body).rows (record_words s words n zs), b.0, b.1, c.1))
      go (Err f) q e rest = let u : ◌≡◌ {A = ℕ} 0 1 = cc in absurd (omega arith)

-- ---- the tables that filling leaves, where it is done: `fill_text`'s contract has `is` and the two equations

module _ (s : List ℕ) (i f n : ℕ) (trees₀ records₀ : List ℕ) {q p w : ℕ} (h : Fits s i f n q p (length trees₀) (length records₀) w) {o : Result ⊤ TreeFault} (is : o ≡ end_at s i f) (done : o ≡ (Ok tt)) where
  sizes : (length (trees_stored s i f) ≡ 6 * length (trees_at s f).items) × (length (records_stored s i f) ≡ 4 * total tree_records (trees_at s f).items)
  sizes = stored-length s (words_at s i) (length (questions_at s i).items) 0 0 (trees_at s f).items (sym is ∙ done)

  pub trees_front : (trees : List ℕ) → trees ≡ kept o trees₀ (trees_stored s i f) → Front (trees_stored s i f) trees
  trees_front trees e =
      subst (Front (trees_stored s i f)) (sym (e ∙ ap (λ (r : Result ⊤ TreeFault). kept r trees₀ (trees_stored s i f)) done)) (front-stored (trees_stored s i f) trees₀ (omega (arith, h.tree_room, sizes.0)))

  pub records_front : (records : List ℕ) → records ≡ kept o records₀ (records_stored s i f) → Front (records_stored s i f) records
  records_front records e =
      subst (Front (records_stored s i f)) (sym (e ∙ ap (λ (r : Result ⊤ TreeFault). kept r records₀ (records_stored s i f)) done)) (front-stored (records_stored s i f) records₀ (omega (arith, h.record_room, sizes.1)))
