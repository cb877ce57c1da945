-- A tree reached through the rows loads as the full load has it: the same question and pattern rows, row k of the trees with its records and values first, its records and its
-- values. Where linking refuses the model in tree k, it refuses that tree, with the same number and line. The walk of what the tree load left is the walk of tree k.
-- Assumes that the file is a slice: its length below 2^63, its elements bytes.
use mathlib.Core.Path.{◌≡◌, refl, sym, ap, ap₂, ◌∙◌, subst}
use mathlib.Core.List.{List, [], ◌∷◌, map, flatten, zip_with, append-nil}
use Prim.Native.Nat.{ℕ, ◌+◌, ◌*◌, ◌^◌, ◌≤◌, ◌<◌}
use native.Mathlib.Nat.{zero-add}
use native.Mathlib.Omega.{arith}
use lib.IntN.{pos}
use lib.ListN.{length, get_or, take, drop}
use lib.Seq.{sets}
use Rattle.written.specs.Said as said
use Rattle.written.specs.Said.{Text, Layout, Question}
use Rattle.written.specs.Linking.{Nth, here, there, Row, Records, Refused}
use Rattle.written.specs.Tables.{TreeRows, folded, tree_row, ModelRefused}
use Rattle.written.specs.Blocks as block
use Rattle.written.specs.Blocks.{total, rows_from}
use Rattle.written.specs.Walks.{Ending, Written, is_yes}
use Rattle.written.proofs.Folded.{wide_text, wide_folded}
use Rattle.written.proofs.Link.{records_linked}
use Rattle.written.proofs.Walk.{written_once}
use Rattle.written.proofs.OneBlock.{block_one}
use Rattle.written.proofs.ModelOnce.{model_rows_once, model_never_both}
use Rattle.written_trailer.proofs.OneTree.{LinkedAlone, linked_alone}
use Rattle.laws.proofs.Nth.{nth_inside}
use Rattle.head_record.specs.declared.Header.{Header}
use Rattle.tree_question.specs.Questions.{questions_at}
use Rattle.tree_body.specs.Trees.{Body, lone, braces, Tree, tree_of, head_at}
use Rattle.tree_survey.specs.Survey.{body_records}
use Rattle.pdf_blocks.specs.Values.{word_at, words_at, values_at}
use Rattle.pdf_blocks.proofs.Joined.{Small, fits_block}
use Rattle.pdf_values.specs.Folded.{with_blocks, begun}
use Rattle.pdf_values.proofs.Folded.{fold_stored}
use Rattle.text_parts.specs.Parts.{nat_of}
use Rattle.load_choose.specs.declared.Which.{Which}
use Rattle.load_questions.specs.Words.{pattern_words}
use Rattle.load_tree.specs.Bodies.{filled, TreeResult, body_result}
use Rattle.load_tree.proofs.Laws.{lone_size, lines_size}
use Rattle.load_trees.specs.Trees.{head_state, head_body, row_words, ended_at}
use Rattle.load_text.specs.Text.{words_at as question_words_at, kept}
use Rattle.load_plan.specs.Plans.{data_of}
use Rattle.load_plan.specs.declared.Plan.{Plan}
use Rattle.load_plan.proofs.Laws.{Was, was, needs_sound}
use Rattle.load_model.specs.Load.{loaded, Tables, After, answer_for, kept_trees}
use Rattle.load_model.proofs.Laws.{part_short, take_short}
use Rattle.trail_link.specs.One.{one_result, one_end, one_row}
use Rattle.trail_plan.specs.Plans.{values_from}
use Rattle.trail_plan.proofs.Laws.{total-part}
use Rattle.trail_load.specs.Load.{only_block, tree_filled}
use Rattle.table_rows.proofs.Fours.{fours_model}
use Rattle.walk.specs.Walking.{walk_of}
use Rattle.walk.specs.Answer.{answer_of, ending_answer}
use Rattle.walk.proofs.Demand.{flat_walk}
use Rattle.shown_text.proofs.Walks.{bytes_answer}
use Rattle.shown_load.proofs.Says.{cut_rows, load_walks}
use Rattle.shown_text.proofs.OneTree.{Verdict}
use Rattle.shown_text.proofs.Text.{text_questions, text_patterns, result_of, tree_said}
use Rattle.shown_load.specs.Stored.{Chose, Stored}
use Rattle.shown_load.proofs.Texts.{small_take, small_drop}
use Rattle.shown_one.specs.One.{OneStored}
use Rattle.shown_one.proofs.Steps.{Stepped, facts_of}
use Rattle.shown_one.proofs.Values.{values_part, block_row}
use Rattle.shown_one.proofs.Plan.{one_plan, at_tree}
use Rattle.load_tree.specs.declared.Filled.{Filled}
use Rattle.error.specs.declared.LineFault.{LineFault}
use Rattle.load_trees.specs.declared.TreeFault.{TreeFault}
use Rattle.std.specs.Prelude.{Err, Ok, Result, ⊤}

clash : {A : Type 0} → ◌≡◌ {A = ℕ} 0 1 → A
clash e = absurd (omega arith)

-- ---- one tree linked alone

-- what linking makes of it is what the model has for it
record Alone (R : TreeResult) (state first count lines : ℕ) (x : said.Tree) (table : List Row) : Type 0 where
  pub ends : R.ends ≡ filled count lines
  pub rows : R.rows ≡ flatten (take count (drop first table))
  pub state_is : nat_of x.state ≡ state

natural_state : {qs : List Question} {f n : ℕ} {x : said.Tree} {trees records : List Row} {m c l : ℕ} → TreeRows qs f (x ∷ []) ((n ∷ m ∷ c ∷ l ∷ []) ∷ trees) records → x.state ≡ pos n
natural_state (TreeRows.more s r l w) = s

alone : {qs : List Question} {x : said.Tree} {trees table : List Row} {k : ℕ} (a : LinkedAlone qs trees table k x) (R : TreeResult) → Verdict qs x.body R.ends R.rows
    → Alone R a.state a.first a.count a.lines x table
alone {qs} {x} {trees} {table} a R v = go R.ends refl v
  where
    s : x.state ≡ pos a.state
    s = natural_state a.by_itself

    refused : {c j : ℕ} → Refused qs x.body c j → Alone R a.state a.first a.count a.lines x table
    refused r = absurd (model_never_both a.by_itself (ModelRefused.here r))

    go : (e : Result Filled LineFault) → R.ends ≡ e → Verdict qs x.body e R.rows → Alone R a.state a.first a.count a.lines x table
    go (Err f) e r = refused r
    go (Ok b) e (rows, r, f, l, d) =
        let record { records = m; lines = n } = b in
        let z = model_rows_once (TreeRows.more {f = 0} s r d TreeRows.none) a.by_itself refl in
        let p = z.0 in
        let u : length rows ≡ a.count = cc in
        let w : n ≡ a.lines = cc in
        record {
          ends = e ∙ ap₂ filled (sym l ∙ u) w;
          rows = sym f ∙ ap flatten (sym (append-nil rows) ∙ z.1);
          state_is = ap nat_of s;
        }

body_records_lem : (s q : List ℕ) (n : ℕ) (b : Body) {a k : ℕ} → (body_result s q n b).ends ≡ filled a k → a ≡ body_records b
body_records_lem s q n (lone r) h = (lone_size s q n r h).0
body_records_lem s q n (braces ls) h = (lines_size s q n ls h).0

folded-nth : {ts : List Row} {bs : List block.Row} {k : ℕ} {r : Row} {b : block.Row} → Nth ts k r → Nth bs k b → Nth (folded ts bs) k (tree_row r b)
unfolding zip_with
folded-nth here here = here
folded-nth (there h) (there g) = there (folded-nth h g)

module _ (s : List ℕ) (h : Header) (which : Which) (short : length s < 2 ^ 63) where
  module _ {p : Plan} {t : Text} {l : Layout} (c : Chose s h which p t l) where
    abbrev pub S : List ℕ
    S = take p.text_end (data_of s h)

    abbrev pub W : Was S p.text p.first p.questions p.patterns p.trees p.records p.lines
    W = was S p.text (needs_sound s h which p c.plan).text

    pub S-short : length S < 2 ^ 63
    S-short = omega (arith, take_short p.text_end (data_of s h), part_short s h.data_start h.data_len)

    module _ {k : ℕ} {x : said.Tree} {y : said.TreePlace} (i : Nth t.trees k x) (j : Nth l.trees k y) where
      step : Stepped S y.star (tree_of x y)
      step = at_tree s h which c i j S-short

      -- read where it stands it is that tree
      pub result_is : one_result S p.text y.star ≡ result_of c.says W.begins S-short x y
      result_is = ap (body_result S (question_words_at S p.text) (length (questions_at S p.text).items)) (sym (facts_of S step).body)

      pub state_at : head_state (head_at S y.star) ≡ nat_of x.state
      state_at = sym (facts_of S step).state

  -- ---- where the full load is done

  module _ (small : Small s) {F : Tables} {X : After} (K : Stored s h which F X) {k : ℕ} {x : said.Tree} {y : said.TreePlace} (i : Nth K.t.trees k x) (j : Nth K.l.trees k y) where
    abbrev p : Plan
    p = K.p

    abbrev B : List ℕ
    B = take p.block_end (data_of s h)

    abbrev T : List ℕ
    T = take p.text_end (data_of s h)

    abbrev R : TreeResult
    R = one_result T p.text y.star

    -- tree k linked alone
    pub tree_alone : LinkedAlone K.t.questions K.tree_rows K.record_rows k x
    tree_alone = linked_alone K.linked i

    A : Alone R tree_alone.state tree_alone.first tree_alone.count tree_alone.lines x K.record_rows
    A = subst (λ (r : TreeResult). Alone r tree_alone.state tree_alone.first tree_alone.count tree_alone.lines x K.record_rows) (sym (result_is K.chose i j))
        (alone tree_alone (result_of K.chose.says (W K.chose).begins (S-short K.chose) x y) (tree_said K.chose.says (W K.chose).begins (S-short K.chose) i j))

    -- the block
    said_block : (p.entries ≡ total (words_at B p.block p.trees)) × (K.block_rows ≡ rows_from p.width 0 (words_at B p.block p.trees))
        × (K.read ≡ values_at B (p.block + 4 * p.trees) p.width (total (words_at B p.block p.trees)))
    said_block =
        let f = fits_block B (small_take p.block_end (data_of s h) (small_take h.data_len (drop h.data_start s) (small_drop h.data_start s small))) p.trees p.width p.block (sym (needs_sound s h which p K.chose.plan).block) in
        let o = block_one K.block f.1 in
        (f.0, o.0, o.1)

    within : k < p.trees
    within = omega (arith, nth_inside i, K.chose.trees)

    abbrev before : ℕ
    before = total (words_at B p.block k)

    abbrev own : ℕ
    own = word_at B (p.block + 4 * k)

    values_are : values_at B (values_from B p.block p.width p.trees k) p.width own ≡ take (own * p.width) (drop (0 + before * p.width) K.read)
    values_are =
        values_part B (p.block + 4 * p.trees) p.width before own (total (words_at B p.block p.trees)) (total-part B p.block k p.trees within)
        ∙ ap₂ (λ (n : ℕ) (l : List ℕ). take (own * p.width) (drop n l)) (sym (zero-add (before * p.width))) (sym said_block.2)

    one_ends : one_end T p.text y.star k ≡ Ok tt
    one_ends = ap (ended_at k) A.ends

    row_is : one_row T p.text y.star ≡ flatten (map begun ((tree_alone.state ∷ 0 ∷ tree_alone.count ∷ tree_alone.lines ∷ []) ∷ []))
    unfolding flatten map
    row_is = ap₂ (λ (n : ℕ) (e : Result Filled LineFault). row_words n 0 e) (state_at K.chose i j ∙ A.state_is) A.ends

    -- the load of tree k, in any tables
    pub as_full : (L : Tables) → OneStored K k L (tree_filled (data_of s h) k (one_plan (data_of s h) p (tree_of x y) k) L)
    unfolding tree_filled flatten zip_with
    as_full L =
        let P = one_plan (data_of s h) p (tree_of x y) k in
        let E = one_ends in
        record {
          state = tree_alone.state;
          first = tree_alone.first;
          count = tree_alone.count;
          lines = tree_alone.lines;
          value = 0 + before * p.width;
          entries = own;
          stands = folded-nth tree_alone.stands (subst (λ (l : List block.Row). Nth l k (record { first = 0 + before * p.width; entries = own })) (sym said_block.1) (block_row B p.block p.width k p.trees 0 within));
          counts = ap (answer_for P) E ∙ ap (λ (n : ℕ). loaded p.questions p.patterns 1 n (own * p.width)) records_are;
          at_questions = ap (λ (o : Result ⊤ TreeFault). kept o L.questions (question_words_at T p.text)) E ∙ ap (sets L.questions 0) (text_questions K.chose.says (W K.chose).begins (S-short K.chose));
          at_patterns = ap (λ (o : Result ⊤ TreeFault). kept o L.patterns (pattern_words (questions_at T p.text).items)) E ∙ ap (sets L.patterns 0) (text_patterns K.chose.says (W K.chose).begins (S-short K.chose));
          at_trees =
              ap (λ (o : Result ⊤ TreeFault). kept_trees o L.trees (one_row T p.text y.star) (only_block P)) E
              ∙ ap (λ (l : List ℕ). with_blocks (sets L.trees 0 l) 0 (only_block P)) row_is
              ∙ fold_stored L.trees 0 ((tree_alone.state ∷ 0 ∷ tree_alone.count ∷ tree_alone.lines ∷ []) ∷ []) (only_block P) (wide_text tree_alone.by_itself) refl;
          at_records = ap (λ (o : Result ⊤ TreeFault). kept o L.records R.rows) E ∙ ap (sets L.records 0) A.rows;
          at_values = ap (λ (o : Result ⊤ TreeFault). kept o L.values (values_at B P.block P.width P.entries)) E ∙ ap (sets L.values 0) values_are;
          at_work = refl;
        }
      where
        records_are : (one_plan (data_of s h) p (tree_of x y) k).records ≡ tree_alone.count
        records_are =
            sym (body_records_lem T (question_words_at T p.text) (length (questions_at T p.text).items) (head_body T (head_at T y.star)) A.ends ∙ sym (ap body_records (facts_of T (step K.chose i j)).body))

    -- ---- its walk

    -- over the tables cut to the rows that the load returned: the written walk of the text's tree
    pub one_walks : (L : Tables) → 6 ≤ length L.trees → 4 * tree_alone.count ≤ length L.records → (bytes : List ℕ) → length K.t.questions ≤ length bytes → (m : ℕ)
        → (e : Ending) × Written K.t.questions (λ n. is_yes (get_or bytes n 0)) x.body m e
        × (answer_of (walk_of (take 6 (tree_filled (data_of s h) k (one_plan (data_of s h) p (tree_of x y) k) L).tables.trees) (take (4 * tree_alone.count) (tree_filled (data_of s h) k (one_plan (data_of s h) p (tree_of x y) k) L).tables.records) 0 bytes m) ≡ ending_answer e)
    unfolding flatten zip_with as_full
    one_walks L room room-records bytes n m =
        let O = as_full L in
        let P = one_plan (data_of s h) p (tree_of x y) k in
        let r = tree_alone.by_itself in
        let four = wide_text r in
        let T₁ = cut_rows L.trees (folded ((tree_alone.state ∷ 0 ∷ tree_alone.count ∷ tree_alone.lines ∷ []) ∷ []) (only_block P)) 1 (wide_folded ((tree_alone.state ∷ 0 ∷ tree_alone.count ∷ tree_alone.lines ∷ []) ∷ []) (only_block P) four) refl (omega arith) O.at_trees in
        let R₁ = cut_rows L.records (take tree_alone.count (drop tree_alone.first K.record_rows)) tree_alone.count (fours_model r) (count_is r) room-records O.at_records in
        flat_walk (bytes_answer K.t.questions bytes n) r (only_block P) refl here m (ap₂ (λ (T R : List ℕ). walk_of T R 0 bytes m) T₁ R₁)
      where
        count_is : {qs : List Question} {f n c q d : ℕ} {z : said.Tree} {records : List Row} → TreeRows qs f (z ∷ []) ((n ∷ q ∷ c ∷ d ∷ []) ∷ []) records → c ≡ length records
        count_is (TreeRows.more {rows = rows} s r l TreeRows.none) = ap length (sym (append-nil rows))

    -- it answers as the walk of tree k over the full load's tables
    pub same_walks : (L : Tables) → 6 ≤ length L.trees → 4 * tree_alone.count ≤ length L.records → 6 * p.trees ≤ length F.trees → 4 * p.records ≤ length F.records
        → (bytes : List ℕ) → length K.t.questions ≤ length bytes → (m : ℕ)
        → answer_of (walk_of (take 6 (tree_filled (data_of s h) k (one_plan (data_of s h) p (tree_of x y) k) L).tables.trees) (take (4 * tree_alone.count) (tree_filled (data_of s h) k (one_plan (data_of s h) p (tree_of x y) k) L).tables.records) 0 bytes m)
        ≡ answer_of (walk_of (take (6 * p.trees) X.tables.trees) (take (4 * p.records) X.tables.records) k bytes m)
    same_walks L room room-records full full-records bytes n m =
        let one = one_walks L room room-records bytes n m in
        let all = load_walks K full full-records i bytes n m in
        let e = written_once (bytes_answer K.t.questions bytes n) (records_linked (records_in tree_alone.by_itself).1) one.1 all.1 in
        one.2 ∙ ap ending_answer e ∙ sym all.2
      where
        records_in : {qs : List Question} {f : ℕ} {z : said.Tree} {trees records : List Row} → TreeRows qs f (z ∷ []) trees records → (rows : List Row) × Records qs z.body rows
        records_in (TreeRows.more {rows = rows} s r l w) = (rows, r)
