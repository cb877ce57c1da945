-- How a load into one task's rows ends, of words that an opening of the file wrote: as the same load into tables of just the rows that the model needs, put where the task has them.
use mathlib.Core.Path.{◌≡◌, refl, sym, ap, ap₂, ◌∙◌, subst, fun_ext}
use mathlib.Core.Bool.{Bool, true, false, cond, true≢false}
use mathlib.Core.List.{List, [], ◌∷◌, flatten}
use Prim.Native.Nat.{ℕ, ◌*◌, ◌/◌, ◌^◌, ◌≤◌, ◌<◌}
use native.Mathlib.Nat.{one-mul}
use native.Mathlib.Omega.{arith}
use borrow.Author.Tests.{le-leb, leb-true}
use lib.Dec.{leb}
use lib.IntN.{ℤ, pos}
use lib.ListN.{length, take, drop, replicate}
use lib.Seq.{sets}
use Rattle.written.specs.Record as record_of
use Rattle.written.specs.Said as said_of
use Rattle.written.specs.Said.{Layout}
use Rattle.written.specs.TreeText.{Says}
use Rattle.written.specs.Blocks as block
use Rattle.written.specs.Linking.{Row}
use Rattle.written.specs.Tables.{TreeRows, ModelRefused, question_rows, pattern_rows, folded}
use Rattle.written.specs.Models as models
use Rattle.written.specs.Loading.{ModelSaid, ReadsModel}
use Rattle.written.specs.Sharing.{Side, Table, questions, patterns, trees, records, values, Tables, Held, seen, placed, zeros, Exactly, Stand, stands}
use Rattle.written.proofs.Once.{says_once}
use Rattle.written.proofs.OneBlock.{block_one}
use Rattle.written.proofs.Folded.{wide_text, wide_folded, length-folded}
use Rattle.table_rows.proofs.Stand.{length-flat}
use Rattle.table_rows.proofs.Fours.{fours_model}
use Rattle.error.specs.Numbers.{number_of, place_of, line_of}
use Rattle.error.specs.declared.Refusal.{Refusal}
use Rattle.error.specs.declared.Refusal.TheVariants as refusal
use Rattle.head_record.specs.Record.{header_record}
use Rattle.head_record.specs.declared.Header.{Header}
use Rattle.head_de.proofs.Sound.{Bytes}
use Rattle.pdf_widen.specs.Widening.{widen_of}
use Rattle.load_choose.specs.declared.Which.{Which}
use Rattle.load_text.specs.Text.{end_at}
use Rattle.load_plan.specs.Plans.{planned}
use Rattle.load_plan.specs.Plans as plans
use Rattle.load_plan.specs.declared.Plan.{Plan}
use Rattle.load_plan.proofs.Laws.{was, needs_sound}
use Rattle.load_model.specs.Load.{loaded as ending, Tables as Lent, After, room_in, answer_for, filled, untouched, load_for, load_of}
use Rattle.load_apart.proofs.Tests.{both, stands_is, is_stands}
use Rattle.load_apart.proofs.Apart.{exactly_seen}
use Rattle.load_shared.specs.Beside.{rows_of, with_work, put_back, placed_in, room_by, beside_for, beside_of}
use Rattle.load_bounds.specs.Bounds.{need_of}
use Rattle.load_shared.proofs.Laws.{room_true}
use Rattle.face_model.specs.Answers.{rows_by}
use Rattle.face_load.specs.Answers.{filled_by, filled_in, filled_of}
use Rattle.face_put.specs.Put.{rows_numbers}
use Rattle.shown_words.proofs.Shaped.{record_back}
use Rattle.shown_text.proofs.Text.{text_questions, text_patterns}
use Rattle.shown_load.specs.Stored.{Stored}
use Rattle.shown_load.proofs.Says.{S-short, load_stored, load_unlinked}
use Rattle.shown_load.proofs.Numbers.{fault_between, demand₁}
use Rattle.shown_models.proofs.Chosen.{which_of}
use Rattle.shown_apart.proofs.Fills.{sets_all, question_words, pattern_words_lem}
use Rattle.promises.specs.Opening.{record_words}
use Rattle.promises.specs.Loading.{widening, done_numbers}
use Rattle.promises.specs.Sharing.{needed, model_rows, RoomBeside, zero_work, BesideEnds, loaded, no_room, unlinked}
use Rattle.promises.proofs.Moved.{moved₂}
use Rattle.promises.proofs.Asked.{which_number, record_judged}
use Rattle.promises.proofs.NoModel.{no_model}
use Rattle.promises.proofs.Plans.{PlanSaid, plan_said}
use Rattle.load_model.specs.declared.Loaded.{Loaded}
use Rattle.load_trees.specs.declared.TreeFault.{TreeFault}
use Rattle.std.specs.Prelude.{Err, Ok, Result, ⊤}

clash : {A : Type 0} → ◌≡◌ {A = ℕ} 0 1 → A
clash e = absurd (omega arith)

-- ---- what a plan says is a model that is read

module _ {s : List ℕ} {h : record_of.Header} {m : models.Model} {p : Plan} (k : PlanSaid s h m p) where
  abbrev pub said : ModelSaid
  said = record { text = k.text; rows = k.rows; width = p.width; values = k.values }

  pub reads : ReadsModel widening s h m said k.layout
  reads =
      record {
        text_at = k.text_at;
        block_range = k.block_range;
        placed = k.placed;
        narrow = k.narrow;
        text_inside = k.text_inside;
        text_says = k.text_says;
        natural = k.natural;
        block_inside = k.block_inside;
        block_says = k.block_says;
      }

  -- and it needs what the plan needs
  pub need_is : need_of p ≡ needed said
  need_is = fun_ext at
    where
      at : (j : Table) → need_of p j ≡ needed said j
      at questions = k.questions
      at patterns = k.patterns
      at trees = k.trees
      at records = k.records
      at values = k.entries

  module _ (other : Held) (t : Lent) where
    pub room_there : RoomBeside said other t → room_by p other t ≡ true
    room_there r =
        rw (
          is_stands (rows_of t) (need_of p) other (subst (λ (n : Held). Stand (rows_of t) n other) (sym need_is) r.rows),
          le-leb p.lines (length t.work / 6) (subst (λ (n : ℕ). n ≤ length t.work / 6) (sym k.lines) r.work),
        )

    pub there_room : room_by p other t ≡ true → RoomBeside said other t
    there_room e =
        let b = both (stands (rows_of t) (need_of p) other) (leb p.lines (length t.work / 6)) e in
        record {
          rows = subst (λ (n : Held). Stand (rows_of t) n other) need_is (stands_is (rows_of t) (need_of p) other b.0);
          work = subst (λ (n : ℕ). n ≤ length t.work / 6) k.lines (leb-true p.lines (length t.work / 6) b.1);
        }

-- what linking refuses is above 20
above : (p : Plan) (o : Result ⊤ TreeFault) {y : Refusal} → answer_for p o ≡ Err y → 20 < number_of y
above p (Ok _) e = clash (cc)
above p (Err l) {y} e = let record { fault = g; tree = i; line = k } = l in let u : refusal.Unlinked g i k ≡ y = cc in subst (λ (z : Refusal). 20 < number_of z) u (fault_between g).0

module _ {s : List ℕ} (bytes : Bytes s) {h : record_of.Header} (says : record_of.Says s h) (m : models.Model) (x : Side) (other : Held) (t : Lent) where
  abbrev pub L : After
  L = beside_of x s (header_record h) (which_of m) other t

  abbrev pub Ends : Result Loaded Refusal → Lent → Type 0
  Ends a u = BesideEnds x s h m other t (rows_numbers (rows_by a)) u

  abbrev D : List ℕ
  D = plans.data_of s (header_record h)

  short : length s < 2 ^ 63
  short = let l = says.fits in omega arith

  -- ---- a plan that fits

  module _ (p : Plan) (q : Ok p ≡ planned s (header_record h) (which_of m)) (room : room_by p other t ≡ true) where
    abbrev f : PlanSaid s h m p
    f = plan_said bytes says m p q

    -- tables of just its rows, as the task has them
    abbrev T : Lent
    T = with_work (seen x (need_of p) (rows_of t)) t.work

    exact : Exactly (need_of p) (seen x (need_of p) (rows_of t))
    exact = exactly_seen x (need_of p) other (rows_of t) (stands_is (rows_of t) (need_of p) other (both (stands (rows_of t) (need_of p) other) (leb p.lines (length t.work / 6)) room).0)

    room_in_lem : room_in p T ≡ true
    room_in_lem =
        room_true p (length T.questions) (length T.patterns) (length T.trees) (length T.records) (length T.values) (length T.work) (omega (arith, exact questions)) (omega (arith, exact patterns))
        (omega (arith, exact trees)) (omega (arith, exact records)) (let e : length T.values ≡ p.entries * p.width = exact values ∙ one-mul (p.entries * p.width) in omega (arith, e))
        (leb-true p.lines (length t.work / 6) (both (stands (rows_of t) (need_of p) other) (leb p.lines (length t.work / 6)) room).1)

    -- the load into them
    abbrev A : After
    A = load_of s (header_record h) (which_of m) T

    A-is : A ≡ filled D p T
    unfolding load_of
    A-is = ap (λ (o : Result Plan Refusal). load_for D o T) (sym q) ∙ ap (λ (b : Bool). cond b (filled D p T) (untouched refusal.Room T)) room_in_lem

    -- is the load into the task's rows, put there
    L-is : L ≡ put_back x p t A
    unfolding beside_of placed_in
    L-is =
        ap (λ (o : Result Plan Refusal). beside_for x other D o t) (sym q) ∙ ap (λ (b : Bool). cond b (placed_in x D p t) (untouched refusal.Room t)) room
        ∙ ap (put_back x p t) (sym A-is)

    -- done: its rows stand there
    done : {n₁ n₂ n₃ n₄ n₅ : ℕ} → A.answer ≡ ending n₁ n₂ n₃ n₄ n₅ → Ends L.answer L.tables
    done e = stored_so (load_stored s (header_record h) (which_of m) short bytes.below T e)
      where
        stored_so : Stored s (header_record h) (which_of m) T A → Ends L.answer L.tables
        stored_so k =
            let g : Ok k.p ≡ Ok p = k.chose.plan ∙ sym q in
            let p≡ : k.p ≡ p = cc in
            let a = says_once (subst (λ (p : Plan). Says (take p.text_end D) p.text k.t k.l) p≡ k.chose.says) f.own_says in
            let b = block_one (subst (λ (p : Plan). block.Block (widen_of 8 23 11 52) p.trees p.width (drop p.block (take p.block_end D)) k.block_rows k.read) p≡ k.block) f.own_block in
            let rows : TreeRows f.text.questions 0 f.text.trees k.tree_rows k.record_rows = subst (λ (t : said_of.Text). TreeRows t.questions 0 t.trees k.tree_rows k.record_rows) a.0 k.linked in
            moved₂ (BesideEnds x s h m other t) (numbers k p≡) (tables k p≡ a.1 b.0 b.1) (loaded (reads f) (there_room f other t room) rows)
          where
            numbers : (k : Stored s (header_record h) (which_of m) T A) → k.p ≡ p → rows_numbers (rows_by L.answer) ≡ done_numbers (said f) k.record_rows
            numbers k p≡ =
                ap (λ (o : After). rows_numbers (rows_by o.answer)) L-is ∙ ap (λ (l : Result Loaded Refusal). rows_numbers (rows_by l)) k.counts
                ∙ ap (λ (p : Plan). 0 ∷ 0 ∷ 0 ∷ p.questions ∷ p.patterns ∷ p.trees ∷ k.p.records ∷ p.entries * p.width ∷ []) p≡
                ∙ (λ i. 0 ∷ 0 ∷ 0 ∷ f.questions i ∷ f.patterns i ∷ f.trees i ∷ k.record_count i ∷ f.entries i ∷ [])

            -- words as many as a table has numbers are the table
            whole : (u : List ℕ) (v w : List ℕ) (n : ℕ) → u ≡ sets v 0 w → length v ≡ n → length w ≡ n → u ≡ w
            whole u v w n e l l' = e ∙ sets_all v w (l' ∙ sym l)

            S : List ℕ
            S = take p.text_end D

            tables : (k : Stored s (header_record h) (which_of m) T A) → k.p ≡ p → k.l ≡ f.layout → k.block_rows ≡ f.rows → k.read ≡ f.values
                → L.tables ≡ zero_work (placed x (needed (said f)) (model_rows (said f) f.layout k.tree_rows k.record_rows) (rows_of t)) t
            tables k p≡ a b c =
                ap (λ (o : After). o.tables) L-is
                ∙ ap₂ (λ (u : Tables) (w : List ℤ). with_work (placed x (need_of p) u (rows_of t)) w) (fun_ext at) k.at_work
                ∙ ap (λ (n : Held). zero_work (placed x n (model_rows (said f) f.layout k.tree_rows k.record_rows) (rows_of t)) t) (need_is f)
              where
                sound : plans.Sound D p
                sound = needs_sound s (header_record h) (which_of m) p q

                at : (j : Table) → rows_of A.tables j ≡ model_rows (said f) f.layout k.tree_rows k.record_rows j
                at questions =
                    whole A.tables.questions T.questions (flatten (question_rows 0 f.layout.questions)) (4 * p.questions)
                    (k.at_questions ∙ ap (λ (l : Layout). sets T.questions 0 (flatten (question_rows 0 l.questions))) a) (exact questions)
                    (sym (ap length (text_questions f.own_says (was S p.text sound.text).begins (S-short s (header_record h) (which_of m) short bytes.below p q))) ∙ question_words D p sound t.work)
                at patterns =
                    whole A.tables.patterns T.patterns (flatten (pattern_rows f.layout.questions)) (2 * p.patterns)
                    (k.at_patterns ∙ ap (λ (l : Layout). sets T.patterns 0 (flatten (pattern_rows l.questions))) a) (exact patterns)
                    (sym (ap length (text_patterns f.own_says (was S p.text sound.text).begins (S-short s (header_record h) (which_of m) short bytes.below p q))) ∙ pattern_words_lem D p sound t.work)
                at trees =
                    let F = folded k.tree_rows k.block_rows in
                    let many : length F ≡ p.trees = length-folded k.tree_rows k.block_rows (sym k.block_count) ∙ sym k.tree_count ∙ ap (λ (p : Plan). p.trees) p≡ in
                    whole A.tables.trees T.trees (flatten F) (6 * p.trees) k.at_trees (exact trees)
                    (length-flat F (wide_folded k.tree_rows k.block_rows (wide_text k.linked)) ∙ ap (λ (n : ℕ). 6 * n) many)
                    ∙ ap (λ (r : List block.Row). flatten (folded k.tree_rows r)) b
                at records =
                    whole A.tables.records T.records (flatten k.record_rows) (4 * p.records) k.at_records (exact records)
                    (length-flat k.record_rows (fours_model k.linked) ∙ ap (λ (n : ℕ). 4 * n) (sym k.record_count ∙ ap (λ (p : Plan). p.records) p≡))
                at values =
                    whole A.tables.values T.values f.values (1 * (p.entries * p.width)) (k.at_values ∙ ap (sets T.values 0) c) (exact values)
                    (sym f.entries ∙ sym (one-mul (p.entries * p.width)))

    -- linking is refused: zeros there
    refused_link : {y : Refusal} → A.answer ≡ Err y → 20 < number_of y → Ends L.answer L.tables
    refused_link {y} e above =
        let k = load_unlinked s (header_record h) (which_of m) short bytes.below T y e above in
        let g : Ok k.p ≡ Ok p = k.chose.plan ∙ sym q in
        let p≡ : k.p ≡ p = cc in
        let a = says_once (subst (λ (p : Plan). Says (take p.text_end D) p.text k.t k.l) p≡ k.chose.says) f.own_says in
        let r : ModelRefused f.text.questions f.text.trees (number_of y) (place_of y) (line_of y) = subst (λ (t : said_of.Text). ModelRefused t.questions t.trees (number_of y) (place_of y) (line_of y)) a.0 k.refused in
        moved₂ (BesideEnds x s h m other t) (ap (λ (o : After). rows_numbers (rows_by o.answer)) L-is ∙ ap (λ (l : Result Loaded Refusal). rows_numbers (rows_by l)) e) zeroed
        (unlinked (reads f) (there_room f other t room) r)
      where
        zeroed : L.tables ≡ zero_work (placed x (needed (said f)) (zeros (needed (said f))) (rows_of t)) t
        zeroed =
            let z = (demand₁ s (header_record h) (which_of m) T y e).2 above in
            ap (λ (o : After). o.tables) L-is ∙ ap₂ (λ (u : Tables) (w : List ℤ). with_work (placed x (need_of p) u (rows_of t)) w) (fun_ext (at z)) z.5
            ∙ ap (λ (n : Held). zero_work (placed x n (zeros n) (rows_of t)) t) (need_is f)
          where
            at : (A.tables.questions ≡ replicate (length T.questions) 0) × (A.tables.patterns ≡ replicate (length T.patterns) 0) × (A.tables.trees ≡ replicate (length T.trees) 0)
                × (A.tables.records ≡ replicate (length T.records) 0) × (A.tables.values ≡ replicate (length T.values) 0) × (A.tables.work ≡ replicate (length T.work) (pos 0))
                → (j : Table) → rows_of A.tables j ≡ zeros (need_of p) j
            at z questions = z.0 ∙ ap (λ (n : ℕ). replicate n 0) (exact questions)
            at z patterns = z.1 ∙ ap (λ (n : ℕ). replicate n 0) (exact patterns)
            at z trees = z.2 ∙ ap (λ (n : ℕ). replicate n 0) (exact trees)
            at z records = z.3 ∙ ap (λ (n : ℕ). replicate n 0) (exact records)
            at z values = z.4 ∙ ap (λ (n : ℕ). replicate n 0) (exact values)

    fits : Ends L.answer L.tables
    unfolding filled
    fits = by_answer (filled D p T).answer (ap (λ (o : After). o.answer) A-is)
      where
        by_answer : (a : Result Loaded Refusal) → A.answer ≡ a → Ends L.answer L.tables
        by_answer (Ok l) d = done d
        by_answer (Err y) d = refused_link d (above p (end_at (take p.text_end D) p.text p.first) (sym (ap (λ (o : After). o.answer) A-is) ∙ d))

  -- how every load ends
  pub beside_ends : Ends L.answer L.tables
  unfolding beside_of
  beside_ends = go (planned s (header_record h) (which_of m)) refl
    where
      room : (p : Plan) → Ok p ≡ planned s (header_record h) (which_of m) → (c : Bool) → room_by p other t ≡ c → L ≡ cond c (placed_in x D p t) (untouched refusal.Room t) → Ends L.answer L.tables
      room p q false c e =
          let f = plan_said bytes says m p q in
          moved₂ (BesideEnds x s h m other t) (ap (λ (o : After). rows_numbers (rows_by o.answer)) e) (ap (λ (o : After). o.tables) e)
          (no_room (reads f) (λ r. true≢false (sym (room_there f other t r) ∙ c)))
      room p q true c e = fits p q c

      go : (o : Result Plan Refusal) → planned s (header_record h) (which_of m) ≡ o → Ends L.answer L.tables
      go (Ok p) q =
          room p (sym q) (room_by p other t) refl (ap (λ (o : Result Plan Refusal). beside_for x other D o t) q)
      go (Err z) q =
          let n = no_model bytes says m q in
          let e : L ≡ untouched z t = ap (λ (o : Result Plan Refusal). beside_for x other D o t) q in
          moved₂ (BesideEnds x s h m other t) (ap (λ (o : After). rows_numbers (rows_by o.answer)) e) (ap (λ (o : After). o.tables) e) (BesideEnds.no_model n.0 n.1)

-- what is said of the words of a record is said of the record
pub words_said : (s : List ℕ) (m : models.Model) (x : Side) (other : Held) (t : Lent) (w : List ℕ) (h : record_of.Header) → 647 ≤ length w
    → filled_of s (sets w 0 (record_words h)) (models.model_number m) x other t ≡ filled_by (beside_of x s (header_record h) (which_of m) other t)
unfolding filled_of
words_said s m x other t w h enough =
    ap (λ (j : ℕ). filled_in j s (sets w 0 (record_words h)) (models.model_number m) x other t) (record_judged w h enough)
    ∙ ap₂ (λ (r : Header) (n : Which). filled_by (beside_of x s r n other t)) (record_back w h enough) (which_number m)
