-- Wish 6, of the calls that a user makes: open, load, write, one after the other, over the tables cut to the numbers that the load answered. The write answers 0, or 20
-- for room; its text, read at any place of any data, gives the same rows but for string starts; and a voice that has it as a model's text loads to the same rows,
-- walks the same, and is written to the same text.
use mathlib.Core.Path.{◌≡◌, refl, sym, ap, ◌∙◌, subst}
use mathlib.Core.List.{List, [], ◌∷◌, ◌++◌, map, flatten}
use Prim.Native.Nat.{ℕ, ◌+◌, ◌*◌, ◌^◌, ◌≤◌, ◌<◌}
use native.Mathlib.Decide.{dec_le}
use native.Mathlib.Omega.{arith}
use lib.ListN.{length, take, drop}
use lib.Seq.{sets}
use Rattle.written.specs.Record as record_of
use Rattle.written.specs.Said.{Text, Layout, Tree, Question}
use Rattle.written.specs.TreeText.{Says}
use Rattle.written.specs.Linking.{Row}
use Rattle.written.specs.Blocks as block
use Rattle.written.specs.Tables.{TreeRows, question_rows, pattern_rows, folded}
use Rattle.written.specs.Models as models
use Rattle.written.specs.Models.{data_of}
use Rattle.written.specs.Loading.{ModelSaid, ReadsModel}
use Rattle.written.specs.Walks.{Outcome, LoadedTree}
use Rattle.written.specs.Writing.{QuestionsSay, Written, Wrote, NotWritten}
use Rattle.written.proofs.Once.{says_once}
use Rattle.written.proofs.Folded.{wide_text, wide_folded, folded_there, first_four}
use Rattle.written_back.proofs.OneText.{written_once}
use Rattle.written_back.proofs.Again.{layout_says, written_anywhere, without_start}
use Rattle.written_back.proofs.ReadBack.{written_reads}
use Rattle.written_back.proofs.Never.{wrote_once}
use Rattle.table_rows.specs.Rows.{tree_table, record_table}
use Rattle.table_rows.proofs.Stand.{length-flat}
use Rattle.table_rows.proofs.Fours.{fours_model, record_table_lem, tree_table_lem}
use Rattle.load_model.specs.Load.{Tables}
use Rattle.larsavim.specs.Face.{Opens, Loads, Walks}
use Rattle.larsavim.specs.Write.{Writes}
use Rattle.shown_load.proofs.Says.{cut_rows}
use Rattle.shown_write.proofs.Call as call
use Rattle.shown_write.proofs.Loads.{fours_questions, twos_wide, question_count, pattern_count, rows_written}
use Rattle.promises.specs.Loading.{widening, patterns_of, Room, stored}
use Rattle.promises.specs.Walking.{AfterWalk}
use Rattle.promises.specs.Writing.{AfterWrite}
use Rattle.promises.proofs.Moved.{moved₂, moved₃}
use Rattle.promises.proofs.Writing.{write_kept}
use Rattle.promises.proofs.Walking.{walk_kept, after_walk_once}
use Rattle.promises.proofs.Walked.{LoadedZero, blocks, trees_cut, records_cut, found}

-- the text at the front of the buffer, or no room for it
pub data AfterSave (text buffer out : List ℕ) : ℕ → List ℕ → List ℕ → Type 0 where
  saved : length text ≤ length buffer → AfterSave text buffer out 0 (text ++ drop (length text) buffer) (sets out 0 (0 ∷ length text ∷ []))
  no_room : length buffer < length text → AfterSave text buffer out 20 buffer (sets out 0 (20 ∷ 0 ∷ []))

-- question and pattern rows of two layouts are the same but for string starts
pub record SameQuestions (l m : Layout) : Type 0 where
  pub questions : map without_start (question_rows 0 l.questions) ≡ map without_start (question_rows 0 m.questions)
  pub patterns : map without_start (pattern_rows l.questions) ≡ map without_start (pattern_rows m.questions)

-- behind any bytes a text says these rows; and whatever it says there, linked, are these rows
pub record ReadsBack (text : List ℕ) (l : Layout) (trees records : List Row) : Type 0 where
  pub says : (before : List ℕ) → (t : Text) × (m : Layout) × Says (before ++ text) (length before) t m × TreeRows t.questions 0 t.trees trees records
  pub same : (before : List ℕ) {t : Text} {m : Layout} {trees' records' : List Row} → Says (before ++ text) (length before) t m → TreeRows t.questions 0 t.trees trees' records'
      → SameQuestions m l × (trees' ≡ trees) × (records' ≡ records)

-- ---- a model that a load has stored

module _ {s : List ℕ} {h : record_of.Header} {m : models.Model} {t : Tables} {x : ModelSaid} {l : Layout} {trees records : List Row}
    (read : ReadsModel widening s h m x l) (room : Room x t) (rows : TreeRows x.text.questions 0 x.text.trees trees records) where
  abbrev end : ℕ
  end = read.text_at.to + 1

  questions_cut : take (4 * length x.text.questions) (stored t x l trees records).questions ≡ flatten (question_rows 0 l.questions)
  questions_cut =
      cut_rows t.questions (question_rows 0 l.questions) (length x.text.questions) (fours_questions 0 l.questions) (sym (question_count (data_of s h) end read.text_says))
      (let r = room.questions in omega (arith, r)) refl

  patterns_cut : take (2 * patterns_of x) (stored t x l trees records).patterns ≡ flatten (pattern_rows l.questions)
  patterns_cut =
      cut_rows t.patterns (pattern_rows l.questions) (patterns_of x) (twos_wide l.questions) (sym (pattern_count (data_of s h) end read.text_says))
      (let r = room.patterns in omega (arith, r)) refl

  abbrev Q : List ℕ
  Q = take (4 * length x.text.questions) (stored t x l trees records).questions

  abbrev P : List ℕ
  P = take (2 * patterns_of x) (stored t x l trees records).patterns

  abbrev T : List ℕ
  T = take (6 * length x.text.trees) (stored t x l trees records).trees

  abbrev R : List ℕ
  R = take (4 * length records) (stored t x l trees records).records

  -- the model's text, and what the call did with it
  pub record SavedAs (buffer out : List ℕ) (r : ℕ) (e o : List ℕ) : Type 0 where
    pub text : List ℕ
    pub of_rows : Written (data_of s h) (question_rows 0 l.questions) (pattern_rows l.questions) trees records text
    pub reads_back : ReadsBack text l trees records
    pub ends : AfterSave text buffer out r e o

  reads_so : {w : List ℕ} → Written (data_of s h) (question_rows 0 l.questions) (pattern_rows l.questions) trees records w → ReadsBack w l trees records
  reads_so y =
      record {
        says = λ before. let k = written_anywhere y before in (y.t, k.0, k.1, y.rows.trees);
        same = λ before z r. let k = written_reads before y z r in (record { questions = k.0; patterns = k.1 }, k.2, k.3);
      }

  few : length R * 8 < 2 ^ 63 → length records ≤ 2 ^ 63
  few short = omega (arith, ap length (records_cut read room rows), length-flat records (fours_model rows), short)

  pub save_ends : (buffer out : List ℕ) → 2 ≤ length out → {r : ℕ} {e o : List ℕ} → Writes (data_of s h) Q P T R buffer out r e o → SavedAs buffer out r e o
  save_ends buffer out long {r} {e} {o} c =
      let y = rows_written (data_of s h) end read.text_says rows x.rows (blocks read room rows) (few c.short) in
      record { text = y.0; of_rows = y.1; reads_back = reads_so y.1; ends = go y.0 (moved y.2) (write_kept (data_of s h) Q P T R out buffer c) }
    where
      -- the cut tables are the model's rows
      moved : {w : List ℕ}
          → call.Writes (data_of s h) (flatten (question_rows 0 l.questions)) (flatten (pattern_rows l.questions)) (flatten (folded trees x.rows)) (flatten records) w
          → call.Writes (data_of s h) Q P T R w
      moved {w} y =
          subst (λ (a : List ℕ). call.Writes (data_of s h) a P T R w) (sym questions_cut)
          (subst (λ (a : List ℕ). call.Writes (data_of s h) (flatten (question_rows 0 l.questions)) a T R w) (sym patterns_cut)
          (subst (λ (a : List ℕ). call.Writes (data_of s h) (flatten (question_rows 0 l.questions)) (flatten (pattern_rows l.questions)) a R w) (sym (trees_cut read room rows))
          (subst (λ (a : List ℕ). call.Writes (data_of s h) (flatten (question_rows 0 l.questions)) (flatten (pattern_rows l.questions)) (flatten (folded trees x.rows)) a w)
          (sym (records_cut read room rows)) y)))

      go : (w : List ℕ) → call.Writes (data_of s h) Q P T R w → {r : ℕ} {e o : List ℕ} → AfterWrite (data_of s h) Q P T R buffer out r e o → AfterSave w buffer out r e o
      go w y (AfterWrite.short_out a) = absurd (omega arith)
      go w y (AfterWrite.wrote {n = n} {k = k} {e = e} a z) = by (dec_le (length w) (length buffer))
        where
          by : Dec (length w ≤ length buffer) → AfterSave w buffer out n e (sets out 0 (n ∷ k ∷ []))
          by (yes f) =
              let u = wrote_once z (Wrote.done y f refl refl) in
              moved₃ (AfterSave w buffer out) u.0 u.2 (λ i. sets out 0 (u.0 i ∷ u.1 i ∷ [])) (AfterSave.saved f)
          by (no f) =
              let u = wrote_once z (Wrote.refused (NotWritten.no_room y (omega arith)) refl) in
              moved₃ (AfterSave w buffer out) u.0 u.2 (λ i. sets out 0 (u.0 i ∷ u.1 i ∷ [])) (AfterSave.no_room (omega arith))

-- ---- open, load, write

module _ (s w out w' o : List ℕ) (open-call : Opens s w out 0 w' o) (m : models.Model) (t : Tables) (out₁ : List ℕ) (t' : Tables) (o₁ : List ℕ)
    (load-call : Loads s w' (models.model_number m) t out₁ 0 t' o₁) where
  abbrev h : record_of.Header
  h = (found s w out w' o open-call m t out₁ t' o₁ load-call).0

  abbrev k : LoadedZero s h m t out₁ t' o₁
  k = (found s w out w' o open-call m t out₁ t' o₁ load-call).2

  pub open_load_write : (buffer out₂ : List ℕ) → 2 ≤ length out₂ → {r : ℕ} {e o₂ : List ℕ}
      → Writes (data_of s h) (take (4 * length k.x.text.questions) t'.questions) (take (2 * patterns_of k.x) t'.patterns) (take (6 * length k.x.text.trees) t'.trees)
      (take (4 * length k.records) t'.records) buffer out₂ r e o₂
      → SavedAs k.read k.room k.rows buffer out₂ r e o₂
  open_load_write buffer out₂ long {r} {e} {o₂} c =
      save_ends k.read k.room k.rows buffer out₂ long
      (subst
      (λ (u : Tables). Writes (data_of s h) (take (4 * length k.x.text.questions) u.questions) (take (2 * patterns_of k.x) u.patterns) (take (6 * length k.x.text.trees) u.trees)
      (take (4 * length k.records) u.records) buffer out₂ r e o₂)
      k.tables c)

-- ---- the last two numbers of a tree's row are nothing to a walk

module _ {qs : List Question} {ts : List Tree} {trees records : List Row} (rows : TreeRows qs 0 ts trees records) (bs cs : List block.Row) (b-long : length bs ≡ length trees)
    (c-long : length cs ≡ length trees) where
  walk_moved : {answers : List ℕ} {i most : ℕ} {e : Outcome} → LoadedTree answers (folded trees bs) records i most e → LoadedTree answers (folded trees cs) records i most e
  walk_moved (LoadedTree.missing f) = LoadedTree.missing (λ r n. let k = folded_there bs b-long (first_four cs rows n) in f _ k.1)
  walk_moved (LoadedTree.there n x) = let k = folded_there cs c-long (first_four bs rows n) in LoadedTree.there k.1 x

  after_moved : {T U R N : List ℕ} → T ≡ flatten (folded trees bs) → U ≡ flatten (folded trees cs) → R ≡ flatten records → N ≡ flatten records
      → {answers out : List ℕ} {i most r : ℕ} {o : List ℕ} → AfterWalk T R i answers most out r o → AfterWalk U N i answers most out r o
  after_moved {T} {U} {R} {N} a b c d {answers} {out} {i} {most} x = go x
    where
      of_trees : (ds : List block.Row) → tree_table (flatten (folded trees ds)) ≡ folded trees ds
      of_trees ds = tree_table_lem (folded trees ds) (wide_folded trees ds (wide_text rows))

      of_records : record_table (flatten records) ≡ records
      of_records = record_table_lem records (fours_model rows)

      over : {e : Outcome} → LoadedTree answers (tree_table T) (record_table R) i most e → LoadedTree answers (tree_table U) (record_table N) i most e
      over {e} y =
          moved₂ (λ (f g : List Row). LoadedTree answers f g i most e) (ap tree_table b ∙ of_trees cs) (ap record_table d ∙ of_records)
          (walk_moved (moved₂ (λ (f g : List Row). LoadedTree answers f g i most e) (sym (ap tree_table a ∙ of_trees bs)) (sym (ap record_table c ∙ of_records)) y))

      go : {r : ℕ} {o : List ℕ} → AfterWalk T R i answers most out r o → AfterWalk U N i answers most out r o
      go (AfterWalk.short_out a) = AfterWalk.short_out a
      go (AfterWalk.ended a y) = AfterWalk.ended a (over y)
      go (AfterWalk.stopped a y) = AfterWalk.stopped a (over y)

-- ---- a voice that has the written text as the text of a model

-- the first voice's model is k, its text w; the second's model is u, whose text is w
module _ {s : List ℕ} {h : record_of.Header} {m : models.Model} {t t' : Tables} {out o : List ℕ} (k : LoadedZero s h m t out t' o) {w : List ℕ}
    (written : Written (data_of s h) (question_rows 0 k.l.questions) (pattern_rows k.l.questions) k.trees k.records w)
    {s₂ : List ℕ} {h₂ : record_of.Header} {m₂ : models.Model} {t₂ t₂' : Tables} {out₂ o₂ : List ℕ} (u : LoadedZero s₂ h₂ m₂ t₂ out₂ t₂' o₂)
    (before : List ℕ) (begins : u.read.text_at.from ≡ length before) (text : take (u.read.text_at.to + 1) (data_of s₂ h₂) ≡ before ++ w) where
  says_there : Says (before ++ w) (length before) u.x.text u.l
  says_there = moved₂ (λ (a : List ℕ) (i : ℕ). Says a i u.x.text u.l) (sym text) (sym begins) u.read.text_says

  -- its rows are the same but for string starts
  pub saved_rows : SameQuestions u.l k.l × (u.trees ≡ k.trees) × (u.records ≡ k.records)
  saved_rows = let z = written_reads before written says_there u.rows in (record { questions = z.0; patterns = z.1 }, z.2, z.3)

  -- every walk over them ends as before
  pub saved_walks : (i : ℕ) (answers : List ℕ) (most : ℕ) (out₃ : List ℕ) {r r' : ℕ} {e e' : List ℕ}
      → Walks (take (6 * length k.x.text.trees) t'.trees) (take (4 * length k.records) t'.records) i answers most out₃ r e
      → Walks (take (6 * length u.x.text.trees) t₂'.trees) (take (4 * length u.records) t₂'.records) i answers most out₃ r' e'
      → (r ≡ r') × (e ≡ e')
  saved_walks i answers most out₃ x y =
      let z = saved_rows in
      let c = blocks k.read k.room k.rows in
      let d = blocks u.read u.room u.rows in
      let a = ap (λ (v : Tables). take (6 * length k.x.text.trees) v.trees) k.tables ∙ trees_cut k.read k.room k.rows in
      let b = ap (λ (v : Tables). take (4 * length k.records) v.records) k.tables ∙ records_cut k.read k.room k.rows in
      let f = ap (λ (v : Tables). take (6 * length u.x.text.trees) v.trees) u.tables ∙ trees_cut u.read u.room u.rows
      ∙ ap (λ (v : List Row). flatten (folded v u.x.rows)) z.1 in
      let g = ap (λ (v : Tables). take (4 * length u.records) v.records) u.tables ∙ records_cut u.read u.room u.rows ∙ ap flatten z.2 in
      after_walk_once _ _ i answers most out₃
      (after_moved k.rows k.x.rows u.x.rows c (d ∙ ap length z.1) a f b g (walk_kept _ _ i answers most out₃ x))
      (walk_kept _ _ i answers most out₃ y)

  -- written again, it has the same text
  pub saved_again : {buffer out₃ : List ℕ} {r : ℕ} {e o₃ : List ℕ} (x : SavedAs u.read u.room u.rows buffer out₃ r e o₃) → x.text ≡ w
  saved_again x =
      let z = saved_rows in
      let e = (says_once says_there (written_anywhere written before).1).0 in
      let q = subst (λ (v : Text). QuestionsSay (data_of s₂ h₂) 0 (question_rows 0 u.l.questions) (pattern_rows u.l.questions) v.questions) e (layout_says (data_of s₂ h₂) (u.read.text_at.to + 1) u.read.text_says) in
      let y : Written (data_of s₂ h₂) (question_rows 0 u.l.questions) (pattern_rows u.l.questions) k.trees k.records w =
      record { t = written.t; l = written.l; says = written.says; rows = record { questions = q; trees = written.rows.trees }; plain = written.plain; bytes_of = written.bytes_of } in
      written_once (moved₂ (λ (a b : List Row). Written (data_of s₂ h₂) (question_rows 0 u.l.questions) (pattern_rows u.l.questions) a b x.text) (sym z.1) (sym z.2) x.of_rows) y
