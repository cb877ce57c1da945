-- `larsavim_load` and `larsavim_needs` keep their promises, of words that an opening of the file wrote.
use mathlib.Core.Path.{◌≡◌, refl, sym, ap, ap₂, ◌∙◌, subst}
use mathlib.Core.Bool.{Bool, true, false, cond}
use mathlib.Core.List.{List, [], ◌∷◌}
use Prim.Native.Nat.{ℕ, ◌*◌, ◌≤◌}
use native.Mathlib.Nat.{one-mul}
use native.Mathlib.Omega.{arith}
use borrow.Author.Tests.{ltb-true, ltb-false}
use lib.Dec.{ltb}
use lib.IntN.{pos}
use lib.ListN.{length, replicate}
use lib.Seq.{sets}
use Rattle.written.specs.Record as record_of
use Rattle.written.specs.Models as models
use Rattle.written.specs.Loading.{ModelSaid}
use Rattle.written.specs.Sharing.{bottom, questions, patterns, trees, records, values, nothing, Stand}
use Rattle.head_record.specs.Record.{header_record}
use Rattle.head_record.specs.declared.Header.{Header}
use Rattle.load_choose.specs.declared.Which.{Which}
use Rattle.head_de.proofs.Sound.{Bytes}
use Rattle.load_plan.specs.Plans.{planned}
use Rattle.load_model.specs.Load.{Tables, lent, After}
use Rattle.load_shared.specs.Beside.{rows_of, beside_of}
use Rattle.face_model.specs.Answers as face
use Rattle.face_model.specs.Answers.{rows_by}
use Rattle.face_model.specs.declared.Needed.{Needed}
use Rattle.face_load.specs.Answers.{Filled, filled_by, filled_of}
use Rattle.larsavim.specs.Face.{answered, written, left, Loads, Needs}
use Rattle.face_put.specs.Put.{rows_numbers, needed_numbers}
use Rattle.shown_words.proofs.Shaped.{record_back}
use Rattle.shown_models.proofs.Chosen.{which_of}
use Rattle.promises.specs.Opening.{record_words}
use Rattle.promises.specs.Loading.{patterns_of, records_of, Room, zeros, refused_numbers, LoadEnds, loaded, no_room, unlinked, AfterLoad, short_out, ended, needs_numbers, AfterNeeds}
use Rattle.promises.specs.Sharing as sharing
use Rattle.promises.specs.Sharing.{needed, RoomBeside, BesideEnds}
use Rattle.promises.proofs.Moved.{moved₂, moved₃}
use Rattle.promises.proofs.Asked.{which_number, record_judged}
use Rattle.promises.proofs.NoModel.{no_model}
use Rattle.promises.proofs.Plans.{plan_said}
use Rattle.promises.proofs.Beside.{said, reads, beside_ends, words_said}
use Rattle.load_model.specs.declared.Loaded.{Loaded}
use Rattle.load_plan.specs.declared.Plan.{Plan}
use Rattle.error.specs.declared.Refusal.{Refusal}
use Rattle.std.specs.Prelude.{Err, Ok, Result}

module _ {s : List ℕ} (bytes : Bytes s) {h : record_of.Header} (says : record_of.Says s h) (m : models.Model) (t : Tables) where
  abbrev L : After
  L = beside_of bottom s (header_record h) (which_of m) nothing t

  abbrev Ends : Result Loaded Refusal → Tables → Type 0
  Ends a u = LoadEnds s h m t (rows_numbers (rows_by a)) u

  -- room beside nobody
  alone : {x : ModelSaid} → RoomBeside x nothing t → Room x t
  alone r =
      let g = r.rows in
      record {
        questions = omega (arith, g questions);
        patterns = omega (arith, g patterns);
        trees = omega (arith, g trees);
        records = omega (arith, g records);
        values = omega (arith, g values);
        work = r.work;
      }

  beside : {x : ModelSaid} → Room x t → RoomBeside x nothing t
  beside {x} r = record { rows = at; work = r.work }
    where
      at : Stand (rows_of t) (needed x) nothing
      at questions = let e = r.questions in omega (arith, e)
      at patterns = let e = r.patterns in omega (arith, e)
      at trees = let e = r.trees in omega (arith, e)
      at records = let e = r.records in omega (arith, e)
      at values = let e = r.values in omega (arith, e)

  -- the bottom task's load beside nobody
  bottom_ends : {l : List ℕ} {u : Tables} → BesideEnds bottom s h m nothing t l u → LoadEnds s h m t l u
  bottom_ends (sharing.loaded a r b) = loaded a (alone r) b
  bottom_ends (sharing.no_model n l) = LoadEnds.no_model n l
  bottom_ends (sharing.no_room a r) = no_room a (λ b. r (beside b))
  bottom_ends (sharing.unlinked {y = y} {n = n} {i = i} {k = k} a r b) =
      subst (λ (j : ℕ). LoadEnds s h m t (refused_numbers n i k) (lent (zeros t.questions (4 * length y.text.questions)) (zeros t.patterns (2 * patterns_of y)) (zeros t.trees (6 * length y.text.trees))
      (zeros t.records (4 * records_of y)) (zeros t.values j) (replicate (length t.work) (pos 0)))) (sym (one-mul (length y.values))) (unlinked a (alone r) b)

  -- how every load ends
  pub load_ends : Ends L.answer L.tables
  load_ends = bottom_ends (beside_ends bytes says m bottom nothing t)

  -- ---- the contract

  module _ (w : List ℕ) (enough : 647 ≤ length w) (out : List ℕ) where
    -- what is said of the words of the record is said of the record
    pub said_of : filled_of s (sets w 0 (record_words h)) (models.model_number m) bottom nothing t ≡ filled_by L
    said_of = words_said s m bottom nothing t w h enough

    pub load_kept : {r : ℕ} {u : Tables} {o : List ℕ} → Loads s (sets w 0 (record_words h)) (models.model_number m) t out r u o → AfterLoad s h m t out r u o
    unfolding answered written left
    load_kept (a, b, c) =
        let e = said_of in
        moved₃ (AfterLoad s h m t out) (a ∙ ap (λ (x : Filled). cond (ltb (length out) 8) 20 x.rows.number) e) (b ∙ ap (λ (x : Filled). cond (ltb (length out) 8) t x.tables) e)
        (c ∙ ap (λ (x : Filled). cond (ltb (length out) 8) out (sets out 0 (rows_numbers x.rows))) e) (go (ltb (length out) 8) refl)
      where
        go : (d : Bool) → ltb (length out) 8 ≡ d
            → AfterLoad s h m t out (cond d 20 (rows_by L.answer).number) (cond d t L.tables) (cond d out (sets out 0 (rows_numbers (rows_by L.answer))))
        go true e = short_out (ltb-true (length out) 8 e)
        go false e = ended (ltb-false (length out) 8 e) load_ends

-- ---- what a model needs

module _ {s : List ℕ} (bytes : Bytes s) {h : record_of.Header} (says : record_of.Says s h) (m : models.Model) (w : List ℕ) (enough : 647 ≤ length w) (out : List ℕ) where
  abbrev N : Needed
  N = face.needed_by (planned s (header_record h) (which_of m))

  -- what is said of the words of the record is said of the record
  needed_of : face.needed_of s (sets w 0 (record_words h)) (models.model_number m) ≡ N
  unfolding face.needed_of
  needed_of =
      ap (λ (j : ℕ). face.needed_in s (sets w 0 (record_words h)) (models.model_number m) j) (record_judged w h enough)
      ∙ ap₂ (λ (x : Header) (n : Which). face.needed_by (planned s x n)) (record_back w h enough) (which_number m)

  needs_end : 10 ≤ length out → AfterNeeds s h m out N.number (sets out 0 (needed_numbers N))
  needs_end long = go (planned s (header_record h) (which_of m)) refl
    where
      go : (o : Result Plan Refusal) → planned s (header_record h) (which_of m) ≡ o → AfterNeeds s h m out (face.needed_by o).number (sets out 0 (needed_numbers (face.needed_by o)))
      go (Ok p) e =
          let f = plan_said bytes says m p (sym e) in
          let q : needed_numbers (face.needed_for p) ≡ needs_numbers (said f) =
          λ i. 0 ∷ 0 ∷ 0 ∷ f.questions i ∷ f.patterns i ∷ f.trees i ∷ f.records i ∷ f.entries i ∷ face.work_for (f.lines i) ∷ p.width ∷ [] in
          subst (λ (l : List ℕ). AfterNeeds s h m out 0 (sets out 0 l)) (sym q) (AfterNeeds.needed long (reads f))
      go (Err z) e = let n = no_model bytes says m e in AfterNeeds.no_model long n.0 n.1

  pub needs_kept : {r : ℕ} {o : List ℕ} → Needs s (sets w 0 (record_words h)) (models.model_number m) out r o → AfterNeeds s h m out r o
  unfolding answered written
  needs_kept (a, b) =
      moved₂ (AfterNeeds s h m out) (a ∙ ap (λ (x : Needed). cond (ltb (length out) 10) 20 x.number) needed_of)
      (b ∙ ap (λ (x : Needed). cond (ltb (length out) 10) out (sets out 0 (needed_numbers x))) needed_of) (go (ltb (length out) 10) refl)
    where
      go : (d : Bool) → ltb (length out) 10 ≡ d → AfterNeeds s h m out (cond d 20 N.number) (cond d out (sets out 0 (needed_numbers N)))
      go true e = AfterNeeds.short_out (ltb-true (length out) 10 e)
      go false e = needs_end (ltb-false (length out) 10 e)
