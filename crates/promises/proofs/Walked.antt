-- Demand 3, of the calls that a user makes: open, load, walk, one after the other, over the tables cut to the numbers that the load answered. The walk's `out` is what the
-- written walk of that tree ends with, for every answers with a byte a question and every limit; and that ending is the only one.
use mathlib.Core.Path.{◌≡◌, refl, sym, ap, ap₂, ◌∙◌, subst}
use mathlib.Core.List.{List, [], ◌∷◌, flatten}
use Prim.Native.Nat.{ℕ, ◌*◌, ◌≤◌}
use native.Mathlib.Omega.{arith}
use lib.ListN.{length, get_or, take}
use lib.Seq.{sets}
use Rattle.error.specs.declared.Refusal.{Refusal}
use Rattle.walk.specs.declared.Walked.{Walked}
use Rattle.std.specs.declared.result.Result.{Result}
use Rattle.std.specs.Prelude.{Ok, Err}
use Rattle.written.specs.Record as record_of
use Rattle.written.specs.Said.{Layout, Question, Tree}
use Rattle.written.specs.Linking.{Nth, here, there, Row, Records}
use Rattle.written.specs.Tables.{TreeRows, folded}
use Rattle.written.specs.Models as models
use Rattle.written.specs.Loading.{ModelSaid, ReadsModel}
use Rattle.written_models.proofs.Numbers.{linking_number, no_model_number}
use Rattle.written.specs.Walks.{Ending, limit, nothing, Written, is_yes}
use Rattle.written.proofs.Link.{records_linked}
use Rattle.written.proofs.Walk.{written_once}
use Rattle.written.proofs.Folded.{wide_text, wide_folded, length-folded}
use Rattle.table_rows.proofs.Fours.{fours_model}
use Rattle.tree_survey.proofs.Rows.{rows_counted}
use Rattle.pdf_blocks.proofs.Joined.{length_rows}
use Rattle.load_model.specs.Load.{Tables}
use Rattle.walk.specs.Walking.{walk_of}
use Rattle.walk.specs.Answer.{Answer, answer_of, ending_answer}
use Rattle.walk.proofs.Demand.{flat_walk}
use Rattle.walk.proofs.Loaded.{walk_loaded}
use Rattle.face_model.specs.Answers.{ended_by}
use Rattle.larsavim.specs.Face.{ended_numbers, Opens, Loads, Walks}
use Rattle.head_de.proofs.Sound.{Bytes}
use Rattle.shown_text.proofs.Walks.{bytes_answer}
use Rattle.shown_load.proofs.Says.{cut_rows}
use Rattle.promises.specs.Opening.{record_words, AfterOpen, short_out, opened, few_words, refused}
use Rattle.promises.specs.Loading as load
use Rattle.promises.specs.Loading.{widening, Room, stored, done_numbers, LoadEnds, loaded, no_room, unlinked, AfterLoad, ended}
use Rattle.promises.specs.Walking.{AfterWalk, ending_numbers}
use Rattle.promises.proofs.Opening.{open_kept, never_zero}
use Rattle.promises.proofs.Loading.{load_kept}
use Rattle.promises.proofs.Walking.{of_walk, walk_kept, after_walk_once}

-- ---- the answer of a walk, by its ending

numbers_of : Answer → List ℕ
numbers_of a = a.number ∷ a.pdf ∷ a.asked ∷ []

as_ended : (w : Result Walked Refusal) → ended_numbers (ended_by w) ≡ numbers_of (answer_of w)
unfolding numbers_of
as_ended (Ok r) = refl
as_ended (Err r) = refl

as_ending : (e : Ending) → numbers_of (ending_answer e) ≡ ending_numbers e
unfolding numbers_of
as_ending (Ending.at n k) = refl
as_ending limit = refl
as_ending nothing = refl

-- the records of a tree among those of its model
pub tree_linked : {qs : List Question} {f : ℕ} {ts : List Tree} {trees records : List Row} {i : ℕ} {t : Tree} → TreeRows qs f ts trees records → Nth ts i t → (rows : List Row) × Records qs t.body rows
tree_linked (TreeRows.more {rows = rows} s r l m) here = (rows, r)
tree_linked (TreeRows.more s r l m) (there n) = tree_linked m n
tree_linked {qs = qs} {i = i} {t = t} (Rattle.written.specs.Tables.none {f = f}) x6 = elim x6 [ ]

-- ---- a model that a load has stored

module _ {s : List ℕ} {h : record_of.Header} {m : models.Model} {t : Tables} {x : ModelSaid} {l : Layout} {trees records : List Row}
    (read : ReadsModel widening s h m x l) (room : Room x t) (rows : TreeRows x.text.questions 0 x.text.trees trees records) where
  pub blocks : length x.rows ≡ length trees
  blocks =
      let b = read.block_says in
      ap length b.row ∙ length_rows x.width 0 b.counts ∙ b.per_tree ∙ sym (rows_counted rows).0

  abbrev F : List Row
  F = folded trees x.rows

  -- the tables, cut to the numbers of the answer, are the model's rows
  pub trees_cut : take (6 * length x.text.trees) (stored t x l trees records).trees ≡ flatten F
  trees_cut =
      cut_rows t.trees F (length x.text.trees) (wide_folded trees x.rows (wide_text rows))
      (sym (rows_counted rows).0 ∙ sym (length-folded trees x.rows (sym blocks))) (let r = room.trees in omega (arith, r)) refl

  pub records_cut : take (4 * length records) (stored t x l trees records).records ≡ flatten records
  records_cut = cut_rows t.records records (length records) (fours_model rows) refl (let r = room.records in omega (arith, r, (rows_counted rows).1)) refl

  module _ {i : ℕ} {tree : Tree} (n : Nth x.text.trees i tree) (answers : List ℕ) (enough : length x.text.questions ≤ length answers) (most : ℕ) where
    -- how it ends
    pub record EndsAsWritten (out : List ℕ) (r : ℕ) (o : List ℕ) : Type 0 where
      pub ending : Ending
      pub written : Written x.text.questions (λ k. is_yes (get_or answers k 0)) tree.body most ending
      pub only : (f : Ending) → Written x.text.questions (λ k. is_yes (get_or answers k 0)) tree.body most f → f ≡ ending
      pub number : r ≡ get_or (ending_numbers ending) 0 0
      pub says : o ≡ sets out 0 (ending_numbers ending)

    abbrev T : List ℕ
    T = take (6 * length x.text.trees) (stored t x l trees records).trees

    abbrev R : List ℕ
    R = take (4 * length records) (stored t x l trees records).records

    pub walk_as_written : (out : List ℕ) → 3 ≤ length out → {r : ℕ} {o : List ℕ} → AfterWalk T R i answers most out r o → EndsAsWritten out r o
    walk_as_written out long a =
        let w = walk_of T R i answers most in
        let d = flat_walk (bytes_answer x.text.questions answers enough) rows x.rows blocks n most (ap₂ (λ (T R : List ℕ). walk_of T R i answers most) trees_cut records_cut) in
        let e : ended_numbers (ended_by w) ≡ ending_numbers d.0 = as_ended w ∙ ap numbers_of d.2 ∙ as_ending d.0 in
        let u = after_walk_once T R i answers most out a (of_walk T R i answers most out long w (walk_loaded T R i answers most)) in
        record {
          ending = d.0;
          written = d.1;
          only = λ f g. let k = tree_linked rows n in written_once (bytes_answer x.text.questions answers enough) (records_linked k.1) g d.1;
          number = u.0 ∙ ap (λ (l : List ℕ). get_or l 0 0) e;
          says = u.1 ∙ ap (sets out 0) e;
        }

-- ---- an opening and a load that answered 0

pub opened-zero : {s w out w' o : List ℕ} → Bytes s → {r : ℕ} → AfterOpen s w out r w' o → r ≡ 0 → (h : record_of.Header) × record_of.Says s h × (647 ≤ length w) × (w' ≡ sets w 0 (record_words h))
opened-zero bytes (short_out a) e = absurd (omega (arith, e))
opened-zero bytes (opened {h = h} a x l) e = (h, x, l, refl)
opened-zero bytes (few_words a x l) e = absurd (omega (arith, e))
opened-zero bytes (refused a x) e = absurd (never_zero bytes x e)

pub record LoadedZero (s : List ℕ) (h : record_of.Header) (m : models.Model) (t : Tables) (out : List ℕ) (u : Tables) (o : List ℕ) : Type 0 where
  pub x : ModelSaid
  pub l : Layout
  pub trees : List Row
  pub records : List Row
  pub read : ReadsModel widening s h m x l
  pub room : Room x t
  pub rows : TreeRows x.text.questions 0 x.text.trees trees records
  pub tables : u ≡ stored t x l trees records
  pub says : o ≡ sets out 0 (done_numbers x records)

pub loaded_zero : {s : List ℕ} {h : record_of.Header} {m : models.Model} {t u : Tables} {out o : List ℕ} {r : ℕ} → AfterLoad s h m t out r u o → r ≡ 0 → LoadedZero s h m t out u o
loaded_zero (load.short_out a) e = absurd (omega (arith, e))
loaded_zero {s} {h} {m} {t} {out = out} (ended a x) e = go x e
  where
    go : {l : List ℕ} {u : Tables} → LoadEnds s h m t l u → get_or l 0 0 ≡ 0 → LoadedZero s h m t out u (sets out 0 l)
    go (loaded {x = x} {l = l} {trees = trees} {records = records} a b c) e =
        record { x = x; l = l; trees = trees; records = records; read = a; room = b; rows = c; tables = refl; says = refl }
    go (LoadEnds.no_model n l) e = absurd (omega (arith, (no_model_number n).0, e))
    go (no_room a b) e = absurd (omega (arith, e))
    go (unlinked a b c) e = absurd (omega (arith, (linking_number c).0, e))

-- ---- the three calls

-- A file of bytes is opened with 0, a model of it loaded with 0 from the words that the opening wrote, and one of its trees walked, over the tables cut to the load's answer,
-- with a byte for each question: the walk ends as the written one.
module _ (s w out w' o : List ℕ) (open-call : Opens s w out 0 w' o) (m : models.Model) (t : Tables) (out₁ : List ℕ) (t' : Tables) (o₁ : List ℕ)
    (load-call : Loads s w' (models.model_number m) t out₁ 0 t' o₁) where
  -- the file says a record, and text and block of the model a model
  pub found : (h : record_of.Header) × record_of.Says s h × LoadedZero s h m t out₁ t' o₁
  found =
      let bytes : Bytes s = record { below = open-call.3 } in
      let f = opened-zero bytes (open_kept w out open-call) refl in
      let c = subst (λ (u : List ℕ). Loads s u (models.model_number m) t out₁ 0 t' o₁) f.3 load-call in
      (f.0, f.1, loaded_zero (load_kept bytes f.1 m t w f.2 out₁ c) refl)

  abbrev k : LoadedZero s found.0 m t out₁ t' o₁
  k = found.2

  pub open_load_walk : {i : ℕ} {tree : Tree} (n : Nth k.x.text.trees i tree) (answers : List ℕ) (enough : length k.x.text.questions ≤ length answers) (most : ℕ)
      (out₂ : List ℕ) → 3 ≤ length out₂ → {r : ℕ} {o₂ : List ℕ} → Walks (take (6 * length k.x.text.trees) t'.trees) (take (4 * length k.records) t'.records) i answers most out₂ r o₂
      → EndsAsWritten k.read k.room k.rows n answers enough most out₂ r o₂
  open_load_walk {i} n answers enough most out₂ long {r} {o₂} c =
      let e = subst (λ (u : Tables). Walks (take (6 * length k.x.text.trees) u.trees) (take (4 * length k.records) u.records) i answers most out₂ r o₂) k.tables c in
      walk_as_written k.read k.room k.rows n answers enough most out₂ long (walk_kept _ _ i answers most out₂ e)
