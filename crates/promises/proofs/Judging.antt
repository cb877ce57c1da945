-- A load into the task's rows, judged where it is done: what the model there is, and that the first rule that it is judged to break is the first that it breaks.
use mathlib.Core.Path.{◌≡◌, refl, sym, ap, ◌∙◌, subst, subst₂, fun_ext}
use mathlib.Core.List.{List, [], ◌∷◌}
use Prim.Native.Nat.{ℕ, ◌^◌, ◌<◌}
use native.Mathlib.Omega.{arith}
use lib.ListN.{length, get_or, take}
use Rattle.written.specs.Record as record_of
use Rattle.written.specs.Said.{Layout}
use Rattle.written.specs.Linking.{Row}
use Rattle.written.specs.Tables.{TreeRows}
use Rattle.written.specs.Models as models
use Rattle.written.specs.Loading.{ModelSaid}
use Rattle.written.specs.Sharing.{Side, Table, questions, patterns, trees, records, values, Tables, Held, seen, placed, Stand}
use Rattle.written_models.proofs.Numbers.{linking_number, no_model_number}
use Rattle.error.specs.Numbers.{number_of, place_of, line_of}
use Rattle.error.specs.declared.Refusal.{Refusal}
use Rattle.head_record.specs.Record.{header_record}
use Rattle.head_de.proofs.Sound.{Bytes}
use Rattle.tree_survey.proofs.Rows.{rows_counted}
use Rattle.pdf_blocks.proofs.Joined.{length_rows}
use Rattle.load_plan.specs.Plans.{planned}
use Rattle.load_plan.specs.Plans as plans
use Rattle.load_plan.specs.declared.Plan.{Plan}
use Rattle.load_plan.proofs.Laws.{needs_sound}
use Rattle.load_model.specs.Load.{loaded as ending, Tables as Lent, After}
use Rattle.load_apart.proofs.Apart.{placed_own}
use Rattle.load_shared.specs.Beside.{rows_of, beside_of}
use Rattle.load_bounds.specs.Bounds.{held_of}
use Rattle.face_model.specs.Answers.{rows_by}
use Rattle.face_trail.proofs.Above.{above_zero}
use Rattle.face_put.specs.Put.{rows_numbers}
use Rattle.house_model.specs.Model.{rule_of}
use Rattle.house_own.specs.Own.{rule_in}
use Rattle.house_step.specs.Steps.{bounds_of}
use Rattle.shown_load.proofs.Says.{S-short}
use Rattle.shown_models.proofs.Chosen.{which_of}
use Rattle.shown_house.proofs.Rules.{Judged, rule_judged}
use Rattle.promises.specs.Loading.{done_numbers}
use Rattle.promises.specs.Sharing.{needed, model_rows, BesideEnds, loaded, no_room, unlinked}
use Rattle.promises.specs.Housing.{Loads, LoadRefused}
use Rattle.promises.proofs.Plans.{PlanSaid, plan_said}
use Rattle.promises.proofs.Beside.{said, reads, need_is, beside_ends}
use Rattle.promises.proofs.Longer.{reads_one}
use Rattle.promises.proofs.Turns.{rows_exact}
use Rattle.load_model.specs.declared.Loaded.{Loaded}
use Rattle.std.specs.Prelude.{Err, Ok, Result}

module _ {s : List ℕ} (bytes : Bytes s) {h : record_of.Header} (says : record_of.Says s h) (m : models.Model) where
  abbrev D : List ℕ
  D = plans.data_of s (header_record h)

  short : length s < 2 ^ 63
  short = let l = says.fits in omega arith

  module _ (p : Plan) (q : Ok p ≡ planned s (header_record h) (which_of m)) where
    abbrev f : PlanSaid s h m p
    f = plan_said bytes says m p q

    abbrev S : List ℕ
    S = take p.text_end D

    sound : plans.Sound D p
    sound = needs_sound s (header_record h) (which_of m) p q

    S-small : length S < 2 ^ 63
    S-small = S-short s (header_record h) (which_of m) short bytes.below p q

    many : length f.rows ≡ length f.text.trees
    many = ap length f.block_says.row ∙ length_rows p.width 0 f.block_says.counts ∙ f.block_says.per_tree

    module _ {ts rs : List Row} (linked : TreeRows f.text.questions 0 f.text.trees ts rs) where
      -- in the task's rows they are judged as written
      rule_there : (x : Side) (other : Held) (t : Tables) → Stand t (needed (said f)) other
          → (let u = placed x (needed (said f)) (model_rows (said f) f.layout ts rs) t in Judged (said f) (rule_in x D p (u questions) (u trees) (u values)))
      unfolding rule_in
      rule_there x other t stand =
          let n = needed (said f) in
          let r = model_rows (said f) f.layout ts rs in
          let u = placed x n r t in
          subst (Judged (said f))
          (sym (ap (λ (n : Held). rule_of D p (seen x n u questions) (seen x n u trees) (seen x n u values)) (need_is f) ∙ ap (λ (w : Tables). rule_of D p (w questions) (w trees) (w values)) (placed_own x n r t (rows_exact (reads f) linked) other stand)))
          (rule_judged D p (said f) f.layout sound S-small f.own_says f.questions refl linked many p.entries (sym f.entries))

  -- ---- a load

  module _ (x : Side) (other : Held) (t : Lent) where
    abbrev L : After
    L = beside_of x s (header_record h) (which_of m) other t

    -- done: the model, the rows that it needs, and the rule that it breaks
    pub record Turned (p : Plan) (n : Held) : Type 0 where
      pub model : ModelSaid
      pub loads : Loads x s h other m t model L.tables
      pub need : n ≡ needed model
      pub rule : Judged model (rule_in x D p L.tables.questions L.tables.trees L.tables.values)

    pub turn_done : (p : Plan) → Ok p ≡ planned s (header_record h) (which_of m) → {n₁ n₂ n₃ n₄ n₅ : ℕ} → L.answer ≡ ending n₁ n₂ n₃ n₄ n₅ → Turned p (held_of (bounds_of n₁ n₂ n₃ n₄ n₅))
    turn_done p q {n₁} {n₂} {n₃} {n₄} {n₅} e = go (beside_ends bytes says m x other t) (ap (λ (a : Result Loaded Refusal). rows_numbers (rows_by a)) e) refl
      where
        go : {l : List ℕ} {u : Lent} → BesideEnds x s h m other t l u → l ≡ 0 ∷ 0 ∷ 0 ∷ n₁ ∷ n₂ ∷ n₃ ∷ n₄ ∷ n₅ ∷ [] → u ≡ L.tables → Turned p (held_of (bounds_of n₁ n₂ n₃ n₄ n₅))
        go {u = u} (loaded {y = y} {l = l} {ts = ts} {rs = rs} r room w) k v =
            let o = reads_one (reads (f p q)) r in
            record {
              model = y;
              loads = subst (λ (u : Lent). Loads x s h other m t y u) v (Loads.loads r room w);
              need = fun_ext (need k);
              rule =
                  subst (λ (u : Lent). Judged y (rule_in x D p u.questions u.trees u.values)) v
                  (subst₂ Rule o.0 o.1 (λ w stand. rule_there p q w x other (rows_of t) stand) w room.rows);
            }
          where
            need : done_numbers y rs ≡ 0 ∷ 0 ∷ 0 ∷ n₁ ∷ n₂ ∷ n₃ ∷ n₄ ∷ n₅ ∷ [] → (j : Table) → held_of (bounds_of n₁ n₂ n₃ n₄ n₅) j ≡ needed y j
            need k questions = sym (ap (λ (l : List ℕ). get_or l 3 0) k)
            need k patterns = sym (ap (λ (l : List ℕ). get_or l 4 0) k)
            need k trees = sym (ap (λ (l : List ℕ). get_or l 5 0) k)
            need k records = sym (ap (λ (l : List ℕ). get_or l 6 0) k) ∙ (rows_counted w).1
            need k values = sym (ap (λ (l : List ℕ). get_or l 7 0) k)

            Rule : ModelSaid → Layout → Type 0
            Rule y l =
                TreeRows y.text.questions 0 y.text.trees ts rs → Stand (rows_of t) (needed y) other
                → (let u = placed x (needed y) (model_rows y l ts rs) (rows_of t) in Judged y (rule_in x D p (u questions) (u trees) (u values)))
        go (BesideEnds.no_model n b) k v = absurd (omega (arith, (no_model_number n).0, ap (λ (l : List ℕ). get_or l 0 0) k))
        go (no_room r n) k v = absurd (omega (arith, ap (λ (l : List ℕ). get_or l 0 0) k))
        go (unlinked r a n) k v = absurd (omega (arith, (linking_number n).0, ap (λ (l : List ℕ). get_or l 0 0) k))

    -- refused
    pub turn_refused : {z : Refusal} → L.answer ≡ Err z → LoadRefused x s h other m t (number_of z) (place_of z) (line_of z) L.tables
    turn_refused {z} e =
        LoadRefused.refused {n = number_of z} (λ n. omega (arith, above_zero z, n))
        (subst (λ (l : List ℕ). BesideEnds x s h m other t l L.tables) (ap (λ (a : Result Loaded Refusal). rows_numbers (rows_by a)) e) (beside_ends bytes says m x other t))
