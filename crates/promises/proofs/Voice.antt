-- Judging a voice's models, one in place of the other, as it is computed: a step is a load that is judged, and all steps are loads in turn with the first broken rule kept.
use mathlib.Core.Path.{◌≡◌, refl, sym, ap, ap₂, ◌∙◌, subst}
use mathlib.Core.Bool.{Bool, true, false, cond}
use mathlib.Core.List.{List, [], ◌∷◌, map}
use Prim.Native.Nat.{ℕ}
use native.Mathlib.Omega.{arith}
use native.Mathlib.Decide.{ℕ_discrete}
use borrow.Author.Tests.{eq-eqb, ne_eqb}
use lib.Dec.{eqb}
use Rattle.written.specs.Record as record_of
use Rattle.written.specs.Record.{All}
use Rattle.written.specs.Models as models
use Rattle.written.specs.Models.{model_number}
use Rattle.written.specs.Loading.{ModelSaid}
use Rattle.written.specs.House.{HouseModel, ModelBreaks, FirstBreaks}
use Rattle.written.specs.Sharing.{Side, Held, Stand}
use Rattle.error.specs.Numbers.{number_of, place_of, line_of}
use Rattle.error.specs.declared.Refusal.{Refusal}
use Rattle.head_record.specs.Record.{header_record}
use Rattle.head_de.proofs.Sound.{Bytes}
use Rattle.load_plan.specs.Plans as plans
use Rattle.load_plan.specs.Plans.{planned}
use Rattle.load_model.specs.Load.{Tables as Lent, After, untouched}
use Rattle.load_apart.specs.Loads as apart
use Rattle.load_apart.proofs.Apart.{unload_is}
use Rattle.load_shared.specs.Beside.{rows_of, with_work, beside_for, beside_of}
use Rattle.load_bounds.specs.Bounds.{held_of}
use Rattle.load_bounds.specs.declared.Held.{Held as Bounds}
use Rattle.trail_voice.specs.Voice.{which_number}
use Rattle.house_own.specs.Own.{rule_in}
use Rattle.house_step.specs.Steps as steps
use Rattle.house_step.specs.Steps.{judged_as, ruled_as, step_for, step_of}
use Rattle.house_voice.specs.Voice as voice
use Rattle.house_voice.specs.Voice.{one_refused, all_judged, broken, first_of, voice_on, voice_from}
use Rattle.house_voice.specs.declared.Broken.{Broken}
use Rattle.shown_models.proofs.Chosen.{which_of}
use Rattle.shown_house.proofs.Rules.{Judged}
use Rattle.shown_house.proofs.Rules as rules
use Rattle.promises.specs.Sharing.{needed}
use Rattle.promises.specs.Housing.{emptied, Loads, LoadRefused, InTurn, Stops}
use Rattle.promises.proofs.Turns.{loads_stand}
use Rattle.promises.proofs.Judging.{turn_done, turn_refused}
use Rattle.load_model.specs.declared.Loaded.{Loaded}
use Rattle.house_voice.specs.declared.ModelRefused.{ModelRefused}
use Rattle.load_plan.specs.declared.Plan.{Plan}
use Rattle.house_step.specs.declared.Judged.{Judged as Stepped}
use Rattle.house_voice.specs.declared.VoiceJudged.{VoiceJudged}
use Rattle.std.specs.Prelude.{Err, Ok, Result}

-- 0 duration, 2i + 1 stream i, 2i + 2 its GV
number_is : (m : models.Model) → which_number (which_of m) ≡ model_number m
number_is models.duration = refl
number_is (models.stream i) = refl
number_is (models.gv i) = refl

-- ---- what is kept of the rules that models break, one after the other: b before them, c after them

pub data Keeps (ms : List models.Model) (ys : List ModelSaid) (b c : Broken) : Type 0 where
  known : ¬ (b.rule ≡ 0) → c ≡ b → Keeps ms ys b c
  none : b.rule ≡ 0 → All HouseModel ys → c ≡ b → Keeps ms ys b c
  first : b.rule ≡ 0 → FirstBreaks ms ys c.rule c.model → Keeps ms ys b c

keeps_end : (b : Broken) → Keeps [] [] b b
keeps_end b = go (ℕ_discrete b.rule 0)
  where
    go : Dec (b.rule ≡ 0) → Keeps [] [] b b
    go (yes e) = Keeps.none e All.end refl
    go (no n) = Keeps.known n refl

-- of no rule, or a first one
some_rule : {y : ModelSaid} {n : ℕ} → ModelBreaks y n → ¬ (n ≡ 0)
some_rule (ModelBreaks.ids a) e = omega arith
some_rule (ModelBreaks.names a b) e = omega arith
some_rule (ModelBreaks.leaves a b c) e = omega arith
some_rule (ModelBreaks.means a b c d) e = omega arith
some_rule (ModelBreaks.variances a b c d f) e = omega arith

module _ (b : Broken) where
  -- what is known stays
  kept : (n k : ℕ) → ¬ (b.rule ≡ 0) → first_of b n k ≡ b
  unfolding first_of
  kept n k e = ap (λ (x : Bool). cond x (cond (eqb n 0) b (broken n k)) b) (ne_eqb b.rule 0 e)

  unbroken : (n k : ℕ) → n ≡ 0 → first_of b n k ≡ b
  unfolding first_of
  unbroken n k e = ap (λ (x : Bool). cond (eqb b.rule 0) (cond x b (broken n k)) b) (eq-eqb n 0 e) ∙ go (eqb b.rule 0)
    where
      go : (x : Bool) → cond x b b ≡ b
      go true = refl
      go false = refl

  taken : (n k : ℕ) → b.rule ≡ 0 → ¬ (n ≡ 0) → first_of b n k ≡ broken n k
  unfolding first_of
  taken n k e f = ap₂ (λ (x z : Bool). cond x (cond z b (broken n k)) b) (eq-eqb b.rule 0 e) (ne_eqb n 0 f)

module _ {m : models.Model} {ms : List models.Model} {y : ModelSaid} {ys : List ModelSaid} (b : Broken) {c : Broken} where
  keeps_next : {n : ℕ} → Judged y n → Keeps ms ys (first_of b n (model_number m)) c → Keeps (m ∷ ms) (y ∷ ys) b c
  keeps_next {n} j k = go (ℕ_discrete b.rule 0) j k
    where
      later : b.rule ≡ 0 → HouseModel y → Keeps ms ys b c → Keeps (m ∷ ms) (y ∷ ys) b c
      later e h (Keeps.known x q) = absurd (x e)
      later e h (Keeps.none x a q) = Keeps.none e (All.next h a) q
      later e h (Keeps.first x f) = Keeps.first e (FirstBreaks.later h f)

      now : {n : ℕ} → b.rule ≡ 0 → ModelBreaks y n → Keeps ms ys (broken n (model_number m)) c → Keeps (m ∷ ms) (y ∷ ys) b c
      now {n} e h (Keeps.known x q) = Keeps.first e (subst (λ (z : Broken). FirstBreaks (m ∷ ms) (y ∷ ys) z.rule z.model) (sym q) (FirstBreaks.here h))
      now e h (Keeps.none x a q) = absurd (some_rule h x)
      now e h (Keeps.first x f) = absurd (some_rule h x)

      go : {n : ℕ} → Dec (b.rule ≡ 0) → Judged y n → Keeps ms ys (first_of b n (model_number m)) c → Keeps (m ∷ ms) (y ∷ ys) b c
      go {n} (no e) j k = stays (subst (λ (z : Broken). Keeps ms ys z c) (kept b n (model_number m) e) k)
        where
          stays : Keeps ms ys b c → Keeps (m ∷ ms) (y ∷ ys) b c
          stays (Keeps.known x q) = Keeps.known x q
          stays (Keeps.none x a q) = absurd (e x)
          stays (Keeps.first x f) = absurd (e x)
      go (yes e) (rules.house h) k = later e h (subst (λ (z : Broken). Keeps ms ys z c) (unbroken b 0 (model_number m) refl) k)
      go {n} (yes e) (rules.breaks h) k = now e h (subst (λ (z : Broken). Keeps ms ys z c) (taken b n (model_number m) e (some_rule h)) k)

module _ {s : List ℕ} (bytes : Bytes s) {h : record_of.Header} (says : record_of.Says s h) (x : Side) (other : Held) where
  abbrev D : List ℕ
  D = plans.data_of s (header_record h)

  -- ---- one step

  data StepSaid (m : models.Model) (t : Lent) : Result Stepped Refusal → Lent → Type 0 where
    judged : {y : ModelSaid} {n : ℕ} {l : Bounds} {u : Lent} → Loads x s h other m t y u → held_of l ≡ needed y → Judged y n → StepSaid m t (judged_as n l) u
    refused : {z : Refusal} {u : Lent} → LoadRefused x s h other m t (number_of z) (place_of z) (line_of z) u → StepSaid m t (Err z) u

  -- what the task holds is unloaded
  emptied_so : (mine : Held) (t : Lent) → Stand (rows_of t) mine other → steps.emptied x mine other t ≡ emptied x mine t
  emptied_so mine t stand = ap (λ (r : apart.After Refusal). with_work r.tables t.work) (unload_is Refusal x mine other (rows_of t) stand)

  module _ (m : models.Model) (t : Lent) where
    abbrev P : Result Plan Refusal
    P = planned s (header_record h) (which_of m)

    planned_said : StepSaid m t (step_for x other D P t).answer (step_for x other D P t).tables
    unfolding beside_of
    planned_said = go P refl
      where
        go : (o : Result Plan Refusal) → P ≡ o → StepSaid m t (step_for x other D o t).answer (step_for x other D o t).tables
        go (Err z) q =
            let e : beside_of x s (header_record h) (which_of m) other t ≡ untouched z t = ap (λ (o : Result Plan Refusal). beside_for x other D o t) q in
            StepSaid.refused (subst (λ (a : After). LoadRefused x s h other m t (number_of z) (place_of z) (line_of z) a.tables) e (turn_refused bytes says m x other t (ap (λ (a : After). a.answer) e)))
        go (Ok p) q = by_answer F.answer refl
          where
            F : After
            F = beside_for x other D (Ok p) t

            e : beside_of x s (header_record h) (which_of m) other t ≡ F
            e = ap (λ (o : Result Plan Refusal). beside_for x other D o t) q

            by_answer : (a : Result Loaded Refusal) → F.answer ≡ a → StepSaid m t (ruled_as x D p F.tables a) F.tables
            by_answer (Ok l) k =
                let r = turn_done bytes says m x other t p (sym q) (ap (λ (a : After). a.answer) e ∙ k) in
                StepSaid.judged (subst (λ (a : After). Loads x s h other m t r.model a.tables) e r.loads) r.need
                (subst (λ (a : After). Judged r.model (rule_in x D p a.tables.questions a.tables.trees a.tables.values)) e r.rule)
            by_answer (Err z) k =
                StepSaid.refused (subst (λ (a : After). LoadRefused x s h other m t (number_of z) (place_of z) (line_of z) a.tables) e (turn_refused bytes says m x other t (ap (λ (a : After). a.answer) e ∙ k)))

  step_said : (m : models.Model) (mine : Held) (t : Lent) → Stand (rows_of t) mine other
      → StepSaid m (emptied x mine t) (step_of x s (header_record h) (which_of m) mine other t).answer (step_of x s (header_record h) (which_of m) mine other t).tables
  unfolding step_of
  step_said m mine t stand =
      subst (λ (u : Lent). StepSaid m (emptied x mine t) (step_for x other D (P m t) u).answer (step_for x other D (P m t) u).tables) (sym (emptied_so mine t stand)) (planned_said m (emptied x mine t))

  -- ---- all models

  pub data VoiceSaid (ms : List models.Model) (mine : Held) (t : Lent) (b : Broken) : Result VoiceJudged ModelRefused → Lent → Type 0 where
    judged : {ys : List ModelSaid} {mine₁ : Held} {u : Lent} {c : Broken} {l : Bounds} → InTurn x s h other ms mine t ys mine₁ u → held_of l ≡ mine₁ → Keeps ms ys b c
        → VoiceSaid ms mine t b (all_judged c l) u
    refused : {z : Refusal} {k : ℕ} {u : Lent} → Stops x s h other ms mine t (number_of z) (place_of z) (line_of z) k u → VoiceSaid ms mine t b (one_refused z k) u

  pub voice_said : (ms : List models.Model) (l : Bounds) (t : Lent) (b : Broken) → Stand (rows_of t) (held_of l) other
      → VoiceSaid ms (held_of l) t b (voice_from x s (header_record h) other (map which_of ms) b l t).answer (voice_from x s (header_record h) other (map which_of ms) b l t).tables
  unfolding voice_from
  voice_said [] l t b stand = VoiceSaid.judged InTurn.end refl (keeps_end b)
  voice_said (m ∷ ms) l t b stand = go (step_said m (held_of l) t stand) (λ i u c st. voice_said ms i u c st)
    where
      F : Broken → Bounds → Lent → voice.After
      F = voice_from x s (header_record h) other (map which_of ms)

      Rest : Type 0
      Rest = (i : Bounds) (u : Lent) (c : Broken) → Stand (rows_of u) (held_of i) other → VoiceSaid ms (held_of i) u c (F c i u).answer (F c i u).tables

      behind : {y : ModelSaid} {u : Lent} {n : ℕ} {i : Bounds} → Loads x s h other m (emptied x (held_of l) t) y u → held_of i ≡ needed y → Judged y n → {v : Result VoiceJudged ModelRefused} {w : Lent}
          → VoiceSaid ms (held_of i) u (first_of b n (which_number (which_of m))) v w → VoiceSaid (m ∷ ms) (held_of l) t b v w
      behind {y} {u} {n} {i} a e j (VoiceSaid.judged {ys = ys} {mine₁ = mine₁} {u = w} {c = c} r f k) =
          VoiceSaid.judged (InTurn.next a (subst (λ (o : Held). InTurn x s h other ms o u ys mine₁ w) e r)) f (keeps_next b j (subst (λ (o : ℕ). Keeps ms ys (first_of b n o) c) (number_is m) k))
      behind {y} {u} {i = i} a e j (VoiceSaid.refused {z = z} {k = k} {u = w} r) =
          VoiceSaid.refused (Stops.later a (subst (λ (o : Held). Stops x s h other ms o u (number_of z) (place_of z) (line_of z) k w) e r))

      go : {a : Result Stepped Refusal} {u : Lent} → StepSaid m (emptied x (held_of l) t) a u → Rest → VoiceSaid (m ∷ ms) (held_of l) t b (voice_on F (which_of m) b u a).answer (voice_on F (which_of m) b u a).tables
      go {u = u} (StepSaid.judged {n = n} {l = i} a e j) rest =
          behind a e j (rest i u (first_of b n (which_number (which_of m))) (subst (λ (o : Held). Stand (rows_of u) o other) (sym e) (loads_stand a)))
      go {u = u} (StepSaid.refused {z = z} a) rest =
          VoiceSaid.refused
          (subst (λ (k : ℕ). Stops x s h other (m ∷ ms) (held_of l) t (number_of z) (place_of z) (line_of z) k u) (sym (number_is m)) (Stops.here a))
