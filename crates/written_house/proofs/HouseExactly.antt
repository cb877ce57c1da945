-- What each number of the house's call means: 1 to 12 are opening's, 12 to 23 a load's, 30 to 36 the rules', and 0 is a house voice.
use mathlib.Core.Path.{◌≡◌}
use mathlib.Core.List.{List}
use Prim.Native.Nat.{ℕ, ◌≤◌}
use native.Mathlib.Omega.{arith}
use Rattle.written.specs.Groups.{Pointwise}
use Rattle.written.specs.Record.{Header, Says}
use Rattle.written.specs.Models.{Model, Models}
use Rattle.written.specs.Loading.{ModelSaid, NoModel}
use Rattle.written.specs.House.{ModelBreaks, FirstBreaks, HouseVoice, VoiceBreaks, SaysModel, FirstRefused, Judges, JudgesFile}
use Rattle.written_models.proofs.Openings.{refused_low}
use Rattle.written_models.proofs.Numbers.{no_model_number}

-- ---- a load's numbers

module _ {widen : ℕ → ℕ} {s : List ℕ} {h : Header} where
  first_number : {ms : List Model} {n p l k : ℕ} → FirstRefused (SaysModel widen s h) (NoModel widen s h) ms n p l k → (12 ≤ n) × (n ≤ 23)
  first_number (FirstRefused.here r) = no_model_number r
  first_number (FirstRefused.later a r) = first_number r

-- ---- the rules' numbers

model_breaks_number : {x : ModelSaid} {n : ℕ} → ModelBreaks x n → (32 ≤ n) × (n ≤ 36)
model_breaks_number (ModelBreaks.ids n) = (omega arith, omega arith)
model_breaks_number (ModelBreaks.names a n) = (omega arith, omega arith)
model_breaks_number (ModelBreaks.leaves a b n) = (omega arith, omega arith)
model_breaks_number (ModelBreaks.means a b c n) = (omega arith, omega arith)
model_breaks_number (ModelBreaks.variances a b c d n) = (omega arith, omega arith)

first_breaks_number : {ms : List Model} {xs : List ModelSaid} {n k : ℕ} → FirstBreaks ms xs n k → (32 ≤ n) × (n ≤ 36)
first_breaks_number (FirstBreaks.here b) = model_breaks_number b
first_breaks_number (FirstBreaks.later h b) = first_breaks_number b

pub voice_breaks_number : {s : List ℕ} {h : Header} {ms : List Model} {xs : List ModelSaid} {n k : ℕ} → VoiceBreaks s h ms xs n k → (30 ≤ n) × (n ≤ 36)
voice_breaks_number (VoiceBreaks.counted a) = (omega arith, omega arith)
voice_breaks_number (VoiceBreaks.types a b) = (omega arith, omega arith)
voice_breaks_number (VoiceBreaks.model a b c) = let r = first_breaks_number c in (omega (arith, r.0), r.1)

-- ---- the call

module _ {widen : ℕ → ℕ} {file : List ℕ} where
  -- 0: every model is there, and all rules hold
  pub house-zero : {n p l k : ℕ} → JudgesFile widen file n p l k → n ≡ 0
      → (h : Header) × (ms : List Model) × (xs : List ModelSaid) × Says file h × Models file h ms × Pointwise (SaysModel widen file h) ms xs × HouseVoice file h xs
  house-zero (JudgesFile.unopened r) e = absurd (omega (arith, (refused_low r).0))
  house-zero (JudgesFile.opened o m (Judges.refused r)) e = absurd (omega (arith, (first_number r).0))
  house-zero (JudgesFile.opened o m (Judges.breaks a v)) e = absurd (omega (arith, (voice_breaks_number v).0))
  house-zero (JudgesFile.opened o m (Judges.house a v)) e = (_, _, _, o, m, a, v)

  -- 30 to 36: every model is there, and this is the first rule that is broken
  pub house_broken : {n p l k : ℕ} → JudgesFile widen file n p l k → 30 ≤ n
      → (h : Header) × (ms : List Model) × (xs : List ModelSaid) × Says file h × Models file h ms × Pointwise (SaysModel widen file h) ms xs × VoiceBreaks file h ms xs n k
  house_broken (JudgesFile.unopened r) e = absurd (omega (arith, (refused_low r).1))
  house_broken (JudgesFile.opened o m (Judges.refused r)) e = absurd (omega (arith, (first_number r).1))
  house_broken (JudgesFile.opened o m (Judges.breaks a v)) e = (_, _, _, o, m, a, v)
  house_broken (JudgesFile.opened o m (Judges.house a v)) e = absurd (omega arith)
