-- An opening that answered 0, and then each call on its words: nothing is asked of the caller but these calls.
use mathlib.Core.Path.{◌≡◌, refl, subst}
use mathlib.Core.List.{List}
use Prim.Native.Nat.{ℕ, ◌≤◌}
use lib.ListN.{length}
use lib.Seq.{sets}
use Rattle.written.specs.Record.{Header, Says}
use Rattle.written.specs.Models.{Model, model_number}
use Rattle.load_model.specs.Load.{Tables}
use Rattle.head_de.proofs.Sound.{Bytes}
use Rattle.larsavim.specs.Face.{Opens, Comments, Gets, Pairs, Needs, Loads}
use Rattle.larsavim.specs.Sharing.{LoadShares}
use Rattle.promises.specs.Opening.{record_words}
use Rattle.promises.specs.Reading.{AfterComment, AfterGet, AfterPair}
use Rattle.promises.specs.Loading.{AfterNeeds, AfterLoad}
use Rattle.promises.specs.Sharing.{AfterShared}
use Rattle.promises.proofs.Opening.{open_kept}
use Rattle.promises.proofs.Reading.{comment_kept, get_kept, pair_kept}
use Rattle.promises.proofs.Loading.{load_kept, needs_kept}
use Rattle.promises.proofs.Sharing.{shared_kept}
use Rattle.promises.proofs.Walked.{opened-zero}

module _ (s w out w' o : List ℕ) (open-call : Opens s w out 0 w' o) where
  bytes : Bytes s
  bytes = record { below = open-call.3 }

  -- the record that the file says, and that the words now are
  pub record_said : (h : Header) × Says s h × (647 ≤ length w) × (w' ≡ sets w 0 (record_words h))
  record_said = opened-zero bytes (open_kept w out open-call) refl

  abbrev h : Header
  h = record_said.0

  pub then_comment : (fallback : ℕ) (out₁ : List ℕ) {r : ℕ} {o₁ : List ℕ} → Comments (length s) w' fallback out₁ r o₁ → AfterComment h fallback out₁ r o₁
  then_comment f out₁ {r} {o₁} c = comment_kept w h record_said.2 record_said.1 f out₁ (subst (λ (u : List ℕ). Comments (length s) u f out₁ r o₁) record_said.3 c)

  pub then_get : (field : ℕ) (out₁ : List ℕ) {r : ℕ} {o₁ : List ℕ} → Gets w' field out₁ r o₁ → AfterGet h field out₁ r o₁
  then_get i out₁ {r} {o₁} c = get_kept w h record_said.2 i out₁ (subst (λ (u : List ℕ). Gets u i out₁ r o₁) record_said.3 c)

  pub then_pair : (field : ℕ) (out₁ : List ℕ) {r : ℕ} {o₁ : List ℕ} → Pairs w' field out₁ r o₁ → AfterPair h field out₁ r o₁
  then_pair i out₁ {r} {o₁} c = pair_kept w h record_said.2 i out₁ (subst (λ (u : List ℕ). Pairs u i out₁ r o₁) record_said.3 c)

  pub then_needs : (m : Model) (out₁ : List ℕ) {r : ℕ} {o₁ : List ℕ} → Needs s w' (model_number m) out₁ r o₁ → AfterNeeds s h m out₁ r o₁
  then_needs m out₁ {r} {o₁} c = needs_kept bytes record_said.1 m w record_said.2 out₁ (subst (λ (u : List ℕ). Needs s u (model_number m) out₁ r o₁) record_said.3 c)

  pub then_load : (m : Model) (t : Tables) (out₁ : List ℕ) {r : ℕ} {t' : Tables} {o₁ : List ℕ} → Loads s w' (model_number m) t out₁ r t' o₁ → AfterLoad s h m t out₁ r t' o₁
  then_load m t out₁ {r} {t'} {o₁} c = load_kept bytes record_said.1 m t w record_said.2 out₁ (subst (λ (u : List ℕ). Loads s u (model_number m) t out₁ r t' o₁) record_said.3 c)

  pub then_load_shared : (m : Model) (side : ℕ) (held other : List ℕ) (t : Tables) (out₁ : List ℕ) {r : ℕ} {held₁ : List ℕ} {t' : Tables} {o₁ : List ℕ}
      → LoadShares s w' (model_number m) side held other t out₁ r held₁ t' o₁ → AfterShared s h m side held other t out₁ r held₁ t' o₁
  then_load_shared m side held other t out₁ {r} {held₁} {t'} {o₁} c =
      shared_kept bytes record_said.1 m w record_said.2 side held other t out₁
      (subst (λ (u : List ℕ). LoadShares s u (model_number m) side held other t out₁ r held₁ t' o₁) record_said.3 c)
