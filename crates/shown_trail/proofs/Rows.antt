-- The rows of a voice as they are counted and read are `written`'s `VoiceRows`, a refusal is `NoVoiceRows`, and the trailer is `written`'s.
use mathlib.Core.Path.{◌≡◌, refl, sym, ap, ap₂, ◌∙◌, subst}
use mathlib.Core.List.{List, [], ◌∷◌, ◌++◌, map, zip_with}
use Prim.Native.Nat.{ℕ, ◌+◌}
use native.Mathlib.Omega.{arith}
use lib.ListN.{take}
use Rattle.written.specs.Blocks.{little_endian}
use Rattle.written.specs.Said as said
use Rattle.written.specs.TreeText as grammar
use Rattle.written.specs.Record as record_of
use Rattle.written.specs.Models as models
use Rattle.written.specs.Models.{Model, model_number, Models, TextOf, NoTextOf}
use Rattle.written.specs.Trailer.{TrailerRows, VoiceRows, NoVoiceRows, sum32, unsummed, Trailer}
use Rattle.written_trailer.proofs.TrailerFits.{trailer_exists}
use Rattle.laws.specs.Steps.{done_at}
use Rattle.error.specs.Numbers.{number_of, place_of}
use Rattle.error.specs.declared.Refusal.{Refusal}
use Rattle.head_record.specs.Record.{header_record}
use Rattle.tree_question.specs.Questions.{questions_at}
use Rattle.tree_body.specs.Trees.{tree_of, trees_at}
use Rattle.tree_survey.specs.Survey.{Text, text_read, text_at}
use Rattle.tree_survey.proofs.Joined.{says_read}
use Rattle.load_plan.specs.Plans.{data_of}
use Rattle.load_voice.specs.Voice.{text_as, models_of, voice_text}
use Rattle.trail_rows.specs.Rows.{rows_of}
use Rattle.trail_rows.proofs.Joined.{text_rows_lem}
use Rattle.trail_voice.specs.Voice.{which_number, text_rows, model_rows, voice_rows, trees_on, voice_trees}
use Rattle.trail_voice.proofs.Laws.{counted}
use Rattle.face_trail.specs.Answers.{all_rows, trailer_bytes}
use Rattle.shown_models.proofs.Chosen.{data_is, which_of}
use Rattle.shown_voice.proofs.Texts.{Texted, voice_text_lem}
use Rattle.shown_voice.proofs.Texts as texted
use Rattle.load_voice.specs.declared.VoiceText.{VoiceText}
use Rattle.std.specs.Prelude.{Err, Ok, Result}

pub number_is : (m : Model) → which_number (which_of m) ≡ model_number m
number_is models.duration = refl
number_is (models.stream i) = refl
number_is (models.gv i) = refl

-- the trees of a text that was read
trees_are : (s : List ℕ) {i f : ℕ} {t : said.Text} {l : said.Layout} → grammar.Says s i t l → (questions_at s i).ending ≡ done_at f → (trees_at s f).items ≡ zip_with tree_of t.trees l.trees
unfolding text_at
trees_are s {i} says begins = ap (λ (r : Text). r.trees) (sym (ap (text_read s (questions_at s i).items) begins) ∙ says_read s says)

module _ (s : List ℕ) (h : record_of.Header) (o : record_of.Says s h) where
  -- ---- one model

  pub data Modelled (m : Model) : Result VoiceText Refusal → List ℕ → Type 0 where
    rows : {a e f n : ℕ} {t : said.Text} {l : said.Layout} {ns : List ℕ} → TextOf s h m t l → TrailerRows (model_number m) t.trees l.trees ns → Modelled m (text_as a e f n) ns
    none : {z : Refusal} {ns : List ℕ} → NoTextOf s h m (number_of z) (place_of z) → Modelled m (Err z) ns

  modelled : (m : Model) → Modelled m (voice_text s (header_record h) (which_of m)) (model_rows s (header_record h) (which_of m))
  unfolding model_rows
  modelled m = go (voice_text s (header_record h) (which_of m)) (voice_text_lem s h m o)
    where
      go : (v : Result VoiceText Refusal) → Texted s h m v → Modelled m v (text_rows (data_of s (header_record h)) (which_number (which_of m)) v)
      go v (texted.read {a} {e} {f} {n} {t} {l} x b c q k) =
          let D : List ℕ = models.data_of s h in
          let S : List ℕ = take (x.tree.to + 1) D in
          let q' : (questions_at S x.tree.from).ending ≡ done_at f = ap₂ (λ (i j : ℕ). (questions_at (take j D) i).ending) (sym b) (sym c) ∙ q in
          let here : take e (data_of s (header_record h)) ≡ S = ap₂ (λ (j : ℕ) (d : List ℕ). take j d) c (data_is s h) in
          let is : rows_of (which_number (which_of m)) (trees_at (take e (data_of s (header_record h))) f).items ≡ rows_of (model_number m) (zip_with tree_of t.trees l.trees) =
          ap₂ (λ (j : ℕ) (z : List ℕ). rows_of j (trees_at z f).items) (number_is m) here ∙ ap (rows_of (model_number m)) (trees_are S x.says q') in
          rows x (subst (TrailerRows (model_number m) t.trees l.trees) (sym is) (text_rows_lem (model_number m) x.says))
      go v (texted.refused x k) = none x

  -- ---- all models

  pub data Counts (ms : List Model) : Result ℕ Refusal → Type 0 where
    rows : {n : ℕ} → VoiceRows s h ms (voice_rows s (header_record h) (map which_of ms)) → Counts ms (Ok n)
    none : {z : Refusal} → NoVoiceRows s h ms (number_of z) (place_of z) → Counts ms (Err z)

  pub counts : (ms : List Model) (n : ℕ) → Counts ms (voice_trees s (header_record h) (map which_of ms) n)
  unfolding voice_trees voice_rows
  counts [] n = rows VoiceRows.end
  counts (m ∷ ms) n = go (voice_text s (header_record h) (which_of m)) (modelled m) (λ k. counts ms k)
    where
      join : {t : said.Text} {l : said.Layout} → TextOf s h m t l → TrailerRows (model_number m) t.trees l.trees (model_rows s (header_record h) (which_of m))
          → (v : Result ℕ Refusal) → Counts ms v → Counts (m ∷ ms) v
      join x r v (rows y) = rows (VoiceRows.next x r y)
      join x r v (none y) = none (NoVoiceRows.later x y)

      go : (v : Result VoiceText Refusal) → Modelled m v (model_rows s (header_record h) (which_of m)) → ((k : ℕ) → Counts ms (voice_trees s (header_record h) (map which_of ms) k))
          → Counts (m ∷ ms) (trees_on (voice_trees s (header_record h) (map which_of ms)) n v)
      go v (rows {n = k} x r) rest = join x r (voice_trees s (header_record h) (map which_of ms) (n + k)) (rest (n + k))
      go v (none x) rest = none (NoVoiceRows.here x)

  -- ---- the trailer

  module _ {ms : List Model} (m : Models s h ms) (is : models_of s (header_record h) ≡ map which_of ms) where
    pub all_are : all_rows s (header_record h) ≡ voice_rows s (header_record h) (map which_of ms)
    all_are = ap (voice_rows s (header_record h)) is

    module _ {n : ℕ} (q : Ok n ≡ voice_trees s (header_record h) (models_of s (header_record h)) 0) (v : VoiceRows s h ms (all_rows s (header_record h))) where
      pub the_trailer : Trailer s (all_rows s (header_record h)) (trailer_bytes s (header_record h) n)
      unfolding trailer_bytes
      the_trailer =
          let T = trailer_exists o m v in
          let R : List ℕ = all_rows s (header_record h) in
          let c : T.1.count ≡ n = omega (arith, T.1.threes, (counted s (header_record h) q).threes) in
          subst (Trailer s R) (T.1.whole ∙ ap (λ (k : ℕ). unsummed s R k ++ little_endian (sum32 (s ++ unsummed s R k) ∷ [])) c) T.1
