-- The text of a model that the code reads is the one that the record says, or is refused for what is wrong: `TextOf`, `NoTextOf`.
use mathlib.Core.Path.{◌≡◌, refl, sym, ap₂, subst}
use mathlib.Core.Bool.{Bool, true, false, cond, ◌&&◌}
use mathlib.Core.List.{List}
use mathlib.Core.Option.{Option as Maybe, some, none}
use Prim.Native.Nat.{ℕ, ◌+◌, ◌*◌, ◌≤◌}
use native.Mathlib.Omega.{arith}
use borrow.Author.Tests.{le-ltb}
use lib.ListN.{length, take}
use Rattle.tree_survey.specs.declared.SurveyError.TheVariants as fault
use Rattle.tree_survey.specs.declared.SurveyError.{SurveyError}
use Rattle.tree_survey.specs.declared.Survey.{Survey}
use Rattle.written.specs.HeaderText as says
use Rattle.written.specs.Record as record_of
use Rattle.written.specs.Said as said
use Rattle.written.specs.TreeText as tree
use Rattle.written.specs.Models as models
use Rattle.written.specs.Models.{Model, a_stream, a_gv, EntriesOf, Placed, of_duration, of_stream, of_gv, NoGv, Unplaced, Within, TextOf, NoTextOf}
use Rattle.laws.specs.Steps.{Ending, done_at, broken_at}
use Rattle.error.specs.Numbers.{number_of, place_of, line_of}
use Rattle.error.specs.declared.Refusal.{Refusal}
use Rattle.error.specs.declared.Refusal.TheVariants as refusal
use Rattle.head_record.specs.Lists.{range_of}
use Rattle.head_record.specs.Record.{there as present, range_or, global_record, stream_record, position_record, header_record}
use Rattle.head_record_fits.proofs.Said.{says_fits}
use Rattle.tree_question.specs.Questions.{questions_at}
use Rattle.tree_survey.specs.Survey.{survey_at}
use Rattle.tree_survey.proofs.Said.{negative_said}
use Rattle.load_choose.specs.Chosen.{chosen, model_of, stream_by, gv_by, asked_by, text_chosen}
use Rattle.load_range.specs.Ranges.{bounds, within_of}
use Rattle.load_choose.proofs.Joined.{numbered_so}
use Rattle.load_plan.specs.Plans.{placed, text_of, data_of}
use Rattle.load_plan.proofs.Laws.{Was, was}
use Rattle.load_voice.specs.Voice.{text_as, text_by, text_within, text_in, text_for, voice_text}
use Rattle.shown_breaks.proofs.Place.{broken_breaks}
use Rattle.shown_load.proofs.Texts.{counted_whole, spoken, natural, counted}
use Rattle.shown_load.proofs.Refused.{within_is, outside_is}
use Rattle.shown_models.proofs.Chosen.{record_arrays, data_is, which_of, numbered}
use Rattle.load_range.specs.declared.Bounds.{Bounds}
use Rattle.load_choose.specs.declared.Chosen.{Chosen}
use Rattle.load_plan.specs.declared.Text.{Text}
use Rattle.load_voice.specs.declared.VoiceText.{VoiceText}
use Rattle.std.specs.Prelude.{Err, None, Ok, Some, Result, Option}

-- ---- where it stands

-- where the record has a model, however wide, or why nowhere: 13 to 15
pub data TextPlacing (s : List ℕ) (h : record_of.Header) (m : Model) : Result Chosen Refusal → Type 0 where
  at : {t b : says.Range} {w v : ℕ} → Placed s h m t b w → TextPlacing s h m (chosen t.from t.to b.from b.to v)
  nowhere : {z : Refusal} → Unplaced s h m (number_of z) → (place_of z ≡ 0) × (line_of z ≡ 0) → TextPlacing s h m (Err z)

module _ (s : List ℕ) (h : record_of.Header) (r : record_of.Says s h) where
  however_wide : {m : Model} {t b : says.Range} {w : ℕ} → Placed s h m t b w → (v : ℕ) → v ≤ 4096 → TextPlacing s h m (model_of (range_of t) (range_of b) v)
  unfolding model_of
  however_wide p v l = rw (le-ltb 4096 v l) (at p)

  a_stream_text : (i : ℕ) (d : record_of.Stream) (p : record_of.Position) → EntriesOf s h i d p → TextPlacing s h (models.stream i) (stream_by false (stream_record d) (position_record p))
  unfolding stream_by stream_record position_record
  a_stream_text i d p e = however_wide (of_stream e) (2 * (0 * d.num_windows) + 0) (omega arith)

  a_gv_text : (i : ℕ) (d : record_of.Stream) (p : record_of.Position) → EntriesOf s h i d p → TextPlacing s h (models.gv i) (gv_by false (stream_record d) (position_record p))
  unfolding gv_by stream_record position_record
  a_gv_text i d p e = go d.use_gv refl p.gv_tree refl p.gv_pdf refl
    where
      go : (c : Bool) → d.use_gv ≡ c → (t : Maybe says.Range) → p.gv_tree ≡ t → (b : Maybe says.Range) → p.gv_pdf ≡ b
          → TextPlacing s h (models.gv i) (cond (c && present t && present b) (model_of (range_or t) (range_or b) (2 * 0)) (Err refusal.UseGv))
      go false u t k b j = nowhere (Unplaced.no_gv e (NoGv.unused u)) (refl, refl)
      go true u none k b j = nowhere (Unplaced.no_gv e (NoGv.no_tree k)) (refl, refl)
      go true u (some t) k none j = nowhere (Unplaced.no_gv e (NoGv.no_block j)) (refl, refl)
      go true u (some t) k (some b) j = however_wide (of_gv e u k j) 0 (omega arith)

  pub text_placed : (m : Model) → TextPlacing s h m (text_chosen s (header_record h) (which_of m))
  unfolding text_chosen header_record global_record
  text_placed m = rw (says_fits s h r) (go m)
    where
      go : (m : Model) → TextPlacing s h m (asked_by false s (header_record h) (which_of m))
      go models.duration = however_wide of_duration 0 (omega arith)
      go (models.stream i) =
          numbered s h r (stream_by false) (models.stream i) i a_stream (TextPlacing s h (models.stream i)) (λ z. nowhere {z = z}) (a_stream_text i)
          (numbered_so (stream_by false) s (header_record h) (record_arrays h) (says_fits s h r) i)
      go (models.gv i) =
          numbered s h r (gv_by false) (models.gv i) i a_gv (TextPlacing s h (models.gv i)) (λ z. nowhere {z = z}) (a_gv_text i)
          (numbered_so (gv_by false) s (header_record h) (record_arrays h) (says_fits s h r) i)

-- ---- what it says

-- the text from a up to e says t, its trees begin at f, and it has n of them; or number and place of what is wrong
pub data Texted (s : List ℕ) (h : record_of.Header) (m : Model) : Result VoiceText Refusal → Type 0 where
  read : {a e f n : ℕ} {t : said.Text} {l : said.Layout} (x : TextOf s h m t l) → a ≡ x.tree.from → e ≡ x.tree.to + 1
      → (questions_at (take e (models.data_of s h)) a).ending ≡ done_at f → n ≡ length t.trees → Texted s h m (text_as a e f n)
  refused : {z : Refusal} → NoTextOf s h m (number_of z) (place_of z) → line_of z ≡ 0 → Texted s h m (Err z)

module _ (s : List ℕ) (h : record_of.Header) (m : Model) where
  abbrev D : List ℕ
  D = models.data_of s h

  module _ {t b : says.Range} {w : ℕ} (p : Placed s h m t b w) where
    abbrev S : List ℕ
    S = take (t.to + 1) D

    broken : Within t D → (z : Refusal) → text_of S t.from ≡ Err z → Texted s h m (Err z)
    unfolding text_of
    broken inside z e = at_end (questions_at S t.from).ending refl (survey_at S t.from) refl e
      where
        silent : {k : ℕ} → survey_at S t.from ≡ Err (fault.Broken k) → refusal.Text k ≡ z → Texted s h m (Err z)
        silent {k} o e = subst (λ (z : Refusal). Texted s h m (Err z)) e (refused (NoTextOf.breaks p inside (broken_breaks S t.from k o)) refl)

        below : survey_at S t.from ≡ (Err fault.Negative) → refusal.State ≡ z → Texted s h m (Err z)
        below o e =
            let k = negative_said t.from o in
            subst (λ (z : Refusal). Texted s h m (Err z)) e (refused (NoTextOf.negative p inside k.2 k.3) refl)

        at_end : (n : Ending) → (questions_at S t.from).ending ≡ n → (o : Result Survey SurveyError) → survey_at S t.from ≡ o → placed n o ≡ Err z → Texted s h m (Err z)
        at_end (done_at f) n (Ok r) o e = let u : ◌≡◌ {A = ℕ} 0 1 = cc in absurd (omega arith)
        at_end (broken_at f) n (Ok r) o e = absurd (counted_whole S t.from o n)
        at_end (done_at f) n (Err (fault.Broken k)) o e = silent o (let u : refusal.Text k ≡ z = cc in u)
        at_end (broken_at f) n (Err (fault.Broken k)) o e = silent o (let u : refusal.Text k ≡ z = cc in u)
        at_end (done_at f) n (Err fault.Negative) o e = below o (let u : refusal.State ≡ z = cc in u)
        at_end (broken_at f) n (Err fault.Negative) o e = below o (let u : refusal.State ≡ z = cc in u)

    in_range : Within t D → Texted s h m (text_by t.from (t.to + 1) (text_of S t.from))
    in_range inside = go (text_of S t.from) refl
      where
        go : (o : Result Text Refusal) → text_of S t.from ≡ o → Texted s h m (text_by t.from (t.to + 1) o)
        go (Ok m) e =
            let record { first = f; questions = q; patterns = u; trees = n; records = r; lines = l } = m in
            let known : Was S t.from f q u n r l = was S t.from (sym e) in
            read
            (record {
              tree = t;
              block = b;
              width = w;
              placed = p;
              inside = inside;
              says = (spoken S t.from known).says;
              natural = natural S t.from known;
            })
            refl refl known.begins (counted S t.from known).1
        go (Err z) e = broken inside z e

    in_data : Texted s h m (text_in D t.from t.to)
    unfolding text_in
    in_data = go (within_of t.from t.to (length D)) refl
      where
        go : (o : Option Bounds) → within_of t.from t.to (length D) ≡ o → Texted s h m (text_within D o)
        go (Some b) o =
            let w = within_is t.from t.to (length D) o in
            subst (λ (x : Option Bounds). Texted s h m (text_within D x)) (ap₂ bounds (sym w.2) (sym w.3)) (in_range (record { order = w.0; ends = w.1 }))
        go None o = refused (NoTextOf.outside p (λ w. outside_is t.from t.to (length D) o (w.order, w.ends))) refl

  pub voice_text_lem : record_of.Says s h → Texted s h m (voice_text s (header_record h) (which_of m))
  unfolding voice_text
  voice_text_lem r = go (text_chosen s (header_record h) (which_of m)) (text_placed s h r m)
    where
      go : (c : Result Chosen Refusal) → TextPlacing s h m c → Texted s h m (text_for (data_of s (header_record h)) c)
      go c (at {t} p) = subst (λ (d : List ℕ). Texted s h m (text_in d t.from t.to)) (sym (data_is s h)) (in_data p)
      go c (nowhere {z} u (e, f)) = refused (subst (λ (k : ℕ). NoTextOf s h m (number_of z) k) (sym e) (NoTextOf.unplaced u)) f
