-- The other way of `load-not`: what is wrong in a way is refused so, with that number, place and line. So a load is refused exactly for what `NotLoaded` says, and no two of its ways hold at
-- once with different answers. Assumes that the file is a slice (its length below 2^63, its elements bytes), and that the record's arrays have their lengths.
use mathlib.Core.Path.{◌≡◌, refl, sym, ap, ap₂, ◌∙◌, subst}
use mathlib.Core.Bool.{Bool, true, false, cond, ◌&&◌}
use mathlib.Core.List.{List}
use Prim.Native.Nat.{ℕ, ◌+◌, ◌^◌, ◌≤◌, ◌<◌}
use borrow.Author.Tests.{leb-true, le-leb}
use lib.Dec.{leb}
use lib.ListN.{length, take, drop}
use Rattle.tree_survey.specs.declared.SurveyError.TheVariants as fault
use Rattle.written.specs.Said as said
use Rattle.written.specs.TreeText.{Says}
use Rattle.written.specs.Tables.{ModelRefused, Negative}
use Rattle.written.specs.Blocks as written-block
use Rattle.written.proofs.Once.{says_once}
use Rattle.pdf_widen.specs.Widening.{widen_of}
use Rattle.laws.specs.Steps.{Ending, done_at, broken_at}
use Rattle.laws.specs.Totals.{total, largest, any_of}
use Rattle.error.specs.Numbers.{number_of, place_of, line_of}
use Rattle.error.specs.declared.Refusal.{Refusal}
use Rattle.error.specs.declared.Refusal.TheVariants as refusal
use Rattle.head_record.specs.declared.Header.{Header}
use Rattle.tree_question.specs.Questions.{questions_at}
use Rattle.tree_survey.specs.Survey.{survey_at, counts_of}
use Rattle.tree_survey.specs.Said.{said_patterns, said_negative, said_tree_records, said_tree_lines, said_survey}
use Rattle.tree_survey.proofs.Said.{survey_said, said_negative_lem, negative_said}
use Rattle.pdf_blocks.specs.Values.{block_at}
use Rattle.pdf_blocks.proofs.Joined.{Small, fits_block}
use Rattle.load_range.specs.Ranges.{bounds, within_of}
use Rattle.load_choose.specs.Entries.{Arrays, Choice}
use Rattle.load_choose.specs.declared.Which.{Which}
use Rattle.load_choose.proofs.Joined.{chosen_so, chosen_once}
use Rattle.load_text.specs.Text.{end_at}
use Rattle.load_plan.specs.Plans.{read_as, placed, text_of, entries_for, entries_of, plan_for, block_in, block_of, plan_in, plan_of, data_of, planned_for, planned}
use Rattle.load_plan.specs.declared.Plan.{Plan}
use Rattle.load_model.specs.Load.{Tables, After, room_in, answer_for, filled, untouched, load_for, load_of}
use Rattle.shown_text.specs.Refusals.{RefusedAs, refused}
use Rattle.shown_text.proofs.Text.{refused_ends}
use Rattle.shown_breaks.proofs.Place.{breaks_broken}
use Rattle.shown_load.specs.Stored.{Chose}
use Rattle.shown_load.specs.Refused.{Within, NotLoaded, not_chosen, text_outside, no_text, negative_state, block_outside, no_block, no_room, not_linked}
use Rattle.shown_load.proofs.Texts.{small_take, small_drop, counted_whole}
use Rattle.shown_load.proofs.Says as says
use Rattle.load_choose.specs.Chosen.{chosen}
use Rattle.load_range.specs.declared.Bounds.{Bounds}
use Rattle.load_choose.specs.declared.Chosen.{Chosen}
use Rattle.load_plan.specs.declared.Text.{Text}
use Rattle.load_trees.specs.declared.TreeFault.{TreeFault}
use Rattle.std.specs.Prelude.{Err, None, Ok, Option, Result, ⊤, Some}

-- ---- a range

inside_is : (a b n : ℕ) → a ≤ b + 1 → b + 1 ≤ n → within_of a b n ≡ bounds a (b + 1)
unfolding within_of
inside_is a b n x y = rw (le-leb _ _ x, le-leb _ _ y)

not_inside : (a b n : ℕ) → ¬ ((a ≤ b + 1) × (b + 1 ≤ n)) → within_of a b n ≡ None
unfolding within_of
not_inside a b n k = go (leb a (b + 1)) refl (leb (b + 1) n) refl
  where
    go : (c : Bool) → leb a (b + 1) ≡ c → (d : Bool) → leb (b + 1) n ≡ d → cond (leb a (b + 1) && leb (b + 1) n) (bounds a (b + 1)) None ≡ None
    go true e true f = absurd (k (leb-true _ _ e, leb-true _ _ f))
    go true e false f = rw (e, f)
    go false e d f = rw e

-- ---- the tree text

module _ (S : List ℕ) (u : ℕ) where
  text_broken : (k : ℕ) → survey_at S u ≡ Err (fault.Broken k) → text_of S u ≡ Err (refusal.Text k)
  unfolding text_of
  text_broken k e = ap (placed (questions_at S u).ending) e ∙ go (questions_at S u).ending
    where
      go : (n : Ending) → placed n (Err (fault.Broken k)) ≡ Err (refusal.Text k)
      go (done_at f) = refl
      go (broken_at f) = refl

  text_negative : survey_at S u ≡ (Err fault.Negative) → text_of S u ≡ Err refusal.State
  unfolding text_of
  text_negative e = ap (placed (questions_at S u).ending) e ∙ go (questions_at S u).ending
    where
      go : (n : Ending) → placed n (Err fault.Negative) ≡ Err refusal.State
      go (done_at f) = refl
      go (broken_at f) = refl

  -- a text that says t with no negative state is read, with as many trees
  text_read : {t : said.Text} {l : said.Layout} → Says S u t l → ¬ Negative t.trees
      → (f : ℕ) × (q : ℕ) × (p : ℕ) × (r : ℕ) × (n : ℕ) × (text_of S u ≡ read_as f q p (length t.trees) r n)
  unfolding text_of said_survey
  text_read {t} {l} h natural = go (any_of said_negative false t.trees) refl
    where
      read : {q p r n : ℕ} → survey_at S u ≡ Ok (counts_of q p (length t.trees) r n) → (e : Ending) → (questions_at S u).ending ≡ e
          → (f : ℕ) × (q : ℕ) × (p : ℕ) × (r : ℕ) × (n : ℕ) × (text_of S u ≡ read_as f q p (length t.trees) r n)
      read {q} {p} {r} {n} m (done_at f) e = (f, q, p, r, n, ap₂ placed e m)
      read m (broken_at f) e = absurd (counted_whole S u m e)

      go : (c : Bool) → any_of said_negative false t.trees ≡ c → (f : ℕ) × (q : ℕ) × (p : ℕ) × (r : ℕ) × (n : ℕ) × (text_of S u ≡ read_as f q p (length t.trees) r n)
      go true e =
          let m : survey_at S u ≡ (Err fault.Negative) = survey_said h ∙ rw e in
          let k = negative_said u m in
          absurd (natural (subst (λ (x : said.Text). Negative x.trees) (says_once k.2 h).0 k.3))
      go false e =
          let m : survey_at S u ≡ Ok (counts_of (length t.questions) (total said_patterns t.questions) (length t.trees) (total said_tree_records t.trees) (largest said_tree_lines 0 t.trees)) =
          survey_said h ∙ rw e in
          read m (questions_at S u).ending refl

-- ---- every load

module _ (s : List ℕ) (h : Header) (which : Which) (short : length s < 2 ^ 63) (small : Small s) (arrays : Arrays h) (L : Tables) where
  -- the answer is a refusal with the number, the place and the line of z
  abbrev pub RefusedLike : Refusal → Type 0
  RefusedLike z = (y : Refusal) × ((load_of s h which L).answer ≡ Err y) × (number_of y ≡ number_of z) × (place_of y ≡ place_of z) × (line_of y ≡ line_of z)

  itself : {z : Refusal} → (load_of s h which L).answer ≡ Err z → RefusedLike z
  itself {z} e = (z, e, refl, refl, refl)

  by_plan : {z : Refusal} → planned s h which ≡ Err z → RefusedLike z
  unfolding load_of
  by_plan e = itself (ap (λ (o : Result Plan Refusal). (load_for (data_of s h) o L).answer) e)

  by_choice : {c : Result Chosen Refusal} → Choice s h which c → planned s h which ≡ planned_for (data_of s h) c
  unfolding planned
  by_choice c = ap (planned_for (data_of s h)) (chosen_once (chosen_so s h arrays which) c)

  module _ {u e x y k : ℕ} (c : Choice s h which (chosen u e x y k)) where
    abbrev D : List ℕ
    D = data_of s h

    abbrev S : List ℕ
    S = take (e + 1) D

    outside : ¬ Within u e D → planned s h which ≡ Err refusal.Range
    unfolding plan_of
    outside n = by_choice c ∙ ap (plan_in D x y k) (not_inside u e (length D) n)

    inside : Within u e D → planned s h which ≡ block_of D u (e + 1) (text_of S u) x y k
    unfolding plan_of
    inside i = by_choice c ∙ ap (plan_in D x y k) (inside_is u e (length D) i.0 i.1)

    refused_text : Within u e D → {z : Refusal} → text_of S u ≡ Err z → planned s h which ≡ Err z
    refused_text i f = inside i ∙ ap (λ (o : Result Text Refusal). block_of D u (e + 1) o x y k) f

    module _ (i : Within u e D) {T : said.Text} {l : said.Layout} (h' : Says S u T l) (natural : ¬ Negative T.trees) where
      abbrev read : (f : ℕ) × (q : ℕ) × (p : ℕ) × (r : ℕ) × (n : ℕ) × (text_of S u ≡ read_as f q p (length T.trees) r n)
      read = text_read S u h' natural

      to_block : (o : Option Bounds) → within_of x y (length D) ≡ o
          → planned s h which ≡ block_in D u (e + 1) read.0 read.1 read.2 (length T.trees) read.3 read.4 k o
      to_block o f =
          inside i ∙ ap (λ (o : Result Text Refusal). block_of D u (e + 1) o x y k) read.5
          ∙ ap (block_in D u (e + 1) read.0 read.1 read.2 (length T.trees) read.3 read.4 k) f

      unblocked : Within x y D → ((rows : List written-block.Row) (vs : List ℕ) → ¬ written-block.Block (widen_of 8 23 11 52) (length T.trees) k (drop x (take (y + 1) D)) rows vs)
          → planned s h which ≡ Err refusal.Block
      unfolding entries_of
      unblocked j n = to_block (bounds x (y + 1)) (inside_is x y (length D) j.0 j.1) ∙ go (block_at (length T.trees) k B x) refl
        where
          B : List ℕ
          B = take (y + 1) D

          B-small : Small B
          B-small = small_take (y + 1) D (small_take h.data_len (drop h.data_start s) (small_drop h.data_start s small))

          P : Plan
          P = plan_for u (e + 1) read.0 read.1 read.2 (length T.trees) read.3 read.4 k x (y + 1)

          go : (o : Option ℕ) → block_at (length T.trees) k B x ≡ o → entries_for P (block_at (length T.trees) k B x) ≡ Err refusal.Block
          go (Some m) f = absurd (n _ _ (fits_block B B-small (length T.trees) k x (sym f)).1)
          go None f = ap (entries_for P) f

  -- ---- with a plan

  module _ {p : Plan} {T : said.Text} {l : said.Layout} (c : Chose s h which p T l) where
    with_plan : load_of s h which L ≡ load_for (data_of s h) (Ok p) L
    unfolding load_of
    with_plan = ap (λ (o : Result Plan Refusal). load_for (data_of s h) o L) (sym c.plan)

    short_of_room : room_in p L ≡ false → (load_of s h which L).answer ≡ Err refusal.Room
    short_of_room e =
        ap (λ (o : After). o.answer) with_plan
        ∙ ap (λ (c : Bool). (cond c (filled (data_of s h) p L) (untouched refusal.Room L)).answer) e

    linked_so : room_in p L ≡ true
        → (load_of s h which L).answer ≡ answer_for p (end_at (take p.text_end (data_of s h)) p.text p.first)
    unfolding filled
    linked_so e =
        ap (λ (o : After). o.answer) with_plan
        ∙ ap (λ (c : Bool). (cond c (filled (data_of s h) p L) (untouched refusal.Room L)).answer) e

    refused_so : (z : Refusal) → room_in p L ≡ true
        → ModelRefused T.questions T.trees (number_of z) (place_of z) (line_of z) → RefusedLike z
    refused_so z room m =
        let k = says.read s h which short small p c.plan in
        as_is (end_at (take p.text_end (data_of s h)) p.text p.first) (linked_so room) (refused_ends c.says k.begins (says.S-short s h which short small p c.plan) c.natural m)
      where
        as_is : (o : Result ⊤ TreeFault) → (load_of s h which L).answer ≡ answer_for p o → {n i j : ℕ} → RefusedAs o n i j
            → (y : Refusal) × ((load_of s h which L).answer ≡ Err y) × (number_of y ≡ n) × (place_of y ≡ i) × (line_of y ≡ j)
        as_is _ e (refused {g = g} {a = i} {k = j}) = (refusal.Unlinked g i j, e, refl, refl, refl)

  -- what is wrong is refused, with that number, place and line
  pub not_load : {z : Refusal} → NotLoaded s h which L z → RefusedLike z
  not_load (not_chosen c) = by_plan (by_choice c)
  not_load (text_outside c n) = by_plan (outside c n)
  not_load (no_text {u = u} {v = v} {p = p} c i n) = by_plan (refused_text c i (text_broken (take (v + 1) (data_of s h)) u p (breaks_broken (take (v + 1) (data_of s h)) n)))
  not_load (negative_state {u = u} {v = v} c i m n) = by_plan (refused_text c i (text_negative (take (v + 1) (data_of s h)) u (said_negative_lem m n)))
  not_load (block_outside {x = x} {y = y} c i m n o) = by_plan (to_block c i m n None (not_inside x y (length (data_of s h)) o))
  not_load (no_block c i m n j e) = by_plan (unblocked c i m n j e)
  not_load (no_room c e) = itself (short_of_room c e)
  not_load (not_linked {z = z} c e m) = refused_so c z e m
