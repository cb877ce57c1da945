-- The laws of going over a voice's models: the numbers of models go up to 16; a turn of a loop counts, stores or compares the rows of one model.
use Rattle.load_voice.proofs.Same.{same_text}
use mathlib.Core.Path.{◌≡◌, refl, sym, ap, ap₂, ◌∙◌, subst}
use mathlib.Core.Bool.{Bool, true, false, cond, ◌&&◌}
use mathlib.Core.List.{List, [], ◌∷◌, ◌++◌}
use Prim.Native.Nat.{ℕ, zero, suc, ◌+◌, ◌-◌, ◌*◌, ◌≤◌, ◌<◌}
use native.Mathlib.Omega.{arith}
use borrow.Author.Tests.{ltb-true}
use lib.Dec.{ltb}
use lib.ListN.{length, take, drop, length-take, length-drop, length-append}
use lib.Seq.{sets, length-sets}
use Rattle.written.specs.Blocks.{little_endian}
use Rattle.written_trailer.proofs.Trailing.{little-append, little-length}
use Rattle.laws.specs.Steps.{Step, next, last, broken, read_of, read_from, read}
use Rattle.laws.proofs.Tables.{sets-append}
use Rattle.error.specs.declared.Refusal.{Refusal}
use Rattle.error.specs.declared.Refusal.TheVariants as refusal
use Rattle.head_record.specs.declared.Header.{Header}
use Rattle.head_record_fits.specs.Fits.{record_fits}
use Rattle.head_record_fits.proofs.Fits.{fits}
use Rattle.tree_body.specs.Trees.{tree_step_at, trees_at}
use Rattle.load_choose.specs.Chosen.{asked_by, text_chosen, uses_gv}
use Rattle.load_range.specs.Ranges.{within_of}
use Rattle.load_choose.specs.declared.Which.{Which}
use Rattle.load_choose.specs.declared.Which.TheVariants.{Duration, Stream, Gv}
use Rattle.load_plan.specs.Plans.{text_of, data_of}
use Rattle.load_plan.proofs.Laws.{was}
use Rattle.load_voice.specs.Voice.{text_as, next_stream, next_model, InTypes, models_after, models_of, text_by, text_within, text_in, text_for, voice_text}
use Rattle.trail_bytes.specs.Numbers.{same_words}
use Rattle.trail_bytes.proofs.Numbers.{same_append}
use Rattle.trail_rows.specs.Rows.{rows_of}
use Rattle.trail_rows.proofs.Joined.{rows_length}
use Rattle.trail_voice.specs.Voice.{which_number, text_rows, model_rows, voice_rows, trees_on, voice_trees, compared_as}
use Rattle.load_range.specs.declared.Bounds.{Bounds}
use Rattle.load_choose.specs.declared.Chosen.{Chosen}
use Rattle.load_plan.specs.declared.Text.{Text}
use Rattle.load_voice.specs.declared.VoiceText.{VoiceText}
use Rattle.std.specs.Prelude.{Err, None, Ok, Some, Option, Result}

-- ---- a text has no more trees than bytes, and one

steps_few : {A : Type 0} (step : ℕ → Step A) (f i : ℕ) → length (read_from step f i).items ≤ f
unfolding read_from
steps_few step zero i = omega arith
steps_few {A} step (suc f) i = go (step i) (λ j. steps_few step f j)
  where
    go : (t : Step A) → ((j : ℕ) → length (read_from step f j).items ≤ f) → length (read_of (read_from step f) t).items ≤ suc f
    go (next x j) h = omega (arith, h j)
    go (last x j) h = omega arith
    go (broken j) h = omega arith

trees_few : (s : List ℕ) (i : ℕ) → length (trees_at s i).items ≤ length s + 1
unfolding trees_at read
trees_few s i = omega (arith, steps_few (tree_step_at s) (suc (length s)) i)

-- ---- the text of a model

module _ (s : List ℕ) (h : Header) where
  -- what is known of one that was read
  pub record Known (w : Which) (e f n : ℕ) : Type 0 where
    pub fitting : record_fits (length s) h ≡ true
    pub trees : n ≡ length (trees_at (take e (data_of s h)) f).items
    pub few : n ≤ 16777217

  pub known : (w : Which) {a e f n : ℕ} → text_as a e f n ≡ voice_text s h w → Known w e f n
  unfolding voice_text text_chosen text_in
  known w {a} {e} {f} {n} q = go (record_fits (length s) h) refl q
    where
      d : List ℕ
      d = data_of s h

      small : record_fits (length s) h ≡ true → n ≡ length (trees_at (take e (data_of s h)) f).items → Known w e f n
      small r t =
          record {
            fitting = r;
            trees = t;
            few =
                omega (arith, t, trees_few (take e (data_of s h)) f, length-take e (data_of s h), length-take h.data_len (drop h.data_start s), length-drop h.data_start s, (fits (length s) h r).file);
          }

      read_so : (x : ℕ) (t : Result Text Refusal) → t ≡ text_of (take e (data_of s h)) a → x ≡ e → text_as a e f n ≡ text_by a x t → n ≡ length (trees_at (take e (data_of s h)) f).items
      read_so x (Ok b) t y k =
          let same = same_text k in
          let u = same.2 in
          let v = same.3 in
          v ∙ (was (take e (data_of s h)) a t).trees ∙ ap (λ (j : ℕ). length (trees_at (take e (data_of s h)) j).items) (sym u)
      read_so x (Err z) t y k = let u : ◌≡◌ {A = ℕ} 0 1 = cc in absurd (omega arith)

      inside : (b : Option Bounds) → text_as a e f n ≡ text_within (data_of s h) b → n ≡ length (trees_at (take e (data_of s h)) f).items
      inside (Some b) k = placed (text_of (take b.end (data_of s h)) b.start) refl k
        where
          placed : (t : Result Text Refusal) → t ≡ text_of (take b.end (data_of s h)) b.start → text_as a e f n ≡ text_by b.start b.end t → n ≡ length (trees_at (take e (data_of s h)) f).items
          placed (Ok r) t k =
              let same = same_text k in
              let x = same.0 in
              let y = same.1 in
              read_so b.end (Ok r) (t ∙ ap₂ (λ (i j : ℕ). text_of (take j (data_of s h)) i) (sym x) (sym y)) (sym y) (k ∙ ap (λ (i : ℕ). text_by i b.end (Ok r)) (sym x))
          placed (Err z) t k = let u : ◌≡◌ {A = ℕ} 0 1 = cc in absurd (omega arith)
      inside None k = let u : ◌≡◌ {A = ℕ} 0 1 = cc in absurd (omega arith)

      of : (c : Result Chosen Refusal) → text_as a e f n ≡ text_for (data_of s h) c → n ≡ length (trees_at (take e (data_of s h)) f).items
      of (Ok m) k = let record { tree_from = u; tree_to = v; pdf_from = x; pdf_to = y; width = w } = m in inside (within_of u v (length (data_of s h))) k
      of (Err z) k = let u : ◌≡◌ {A = ℕ} 0 1 = cc in absurd (omega arith)

      go : (b : Bool) → record_fits (length s) h ≡ b → text_as a e f n ≡ text_for (data_of s h) (cond b (asked_by false s h w) (Err refusal.Range)) → Known w e f n
      go true r k = small r (of (asked_by false s h w) k)
      go false r k = let u : ◌≡◌ {A = ℕ} 0 1 = cc in absurd (omega arith)

  -- the rows of its trees
  pub rows_read : (w : Which) {a e f n : ℕ} → text_as a e f n ≡ voice_text s h w
      → (model_rows s h w ≡ rows_of (which_number w) (trees_at (take e (data_of s h)) f).items) × (length (model_rows s h w) ≡ 3 * n)
  unfolding model_rows
  rows_read w {a} {e} {f} {n} q =
      let r : model_rows s h w ≡ rows_of (which_number w) (trees_at (take e (data_of s h)) f).items = sym (ap (text_rows (data_of s h) (which_number w)) q) in
      (r, omega (arith, ap length r, rows_length (which_number w) (trees_at (take e (data_of s h)) f).items, (known w q).trees))

  -- the same, of the text and the number as they are found
  module _ (w : Which) {a e f n : ℕ} (q : text_as a e f n ≡ voice_text s h w) {d z : List ℕ} (p : d ≡ data_of s h) (y : z ≡ take e d) where
    text_is : z ≡ take e (data_of s h)
    text_is = y ∙ ap (take e) p

    pub text_room : (4 * length (model_rows s h w) ≡ 12 * length (trees_at z f).items) × (4 * length (model_rows s h w) ≡ 12 * n)
    text_room =
        let r = rows_read w q in
        (omega (arith, r.1, (known w q).trees, ap (λ (l : List ℕ). length (trees_at l f).items) text_is), omega (arith, r.1))

    pub text_rows_lem : {m : ℕ} → m ≡ which_number w → rows_of m (trees_at z f).items ≡ model_rows s h w
    text_rows_lem i = ap₂ (λ (m : ℕ) (l : List ℕ). rows_of m (trees_at l f).items) i text_is ∙ sym (rows_read w q).0

  pub rows_refused : (w : Which) {z : Refusal} → Err z ≡ voice_text s h w → model_rows s h w ≡ []
  unfolding model_rows
  rows_refused w q = sym (ap (text_rows (data_of s h) (which_number w)) q)

  -- ---- going on

  -- a model of the voice, behind which at most so many are looked for
  pub record At (w : Which) (left : ℕ) : Type 0 where
    pub in_types : InTypes h w
    pub enough : 17 ≤ which_number w + left

  pub first_at : At Duration 17
  first_at = record { in_types = omega arith; enough = omega arith }

  module _ (r : record_fits (length s) h ≡ true) where
    at_most : (w : Which) → InTypes h w → which_number w ≤ 16
    at_most Duration t = omega arith
    at_most (Stream i) t = omega (arith, t, (fits (length s) h r).types)
    at_most (Gv i) t = omega (arith, t, (fits (length s) h r).types)

    stream_on : (i : ℕ) {v : Which} → Some v ≡ next_stream h i → InTypes h v × (which_number v ≡ 2 * i + 1)
    unfolding next_stream
    stream_on i {v} q = go (ltb i h.global.stream_type_count) refl q
      where
        go : (b : Bool) → ltb i h.global.stream_type_count ≡ b → Some v ≡ cond b (Some (Stream i)) None → InTypes h v × (which_number v ≡ 2 * i + 1)
        go true e q =
            let u : v ≡ Stream i = cc in
            (subst (InTypes h) (sym u) (ltb-true i h.global.stream_type_count e), ap which_number u)
        go false e q = let u : ◌≡◌ {A = ℕ} 0 1 = cc in absurd (omega arith)

    goes_on : (w : Which) {v : Which} → InTypes h w → Some v ≡ next_model s h w → InTypes h v × (which_number w < which_number v)
    goes_on Duration t q = let z = stream_on 0 q in (z.0, omega (arith, z.1))
    goes_on (Gv i) t q = let z = stream_on (i + 1) q in (z.0, omega (arith, z.1))
    goes_on (Stream i) {v} t q = go (uses_gv s h i) q
      where
        go : (b : Bool) → Some v ≡ cond b (Some (Gv i)) (next_stream h (i + 1)) → InTypes h v × (which_number (Stream i) < which_number v)
        go true q = let u : v ≡ Gv i = cc in (subst (InTypes h) (sym u) t, omega (arith, ap which_number u))
        go false q = let z = stream_on (i + 1) q in (z.0, omega (arith, z.1))

    module _ {w : Which} {left : ℕ} (a : At w left) where
      pub small_number : which_number w ≤ 16
      small_number = at_most w a.in_types

      -- this model, and those behind it
      pub this_one : models_after left s h (Some w) ≡ w ∷ models_after (left - 1) s h (next_model s h w)
      unfolding models_after
      this_one = go left (omega (arith, a.enough, small_number))
        where
          go : (n : ℕ) → 0 < n → models_after n s h (Some w) ≡ w ∷ models_after (n - 1) s h (next_model s h w)
          go zero l = absurd (omega arith)
          go (suc n) l = let e : suc n - 1 ≡ n = omega arith in ap (λ (k : ℕ). w ∷ models_after k s h (next_model s h w)) (sym e)

      pub next_at : {v : Which} → Some v ≡ next_model s h w → At v (left - 1) × (which_number w < which_number v) × (which_number v ≤ 16)
      next_at {v} q =
          let z = goes_on w a.in_types q in
          (record { in_types = z.0; enough = omega (arith, a.enough, small_number, z.1) }, z.1, at_most v z.0)

      pub last_one : None ≡ next_model s h w → models_after left s h (Some w) ≡ w ∷ []
      unfolding models_after
      last_one q = this_one ∙ ap (λ (e : Option Which). w ∷ models_after (left - 1) s h e) (sym q) ∙ ap (λ (l : List Which). w ∷ l) (none (left - 1))
        where
          none : (n : ℕ) → models_after n s h None ≡ []
          none zero = refl
          none (suc n) = refl

      pub then_ones : {v : Which} → Some v ≡ next_model s h w → models_after left s h (Some w) ≡ w ∷ models_after (left - 1) s h (Some v)
      then_ones q = this_one ∙ ap (λ (e : Option Which). w ∷ models_after (left - 1) s h e) (sym q)

  -- ---- counted

  abbrev all : List Which
  all = models_of s h

  pub record Counting (w : Which) (n : ℕ) : Type 0 where
    pub left : ℕ
    pub at : At w left
    pub same : voice_trees s h (models_after left s h (Some w)) n ≡ voice_trees s h (models_of s h) 0
    pub few : n ≤ 16777217 * which_number w
    pub low : which_number w ≤ 16

  pub counting_none : Counting Duration 0
  counting_none = record { left = 17; at = first_at; same = refl; few = omega arith; low = omega arith }

  module _ {w : Which} {n : ℕ} (c : Counting w n) where
    -- the first model is there in any record
    models_some : (m : ℕ) → 0 < m → (x : ℕ) {z : Refusal} → Err z ≡ voice_text s h w → Err z ≡ voice_trees s h (models_after m s h (Some w)) x
    unfolding models_after voice_trees
    models_some zero l x q = absurd (omega arith)
    models_some (suc m) l x q = ap (trees_on (voice_trees s h (models_after m s h (next_model s h w))) x) q

    pub counted_refused : {z : Refusal} → Err z ≡ voice_text s h w → Err z ≡ voice_trees s h (models_of s h) 0
    counted_refused q = models_some c.left (omega (arith, c.at.enough, c.low)) n q ∙ c.same

    module _ {a e f t : ℕ} (q : text_as a e f t ≡ voice_text s h w) where
      pub counted_few : n + t ≤ 16777217 * which_number w + 16777217
      counted_few = omega (arith, c.few, (known w q).few)

      pub counting_more : {v : Which} → Some v ≡ next_model s h w → Counting v (n + t)
      unfolding voice_trees
      counting_more {v} g =
          let r = (known w q).fitting in
          let z = next_at r c.at g in
          record {
            left = c.left - 1;
            at = z.0;
            same =
                ap (trees_on (voice_trees s h (models_after (c.left - 1) s h (Some v))) n) q ∙ sym (ap (λ (l : List Which). voice_trees s h l n) (then_ones r c.at g)) ∙ c.same;
            few = omega (arith, counted_few, z.1);
            low = z.2;
          }

      pub counted_all : None ≡ next_model s h w → Ok (n + t) ≡ voice_trees s h (models_of s h) 0
      unfolding voice_trees
      counted_all g =
          let r = (known w q).fitting in
          ap (trees_on (voice_trees s h []) n) q ∙ sym (ap (λ (l : List Which). voice_trees s h l n) (last_one r c.at g)) ∙ c.same

  -- ---- stored

  pub record Storing (t₀ t : List ℕ) (w : Which) (k : ℕ) : Type 0 where
    pub left : ℕ
    pub at : At w left
    pub same : sets t k (little_endian (voice_rows s h (models_after left s h (Some w)))) ≡ sets t₀ 0 (little_endian (voice_rows s h (models_of s h)))
    pub room : k + 4 * length (voice_rows s h (models_after left s h (Some w))) ≤ length t
    pub long : length t ≡ length t₀

  module _ (r : record_fits (length s) h ≡ true) where
    pub storing_none : {t : List ℕ} → 4 * length (voice_rows s h (models_of s h)) ≤ length t → Storing t t Duration 0
    storing_none l = record { left = 17; at = first_at; same = refl; room = omega (arith, l); long = refl }

    module _ {t₀ t : List ℕ} {w : Which} {k : ℕ} (c : Storing t₀ t w k) where
      rest : List Which
      rest = models_after (c.left - 1) s h (next_model s h w)

      rows_here : voice_rows s h (models_after c.left s h (Some w)) ≡ model_rows s h w ++ voice_rows s h (models_after (c.left - 1) s h (next_model s h w))
      unfolding voice_rows
      rows_here = ap (voice_rows s h) (this_one r c.at)

      pub storing_room : (k + 4 * length (model_rows s h w) ≤ length t) × (which_number w ≤ 16)
      storing_room =
          (omega (arith, c.room, ap length rows_here, length-append (model_rows s h w) (voice_rows s h (models_after (c.left - 1) s h (next_model s h w)))), small_number r c.at)

      module _ {t' : List ℕ} {k' : ℕ} (p : k' ≡ k + 4 * length (model_rows s h w)) (q : t' ≡ sets t k (little_endian (model_rows s h w))) where
        long_as : length t' ≡ length t
        long_as = ap length q ∙ length-sets t k (little_endian (model_rows s h w))

        -- the rest behind it
        behind : (more : List ℕ) → sets t' k' (little_endian more) ≡ sets t k (little_endian (model_rows s h w ++ more))
        behind more =
            ap₂ (λ (x : List ℕ) (j : ℕ). sets x j (little_endian more)) q (p ∙ ap (λ (j : ℕ). k + j) (sym (little-length (model_rows s h w))))
            ∙ sets-append t k (little_endian (model_rows s h w)) (little_endian more) ∙ sym (ap (sets t k) (little-append (model_rows s h w) more))

        pub storing_more : {v : Which} → Some v ≡ next_model s h w → Storing t₀ t' v k'
        storing_more {v} g =
            let m : List ℕ = voice_rows s h (models_after (c.left - 1) s h (Some v)) in
            let e : voice_rows s h (models_after c.left s h (Some w)) ≡ model_rows s h w ++ m = rows_here ∙ ap (λ (x : Option Which). model_rows s h w ++ voice_rows s h (models_after (c.left - 1) s h x)) (sym g) in
            record {
              left = c.left - 1;
              at = (next_at r c.at g).0;
              same = behind m ∙ sym (ap (λ (l : List ℕ). sets t k (little_endian l)) e) ∙ c.same;
              room = omega (arith, c.room, p, long_as, ap length e, length-append (model_rows s h w) m);
              long = long_as ∙ c.long;
            }

        pub stored_all : None ≡ next_model s h w → t' ≡ sets t₀ 0 (little_endian (voice_rows s h (models_of s h)))
        unfolding voice_rows little_endian
        stored_all g =
            let e : voice_rows s h (models_after c.left s h (Some w)) ≡ model_rows s h w ++ [] = ap (voice_rows s h) (last_one r c.at g) in
            behind [] ∙ sym (ap (λ (l : List ℕ). sets t k (little_endian l)) e) ∙ c.same

        pub stored_long : length t' ≡ length t₀
        stored_long = long_as ∙ c.long

  -- ---- compared

  pub record Comparing (from : ℕ) (w : Which) (k : ℕ) : Type 0 where
    pub left : ℕ
    pub at : At w left
    pub same : same_words s k (voice_rows s h (models_after left s h (Some w))) ≡ same_words s from (voice_rows s h (models_of s h))
    pub room : k + 4 * length (voice_rows s h (models_after left s h (Some w))) ≤ length s

  module _ (r : record_fits (length s) h ≡ true) where
    pub comparing_none : {from : ℕ} → from + 4 * length (voice_rows s h (models_of s h)) ≤ length s → Comparing from Duration from
    comparing_none l = record { left = 17; at = first_at; same = refl; room = l }

    module _ {from : ℕ} {w : Which} {k : ℕ} (c : Comparing from w k) where
      compared_here : voice_rows s h (models_after c.left s h (Some w)) ≡ model_rows s h w ++ voice_rows s h (models_after (c.left - 1) s h (next_model s h w))
      unfolding voice_rows
      compared_here = ap (voice_rows s h) (this_one r c.at)

      pub comparing_room : (k + 4 * length (model_rows s h w) ≤ length s) × (which_number w ≤ 16)
      comparing_room =
          (omega (arith, c.room, ap length compared_here, length-append (model_rows s h w) (voice_rows s h (models_after (c.left - 1) s h (next_model s h w)))), small_number r c.at)

      both : same_words s k (voice_rows s h (models_after c.left s h (Some w)))
          ≡ same_words s k (model_rows s h w) && same_words s (k + 4 * length (model_rows s h w)) (voice_rows s h (models_after (c.left - 1) s h (next_model s h w)))
      both = ap (same_words s k) compared_here ∙ same_append s k (model_rows s h w) (voice_rows s h (models_after (c.left - 1) s h (next_model s h w)))

      as_same : {k' : ℕ} → Some k' ≡ compared_as (k + 4 * length (model_rows s h w)) (same_words s k (model_rows s h w)) → (same_words s k (model_rows s h w) ≡ true) × (k' ≡ k + 4 * length (model_rows s h w))
      as_same {k'} q = go (same_words s k (model_rows s h w)) refl q
        where
          go : (b : Bool) → same_words s k (model_rows s h w) ≡ b → Some k' ≡ compared_as (k + 4 * length (model_rows s h w)) b → (same_words s k (model_rows s h w) ≡ true) × (k' ≡ k + 4 * length (model_rows s h w))
          go true e q = let u : k' ≡ k + 4 * length (model_rows s h w) = cc in (e, u)
          go false e q = let u : ◌≡◌ {A = ℕ} 0 1 = cc in absurd (omega arith)

      pub compared_other : None ≡ compared_as (k + 4 * length (model_rows s h w)) (same_words s k (model_rows s h w)) → false ≡ same_words s from (voice_rows s h (models_of s h))
      compared_other q = go (same_words s k (model_rows s h w)) refl q
        where
          go : (b : Bool) → same_words s k (model_rows s h w) ≡ b → None ≡ compared_as (k + 4 * length (model_rows s h w)) b → false ≡ same_words s from (voice_rows s h (models_of s h))
          go false e q = sym (both ∙ ap (λ (b : Bool). b && same_words s (k + 4 * length (model_rows s h w)) (voice_rows s h (models_after (c.left - 1) s h (next_model s h w)))) e) ∙ c.same
          go true e q = let u : ◌≡◌ {A = ℕ} 0 1 = cc in absurd (omega arith)

      module _ {k' : ℕ} (q : Some k' ≡ compared_as (k + 4 * length (model_rows s h w)) (same_words s k (model_rows s h w))) where
        onward : same_words s k' (voice_rows s h (models_after (c.left - 1) s h (next_model s h w))) ≡ same_words s from (voice_rows s h (models_of s h))
        onward =
            let z = as_same q in
            ap (λ (j : ℕ). same_words s j (voice_rows s h (models_after (c.left - 1) s h (next_model s h w)))) z.1
            ∙ sym (both ∙ ap (λ (b : Bool). b && same_words s (k + 4 * length (model_rows s h w)) (voice_rows s h (models_after (c.left - 1) s h (next_model s h w)))) z.0) ∙ c.same

        pub comparing_more : {v : Which} → Some v ≡ next_model s h w → Comparing from v k'
        comparing_more {v} g =
            record {
              left = c.left - 1;
              at = (next_at r c.at g).0;
              same = ap (λ (x : Option Which). same_words s k' (voice_rows s h (models_after (c.left - 1) s h x))) g ∙ onward;
              room = omega (arith, c.room, (as_same q).1, ap length compared_here, length-append (model_rows s h w) (voice_rows s h (models_after (c.left - 1) s h (next_model s h w))), ap (λ (x : Option Which). length (voice_rows s h (models_after (c.left - 1) s h x))) g);
            }

        pub compared_all : None ≡ next_model s h w → true ≡ same_words s from (voice_rows s h (models_of s h))
        unfolding voice_rows models_after same_words
        compared_all g =
            sym (ap (λ (x : Option Which). same_words s k' (voice_rows s h (models_after (c.left - 1) s h x))) (sym g) ∙ none (c.left - 1)) ∙ onward
          where
            none : (n : ℕ) → same_words s k' (voice_rows s h (models_after n s h None)) ≡ true
            none zero = refl
            none (suc n) = refl

-- ---- what a comparison answers

module _ (s : List ℕ) (k : ℕ) {l m : List ℕ} {b : Bool} where
  pub same_as : (n : ℕ) → 4 * length m ≡ 12 * n → b ≡ same_words s k l → l ≡ m → b ≡ true → Some (k + 12 * n) ≡ compared_as (k + 4 * length m) (same_words s k m)
  same_as n e q r y = ap₂ compared_as (ap (λ (x : ℕ). k + x) (sym e)) (sym y ∙ q ∙ ap (same_words s k) r)

  pub other_as : b ≡ same_words s k l → l ≡ m → b ≡ false → None ≡ compared_as (k + 4 * length m) (same_words s k m)
  other_as q r y = ap (compared_as (k + 4 * length m)) (sym y ∙ q ∙ ap (same_words s k) r)

pub none_as : (s : List ℕ) (k : ℕ) {m : List ℕ} → m ≡ [] → Some k ≡ compared_as (k + 4 * length m) (same_words s k m)
unfolding same_words
none_as s k {m} e = let z : k + 4 * 0 ≡ k = omega arith in ap Some (sym z) ∙ sym (ap (λ (l : List ℕ). compared_as (k + 4 * length l) (same_words s k l)) e)

-- ---- a voice whose trees were counted

module _ (s : List ℕ) (h : Header) where
  counts : (ws : List Which) (n : ℕ) {m : ℕ} → Ok m ≡ voice_trees s h ws n → (3 * m ≡ 3 * n + length (voice_rows s h ws)) × (m ≤ n + 16777217 * length ws)
  unfolding voice_trees voice_rows
  counts [] n {m} q = let u : m ≡ n = cc in (omega arith, omega arith)
  counts (w ∷ ws) n {m} q = go (voice_text s h w) refl q (λ k. counts ws k)
    where
      go : (t : Result VoiceText Refusal) → t ≡ voice_text s h w → Ok m ≡ trees_on (voice_trees s h ws) n t
          → ((k : ℕ) → Ok m ≡ voice_trees s h ws k → (3 * m ≡ 3 * k + length (voice_rows s h ws)) × (m ≤ k + 16777217 * length ws))
          → (3 * m ≡ 3 * n + length (model_rows s h w ++ voice_rows s h ws)) × (m ≤ n + 16777217 * suc (length ws))
      go (Ok b) p q r =
          let record { text = a; text_end = e; first = f; trees = t } = b in
          let z = r (n + t) q in
          (omega (arith, z.0, (rows_read s h w p).1, length-append (model_rows s h w) (voice_rows s h ws)), omega (arith, z.1, (known s h w p).few))
      go (Err z) p q r = let u : ◌≡◌ {A = ℕ} 0 1 = cc in absurd (omega arith)

  models_most : (n : ℕ) (e : Option Which) → length (models_after n s h e) ≤ n
  unfolding models_after
  models_most zero e = omega arith
  models_most (suc n) None = omega arith
  models_most (suc n) (Some w) = omega (arith, models_most n (next_model s h w))

  pub record Counted (n : ℕ) : Type 0 where
    pub fitting : record_fits (length s) h ≡ true
    pub threes : length (voice_rows s h (models_of s h)) ≡ 3 * n
    pub few : n ≤ 17 * 16777217

  unrolled : voice_trees s h (models_of s h) 0 ≡ voice_trees s h (Duration ∷ models_after 16 s h (next_model s h Duration)) 0
  unfolding models_after
  unrolled = refl

  first_read : (ws : List Which) {n : ℕ} → Ok n ≡ voice_trees s h (Duration ∷ ws) 0 → record_fits (length s) h ≡ true
  unfolding voice_trees
  first_read ws {n} q = go (voice_text s h Duration) refl q
    where
      go : (t : Result VoiceText Refusal) → t ≡ voice_text s h Duration → Ok n ≡ trees_on (voice_trees s h ws) 0 t → record_fits (length s) h ≡ true
      go (Ok b) p q = (known s h Duration p).fitting
      go (Err z) p q = let u : ◌≡◌ {A = ℕ} 0 1 = cc in absurd (omega arith)

  pub counted : {n : ℕ} → Ok n ≡ voice_trees s h (models_of s h) 0 → Counted n
  counted {n} q =
      let z = counts (models_of s h) 0 q in
      record {
        fitting = first_read (models_after 16 s h (next_model s h Duration)) (q ∙ unrolled);
        threes = omega (arith, z.0);
        few = omega (arith, z.1, models_most 17 (Some Duration));
      }
