-- `larsavim_load_tree`, of words that an opening of the file wrote: in a file that ends in its trailer, the tree load of tree k is what a full load of the model has for that tree. Of any file a
-- refusal before linking changes nothing, and 21 to 23 leave the rows needed zero.
use mathlib.Core.Path.{◌≡◌, ap, ap₂, ◌∙◌, subst}
use mathlib.Core.Bool.{Bool, true, false, cond}
use mathlib.Core.List.{List}
use mathlib.Core.Logic.{◌⊎◌, inl, inr}
use Prim.Native.Nat.{ℕ, ◌^◌, ◌≤◌, ◌<◌}
use native.Mathlib.Omega.{arith}
use lib.ListN.{length}
use lib.Seq.{sets}
use Rattle.written.specs.Record as record_of
use Rattle.written.specs.Said as said
use Rattle.written.specs.Said.{Layout}
use Rattle.written.specs.Linking.{Nth}
use Rattle.written.specs.Models as models
use Rattle.written.specs.Models.{TextOf}
use Rattle.written.specs.Sharing.{Side, Held, holds}
use Rattle.written.specs.Trailer.{Trailed, VoiceRows}
use Rattle.written.proofs.Once.{says_once}
use Rattle.written.proofs.OneFile.{says_one}
use Rattle.head_record.specs.Record.{header_record}
use Rattle.head_record.specs.declared.Header.{Header}
use Rattle.head_de.proofs.Sound.{Bytes}
use Rattle.tree_body.specs.Trees.{tree_of}
use Rattle.load_choose.specs.declared.Which.{Which}
use Rattle.load_plan.specs.Plans.{data_of, planned}
use Rattle.load_plan.specs.declared.Plan.{Plan}
use Rattle.load_model.specs.Load.{Tables, After}
use Rattle.load_shared.specs.Beside.{rows_of, room_by}
use Rattle.trail_load.specs.Load.{tree_beside}
use Rattle.face_model.specs.declared.Rows.{Rows}
use Rattle.face_model.specs.Answers.{rows_by}
use Rattle.face_load.specs.Answers.{Filled, filled_by, untouched}
use Rattle.face_shared.specs.Answers.{held_at, side_at, standing}
use Rattle.face_tree.specs.Answers.{tree_filled_in, tree_filled_of, tree_shared_of}
use Rattle.face_put.specs.Put.{rows_numbers, held_left}
use Rattle.larsavim.specs.Sharing.{TreeShares}
use Rattle.shown_words.proofs.Shaped.{record_back}
use Rattle.shown_models.proofs.Chosen.{which_of}
use Rattle.shown_load.specs.Stored.{Stored}
use Rattle.shown_one.specs.One.{Reaching}
use Rattle.shown_one.proofs.Plan.{one_plan}
use Rattle.shown_one.proofs.Reach.{reaches}
use Rattle.shown_one.proofs.Beside.{BesideAsFull, beside_as_full}
use Rattle.promises.specs.Opening.{record_words}
use Rattle.promises.proofs.Plans.{plan_said}
use Rattle.promises.proofs.Asked.{which_number, record_judged}
use Rattle.load_model.specs.declared.Loaded.{Loaded}
use Rattle.error.specs.declared.Refusal.{Refusal}
use Rattle.std.specs.Prelude.{Ok, Result}

-- a slice that is long enough is not too short
short : {a b c : ℕ} → (a < 8) ⊎ ((b < 5) ⊎ (c < 5)) → 8 ≤ a → 5 ≤ b → 5 ≤ c → ⊥
short (inl h) x y z = omega arith
short (inr (inl h)) x y z = omega arith
short (inr (inr h)) x y z = omega arith

-- what is said of the words of a record is said of the record
pub tree_words_said : (s : List ℕ) (m : models.Model) (k : ℕ) (x : Side) (other : Held) (t : Tables) (w : List ℕ) (h : record_of.Header) → 647 ≤ length w
    → tree_filled_of s (sets w 0 (record_words h)) (models.model_number m) k x other t ≡ filled_by (tree_beside x s (header_record h) (which_of m) (models.model_number m) k other t)
unfolding tree_filled_of
tree_words_said s m k x other t w h enough =
    ap (λ (j : ℕ). tree_filled_in j s (sets w 0 (record_words h)) (models.model_number m) k x other t) (record_judged w h enough)
    ∙ ap₂ (λ (r : Header) (n : Which). filled_by (tree_beside x s r n (models.model_number m) k other t)) (record_back w h enough) (which_number m)

module _ {s : List ℕ} (bytes : Bytes s) {h : record_of.Header} (says : record_of.Says s h) (m : models.Model) where
  pub within : length s < 2 ^ 63
  within = let l = says.fits in omega arith

  -- the text of a plan
  text_of : (p : Plan) (e : Ok p ≡ planned s (header_record h) (which_of m)) → TextOf s h m (plan_said bytes says m p e).text (plan_said bytes says m p e).layout
  text_of p e =
      let w = plan_said bytes says m p e in
      record { tree = w.text_at; block = w.block_range; width = p.width; placed = w.placed; inside = w.text_inside; says = w.text_says; natural = w.natural }

  module _ {F : Tables} {X : After} (K : Stored s (header_record h) (which_of m) F X) where
    -- the rows of a file that ends in its trailer reach the trees that a full load has
    pub trailed_reaches : {rows : List ℕ} {begin : ℕ} → Trailed s rows begin → Reaching s (header_record h) (models.model_number m) K.l
    unfolding header_record
    trailed_reaches {rows} t =
        let e = K.chose.plan in
        let w = plan_said bytes says m K.p e in
        let same : t.record_of ≡ h = says_one t.opens says in
        let l : w.layout ≡ K.l = (says_once w.own_says K.chose.says).1 in
        subst (λ (l : Layout). Reaching s (header_record h) (models.model_number m) l) l
        (reaches t.ends (subst (λ (g : record_of.Header). VoiceRows s g t.models rows) same t.text) (subst (λ (g : record_of.Header). models.Models s g t.models) same t.of_voice) (text_of K.p e)
        (header_record h) (subst (λ (g : record_of.Header). 12 ≤ g.datum.len) same t.long))

    -- a tree of the model, by its number
    module _ {k : ℕ} {x : said.Tree} {y : said.TreePlace} (i : Nth K.t.trees k x) (j : Nth K.l.trees k y) where
      abbrev pub P : Plan
      P = one_plan (data_of s (header_record h)) K.p (tree_of x y) k

      -- the tree load into one task's rows, where the task holds nothing, bounds stand, and there is room
      pub tree_as_full : {rows : List ℕ} {begin : ℕ} → Trailed s rows begin → (side : Side) (other : Held) (T : Tables) → room_by P other T ≡ true
          → BesideAsFull K side k P T (tree_beside side s (header_record h) (which_of m) (models.model_number m) k other T)
      tree_as_full t side other T room = beside_as_full s (header_record h) (which_of m) within bytes.below K (trailed_reaches t) i j side other T room

      -- of the call: what it returns, the task's bounds, the tables and `out`
      pub record CallAsFull (d : ℕ) (held other : List ℕ) (T : Tables) (out : List ℕ) (r : ℕ) (held₁ : List ℕ) (T₁ : Tables) (out₁ : List ℕ) : Type 0 where
        pub after : After
        pub stored : BesideAsFull K (side_at d) k P T after
        pub tables : T₁ ≡ after.tables
        pub zero : r ≡ 0
        pub bounds : held₁ ≡ held_left (filled_by after).rows held
        pub told : out₁ ≡ sets out 0 (rows_numbers (filled_by after).rows)

      pub call_as_full : {rows : List ℕ} {begin : ℕ} → Trailed s rows begin → (w : List ℕ) → 647 ≤ length w → (d : ℕ) (held other : List ℕ) (T : Tables) (out : List ℕ) {r : ℕ} {held₁ : List ℕ} {T₁ : Tables} {out₁ : List ℕ}
          → 8 ≤ length out → 5 ≤ length held → 5 ≤ length other → holds (held_at held) ≡ false → standing d (held_at held) (held_at other) (rows_of T) ≡ true → room_by P (held_at other) T ≡ true
          → TreeShares s (sets w 0 (record_words h)) (models.model_number m) k d held other T out r held₁ T₁ out₁ → CallAsFull d held other T out r held₁ T₁ out₁
      unfolding tree_shared_of
      call_as_full t w enough d held other T out a b c free stands room (TreeShares.no_room q e f g i) = absurd (short q a b c)
      call_as_full t w enough d held other T out a b c free stands room (TreeShares.told {x = z} l n q u e f g) =
          let W = sets w 0 (record_words h) in
          let N = models.model_number m in
          let Y = tree_beside (side_at d) s (header_record h) (which_of m) N k (held_at other) T in
          let v : tree_shared_of s W N k d (held_at held) (held_at other) T ≡ filled_by Y =
          ap (λ (o : Bool). cond o (untouched 29 T) (cond (standing d (held_at held) (held_at other) (rows_of T)) (tree_filled_of s W N k (side_at d) (held_at other) T) (untouched 24 T))) free
          ∙ ap (λ (o : Bool). cond o (tree_filled_of s W N k (side_at d) (held_at other) T) (untouched 24 T)) stands ∙ tree_words_said s m k (side_at d) (held_at other) T w h enough in
          let D = tree_as_full t (side_at d) (held_at other) T room in
          let y : z ≡ (filled_by Y).rows = u.0 ∙ ap (λ (o : Filled). o.rows) v in
          record {
            after = Y;
            stored = D;
            tables = u.1 ∙ ap (λ (o : Filled). o.tables) v;
            zero = e ∙ ap (λ (o : Rows). o.number) y ∙ ap (λ (o : After). (rows_by o.answer).number) D.placed ∙ ap (λ (o : Result Loaded Refusal). (rows_by o).number) D.stored.counts;
            bounds = f ∙ ap (λ (o : Rows). held_left o held) y;
            told = g ∙ ap (λ (o : Rows). sets out 0 (rows_numbers o)) y;
          }
