-- Bytes behind a file, as a trailer is: it opens as before, and every load that isn't refused with 16 answers and leaves what it did before (02, Wish 7). And what a load
-- promises allows one outcome.
use mathlib.Core.Path.{◌≡◌, refl, sym, ap, ap₂, subst, subst₂}
use mathlib.Core.List.{List, ◌++◌}
use Prim.Native.Nat.{ℕ, ◌+◌, ◌≤◌}
use native.Mathlib.Omega.{arith}
use lib.ListN.{length, get_or, take, drop}
use lib.Seq.{sets}
use Rattle.written.specs.HeaderText.{Range}
use Rattle.written.specs.Record.{Header, Says, file_limit}
use Rattle.written.specs.Blocks as block
use Rattle.written.specs.Said.{Text, Layout}
use Rattle.written.specs.TreeText as tree
use Rattle.written.specs.Breaks.{Breaks}
use Rattle.written.specs.Tables.{TreeRows, ModelRefused}
use Rattle.written.specs.Models.{Model, model_number, data_of}
use Rattle.written.specs.Loading.{ModelSaid, ReadsModel, Unloaded, Unread, NoModel}
use Rattle.written.specs.Trailer.{longer}
use Rattle.written.proofs.Once.{says_once}
use Rattle.written.proofs.OneBlock.{block_one}
use Rattle.written.proofs.OneFile.{says_one}
use Rattle.written.proofs.ModelOnce.{model_rows_once, model_refused_once, model_never_both}
use Rattle.written_total.proofs.Broken.{breaks_silent}
use Rattle.written_models.proofs.Numbers.{linking_number}
use Rattle.written_models.proofs.OneModel.{placed_one, placed_never}
use Rattle.written_models.proofs.Longer.{longer_opens}
use Rattle.written_models.proofs.LongerModels.{placed-longer, unplaced_longer, inside_longer, front-longer, block_longer}
use Rattle.written_house.proofs.HouseFile.{no_model_one}
use Rattle.load_model.specs.Load.{Tables}
use Rattle.larsavim.specs.Face.{Opens, Loads}
use Rattle.promises.specs.Opening.{record_words, AfterOpen}
use Rattle.promises.specs.Loading.{widening, stored, zeroed, done_numbers, refused_numbers, Room, LoadEnds, AfterLoad}
use Rattle.promises.proofs.Opening.{open_kept, after_open_once}
use Rattle.promises.proofs.Front.{record_said, then_load}

-- ---- one outcome of a load

said_path : {x y : ModelSaid} → x.text ≡ y.text → x.rows ≡ y.rows → x.width ≡ y.width → x.values ≡ y.values → x ≡ y
said_path a b c d = λ i. record { text = a i; rows = b i; width = c i; values = d i }

module _ {s : List ℕ} {h : Header} where
  pub reads_one : {m : Model} {x y : ModelSaid} {l k : Layout} → ReadsModel widening s h m x l → ReadsModel widening s h m y k → (x ≡ y) × (l ≡ k)
  reads_one {m} {x} {y} {l} {k} a b =
      let p = placed_one a.placed b.placed in
      let t = says_once (subst (λ (r : Range). tree.Says (take (r.to + 1) (data_of s h)) r.from x.text l) p.0 a.text_says) b.text_says in
      let u = subst (λ (r : Range). block.Block widening (length x.text.trees) x.width (drop r.from (take (r.to + 1) (data_of s h))) x.rows x.values) p.1 a.block_says in
      let v = subst (λ (n : ℕ). block.Block widening n x.width (drop b.block_range.from (take (b.block_range.to + 1) (data_of s h))) x.rows x.values) (ap (λ (z : Text). length z.trees) t.0) u in
      let q = block_one (subst (λ (n : ℕ). block.Block widening (length y.text.trees) n (drop b.block_range.from (take (b.block_range.to + 1) (data_of s h))) x.rows x.values) p.2 v) b.block_says in
      (said_path t.0 q.0 p.2 q.1, t.1)

  unread_never : {m : Model} {x : ModelSaid} {l : Layout} {n p k : ℕ} (a : ReadsModel widening s h m x l) → Unread widening s h a.text_at a.block_range x.width n p k → n ≤ 19 → ⊥
  unread_never a (Unread.wide b) f = omega (arith, a.narrow)
  unread_never a (Unread.text_outside b o) f = o a.text_inside
  unread_never a (Unread.breaks b i y) f = breaks_silent y a.text_says
  unread_never {x = x} a (Unread.said {n = n} {p = p} {k = k} b i y u) f = go (subst (λ (t : Text). Unloaded widening s h t a.block_range x.width n p k) (says_once y a.text_says).0 u) f
    where
      go : {n p k : ℕ} → Unloaded widening s h x.text a.block_range x.width n p k → n ≤ 19 → ⊥
      go (Unloaded.negative g) f = a.natural g
      go (Unloaded.block_outside g o) f = o a.block_inside
      go (Unloaded.no_block g i e) f = e x.rows x.values a.block_says
      go (Unloaded.unlinked g i e r) f = omega (arith, (linking_number r).0, f)

  pub reads_never : {m : Model} {x : ModelSaid} {l : Layout} {n p k : ℕ} → ReadsModel widening s h m x l → NoModel widening s h m n p k → n ≤ 19 → ⊥
  reads_never a (NoModel.unplaced u) f = placed_never a.placed u
  reads_never {x = x} a (NoModel.placed {w = w} {n = n} {p = p} {k = k} q u) f =
      let e = placed_one q a.placed in
      unread_never a (subst (λ (z : ℕ). Unread widening s h a.text_at a.block_range z n p k) e.2 (subst₂ (λ (i j : Range). Unread widening s h i j w n p k) e.0 e.1 u)) f

  module _ {m : Model} {t : Tables} where
    room_as : {x y : ModelSaid} {l k : Layout} → ReadsModel widening s h m x l → ReadsModel widening s h m y k → Room x t → Room y t
    room_as a b r = subst (λ (z : ModelSaid). Room z t) (reads_one a b).0 r

    pub ends_once : {l k : List ℕ} {u v : Tables} → LoadEnds s h m t l u → LoadEnds s h m t k v → (l ≡ k) × (u ≡ v)
    ends_once (LoadEnds.loaded {x = x} {l = l} {trees = T} {records = R} a r w) (LoadEnds.loaded {x = y} {l = k} {trees = U} {records = S} b q z) =
        let e = reads_one a b in
        let f = subst (λ (o : ModelSaid). TreeRows o.text.questions 0 o.text.trees T R) e.0 w in
        let g = model_rows_once f z refl in
        (ap₂ done_numbers e.0 g.1, λ i. stored t (e.0 i) (e.1 i) (g.0 i) (g.1 i))
    ends_once (LoadEnds.loaded a r w) (LoadEnds.no_model y b) = absurd (reads_never a y b)
    ends_once (LoadEnds.loaded a r w) (LoadEnds.no_room b n) = absurd (n (room_as a b r))
    ends_once (LoadEnds.loaded {x = x} {trees = T} {records = R} a r w) (LoadEnds.unlinked b q z) =
        absurd (model_never_both (subst (λ (o : ModelSaid). TreeRows o.text.questions 0 o.text.trees T R) (reads_one a b).0 w) z)
    ends_once (LoadEnds.no_model y b) (LoadEnds.loaded a r w) = absurd (reads_never a y b)
    ends_once (LoadEnds.no_model x b) (LoadEnds.no_model y d) = let e = no_model_one x y in (λ i. refused_numbers (e.0 i) (e.1 i) (e.2 i), refl)
    ends_once (LoadEnds.no_model y b) (LoadEnds.no_room a n) = absurd (reads_never a y b)
    ends_once (LoadEnds.no_model y b) (LoadEnds.unlinked a r w) = absurd (reads_never a y b)
    ends_once (LoadEnds.no_room a n) (LoadEnds.loaded b r w) = absurd (n (room_as b a r))
    ends_once (LoadEnds.no_room a n) (LoadEnds.no_model y b) = absurd (reads_never a y b)
    ends_once (LoadEnds.no_room a n) (LoadEnds.no_room b k) = (refl, refl)
    ends_once (LoadEnds.no_room a n) (LoadEnds.unlinked b r w) = absurd (n (room_as b a r))
    ends_once (LoadEnds.unlinked a r w) (LoadEnds.loaded {trees = T} {records = R} b q z) =
        absurd (model_never_both (subst (λ (o : ModelSaid). TreeRows o.text.questions 0 o.text.trees T R) (reads_one b a).0 z) w)
    ends_once (LoadEnds.unlinked a r w) (LoadEnds.no_model y b) = absurd (reads_never a y b)
    ends_once (LoadEnds.unlinked a r w) (LoadEnds.no_room b n) = absurd (n (room_as a b r))
    ends_once (LoadEnds.unlinked {n = c} {i = i} {k = k} a r w) (LoadEnds.unlinked b q z) =
        let e = reads_one a b in
        let f = model_refused_once (subst (λ (o : ModelSaid). ModelRefused o.text.questions o.text.trees c i k) e.0 w) z in
        (λ j. refused_numbers (f.0 j) (f.1 j) (f.2 j), ap (λ (o : ModelSaid). zeroed o t) e.0)

    pub after_load_once : {out : List ℕ} {r q : ℕ} {u v : Tables} {o p : List ℕ} → AfterLoad s h m t out r u o → AfterLoad s h m t out q v p → (r ≡ q) × (u ≡ v) × (o ≡ p)
    after_load_once (AfterLoad.short_out a) (AfterLoad.short_out b) = (refl, refl, refl)
    after_load_once (AfterLoad.short_out a) (AfterLoad.ended b x) = absurd (omega arith)
    after_load_once (AfterLoad.ended a x) (AfterLoad.short_out b) = absurd (omega arith)
    after_load_once {out = out} (AfterLoad.ended a x) (AfterLoad.ended b y) = let e = ends_once x y in (ap (λ (l : List ℕ). get_or l 0 0) e.0, e.1, ap (sets out 0) e.0)

-- ---- bytes behind the file

module _ {s : List ℕ} {h : Header} (o : Says s h) (t : List ℕ) where
  reads_longer : {m : Model} {x : ModelSaid} {l : Layout} → ReadsModel widening s h m x l → ReadsModel widening (s ++ t) (longer h (length t)) m x l
  reads_longer {x = x} {l = l} a =
      record {
        text_at = a.text_at;
        block_range = a.block_range;
        placed = placed-longer o t a.placed;
        narrow = a.narrow;
        text_inside = inside_longer o t a.text_inside;
        text_says = subst (λ (d : List ℕ). tree.Says d a.text_at.from x.text l) (sym (front-longer o t a.text_at a.text_inside)) a.text_says;
        natural = a.natural;
        block_inside = inside_longer o t a.block_inside;
        block_says = subst (λ (d : List ℕ). block.Block widening (length x.text.trees) x.width d x.rows x.values) (sym (block_longer o t a.block_range a.block_inside)) a.block_says;
      }

  unloaded_longer : {x : Text} {at : Range} {w n p k : ℕ} → Unloaded widening s h x at w n p k → ¬ (n ≡ 16) → Unloaded widening (s ++ t) (longer h (length t)) x at w n p k
  unloaded_longer (Unloaded.negative g) e = Unloaded.negative g
  unloaded_longer (Unloaded.block_outside g i) e = absurd (e refl)
  unloaded_longer {x} {at} {w} (Unloaded.no_block g i f) e =
      Unloaded.no_block g (inside_longer o t i) (λ rows values b. f rows values (subst (λ (d : List ℕ). block.Block widening (length x.trees) w d rows values) (block_longer o t at i) b))
  unloaded_longer {x} {at} {w} (Unloaded.unlinked {rows = rows} {values = values} g i b r) e =
      Unloaded.unlinked g (inside_longer o t i) (subst (λ (d : List ℕ). block.Block widening (length x.trees) w d rows values) (sym (block_longer o t at i)) b) r

  unread_longer : {a b : Range} {w n p k : ℕ} → Unread widening s h a b w n p k → ¬ (n ≡ 16) → Unread widening (s ++ t) (longer h (length t)) a b w n p k
  unread_longer (Unread.wide l) e = Unread.wide l
  unread_longer (Unread.text_outside l i) e = absurd (e refl)
  unread_longer {a} (Unread.breaks {p = p} l i y) e = Unread.breaks l (inside_longer o t i) (subst (λ (d : List ℕ). Breaks d a.from p) (sym (front-longer o t a i)) y)
  unread_longer {a} (Unread.said {x = x} {l = k} l i y u) e =
      Unread.said l (inside_longer o t i) (subst (λ (d : List ℕ). tree.Says d a.from x k) (sym (front-longer o t a i)) y) (unloaded_longer u e)

  no_model_longer : {m : Model} {n p k : ℕ} → NoModel widening s h m n p k → ¬ (n ≡ 16) → NoModel widening (s ++ t) (longer h (length t)) m n p k
  no_model_longer (NoModel.unplaced u) e = NoModel.unplaced (unplaced_longer o t u)
  no_model_longer (NoModel.placed p u) e = NoModel.placed (placed-longer o t p) (unread_longer u e)

  ends_longer : {m : Model} {T u : Tables} {l : List ℕ} → LoadEnds s h m T l u → ¬ (get_or l 0 0 ≡ 16) → LoadEnds (s ++ t) (longer h (length t)) m T l u
  ends_longer (LoadEnds.loaded a r w) e = LoadEnds.loaded (reads_longer a) r w
  ends_longer (LoadEnds.no_model y b) e = LoadEnds.no_model (no_model_longer y e) b
  ends_longer (LoadEnds.no_room a n) e = LoadEnds.no_room (reads_longer a) n
  ends_longer (LoadEnds.unlinked a r w) e = LoadEnds.unlinked (reads_longer a) r w

  pub load_longer : {m : Model} {T u : Tables} {out p : List ℕ} {r : ℕ} → AfterLoad s h m T out r u p → ¬ (r ≡ 16) → AfterLoad (s ++ t) (longer h (length t)) m T out r u p
  load_longer (AfterLoad.short_out a) e = AfterLoad.short_out a
  load_longer (AfterLoad.ended a x) e = AfterLoad.ended a (ends_longer x e)

-- ---- of the calls

module _ (s w out w' o : List ℕ) (open-call : Opens s w out 0 w' o) (t : List ℕ) (short : length (s ++ t) ≤ file_limit) where
  abbrev h : Header
  h = (record_said s w out w' o open-call).0

  says : Says s h
  says = (record_said s w out w' o open-call).1

  -- the longer file opens, with the record but for the data's length
  pub opens_longer : (v out₁ : List ℕ) → 647 ≤ length v → 2 ≤ length out₁ → {r : ℕ} {v' o₁ : List ℕ} → Opens (s ++ t) v out₁ r v' o₁ → (r ≡ 0) × (v' ≡ sets v 0 (record_words (longer h (length t))))
  opens_longer v out₁ l k c =
      let z = after_open_once (open_kept v out₁ c) (AfterOpen.opened k (longer_opens s t says short) l) in
      (z.0, z.1)

  -- and every load that wasn't refused with 16 is the same: what it returns, what was lent, `out`
  pub loads_longer : (m : Model) (T : Tables) (out₁ : List ℕ) {r : ℕ} {u : Tables} {o₁ : List ℕ} → Loads s w' (model_number m) T out₁ r u o₁ → ¬ (r ≡ 16)
      → (v out₂ v' o₂ : List ℕ) → Opens (s ++ t) v out₂ 0 v' o₂ → {q : ℕ} {x : Tables} {o₃ : List ℕ} → Loads (s ++ t) v' (model_number m) T out₁ q x o₃
      → (r ≡ q) × (u ≡ x) × (o₁ ≡ o₃)
  loads_longer m T out₁ {r} {u} {o₁} call n v out₂ v' o₂ again {q} {x} {o₃} second =
      let g = record_said (s ++ t) v out₂ v' o₂ again in
      let a = load_longer says t (then_load s w out w' o open-call m T out₁ call) n in
      let b = then_load (s ++ t) v out₂ v' o₂ again m T out₁ second in
      let e : longer h (length t) ≡ g.0 = says_one (longer_opens s t says short) g.1 in
      after_load_once (subst (λ (k : Header). AfterLoad (s ++ t) k m T out₁ r u o₁) e a) b
