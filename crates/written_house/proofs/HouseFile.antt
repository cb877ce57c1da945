-- Of a file, in tables with room for each of its models, the house's call has one answer.
use mathlib.Core.Path.{◌≡◌, refl, subst, subst₂}
use mathlib.Core.List.{List}
use Prim.Native.Nat.{ℕ}
use native.Mathlib.Omega.{arith}
use Rattle.written.specs.HeaderText.{Range}
use Rattle.written.specs.Record.{Header}
use Rattle.written.specs.Said.{Text}
use Rattle.written.specs.Models.{Model, Models}
use Rattle.written.specs.Loading.{ModelSaid, Unloaded, Unread, NoModel}
use Rattle.written.specs.House.{SaysModel, Judges, JudgesFile}
use Rattle.written.proofs.Once.{says_once}
use Rattle.written.proofs.OneFile.{says_one}
use Rattle.written_apart.proofs.ApartFile.{says_never, refused_one}
use Rattle.written.proofs.ModelOnce.{model_refused_once, model_never_both}
use Rattle.written_total.proofs.Broken.{breaks_once, breaks_silent}
use Rattle.written_models.proofs.OneModel.{placed_one, placed_never, unplaced_one, models_one}
use Rattle.written_house.proofs.Housed.{judges_one}
use Rattle.written_house.proofs.HouseModels.{says_model_one, model_text}

-- ---- a load is refused in one way, or done

abbrev Same : ℕ → ℕ → ℕ → ℕ → ℕ → ℕ → Type 0
Same n p k m q j = (n ≡ m) × (p ≡ q) × (k ≡ j)

module _ {widen : ℕ → ℕ} {s : List ℕ} {h : Header} where
  unloaded_one : {x : Text} {r : Range} {w n p k m q j : ℕ} → Unloaded widen s h x r w n p k → Unloaded widen s h x r w m q j → Same n p k m q j
  unloaded_one (Unloaded.negative a) (Unloaded.negative b) = (refl, refl, refl)
  unloaded_one (Unloaded.negative a) (Unloaded.block_outside b i) = absurd (b a)
  unloaded_one (Unloaded.negative a) (Unloaded.no_block b i n) = absurd (b a)
  unloaded_one (Unloaded.negative a) (Unloaded.unlinked b i x l) = absurd (b a)
  unloaded_one (Unloaded.block_outside a o) (Unloaded.negative b) = absurd (a b)
  unloaded_one (Unloaded.block_outside a o) (Unloaded.block_outside b i) = (refl, refl, refl)
  unloaded_one (Unloaded.block_outside a o) (Unloaded.no_block b i n) = absurd (o i)
  unloaded_one (Unloaded.block_outside a o) (Unloaded.unlinked b i x l) = absurd (o i)
  unloaded_one (Unloaded.no_block a o y) (Unloaded.negative b) = absurd (a b)
  unloaded_one (Unloaded.no_block a o y) (Unloaded.block_outside b i) = absurd (i o)
  unloaded_one (Unloaded.no_block a o y) (Unloaded.no_block b i n) = (refl, refl, refl)
  unloaded_one (Unloaded.no_block a o y) (Unloaded.unlinked {rows = rows} {values = values} b i x l) = absurd (y rows values x)
  unloaded_one (Unloaded.unlinked a o y r) (Unloaded.negative b) = absurd (a b)
  unloaded_one (Unloaded.unlinked a o y r) (Unloaded.block_outside b i) = absurd (i o)
  unloaded_one (Unloaded.unlinked {rows = rows} {values = values} a o y r) (Unloaded.no_block b i n) = absurd (n rows values y)
  unloaded_one (Unloaded.unlinked a o y r) (Unloaded.unlinked b i x l) = model_refused_once r l

  unread_one : {t b : Range} {w n p k m q j : ℕ} → Unread widen s h t b w n p k → Unread widen s h t b w m q j → Same n p k m q j
  unread_one (Unread.wide a) (Unread.wide b) = (refl, refl, refl)
  unread_one (Unread.wide a) (Unread.text_outside b i) = absurd (omega arith)
  unread_one (Unread.wide a) (Unread.breaks b i x) = absurd (omega arith)
  unread_one (Unread.wide a) (Unread.said b i x u) = absurd (omega arith)
  unread_one (Unread.text_outside a o) (Unread.wide b) = absurd (omega arith)
  unread_one (Unread.text_outside a o) (Unread.text_outside b i) = (refl, refl, refl)
  unread_one (Unread.text_outside a o) (Unread.breaks b i x) = absurd (o i)
  unread_one (Unread.text_outside a o) (Unread.said b i x u) = absurd (o i)
  unread_one (Unread.breaks a o y) (Unread.wide b) = absurd (omega arith)
  unread_one (Unread.breaks a o y) (Unread.text_outside b i) = absurd (i o)
  unread_one (Unread.breaks a o y) (Unread.breaks b i x) = (refl, breaks_once y x, refl)
  unread_one (Unread.breaks a o y) (Unread.said b i x u) = absurd (breaks_silent y x)
  unread_one (Unread.said a o y u) (Unread.wide b) = absurd (omega arith)
  unread_one (Unread.said a o y u) (Unread.text_outside b i) = absurd (i o)
  unread_one (Unread.said a o y u) (Unread.breaks b i x) = absurd (breaks_silent x y)
  unread_one {b = r} {w = w} (Unread.said {n = n} {p = p} {k = k} a o y u) (Unread.said b i x v) =
      unloaded_one (subst (λ (t : Text). Unloaded widen s h t r w n p k) (says_once y x).0 u) v

  unread_at : {t b t' b' : Range} {w w' n p k : ℕ} → (t ≡ t') × (b ≡ b') × (w ≡ w') → Unread widen s h t b w n p k → Unread widen s h t' b' w' n p k
  unread_at {t' = t'} {b' = b'} {w = w} {n = n} {p = p} {k = k} e u =
      subst (λ (z : ℕ). Unread widen s h t' b' z n p k) e.2 (subst₂ (λ (x y : Range). Unread widen s h x y w n p k) e.0 e.1 u)

  pub no_model_one : {m : Model} {n p k c q j : ℕ} → NoModel widen s h m n p k → NoModel widen s h m c q j → Same n p k c q j
  no_model_one (NoModel.unplaced a) (NoModel.unplaced b) = (unplaced_one a b, refl, refl)
  no_model_one (NoModel.unplaced a) (NoModel.placed b u) = absurd (placed_never b a)
  no_model_one (NoModel.placed a u) (NoModel.unplaced b) = absurd (placed_never a b)
  no_model_one (NoModel.placed a u) (NoModel.placed b v) = unread_one (unread_at (placed_one a b) u) v

  unread_never : {m : Model} {x : ModelSaid} {n p k : ℕ} (a : SaysModel widen s h m x) → Unread widen s h a.reads.text_at a.reads.block_range x.width n p k → ⊥
  unread_never a (Unread.wide b) = omega (arith, a.reads.narrow)
  unread_never a (Unread.text_outside b o) = o a.reads.text_inside
  unread_never a (Unread.breaks b i y) = breaks_silent y a.reads.text_says
  unread_never {x = x} a (Unread.said {n = n} {p = p} {k = k} b i y u) = go (subst (λ (t : Text). Unloaded widen s h t a.reads.block_range x.width n p k) (says_once y a.reads.text_says).0 u)
    where
      go : {n p k : ℕ} → Unloaded widen s h x.text a.reads.block_range x.width n p k → ⊥
      go (Unloaded.negative n) = (model_text a).natural n
      go (Unloaded.block_outside n o) = o a.reads.block_inside
      go (Unloaded.no_block n i f) = f x.rows x.values a.reads.block_says
      go (Unloaded.unlinked n i f l) = model_never_both a.linked l

  pub model_never : {m : Model} {x : ModelSaid} {n p k : ℕ} → SaysModel widen s h m x → NoModel widen s h m n p k → ⊥
  model_never a (NoModel.unplaced u) = placed_never a.reads.placed u
  model_never a (NoModel.placed p u) = unread_never a (unread_at (placed_one p a.reads.placed) u)

-- ---- one answer

pub judges_file_one : {widen : ℕ → ℕ} {file : List ℕ} {n p l k m q j i : ℕ} → JudgesFile widen file n p l k → JudgesFile widen file m q j i → (n ≡ m) × (p ≡ q) × (l ≡ j) × (k ≡ i)
judges_file_one (JudgesFile.unopened a) (JudgesFile.unopened b) = let e = refused_one a b in (e.0, e.1, refl, refl)
judges_file_one (JudgesFile.unopened a) (JudgesFile.opened o m w) = absurd (says_never o a)
judges_file_one (JudgesFile.opened o m w) (JudgesFile.unopened a) = absurd (says_never o a)
judges_file_one {widen} {file} {n} {p} {l} {k} (JudgesFile.opened {ms = ms} o m w) (JudgesFile.opened {h = h} o' m' w') =
    let e = says_one o o' in
    let x = models_one (subst (λ (z : Header). Models file z ms) e m) m' in
    judges_one {Loads = SaysModel widen file h} {Refuses = NoModel widen file h} (λ m x y a b. says_model_one a b) (λ m n p l k q j a b. no_model_one a b) (λ m x n p l a b. model_never a b)
    (subst₂ (λ (z : Header) (i : List Model). Judges (SaysModel widen file z) (NoModel widen file z) file z i n p l k) e x w) w'
