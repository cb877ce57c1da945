-- A model that can't be planned is none, in the words of the record that the file says: each refusal from 12 to 19 with what is wrong.
use Rattle.load_choose.proofs.Same.{same_chosen}
use mathlib.Core.Path.{◌≡◌, refl, sym, ◌∙◌, subst}
use mathlib.Core.List.{List, []}
use Prim.Native.Nat.{ℕ, ◌^◌, ◌≤◌, ◌<◌}
use native.Mathlib.Omega.{arith}
use lib.ListN.{length}
use Rattle.written.specs.HeaderText.{Range}
use Rattle.written.specs.Record as record_of
use Rattle.error.specs.Numbers.{number_of, place_of, line_of}
use Rattle.error.specs.declared.Refusal.{Refusal}
use Rattle.error.specs.declared.Refusal.TheVariants as refusal
use Rattle.head_record.specs.Record.{header_record}
use Rattle.head_de.proofs.Sound.{Bytes}
use Rattle.pdf_widen.specs.Widening.{widen_of}
use Rattle.load_choose.specs.Entries.{Choice}
use Rattle.load_plan.specs.Plans as plans
use Rattle.load_plan.specs.Plans.{planned}
use Rattle.written.specs.Models as models
use Rattle.written.specs.Models.{data_of, Within, Placed}
use Rattle.written.specs.Loading.{NoModel, Unread, Unloaded}
use Rattle.shown_models.proofs.Chosen.{record_arrays, data_is, which_of, Placing, at, wide, nowhere, choice-placed}
use Rattle.load_model.specs.Load.{Tables, lent}
use Rattle.shown_load.specs.Refused as code
use Rattle.shown_load.specs.Refused.{NotLoaded}
use Rattle.shown_load.proofs.Refused.{needs_not}
use Rattle.shown_load.proofs.Numbers.{Before, planned_before}
use Rattle.promises.proofs.Moved.{moved₂}
use Rattle.load_choose.specs.Chosen.{chosen}
use Rattle.load_choose.specs.declared.Chosen.{Chosen}
use Rattle.std.specs.Prelude.{Err, Result}

clash : {A : Type 0} → ◌≡◌ {A = ℕ} 0 1 → A
clash e = absurd (omega arith)

abbrev range : ℕ → ℕ → Range
range a b = record { from = a; to = b }

module _ {s : List ℕ} (bytes : Bytes s) {h : record_of.Header} (says : record_of.Says s h) (m : models.Model) where
  abbrev None : Refusal → Type 0
  None z = NoModel (widen_of 8 23 11 52) s h m (number_of z) (place_of z) (line_of z)

  -- a model that was chosen stands where the record says
  placed_there : {c : Result Chosen Refusal} → Placing s h m c → {u v x y k : ℕ} → c ≡ chosen u v x y k → Placed s h m (range u v) (range x y) k × (k ≤ 4096)
  placed_there (at {t = t} {b = b} {w = w} p n) {u} {v} {x} {y} {k} e =
      let same = same_chosen e in
      let a : t.from ≡ u = same.0 in
      let c : t.to ≡ v = same.1 in
      let d : b.from ≡ x = same.2 in
      let f : b.to ≡ y = same.3 in
      let g : w ≡ k = same.4 in
      (subst (λ (i : ℕ). Placed s h m (range u v) (range x y) i) g (moved a c d f p), subst (λ (i : ℕ). i ≤ 4096) g n)
    where
      moved : {t₀ t₁ b₀ b₁ u v x y w : ℕ} → t₀ ≡ u → t₁ ≡ v → b₀ ≡ x → b₁ ≡ y → Placed s h m (range t₀ t₁) (range b₀ b₁) w → Placed s h m (range u v) (range x y) w
      moved {t₀} {t₁} {b₀} {b₁} {u} {v} {x} {y} {w} a c d f p =
          subst (λ (i : ℕ). Placed s h m (range u v) (range x i) w) f
          (subst (λ (i : ℕ). Placed s h m (range u v) (range i b₁) w) d
          (subst (λ (i : ℕ). Placed s h m (range u i) (range b₀ b₁) w) c (subst (λ (i : ℕ). Placed s h m (range i t₁) (range b₀ b₁) w) a p)))
  placed_there (wide p n) e = clash (cc)
  placed_there (nowhere u z) e = clash (cc)

  there : {u v x y k : ℕ} → Choice s (header_record h) (which_of m) (chosen u v x y k) → Placed s h m (range u v) (range x y) k × (k ≤ 4096)
  there c = placed_there (choice-placed s h says m c) refl

  -- one that was not
  unchosen : {c : Result Chosen Refusal} → Placing s h m c → {z : Refusal} → c ≡ Err z → None z
  unchosen (at p n) e = clash (cc)
  unchosen (wide p n) {z} e = let g : refusal.Limit ≡ z = cc in subst None g (NoModel.placed p (Unread.wide n))
  unchosen (nowhere {z = y} u (a, b)) {z} e =
      let g : y ≡ z = cc in
      subst None g (moved₂ (NoModel (widen_of 8 23 11 52) s h m (number_of y)) a b (NoModel.unplaced u))

  abbrev D : List ℕ
  D = plans.data_of s (header_record h)

  inside : {a b : ℕ} → code.Within a b D → Within (range a b) (data_of s h)
  inside {a} {b} (i, j) = subst (Within (range a b)) (data_is s h) (record { order = i; ends = j })

  outside : {a b : ℕ} → ¬ code.Within a b D → ¬ Within (range a b) (data_of s h)
  outside {a} {b} n w = n (let v = subst (Within (range a b)) (sym (data_is s h)) w in (v.order, v.ends))

  module _ (L : Tables) where
    -- what is refused before the room is looked at
    none : {z : Refusal} → planned s (header_record h) (which_of m) ≡ Err z → NotLoaded s (header_record h) (which_of m) L z → None z
    unfolding header_record
    none e (code.not_chosen c) = unchosen (choice-placed s h says m c) refl
    none e (code.text_outside c n) = let p = there c in NoModel.placed p.0 (Unread.text_outside p.1 (outside n))
    none e (code.no_text c i b) = let p = there c in NoModel.placed p.0 (Unread.breaks p.1 (inside i) b)
    none e (code.negative_state c i t n) = let p = there c in NoModel.placed p.0 (Unread.said p.1 (inside i) t (Unloaded.negative n))
    none e (code.block_outside c i t n o) = let p = there c in NoModel.placed p.0 (Unread.said p.1 (inside i) t (Unloaded.block_outside n (outside o)))
    none e (code.no_block c i t n j b) = let p = there c in NoModel.placed p.0 (Unread.said p.1 (inside i) t (Unloaded.no_block n (inside j) b))
    none e (code.no_room c r) = let z = c.plan ∙ e in clash (cc)
    none e (code.not_linked c r l) = let z = c.plan ∙ e in clash (cc)

  -- whatever is lent
  nothing : Tables
  nothing = lent [] [] [] [] [] []

  short : length s < 2 ^ 63
  short = let l = says.fits in omega arith

  pub no_model : {z : Refusal} → planned s (header_record h) (which_of m) ≡ Err z → None z × (number_of z ≤ 19)
  no_model {z} e = (none nothing e (needs_not s (header_record h) (which_of m) short bytes.below (record_arrays h) nothing e), subst Before e (planned_before s (header_record h) (which_of m)))
