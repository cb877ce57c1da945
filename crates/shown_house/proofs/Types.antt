-- The rules on STREAM_TYPE: the number of names is judged to be NUM_STREAMS exactly where it is (30), and none to stand twice exactly where none does (31).
use mathlib.Core.Path.{◌≡◌, refl, sym, ap, ap₂, ◌∙◌, subst}
use mathlib.Core.Bool.{Bool, true, false, not, cond, true≢false}
use mathlib.Core.List.{List}
use mathlib.Core.Logic.{◌⊎◌, inl, inr}
use Prim.Native.Nat.{ℕ, ◌≤◌, ◌<◌}
use native.Mathlib.Omega.{arith}
use borrow.Author.Tests.{eqb-true, eq-eqb}
use lib.Dec.{eqb}
use lib.ListN.{length}
use Rattle.written.specs.Bytes.{same}
use Rattle.written.specs.Record.{Header, Says}
use Rattle.written.specs.Models.{bytes_of}
use Rattle.written.specs.House.{Counted, TypesOnce}
use Rattle.laws.proofs.Every.{all_each, each_all}
use Rattle.laws.proofs.Nth.{nth_inside, nth_of}
use Rattle.head_record.specs.Record.{global_record, header_record}
use Rattle.link_sort.proofs.Order.{le_or_lt}
use Rattle.link_search.proofs.Ids.{same_true, true_same}
use Rattle.house_types.specs.Types.{type_name, new_name, types_once, types_rule}
use Rattle.shown_models.proofs.Chosen.{types, type_is}

-- no rule, or the first that is broken
pub data TypesJudged (s : List ℕ) (h : Header) : ℕ → Type 0 where
  kept : Counted s h → TypesOnce s h → TypesJudged s h 0
  miscounted : ¬ Counted s h → TypesJudged s h 30
  twice : Counted s h → ¬ TypesOnce s h → TypesJudged s h 31

module _ (s : List ℕ) (h : Header) (r : Says s h) where
  -- names i and j are the same
  abbrev alike : ℕ → ℕ → Bool
  alike i j = same (type_name s (header_record h) i) (type_name s (header_record h) j)

  not_alike : (b : Bool) → not b ≡ true → b ≡ false
  not_alike true e = absurd (true≢false (sym e))
  not_alike false e = refl

  streams_are : (header_record h).global.num_streams ≡ h.global.num_streams
  unfolding header_record global_record
  streams_are = refl

  once_so : types_once s (header_record h) ≡ true → TypesOnce s h
  unfolding types_once new_name
  once_so e i j x y a b n = go (le_or_lt i j) (le_or_lt j i)
    where
      never : (k m : ℕ) → k < m → m < length h.global.stream_type → type_name s (header_record h) k ≡ type_name s (header_record h) m → ⊥
      never k m l g f =
          let t = all_each (new_name s (header_record h)) 0 (header_record h).global.stream_type_count e m (omega arith) (omega (arith, types s h r)) in
          let u : alike k m ≡ false = not_alike (alike k m) (all_each (λ k. not (alike k m)) 0 m t k (omega arith) (omega arith)) in
          true≢false (sym (ap (λ (w : List ℕ). same w (type_name s (header_record h) m)) f ∙ same_true (type_name s (header_record h) m)) ∙ u)

      go : (i ≤ j) ⊎ (j < i) → (j ≤ i) ⊎ (i < j) → i ≡ j
      go (inl l) (inl g) = omega arith
      go (inl l) (inr g) = absurd (never i j g (nth_inside b) (type_is s h r i a ∙ n ∙ sym (type_is s h r j b)))
      go (inr l) g = absurd (never j i l (nth_inside a) (type_is s h r j b ∙ sym n ∙ sym (type_is s h r i a)))

  so_once : TypesOnce s h → types_once s (header_record h) ≡ true
  unfolding types_once new_name
  so_once f =
      each_all (new_name s (header_record h)) 0 (header_record h).global.stream_type_count
      (λ m a l. each_all (λ k. not (alike k m)) 0 m (λ k b g. other k m (omega arith) (omega (arith, types s h r)) (alike k m) refl))
    where
      other : (k m : ℕ) → k < m → m < length h.global.stream_type → (b : Bool) → alike k m ≡ b → not b ≡ true
      other k m l g false e = refl
      other k m l g true e =
          let x = nth_of h.global.stream_type m g in
          let y = nth_of h.global.stream_type k (omega arith) in
          let n : bytes_of s y.0 ≡ bytes_of s x.0 = sym (type_is s h r k y.1) ∙ true_same _ _ e ∙ type_is s h r m x.1 in
          absurd (let z : k ≡ m = f k m y.0 x.0 y.1 x.1 n in omega arith)

  counted_is : eqb (header_record h).global.num_streams (header_record h).global.stream_type_count ≡ eqb h.global.num_streams (length h.global.stream_type)
  counted_is = ap₂ eqb streams_are (types s h r)

  pub types_judged : TypesJudged s h (types_rule s (header_record h))
  unfolding types_rule
  types_judged =
      subst (λ (b : Bool). TypesJudged s h (cond b (cond (types_once s (header_record h)) 0 31) 30)) (sym counted_is)
      (go (eqb h.global.num_streams (length h.global.stream_type)) refl (types_once s (header_record h)) refl)
    where
      go : (a : Bool) → eqb h.global.num_streams (length h.global.stream_type) ≡ a → (b : Bool) → types_once s (header_record h) ≡ b → TypesJudged s h (cond a (cond b 0 31) 30)
      go false e b f = TypesJudged.miscounted (λ c. true≢false (sym (eq-eqb _ _ c) ∙ e))
      go true e true f = TypesJudged.kept (eqb-true _ _ e) (once_so f)
      go true e false f = TypesJudged.twice (eqb-true _ _ e) (λ c. true≢false (sym (so_once c) ∙ f))
