-- The rule on question names (33): each row is judged the last of its name exactly where no name stands twice.
use mathlib.Core.Path.{◌≡◌, refl, sym, ap, ◌∙◌}
use mathlib.Core.Bool.{Bool, true, false, true≢false}
use mathlib.Core.List.{List}
use mathlib.Core.Logic.{◌⊎◌, inl, inr}
use Prim.Native.Nat.{ℕ, ◌≤◌, ◌<◌}
use native.Mathlib.Omega.{arith}
use borrow.Author.Tests.{eqb-true, eq-eqb}
use lib.ListN.{length}
use Rattle.std.specs.declared.option.Option.{Option}
use Rattle.std.specs.Prelude.{Some, None}
use Rattle.written.specs.Bytes.{same}
use Rattle.written.specs.Said.{Question}
use Rattle.written.specs.Linking.{Nth}
use Rattle.written.specs.House.{NoneTwice}
use Rattle.laws.proofs.Every.{all_each, each_all}
use Rattle.laws.proofs.Nth.{nth_inside, nth_of}
use Rattle.link_order.specs.Keys.{name_at}
use Rattle.link_sort.proofs.Order.{le_or_lt}
use Rattle.link_search.proofs.Ids.{same_true, true_same}
use Rattle.link_search.proofs.Last.{last_is_lem, last_found}
use Rattle.house_names.specs.Names.{last_is, is_last, all_last}

-- rows q in the text s have the names of the questions
module _ (s q : List ℕ) (qs : List Question) (named : (e : ℕ) (x : Question) → Nth qs e x → name_at s q e ≡ x.name) where
  abbrev alike : ℕ → ℕ → Bool
  alike k e = same (name_at s q e) (name_at s q k)

  found_so : (f : Option ℕ) (k : ℕ) → last_is f k ≡ true → f ≡ Some k
  found_so (Some row) k e = ap Some (eqb-true row k e)
  found_so None k e = absurd (true≢false (sym e))

  -- no later row has the name of row k
  none_later : all_last s q (length qs) ≡ true → (k m : ℕ) → k < m → m < length qs → alike k m ≡ false
  unfolding all_last
  none_later e k m l h =
      (last_found (alike k) (length qs) k (found_so _ k (all_each (is_last s q (length qs)) 0 (length qs) e k (omega arith) (omega arith)))).2 m l h

  pub last_once : all_last s q (length qs) ≡ true → NoneTwice (λ x. x.name) qs
  last_once e i j x y a b n = go (le_or_lt i j) (le_or_lt j i)
    where
      never : (k m : ℕ) → k < m → m < length qs → name_at s q m ≡ name_at s q k → ⊥
      never k m l h f = true≢false (sym (ap (λ (w : List ℕ). same w (name_at s q k)) f ∙ same_true (name_at s q k)) ∙ none_later e k m l h)

      go : (i ≤ j) ⊎ (j < i) → (j ≤ i) ⊎ (i < j) → i ≡ j
      go (inl l) (inl h) = omega arith
      go (inl l) (inr h) = absurd (never i j h (nth_inside b) (named j y b ∙ sym n ∙ sym (named i x a)))
      go (inr l) h = absurd (never j i l (nth_inside a) (named i x a ∙ n ∙ sym (named j y b)))

  pub once_last : NoneTwice (λ x. x.name) qs → all_last s q (length qs) ≡ true
  unfolding all_last
  once_last f = each_all (is_last s q (length qs)) 0 (length qs) (λ k a l. row k (omega arith))
    where
      other : (k m : ℕ) → k < m → m < length qs → (b : Bool) → alike k m ≡ b → b ≡ false
      other k m l h false e = refl
      other k m l h true e =
          let x = nth_of qs m h in
          let y = nth_of qs k (omega arith) in
          let n : x.0.name ≡ y.0.name = sym (named m x.0 x.1) ∙ true_same _ _ e ∙ named k y.0 y.1 in
          absurd (let z : m ≡ k = f m k x.0 y.0 x.1 y.1 n in omega arith)

      row : (k : ℕ) → k < length qs → is_last s q (length qs) k ≡ true
      row k l =
          ap (λ (g : Option ℕ). last_is g k) (last_is_lem (alike k) (length qs) k l (same_true (name_at s q k)) (λ m a b. other k m a b (alike k m) refl))
          ∙ eq-eqb k k refl
