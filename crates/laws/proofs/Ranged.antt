-- A test at each number of a range, as the library's `all` and `any` try it.
use mathlib.Core.Path.{◌≡◌, refl, ap, ◌∙◌}
use mathlib.Core.Bool.{Bool, true, false, ◌&&◌, ◌||◌}
use mathlib.Core.List.{List}
use Prim.Native.Nat.{ℕ, zero, suc, ◌-◌}
use native.Mathlib.Numerals.{add-one}
use denote.Param.Members.{Mut}
use Rattle.std.specs.Fn.{Called}
use Rattle.std.specs.Iterator.{YieldsThen}
use Rattle.std.specs.List.{FoldsTo, list_all, list_any, range_with_len}
use Rattle.std.specs.Option.{MatchOption}
use Rattle.std.specs.Prelude.{Option}
use Rattle.std.specs.declared.ops.Range.{Range}
use Rattle.std.proofs.iter.Yields.{nat_range_steps}
use Rattle.std.proofs.lemmas.Iterator.{YieldsList-from_range}
use Rattle.std.proofs.lemmas.Iterator.Search.{all_from_yields_List, any_from_yields_List}
use Rattle.laws.specs.Every.{all, some}

module _ (p : ℕ → Bool) where
  all_listed : (k n : ℕ) → list_all p (range_with_len k n) ≡ all p k n
  unfolding all
  all_listed k zero = refl
  all_listed k (suc n) = rw add-one (ap (λ (b : Bool). p k && b) (all_listed (suc k) n))

  some_listed : (k n : ℕ) → list_any p (range_with_len k n) ≡ some p k n
  unfolding some
  some_listed k zero = refl
  some_listed k (suc n) = rw add-one (ap (λ (b : Bool). p k || b) (some_listed (suc k) n))

  module _ {F : Type 0} {g : Mut F (ℕ × Unit {0}) Bool} (a b n : ℕ) (e : b - a ≡ n) (u : Range ℕ) (f : F) (r : Bool) where
    -- the clause `ran` of `all`, and what each call answers
    pub all_ranged : (xs : List ℕ) × (o : Option ℕ) × (j : F) × YieldsThen nat_range_steps (record { start = a; end = b }) xs o u × FoldsTo (λ s x t. Called g s (x, tt) true t) f xs j × MatchOption o (r ≡ true) (λ x. (r ≡ false) × ((h : F) × Called g j (x, tt) false h))
        → ((x : ℕ) (y : Bool) (q : F) → Called g f (x, tt) y q → (q ≡ f) × (y ≡ p x)) → r ≡ all p a n
    all_ranged ran calls = all_from_yields_List p u f r ran (YieldsList-from_range a b n refl e) calls ∙ all_listed a n

    pub some_ranged : (xs : List ℕ) × (o : Option ℕ) × (j : F) × YieldsThen nat_range_steps (record { start = a; end = b }) xs o u × FoldsTo (λ s x t. Called g s (x, tt) false t) f xs j × MatchOption o (r ≡ false) (λ x. (r ≡ true) × ((h : F) × Called g j (x, tt) true h))
        → ((x : ℕ) (y : Bool) (q : F) → Called g f (x, tt) y q → (q ≡ f) × (y ≡ p x)) → r ≡ some p a n
    some_ranged ran calls = any_from_yields_List p u f r ran (YieldsList-from_range a b n refl e) calls ∙ some_listed a n
