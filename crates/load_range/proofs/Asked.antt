-- A value that is asked for under a refusal: what is there, or why not.
use mathlib.Core.Path.{◌≡◌, refl, sym, ◌∙◌}
use Rattle.std.specs.Prelude.{Option, Some, None, Result, Ok, Err, ok_or}

module _ {A E : Type 0} (o : Option A) (e : E) {r : Result A E} (h : r ≡ ok_or o e) where
  pub there : {x : A} → r ≡ Ok x → o ≡ Some x
  there {x} k = go o (sym h ∙ k)
    where
      go : (p : Option A) → ok_or p e ≡ Ok x → p ≡ Some x
      go (Some y) i = cc
      go None i = cc

  pub missing : {z : E} → r ≡ Err z → (o ≡ None) × (z ≡ e)
  missing {z} k = go o (sym h ∙ k)
    where
      go : (p : Option A) → ok_or p e ≡ Err z → (p ≡ None) × (z ≡ e)
      go (Some y) i = (cc, cc)
      go None i = (refl, cc)
