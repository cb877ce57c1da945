-- Parts of a pattern from star to star: where one ends, and the first place where it stands in a label.
use Rattle.std.specs.declared.option.Option.{Option}
use Rattle.std.specs.Prelude.{◌≡◌, true, false, List, ℕ, ◌+◌, ◌≤◌, ◌<◌, length, get_or, drop, Some, None}
use Rattle.label_match.specs.Matched.{front}

-- no star from `from` up to `end`; there the pattern ends, or a star stands
pub record PartEnd (p : List ℕ) (from end : ℕ) : Type 0 where
  pub order : from ≤ end
  pub inside : end ≤ length p
  pub starless : (k : ℕ) → from ≤ k → k < end → ¬ (get_or p k 0 ≡ 42)
  pub star : end < length p → get_or p end 0 ≡ 42

-- the first place from `at` on where the part stands at the front of what is left of the label
pub data Finds (u l : List ℕ) (at : ℕ) : Option ℕ → Type 0 where
  first : {k : ℕ} → at ≤ k → k + length u ≤ length l → front u (drop k l) ≡ true → ((i : ℕ) → at ≤ i → i < k → front u (drop i l) ≡ false) → Finds u l at (Some k)
  none : ((i : ℕ) → at ≤ i → front u (drop i l) ≡ false) → Finds u l at None
