-- Trailers that are equal begin alike.
use mathlib.Core.Path.{◌≡◌, ap}
use Prim.Native.Nat.{ℕ}
use Rattle.std.specs.Prelude.{Result, Ok, Err}
use Rattle.error.specs.declared.Refusal.{Refusal}
use Rattle.trail_find.specs.Rows.{rows_from}
use Rattle.trail_find.specs.declared.Trail.{Trail}

-- beginning and count
pub same_rows : {a b a' b' : ℕ} → rows_from a b ≡ rows_from a' b' → (a ≡ a') × (b ≡ b')
same_rows {a = a} {b = b} h =
    let e = ap held h in (
      ap (λ (r : Trail). r.begin) e,
      ap (λ (r : Trail). r.count) e,
    )
  where
    held : Result Trail Refusal → Trail
    held (Ok r) = r
    held (Err z) = record { begin = a; count = b }
