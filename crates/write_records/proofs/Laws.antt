-- What a record says where it is there and where it isn't.
use mathlib.Core.Path.{◌≡◌, refl, sym, ap, ◌∙◌}
use mathlib.Core.Bool.{Bool, true, false, cond}
use mathlib.Core.List.{List}
use Prim.Native.Nat.{ℕ, ◌+◌}
use lib.Dec.{ltb}
use Rattle.table_rows.specs.Rows.{record_rows}
use Rattle.std.specs.Prelude.{Some, None}
use native.Mathlib.Omega.{arith}
use Rattle.write_records.specs.Records.{row_of, of_record}

module _ (field : List ℕ → ℕ → ℕ) (R : List ℕ) (f k : ℕ) where
  pub record_says : ltb (f + k) (record_rows R) ≡ true → {x : ℕ} → x ≡ field R (f + k) → x ≡ of_record field R f k
  unfolding of_record
  record_says h u = u ∙ sym (ap (λ (x : Bool). cond x (field R (f + k)) 0) h)

  pub record_missing : ltb (f + k) (record_rows R) ≡ false → 0 ≡ of_record field R f k
  unfolding of_record
  record_missing h = sym (ap (λ (x : Bool). cond x (field R (f + k)) 0) h)

  -- by the row
  pub row_says : {i x : ℕ} → x ≡ field R i → row_of R f k ≡ Some i → x ≡ of_record field R f k
  row_says {i} {x} u h = go (ltb (f + k) (record_rows R)) refl h
    where
      go : (b : Bool) → ltb (f + k) (record_rows R) ≡ b → cond b (Some (f + k)) None ≡ Some i → x ≡ of_record field R f k
      go true e g = let j : f + k ≡ i = cc in record_says e (u ∙ ap (field R) (sym j))
      go false e g = let z : ◌≡◌ {A = ℕ} 0 1 = cc in absurd (omega arith)

  pub row_missing : row_of R f k ≡ None → 0 ≡ of_record field R f k
  row_missing h = go (ltb (f + k) (record_rows R)) refl h
    where
      go : (b : Bool) → ltb (f + k) (record_rows R) ≡ b → cond b (Some (f + k)) None ≡ None → 0 ≡ of_record field R f k
      go true e g = let z : ◌≡◌ {A = ℕ} 0 1 = cc in absurd (omega arith)
      go false e g = record_missing e
