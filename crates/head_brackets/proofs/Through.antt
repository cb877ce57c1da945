-- The rows of a section while they are gone through: what is left of them gives the answer, and what was made of them last.
use mathlib.Core.Path.{◌≡◌, refl, ap, ◌∙◌}
use mathlib.Core.List.{List}
use Prim.Native.Nat.{ℕ, ◌-◌, ◌<◌}
use lib.ListN.{length}
use Rattle.error.specs.declared.Refusal.{Refusal}
use Rattle.head_de.specs.declared.Cursor.{Cursor}
use Rattle.head_brackets.specs.Rows.{row_at, rows_at, Going, on, stop_with, over, last_of}
use Rattle.head_brackets.specs.declared.Row.{Row}
use Rattle.head_brackets.specs.declared.RowAt.TheVariants as found
use Rattle.head_brackets.proofs.Rows.{Left, left_all, left_none, left_row, left_other, over_on, over_stop, over_none, last_on, last_stop, last_none}

-- f makes something of one row; it was x₀ at the start, and is x
pub record Through {A : Type 0} (s : List ℕ) (start : ℕ) (f : A → Row → Going A) (x₀ : A) (at : ℕ) (x : A) : Type 0 where
  pub rows : List Row
  pub left : Left s at rows
  pub same_over : over f x₀ (rows_at s start) ≡ over f x rows
  pub same_last : last_of f x₀ (rows_at s start) ≡ last_of f x rows

-- how it ends: the answer, and what was made last
pub record Ended {A : Type 0} (s : List ℕ) (start : ℕ) (f : A → Row → Going A) (x₀ : A) (y : Going A) (x : A) : Type 0 where
  pub answer : over f x₀ (rows_at s start) ≡ y
  pub last : last_of f x₀ (rows_at s start) ≡ x

module _ {A : Type 0} (s : List ℕ) (start : ℕ) (f : A → Row → Going A) (x₀ : A) where
  pub through_none : Through s start f x₀ start x₀
  through_none = record { rows = rows_at s start; left = left_all s start; same_over = refl; same_last = refl }

  module _ {at : ℕ} {x : A} (t : Through s start f x₀ at x) where
    -- a line of no group
    module _ {c : Cursor} (e : row_at s at ≡ found.Other c) where
      pub line_less : length s - c.at < length s - at
      line_less = (left_other s t.left e).1

      pub through_line : Through s start f x₀ c.at x
      through_line = record { rows = t.rows; left = (left_other s t.left e).0; same_over = t.same_over; same_last = t.same_last }

    -- the rows end
    pub through_end : row_at s at ≡ found.End → Ended s start f x₀ (on x) x
    through_end e =
        let n = left_none s t.left e in
        record { answer = t.same_over ∙ ap (over f x) n ∙ over_none f x; last = t.same_last ∙ ap (last_of f x) n ∙ last_none f x }

    -- a row
    module _ {r : Row} (e : row_at s at ≡ found.Found r) where
      pub row_less : length s - r.end < length s - at
      row_less = (left_row s t.left e).less

      pub through_row : {y : A} → f x r ≡ on y → Through s start f x₀ r.end y
      through_row h =
          let n = left_row s t.left e in
          record {
            rows = n.rest;
            left = n.left;
            same_over = t.same_over ∙ ap (over f x) n.split_off ∙ over_on f x r n.rest h;
            same_last = t.same_last ∙ ap (last_of f x) n.split_off ∙ last_on f x r n.rest h;
          }

      pub through_stop : {q : Refusal} → f x r ≡ stop_with q → Ended s start f x₀ (stop_with q) x
      through_stop h =
          let n = left_row s t.left e in
          record {
            answer = t.same_over ∙ ap (over f x) n.split_off ∙ over_stop f x r n.rest h;
            last = t.same_last ∙ ap (last_of f x) n.split_off ∙ last_stop f x r n.rest h;
          }
