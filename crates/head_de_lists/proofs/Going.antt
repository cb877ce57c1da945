-- A list while it is read, over any reader of its items: what is left answers as the whole does. One law for each way out of a turn.
use mathlib.Core.Path.{◌≡◌, refl, ap, ◌∙◌}
use mathlib.Core.List.{List, [], ◌∷◌, ◌++◌}
use Prim.Native.Nat.{ℕ, suc, ◌+◌, ◌-◌, ◌≤◌, ◌<◌}
use native.Mathlib.Omega.{arith}
use native.Mathlib.Decide.{dec_lt}
use borrow.Author.Tests.{lt-ltb, le-ltb}
use lib.ListN.{length, length-append}
use Rattle.written.specs.Bytes as written
use Rattle.written.specs.Bytes.{comma}
use Rattle.written.specs.HeaderText as says
use Rattle.error.specs.declared.Refusal.{Refusal}
use Rattle.error.specs.declared.Refusal.TheVariants as refusal
use Rattle.head_record.specs.Empty.{no_span, no_range}
use Rattle.head_record.specs.Lists.{span_of, range_of}
use Rattle.head_record.proofs.Filled.{filled_with, filled_past}
use Rattle.head_de.specs.Values.{delimiter_at}
use Rattle.head_de.specs.Readings.{Reading, read, refused}
use Rattle.head_de.specs.declared.Cursor.{Cursor}
use Rattle.head_de.specs.declared.Delimiter.{Delimiter}
use Rattle.head_de.specs.declared.Delimiter.TheVariants as delimiter
use Rattle.head_de.proofs.Moves.{delimiter_moves}
use Rattle.head_de_lists.specs.Lists.{after_item, item_of, items_from, items_at, spans_of, ranges_of, spans_with, ranges_with}

pub length_one_more : {A : Type 0} (l : List A) (a : A) → length (l ++ (a ∷ [])) ≡ length l + 1
length_one_more l a = length-append l (a ∷ [])

module _ {A : Type 0} (item : ℕ → Reading A) (D s : List ℕ) (i₀ : ℕ) where
  -- l stands before `at`, and what is left gives the answer
  pub record Going (at : ℕ) (l : List A) : Type 0 where
    pub fuel : ℕ
    pub enough : length s - at ≤ fuel
    pub few : length l ≤ at
    pub fits : length l ≤ length s
    pub same : items_at item D s i₀ ≡ items_from (suc fuel) item D s at l

  pub going_first : Going i₀ []
  unfolding items_at
  going_first = record { fuel = length s; enough = omega arith; few = omega arith; fits = omega arith; same = refl }

  module _ {at : ℕ} {l : List A} (g : Going at l) where
    pub item_refused : {r : Refusal} → item at ≡ refused r → items_at item D s i₀ ≡ refused r
    unfolding items_from
    item_refused e = g.same ∙ ap (item_of (items_from {A = A} g.fuel item D s) D s l) e

    module _ {a : A} {j : ℕ} (e : item at ≡ read a j) where
      next : (d : Delimiter) → delimiter_at comma D s j ≡ d → items_at item D s i₀ ≡ after_item (items_from g.fuel item D s) j (l ++ (a ∷ [])) d
      unfolding items_from
      next d f = g.same ∙ ap (item_of (items_from {A = A} g.fuel item D s) D s l) e ∙ ap (after_item (items_from g.fuel item D s) j (l ++ (a ∷ []))) f

      pub item_last : delimiter_at comma D s j ≡ delimiter.Closed → items_at item D s i₀ ≡ read (l ++ (a ∷ [])) j
      item_last f = next delimiter.Closed f

      pub item_unsplit : delimiter_at comma D s j ≡ delimiter.Missing → items_at item D s i₀ ≡ refused (refusal.ExpectedArrayComma j)
      item_unsplit f = next delimiter.Missing f

      pub item_passed : at ≤ j → {c : Cursor} → delimiter_at comma D s j ≡ delimiter.Passed c → (Going c.at (l ++ (a ∷ []))) × (length s - c.at < length s - at)
      item_passed m {c} f =
          let h = delimiter_moves comma D s j f in
          let k : suc (g.fuel - 1) ≡ g.fuel = omega (arith, g.enough, h.0) in (
            record {
              fuel = g.fuel - 1;
              enough = omega (arith, g.enough, h.1);
              few = omega (arith, length_one_more l a, g.few, h.1);
              fits = omega (arith, length_one_more l a, g.few, h.0);
              same = rw k (next (delimiter.Passed c) f);
            },
            omega (arith, h.0, h.1),
          )

-- ---- one more in an array

pub spans_with_lem : (l : List written.Span) (x : written.Span) → spans_with (spans_of l) (span_of x) ≡ spans_of (l ++ (x ∷ []))
unfolding spans_with spans_of
spans_with_lem l x = go (dec_lt (length l) 32)
  where
    go : Dec (length l < 32) → spans_with (spans_of l) (span_of x) ≡ spans_of (l ++ (x ∷ []))
    go (yes h) = rw (lt-ltb (length l) 32 h, filled_with no_span span_of 32 l x h, length_one_more l x)
    go (no h) = let k : 32 ≤ length l = omega arith in rw (le-ltb (length l) 32 k, filled_past no_span span_of 32 l x k, length_one_more l x)

pub ranges_with_lem : (l : List says.Range) (x : says.Range) → ranges_with (ranges_of l) (range_of x) ≡ ranges_of (l ++ (x ∷ []))
unfolding ranges_with ranges_of
ranges_with_lem l x = go (dec_lt (length l) 8)
  where
    go : Dec (length l < 8) → ranges_with (ranges_of l) (range_of x) ≡ ranges_of (l ++ (x ∷ []))
    go (yes h) = rw (lt-ltb (length l) 8 h, filled_with no_range range_of 8 l x h, length_one_more l x)
    go (no h) = let k : 8 ≤ length l = omega arith in rw (le-ltb (length l) 8 k, filled_past no_range range_of 8 l x k, length_one_more l x)
