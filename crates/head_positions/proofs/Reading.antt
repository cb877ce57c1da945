-- [POSITION] while its rows are read: the words have the groups up to here, and what is left of the rows gives the answer. One law for each way out of a
-- turn.
use mathlib.Core.Path.{◌≡◌, refl, sym, ap, ap₂, ◌∙◌}
use mathlib.Core.Bool.{Bool, true, false, cond}
use mathlib.Core.List.{List, [], ◌∷◌}
use Prim.Native.Nat.{ℕ, suc, ◌+◌, ◌*◌, ◌≤◌, ◌<◌}
use native.Mathlib.Omega.{arith}
use borrow.Author.Tests.{lt-ltb}
use lib.Dec.{ltb}
use lib.ListN.{length, get_or, replicate}
use lib.Seq.{sets}
use Rattle.std.specs.Prelude.{Result, Ok, Err, ⊤}
use Rattle.error.specs.declared.Refusal.{Refusal}
use Rattle.error.specs.declared.Refusal.TheVariants as refusal
use Rattle.head_record.specs.Empty.{empty_position}
use Rattle.head_record.specs.declared.PositionData.{PositionData}
use Rattle.head_record_fits.specs.Fits.{no_position_data}
use Rattle.head_words.specs.Words.{flat, Zeros, span_at, position_words, positions_words}
use Rattle.head_words.proofs.Lengths.{length_position}
use Rattle.head_de.specs.declared.Cursor.{Cursor}
use Rattle.head_fields.specs.Fields.{any_missing}
use Rattle.head_lines.proofs.Moves.{no}
use Rattle.head_brackets.specs.Rows.{row_at, rows_at, Going, on, stop_with, over, last_of, known_in}
use Rattle.text_parts.specs.Parts.{bytes_of}
use Rattle.head_brackets.specs.declared.Row.{Row}
use Rattle.head_brackets.specs.declared.RowAt.TheVariants as found
use Rattle.head_brackets.proofs.Rows.{over_last}
use Rattle.head_brackets.proofs.Through.{Through, through_none, through_line, through_row, through_stop, through_end}
use Rattle.head_position.specs.Group as one
use Rattle.head_position.specs.declared.Group.{Group}
use Rattle.head_group_words.specs.Groups.{names_at, judged_in}
use Rattle.head_group_words.proofs.Kept.{Section, Kept, kept_none, kept_more, kept_ninth, kept_known, kept_judged}
use Rattle.head_positions.specs.Groups.{no_positions, with_positions, many_over, group_of, with_group, made, judged, groups_in, words_in}
use Rattle.head_positions.specs.declared.Positions.{Positions}

-- ---- the groups of the section

pub named : (d : PositionData) → span_at (position_words d) 0 ≡ d.name
unfolding position_words
named d = refl

abbrev pub positions : Section PositionData
positions =
    record {
      none = no_position_data;
      words_of = position_words;
      name_of = λ d. d.name;
      place = 412;
      width = 29;
      two = omega arith;
      long = length_position;
      named = named;
    }

-- words of 0 are those of 8 empty groups
blank : positions_words (replicate 8 empty_position) ≡ replicate 232 0
unfolding position_words flat empty_position
blank = refl

-- a count among the words of a group
counted : (l : List PositionData) (k : ℕ) → k < 8 → many_over l (suc k) ≡ cond (ltb 8 (get_or (position_words (get_or l k no_position_data)) 18 0)) true (many_over l k)
unfolding many_over position_words flat
counted l k h = rw (lt-ltb k 8 h)

none_counted : (l : List PositionData) → many_over l 0 ≡ false
unfolding many_over
none_counted l = refl

-- the limits say the verdict
judged_verdict : (x : Positions) → cond (ltb 8 x.names.count) (Err refusal.Limit) (cond (many_over x.items 8) (Err refusal.Limit) (Ok tt)) ≡ (judged x).verdict
unfolding judged
judged_verdict x = go (ltb 8 x.names.count) (many_over x.items 8)
  where
    go : (a b : Bool) → cond a (Err refusal.Limit) (cond b (Err refusal.Limit) (Ok tt)) ≡ (cond a (made (Err refusal.Limit) no_positions) (cond b (made (Err refusal.Limit) no_positions) (made (Ok tt) x))).verdict
    go true b = refl
    go false true = refl
    go false false = refl

-- ---- the group of a row

-- one that is accepted is what its rows made last
group_item : (y : Going Group) (z : Group) → (one.group_in y).verdict ≡ Ok tt → ((h : Group) → y ≡ on h → z ≡ h) → z.item ≡ (one.group_in y).item
unfolding one.judged
group_item (on h) z e f = go (any_missing h.seen 3) e
  where
    go : (b : Bool) → (cond b (one.made (Err refusal.Field) empty_position) (one.made (Ok tt) h.item)).verdict ≡ Ok tt
        → z.item ≡ (cond b (one.made (Err refusal.Field) empty_position) (one.made (Ok tt) h.item)).item
    go true q = no cc
    go false q = ap (λ (g : Group). g.item) (f h refl)
group_item (stop_with r) z e f = no cc

module _ (s : List ℕ) (start : ℕ) (x : Positions) (r : Row) where
  known : known_in s x.names.items x.names.count (bytes_of s r.name) ≡ true → with_group s start x r ≡ on x
  unfolding with_group
  known k = rw k

  module _ (k : known_in s x.names.items x.names.count (bytes_of s r.name) ≡ false) where
    accepted : (group_of s start r.name).verdict ≡ Ok tt → with_group s start x r ≡ on (with_positions x (group_of s start r.name).item)
    unfolding with_group
    accepted e = rw (k, e)

    refused : {q : Refusal} → (group_of s start r.name).verdict ≡ Err q → with_group s start x r ≡ stop_with q
    unfolding with_group
    refused e = rw (k, e)

-- ---- a turn

module _ (s : List ℕ) (start : ℕ) (w₀ : List ℕ) where
  pub record Reached (w : List ℕ) (at n : ℕ) : Type 0 where
    pub groups : Positions
    pub through : Through s start (with_group s start) no_positions at groups
    pub kept : Kept positions w₀ w groups.names groups.items n

  pub reached_none : 644 ≤ length w₀ → Zeros w₀ 412 232 → Reached w₀ start 0
  unfolding no_positions
  reached_none h z = record { groups = no_positions; through = through_none s start (with_group s start) no_positions; kept = kept_none positions w₀ empty_position blank z h }

  -- how it ends
  pub record Answered (w : List ℕ) (v : Result ⊤ Refusal) : Type 0 where
    pub answer : v ≡ (groups_in (over (with_group s start) no_positions (rows_at s start))).verdict
    pub words : w ≡ words_in w₀ (over (with_group s start) no_positions (rows_at s start)) (last_of (with_group s start) no_positions (rows_at s start))

  module _ {w : List ℕ} {at n : ℕ} (g : Reached w at n) where
    -- a line of no group
    pub reached_line : {c : Cursor} → row_at s at ≡ found.Other c → Reached w c.at n
    reached_line e = record { groups = g.groups; through = through_line s start (with_group s start) no_positions g.through e; kept = g.kept }

    module _ {r : Row} (e : row_at s at ≡ found.Found r) where
      pub reached_known : known_in s (names_at w 412 29) n (bytes_of s r.name) ≡ true → Reached w r.end n
      reached_known k =
          record {
            groups = g.groups;
            through = through_row s start (with_group s start) no_positions g.through e (known s start g.groups r (sym (kept_known positions g.kept s (bytes_of s r.name)) ∙ k));
            kept = g.kept;
          }

      -- a group that is not known
      module _ (k : known_in s (names_at w 412 29) n (bytes_of s r.name) ≡ false) where
        new : known_in s g.groups.names.items g.groups.names.count (bytes_of s r.name) ≡ false
        new = sym (kept_known positions g.kept s (bytes_of s r.name)) ∙ k

        module _ {v : Result ⊤ Refusal} (p : v ≡ (group_of s start r.name).verdict) where
          pub refused_group : {x : Refusal} → v ≡ Err x → Answered w (Err x)
          refused_group q =
              let h = through_stop s start (with_group s start) no_positions g.through e (refused s start g.groups r new (sym p ∙ q)) in
              record {
                answer = sym (ap (λ (y : Going Positions). (groups_in y).verdict) h.answer);
                words = g.kept.words ∙ sym (ap₂ (words_in w₀) h.answer h.last);
              }

          module _ (q : v ≡ Ok tt) where
            on_with : Through s start (with_group s start) no_positions r.end (with_positions g.groups (group_of s start r.name).item)
            on_with = through_row s start (with_group s start) no_positions g.through e (accepted s start g.groups r new (sym p ∙ q))

            -- one of the first 8, whose words are u, and one past them
            pub reached_more : {t u : List ℕ} → n < 8 → t ≡ sets w (412 + 29 * n) u → u ≡ position_words (last_of (one.with_row s (bytes_of s r.name)) (one.named r.name) (rows_at s start)).item
                → Reached t r.end (n + 1)
            unfolding with_positions
            reached_more {t} h a b =
                record {
                  groups = with_positions g.groups (group_of s start r.name).item;
                  through = on_with;
                  kept = kept_more positions g.kept t (group_of s start r.name).item h (a ∙ ap (sets w (412 + 29 * n)) (b ∙ ap position_words last_item));
                }
              where
                last_item : (last_of (one.with_row s (bytes_of s r.name)) (one.named r.name) (rows_at s start)).item ≡ (group_of s start r.name).item
                last_item =
                    group_item (over (one.with_row s (bytes_of s r.name)) (one.named r.name) (rows_at s start))
                    (last_of (one.with_row s (bytes_of s r.name)) (one.named r.name) (rows_at s start)) (sym p ∙ q)
                    (λ y c. over_last (one.with_row s (bytes_of s r.name)) (one.named r.name) (rows_at s start) c)

            pub reached_ninth : 8 ≤ n → Reached w r.end 9
            unfolding with_positions
            reached_ninth h =
                record {
                  groups = with_positions g.groups (group_of s start r.name).item;
                  through = on_with;
                  kept = kept_ninth positions g.kept (group_of s start r.name).item h;
                }

    -- the rows end
    pub ended : row_at s at ≡ found.End → {t : List ℕ} → t ≡ sets w 644 (n ∷ []) → {v : Result ⊤ Refusal} → v ≡ judged_in t (412 + 18) 29 8 n → Answered t v
    ended e {t} a b =
        let h = through_end s start (with_group s start) no_positions g.through e in
        record {
          answer =
              b
              ∙ kept_judged positions g.kept t 644 (n ∷ []) a (omega arith) 18 8 (omega arith) (many_over g.groups.items) (none_counted g.groups.items) (counted g.groups.items)
              ∙ judged_verdict g.groups
              ∙ sym (ap (λ (y : Going Positions). (groups_in y).verdict) h.answer);
          words =
              a
              ∙ ap₂ (λ (l : List ℕ) (m : ℕ). sets l 644 (m ∷ [])) g.kept.words g.kept.count
              ∙ sym (ap₂ (words_in w₀) h.answer h.last);
        }
