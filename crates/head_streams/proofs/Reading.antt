-- [STREAM] while its rows are read: the words have the groups up to here, and what is left of the rows gives the answer. One law for each way out of a
-- turn.
use mathlib.Core.Path.{◌≡◌, refl, sym, ap, ap₂, ◌∙◌}
use mathlib.Core.Bool.{Bool, true, false, cond}
use mathlib.Core.List.{List, [], ◌∷◌}
use Prim.Native.Nat.{ℕ, suc, ◌+◌, ◌*◌, ◌≤◌, ◌<◌}
use native.Mathlib.Omega.{arith}
use borrow.Author.Tests.{lt-ltb}
use lib.Dec.{ltb}
use lib.ListN.{length, get_or, replicate}
use lib.Seq.{sets}
use Rattle.std.specs.Prelude.{Result, Ok, Err, ⊤}
use Rattle.error.specs.declared.Refusal.{Refusal}
use Rattle.error.specs.declared.Refusal.TheVariants as refusal
use Rattle.head_record.specs.Empty.{empty_stream}
use Rattle.head_record.specs.declared.StreamData.{StreamData}
use Rattle.head_record_fits.specs.Fits.{no_stream_data}
use Rattle.head_words.specs.Words.{flat, Zeros, span_at, stream_words, streams_words}
use Rattle.head_words.proofs.Lengths.{length_stream}
use Rattle.head_de.specs.declared.Cursor.{Cursor}
use Rattle.head_fields.specs.Fields.{any_missing}
use Rattle.head_lines.proofs.Moves.{no}
use Rattle.head_brackets.specs.Rows.{row_at, rows_at, Going, on, stop_with, over, last_of, known_in}
use Rattle.text_parts.specs.Parts.{bytes_of}
use Rattle.head_brackets.specs.declared.Row.{Row}
use Rattle.head_brackets.specs.declared.RowAt.TheVariants as found
use Rattle.head_brackets.proofs.Rows.{over_last}
use Rattle.head_brackets.proofs.Through.{Through, through_none, through_line, through_row, through_stop, through_end}
use Rattle.head_stream.specs.Group as one
use Rattle.head_stream.specs.declared.Group.{Group}
use Rattle.head_group_words.specs.Groups.{names_at, judged_in}
use Rattle.head_group_words.proofs.Kept.{Section, Kept, kept_none, kept_more, kept_ninth, kept_known, kept_judged}
use Rattle.head_streams.specs.Groups.{no_streams, with_streams, many_over, group_of, with_group, made, judged, groups_in, words_in}
use Rattle.head_streams.specs.declared.Streams.{Streams}

-- ---- the groups of the section

pub named : (d : StreamData) → span_at (stream_words d) 0 ≡ d.name
unfolding stream_words
named d = refl

abbrev pub streams : Section StreamData
streams =
    record {
      none = no_stream_data;
      words_of = stream_words;
      name_of = λ d. d.name;
      place = 95;
      width = 39;
      two = omega arith;
      long = length_stream;
      named = named;
    }

-- words of 0 are those of 8 empty groups
blank : streams_words (replicate 8 empty_stream) ≡ replicate 312 0
unfolding stream_words flat empty_stream
blank = refl

-- a count among the words of a group
counted : (l : List StreamData) (k : ℕ) → k < 8 → many_over l (suc k) ≡ cond (ltb 16 (get_or (stream_words (get_or l k no_stream_data)) 38 0)) true (many_over l k)
unfolding many_over stream_words flat
counted l k h = rw (lt-ltb k 8 h)

none_counted : (l : List StreamData) → many_over l 0 ≡ false
unfolding many_over
none_counted l = refl

-- the limits say the verdict
judged_verdict : (x : Streams) → cond (ltb 8 x.names.count) (Err refusal.Limit) (cond (many_over x.items 8) (Err refusal.Limit) (Ok tt)) ≡ (judged x).verdict
unfolding judged
judged_verdict x = go (ltb 8 x.names.count) (many_over x.items 8)
  where
    go : (a b : Bool) → cond a (Err refusal.Limit) (cond b (Err refusal.Limit) (Ok tt)) ≡ (cond a (made (Err refusal.Limit) no_streams) (cond b (made (Err refusal.Limit) no_streams) (made (Ok tt) x))).verdict
    go true b = refl
    go false true = refl
    go false false = refl

-- ---- the group of a row

-- one that is accepted is what its rows made last
group_item : (y : Going Group) (z : Group) → (one.group_in y).verdict ≡ Ok tt → ((h : Group) → y ≡ on h → z ≡ h) → z.item ≡ (one.group_in y).item
unfolding one.judged
group_item (on h) z e f = go (any_missing h.seen 3) e
  where
    go : (b : Bool) → (cond b (one.made (Err refusal.Field) empty_stream) (one.made (Ok tt) h.item)).verdict ≡ Ok tt
        → z.item ≡ (cond b (one.made (Err refusal.Field) empty_stream) (one.made (Ok tt) h.item)).item
    go true q = no cc
    go false q = ap (λ (g : Group). g.item) (f h refl)
group_item (stop_with r) z e f = no cc

module _ (s : List ℕ) (start : ℕ) (x : Streams) (r : Row) where
  known : known_in s x.names.items x.names.count (bytes_of s r.name) ≡ true → with_group s start x r ≡ on x
  unfolding with_group
  known k = rw k

  module _ (k : known_in s x.names.items x.names.count (bytes_of s r.name) ≡ false) where
    accepted : (group_of s start r.name).verdict ≡ Ok tt → with_group s start x r ≡ on (with_streams x (group_of s start r.name).item)
    unfolding with_group
    accepted e = rw (k, e)

    refused : {q : Refusal} → (group_of s start r.name).verdict ≡ Err q → with_group s start x r ≡ stop_with q
    unfolding with_group
    refused e = rw (k, e)

-- ---- a turn

module _ (s : List ℕ) (start : ℕ) (w₀ : List ℕ) where
  pub record Reached (w : List ℕ) (at n : ℕ) : Type 0 where
    pub groups : Streams
    pub through : Through s start (with_group s start) no_streams at groups
    pub kept : Kept streams w₀ w groups.names groups.items n

  pub reached_none : 407 ≤ length w₀ → Zeros w₀ 95 312 → Reached w₀ start 0
  unfolding no_streams
  reached_none h z = record { groups = no_streams; through = through_none s start (with_group s start) no_streams; kept = kept_none streams w₀ empty_stream blank z h }

  -- how it ends
  pub record Answered (w : List ℕ) (v : Result ⊤ Refusal) : Type 0 where
    pub answer : v ≡ (groups_in (over (with_group s start) no_streams (rows_at s start))).verdict
    pub words : w ≡ words_in w₀ (over (with_group s start) no_streams (rows_at s start)) (last_of (with_group s start) no_streams (rows_at s start))

  module _ {w : List ℕ} {at n : ℕ} (g : Reached w at n) where
    -- a line of no group
    pub reached_line : {c : Cursor} → row_at s at ≡ found.Other c → Reached w c.at n
    reached_line e = record { groups = g.groups; through = through_line s start (with_group s start) no_streams g.through e; kept = g.kept }

    module _ {r : Row} (e : row_at s at ≡ found.Found r) where
      pub reached_known : known_in s (names_at w 95 39) n (bytes_of s r.name) ≡ true → Reached w r.end n
      reached_known k =
          record {
            groups = g.groups;
            through = through_row s start (with_group s start) no_streams g.through e (known s start g.groups r (sym (kept_known streams g.kept s (bytes_of s r.name)) ∙ k));
            kept = g.kept;
          }

      -- a group that is not known
      module _ (k : known_in s (names_at w 95 39) n (bytes_of s r.name) ≡ false) where
        new : known_in s g.groups.names.items g.groups.names.count (bytes_of s r.name) ≡ false
        new = sym (kept_known streams g.kept s (bytes_of s r.name)) ∙ k

        module _ {v : Result ⊤ Refusal} (p : v ≡ (group_of s start r.name).verdict) where
          pub refused_group : {x : Refusal} → v ≡ Err x → Answered w (Err x)
          refused_group q =
              let h = through_stop s start (with_group s start) no_streams g.through e (refused s start g.groups r new (sym p ∙ q)) in
              record {
                answer = sym (ap (λ (y : Going Streams). (groups_in y).verdict) h.answer);
                words = g.kept.words ∙ sym (ap₂ (words_in w₀) h.answer h.last);
              }

          module _ (q : v ≡ Ok tt) where
            on_with : Through s start (with_group s start) no_streams r.end (with_streams g.groups (group_of s start r.name).item)
            on_with = through_row s start (with_group s start) no_streams g.through e (accepted s start g.groups r new (sym p ∙ q))

            -- one of the first 8, whose words are u, and one past them
            pub reached_more : {t u : List ℕ} → n < 8 → t ≡ sets w (95 + 39 * n) u → u ≡ stream_words (last_of (one.with_row s (bytes_of s r.name)) (one.named r.name) (rows_at s start)).item
                → Reached t r.end (n + 1)
            unfolding with_streams
            reached_more {t} h a b =
                record {
                  groups = with_streams g.groups (group_of s start r.name).item;
                  through = on_with;
                  kept = kept_more streams g.kept t (group_of s start r.name).item h (a ∙ ap (sets w (95 + 39 * n)) (b ∙ ap stream_words last_item));
                }
              where
                last_item : (last_of (one.with_row s (bytes_of s r.name)) (one.named r.name) (rows_at s start)).item ≡ (group_of s start r.name).item
                last_item =
                    group_item (over (one.with_row s (bytes_of s r.name)) (one.named r.name) (rows_at s start))
                    (last_of (one.with_row s (bytes_of s r.name)) (one.named r.name) (rows_at s start)) (sym p ∙ q)
                    (λ y c. over_last (one.with_row s (bytes_of s r.name)) (one.named r.name) (rows_at s start) c)

            pub reached_ninth : 8 ≤ n → Reached w r.end 9
            unfolding with_streams
            reached_ninth h =
                record {
                  groups = with_streams g.groups (group_of s start r.name).item;
                  through = on_with;
                  kept = kept_ninth streams g.kept (group_of s start r.name).item h;
                }

    -- the rows end
    pub ended : row_at s at ≡ found.End → {t : List ℕ} → t ≡ sets w 407 (n ∷ []) → {v : Result ⊤ Refusal} → v ≡ judged_in t (95 + 38) 39 16 n → Answered t v
    ended e {t} a b =
        let h = through_end s start (with_group s start) no_streams g.through e in
        record {
          answer =
              b
              ∙ kept_judged streams g.kept t 407 (n ∷ []) a (omega arith) 38 16 (omega arith) (many_over g.groups.items) (none_counted g.groups.items) (counted g.groups.items)
              ∙ judged_verdict g.groups
              ∙ sym (ap (λ (y : Going Streams). (groups_in y).verdict) h.answer);
          words =
              a
              ∙ ap₂ (λ (l : List ℕ) (m : ℕ). sets l 407 (m ∷ [])) g.kept.words g.kept.count
              ∙ sym (ap₂ (words_in w₀) h.answer h.last);
        }
