-- The words behind the sections: those that are 0 and stay so, and of a file that opens the whole record.
use mathlib.Core.Path.{◌≡◌, refl, sym, ap, ◌∙◌}
use mathlib.Core.Bool.{Bool, true, false, cond}
use mathlib.Core.List.{List, [], ◌∷◌, ◌++◌, append-nil}
use Prim.Native.Nat.{ℕ, ◌+◌, ◌≤◌}
use native.Mathlib.Omega.{arith}
use lib.Dec.{ltb}
use lib.ListN.{length, replicate, length-replicate, get_or-replicate, drop_of_length-le}
use lib.Seq.{sets}
use Rattle.std.specs.Prelude.{Option, Some, None, Result, Ok, Err, ⊤}
use Rattle.written.specs.HeaderText.{Entry}
use Rattle.written.specs.Record.{global_fields, stream_fields, position_fields, file_limit}
use Rattle.laws.proofs.Tables.{sets-front}
use Rattle.error.specs.declared.Refusal.{Refusal}
use Rattle.head_record.specs.Empty.{empty_global}
use Rattle.text_parts.specs.declared.Span.{Span}
use Rattle.head_record.specs.declared.Global.{Global}
use Rattle.head_fields.specs.Fields.{any_missing}
use Rattle.head_lines.specs.Lines.{Lines, whole, faulty, lines_at, lines_read, kept}
use Rattle.head_lines.proofs.Moves.{no}
use Rattle.head_lines.proofs.Going.{whole_read}
use Rattle.head_global.specs.Global as global
use Rattle.head_global.specs.declared.GlobalRead.{GlobalRead}
use Rattle.head_words.specs.Words.{Zeros, global_words, streams_words, positions_words, header_words}
use Rattle.head_words.proofs.Items.{zeros_behind}
use Rattle.head_words.proofs.Lengths.{length_global, length_streams, length_header}
use Rattle.head_put.proofs.Laid.{header_laid}
use Rattle.head_brackets.specs.Rows.{rows_at, Going, on, stop_with, over, last_of}
use Rattle.error.specs.declared.Refusal.TheVariants as refusal
use Rattle.head_streams.specs.Groups as streams
use Rattle.head_streams.specs.declared.GroupsRead as streams-read
use Rattle.head_positions.specs.declared.GroupsRead as positions-read
use Rattle.head_streams.specs.declared.Streams.{Streams}
use Rattle.head_positions.specs.Groups as positions
use Rattle.head_positions.specs.declared.Positions.{Positions}
use Rattle.head_ungrouped.specs.Ungrouped.{durations_in, verdict_in}
use Rattle.head_ungrouped.specs.declared.Durations.{Durations}
use Rattle.head_sections.specs.Split.{split_of}
use Rattle.head_sections.specs.declared.Parts.{Parts}
use Rattle.head_open.specs.Open.{utf8_of, up_to, global_for, global_of, groups_for, streams_for, streams_of, position_groups, after_durations, positions_for, no_positions_for, positions_of, made, refused_with, header_of, with_positions, with_streams, with_global, parts_of, split_into, open_of}
use Rattle.head_open.specs.Left as left
use Rattle.head_open.specs.Left.{global_left, streams_left, durations_laid, positions_left, behind_positions, behind_streams, behind_global, parts_left, split_left, open_left}
use Rattle.head_open.specs.declared.PositionRead.{PositionRead}

-- ---- words that stay 0

module _ (s : List ℕ) (x : Span) (w : List ℕ) (i n : ℕ) (z : Zeros w i n) where
  pub zeros_global : 95 ≤ i → Zeros (global_left s x w) i n
  unfolding global_left
  zeros_global h = go (utf8_of s x)
    where
      g : Global
      g = kept global.with_line empty_global (lines_read global_fields (up_to s x) x.start)

      go : (v : Result ⊤ Refusal) → Zeros (left.global_for (up_to s x) x.start w v) i n
      go (Ok _) = zeros_behind w i n 0 (global_words g) (omega (arith, h, length_global g)) z
      go (Err r) = z

  pub zeros_streams : 408 ≤ i → Zeros (streams_left s x w) i n
  unfolding streams_left
  zeros_streams h = go (utf8_of s x)
    where
      laid : (y : Streams) → Zeros (streams.laid w y) i n
      laid y = zeros_behind w i n 95 (streams_words y.items) (omega (arith, h, length_streams y.items)) z

      in_words : (g : Going Streams) (y : Streams) → Zeros (streams.words_in w g y) i n
      in_words (on y) t = zeros_behind (streams.laid w y) i n 407 (y.names.count ∷ []) (omega (arith, h)) (laid y)
      in_words (stop_with r) t = laid t

      groups : (v : Result ⊤ Refusal) → Zeros (left.stream_groups (up_to s x) x.start w v) i n
      groups (Ok _) = in_words (over (streams.with_group (up_to s x) x.start) streams.no_streams (rows_at (up_to s x) x.start)) (last_of (streams.with_group (up_to s x) x.start) streams.no_streams (rows_at (up_to s x) x.start))
      groups (Err r) = z

      go : (v : Result ⊤ Refusal) → Zeros (left.streams_for (up_to s x) x.start w v) i n
      go (Ok _) = groups (verdict_in (lines_at stream_fields (up_to s x) x.start))
      go (Err r) = z

-- ---- a section that is accepted

global_kept : (m : List Bool) (g : Global) → (global.judged m g).verdict ≡ Ok tt → (global.judged m g).global ≡ g
unfolding global.judged
global_kept m g e = go (any_missing m 8) (ltb 8 g.stream_type_count) (ltb 32 g.gv_off_context_count) e
  where
    answer : Bool → Bool → Bool → GlobalRead
    answer a b c = cond a (global.refused_with refusal.Field) (cond b (global.refused_with refusal.Limit) (cond c (global.refused_with refusal.Limit) (global.made (Ok tt) g)))

    go : (a b c : Bool) → (answer a b c).verdict ≡ Ok tt → (answer a b c).global ≡ g
    go true b c e = no cc
    go false true c e = no cc
    go false false true e = no cc
    go false false false e = refl

streams_kept : (x : Streams) → (streams.judged x).verdict ≡ Ok tt → (streams.judged x).streams ≡ x
unfolding streams.judged
streams_kept x e = go (ltb 8 x.names.count) (streams.many_over x.items 8) e
  where
    answer : Bool → Bool → streams-read.GroupsRead
    answer a b = cond a (streams.made (Err refusal.Limit) streams.no_streams) (cond b (streams.made (Err refusal.Limit) streams.no_streams) (streams.made (Ok tt) x))

    go : (a b : Bool) → (answer a b).verdict ≡ Ok tt → (answer a b).streams ≡ x
    go true b e = no cc
    go false true e = no cc
    go false false e = refl

positions_kept : (x : Positions) → (positions.judged x).verdict ≡ Ok tt → (positions.judged x).positions ≡ x
unfolding positions.judged
positions_kept x e = go (ltb 8 x.names.count) (positions.many_over x.items 8) e
  where
    answer : Bool → Bool → positions-read.GroupsRead
    answer a b = cond a (positions.made (Err refusal.Limit) positions.no_positions) (cond b (positions.made (Err refusal.Limit) positions.no_positions) (positions.made (Ok tt) x))

    go : (a b : Bool) → (answer a b).verdict ≡ Ok tt → (answer a b).positions ≡ x
    go true b e = no cc
    go false true e = no cc
    go false false e = refl

module _ (s : List ℕ) (x : Span) (w : List ℕ) where
  pub global_done : (global_of s x).verdict ≡ Ok tt → global_left s x w ≡ sets w 0 (global_words (global_of s x).global)
  unfolding global_of global_left
  global_done e = go (utf8_of s x) e
    where
      lines : (l : Lines) → lines_at global_fields (up_to s x) x.start ≡ l → (global.global_in l).verdict ≡ Ok tt
          → sets w 0 (global_words (kept global.with_line empty_global (lines_read global_fields (up_to s x) x.start))) ≡ sets w 0 (global_words (global.global_in l).global)
      lines (whole m xs) q e =
          ap (λ (ys : List Entry). sets w 0 (global_words (kept global.with_line empty_global ys))) (whole_read global_fields (up_to s x) x.start q)
          ∙ ap (λ (g : Global). sets w 0 (global_words g)) (sym (global_kept m (kept global.with_line empty_global xs) e))
      lines (faulty r) q e = no cc

      go : (v : Result ⊤ Refusal) → (global_for (up_to s x) x.start v).verdict ≡ Ok tt → left.global_for (up_to s x) x.start w v ≡ sets w 0 (global_words (global_for (up_to s x) x.start v).global)
      go (Ok _) e = lines (lines_at global_fields (up_to s x) x.start) refl e
      go (Err r) e = no cc

  -- with the groups and their number
  abbrev pub streams_done : List ℕ → Streams → List ℕ
  streams_done w y = sets (sets w 95 (streams_words y.items)) 407 (y.names.count ∷ [])

  pub streams_done_lem : (streams_of s x).verdict ≡ Ok tt → streams_left s x w ≡ streams_done w (streams_of s x).streams
  unfolding streams_of streams_left
  streams_done_lem e = go (utf8_of s x) e
    where
      in_words : (g : Going Streams) (y : Streams) → (streams.groups_in g).verdict ≡ Ok tt → streams.words_in w g y ≡ streams_done w (streams.groups_in g).streams
      in_words (on z) y e = ap (streams_done w) (sym (streams_kept z e))
      in_words (stop_with r) y e = no cc

      groups : (v : Result ⊤ Refusal) → (groups_for (up_to s x) x.start v).verdict ≡ Ok tt → left.stream_groups (up_to s x) x.start w v ≡ streams_done w (groups_for (up_to s x) x.start v).streams
      groups (Ok _) e = in_words (over (streams.with_group (up_to s x) x.start) streams.no_streams (rows_at (up_to s x) x.start)) (last_of (streams.with_group (up_to s x) x.start) streams.no_streams (rows_at (up_to s x) x.start)) e
      groups (Err r) e = no cc

      go : (v : Result ⊤ Refusal) → (streams_for (up_to s x) x.start v).verdict ≡ Ok tt → left.streams_for (up_to s x) x.start w v ≡ streams_done w (streams_for (up_to s x) x.start v).streams
      go (Ok _) e = groups (verdict_in (lines_at stream_fields (up_to s x) x.start)) e
      go (Err r) e = no cc

  abbrev pub positions_done : List ℕ → Durations → Positions → List ℕ
  positions_done w d y = sets (sets (durations_laid w d) 412 (positions_words y.items)) 644 (y.names.count ∷ [])

  pub positions_done_lem : (positions_of s x).verdict ≡ Ok tt → positions_left s x w ≡ positions_done w (positions_of s x).durations (positions_of s x).positions
  unfolding positions_of positions_left no_positions_for
  positions_done_lem e = go (utf8_of s x) e
    where
      -- the groups g, read as v
      answer : Durations → Going Positions → PositionRead
      answer d g = position_groups d (positions.groups_in g).verdict (positions.groups_in g).positions

      judged : (d : Durations) (z : Positions) (v : Result ⊤ Refusal) → (positions.judged z).verdict ≡ v → (position_groups d v (positions.judged z).positions).verdict ≡ Ok tt
          → positions_done w d z ≡ positions_done w (position_groups d v (positions.judged z).positions).durations (position_groups d v (positions.judged z).positions).positions
      judged d z (Ok _) q e = ap (positions_done w d) (sym (positions_kept z q))
      judged d z (Err r) q e = no cc

      in_words : (d : Durations) (g : Going Positions) (y : Positions) → (answer d g).verdict ≡ Ok tt
          → positions.words_in (durations_laid w d) g y ≡ positions_done w (answer d g).durations (answer d g).positions
      in_words d (on z) y e = judged d z (positions.judged z).verdict refl e
      in_words d (stop_with r) y e = no cc

      groups : (v : Result Durations Refusal) → (after_durations (up_to s x) x.start v).verdict ≡ Ok tt
          → left.position_groups (up_to s x) x.start w v ≡ positions_done w (after_durations (up_to s x) x.start v).durations (after_durations (up_to s x) x.start v).positions
      groups (Ok d) e = in_words d (over (positions.with_group (up_to s x) x.start) positions.no_positions (rows_at (up_to s x) x.start)) (last_of (positions.with_group (up_to s x) x.start) positions.no_positions (rows_at (up_to s x) x.start)) e
      groups (Err r) e = no cc

      go : (v : Result ⊤ Refusal) → (positions_for (up_to s x) x.start v).verdict ≡ Ok tt
          → left.positions_for (up_to s x) x.start w v ≡ positions_done w (positions_for (up_to s x) x.start v).durations (positions_for (up_to s x) x.start v).positions
      go (Ok _) e = groups (durations_in (lines_at position_fields (up_to s x) x.start)) e
      go (Err r) e = no cc

-- ---- a file that opens

module _ (s : List ℕ) (w : List ℕ) where
  pub parts_done : (x : Parts) → (parts_of s x).verdict ≡ Ok tt → parts_left s x w ≡ sets w 0 (header_words (parts_of s x).header)
  unfolding parts_of parts_left refused_with
  parts_done x e = global (global_of s x.global).verdict refl e
    where
      g : Global
      g = (global_of s x.global).global

      t : Streams
      t = (streams_of s x.stream).streams

      p : PositionRead
      p = positions_of s x.position

      w₁ : List ℕ
      w₁ = global_left s x.global w

      w₂ : List ℕ
      w₂ = streams_left s x.stream w₁

      w₃ : List ℕ
      w₃ = positions_left s x.position w₂

      position : (global_of s x.global).verdict ≡ Ok tt → (streams_of s x.stream).verdict ≡ Ok tt → (v : Result ⊤ Refusal) → p.verdict ≡ v
          → (with_positions g t x.rest p v).verdict ≡ Ok tt → behind_positions x w₃ v ≡ sets w 0 (header_words (with_positions g t x.rest p v).header)
      position q₁ q₂ (Ok _) q₃ e =
          header_laid (header_of g t p.durations p.positions x.rest) w w₁
          (sets w₁ 95 (streams_words t.items))
          w₂
          (durations_laid w₂ p.durations)
          (sets (durations_laid w₂ p.durations) 412 (positions_words p.positions.items))
          w₃
          (behind_positions x w₃ (Ok tt))
          (global_done s x.global w q₁)
          refl
          (streams_done_lem s x.stream w₁ q₂)
          refl
          refl
          (positions_done_lem s x.position w₂ q₃)
          refl
      position q₁ q₂ (Err r) q₃ e = no cc

      stream : (global_of s x.global).verdict ≡ Ok tt → (v : Result ⊤ Refusal) → (streams_of s x.stream).verdict ≡ v
          → (with_streams s x g t v).verdict ≡ Ok tt → behind_streams s x w₂ v ≡ sets w 0 (header_words (with_streams s x g t v).header)
      stream q₁ (Ok _) q₂ e = position q₁ q₂ p.verdict refl e
      stream q₁ (Err r) q₂ e = no cc

      global : (v : Result ⊤ Refusal) → (global_of s x.global).verdict ≡ v → (with_global s x g v).verdict ≡ Ok tt
          → behind_global s x w₁ v ≡ sets w 0 (header_words (with_global s x g v).header)
      global (Ok _) q₁ e = stream q₁ (streams_of s x.stream).verdict refl e
      global (Err r) q₁ e = no cc

  pub open_done : (open_of s).verdict ≡ Ok tt → open_left s w ≡ sets w 0 (header_words (open_of s).header)
  unfolding open_of open_left refused_with
  open_done e = go (ltb file_limit (length s)) (split_of s) e
    where
      go : (b : Bool) (d : Option Parts) → (cond b (refused_with refusal.Limit) (split_into s d)).verdict ≡ Ok tt
          → cond b w (split_left s w d) ≡ sets w 0 (header_words (cond b (refused_with refusal.Limit) (split_into s d)).header)
      go true d e = no cc
      go false None e = no cc
      go false (Some x) e = parts_done x e

-- into 647 words, nothing else is left
pub open_words_lem : (s : List ℕ) → (open_of s).verdict ≡ Ok tt → open_left s (replicate 647 0) ≡ header_words (open_of s).header
open_words_lem s e =
    let h : List ℕ = header_words (open_of s).header in
    let n : length h ≡ 647 = length_header (open_of s).header in
    open_done s (replicate 647 0) e ∙ sets-front (replicate 647 0) h (omega (arith, n, length-replicate {A = ℕ} 647 0))
    ∙ ap (λ (l : List ℕ). h ++ l) (drop_of_length-le (replicate 647 0) {i = length h} (omega (arith, n, length-replicate {A = ℕ} 647 0))) ∙ append-nil h

-- the groups of [POSITION] decide it
pub position_verdict : (d : Durations) (v : Result ⊤ Refusal) (p : Positions) → v ≡ (position_groups d v p).verdict
unfolding no_positions_for
position_verdict d (Ok _) p = refl
position_verdict d (Err r) p = refl

-- the groups behind the duration ranges stay 0
pub zeros_durations : (w : List ℕ) (a b c d : ℕ) {u : List ℕ} → u ≡ sets w 408 (a ∷ b ∷ c ∷ d ∷ []) → Zeros w 412 232 → Zeros u 412 232
zeros_durations w a b c d e z = rw e (zeros_behind w 412 232 408 (a ∷ b ∷ c ∷ d ∷ []) (omega arith) z)

-- of 647 words that are 0, any are
pub zeros_all : {w : List ℕ} → w ≡ replicate 647 0 → (i n : ℕ) → i + n ≤ 647 → Zeros w i n
zeros_all e i n h = rw e (record { each = λ k l. get_or-replicate 647 (i + k) 0 0 (omega arith) })

pub long_all : {w : List ℕ} → w ≡ replicate 647 0 → length w ≡ 647
long_all e = ap length e ∙ length-replicate {A = ℕ} 647 0
