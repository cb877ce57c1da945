-- The entries of a name, where the record stands in words: which group is found, and what is made of it.
use mathlib.Core.Path.{◌≡◌, sym, ap, ap₂, ◌∙◌}
use mathlib.Core.Bool.{true, false}
use mathlib.Core.List.{List}
use Prim.Native.Nat.{ℕ, ◌+◌, ◌*◌, ◌≤◌, ◌<◌}
use native.Mathlib.Omega.{arith}
use lib.ListN.{get_or}
use Rattle.std.specs.declared.option.Option.{Option}
use Rattle.written.specs.Bytes.{same}
use Rattle.error.specs.declared.Refusal.TheVariants as refusal
use Rattle.head_record.specs.Empty.{no_span}
use Rattle.text_parts.specs.declared.Span.{Span}
use Rattle.head_record.specs.declared.StreamData.{StreamData}
use Rattle.head_record.specs.declared.PositionData.{PositionData}
use Rattle.head_record_fits.specs.Fits.{no_stream_data, no_position_data, record_fits}
use Rattle.head_record_fits.proofs.Fits.{fits}
use Rattle.head_words.specs.Words.{word_at, flag_at, span_at, global_at, stream_at, position_at, header_at}
use Rattle.text_parts.specs.Parts.{bytes_of}
use Rattle.link_search.specs.Found.{last_below}
use Rattle.link_search.proofs.Last.{last_inside, last_ext_below}
use Rattle.head_words.proofs.Items.{get_or-run}
use Rattle.load_choose.specs.Chosen.{position_named, stream_named, numbered, used_by, uses_gv}
use Rattle.load_choose.specs.Entries.{type_name}
use Rattle.load_choose.proofs.Named.{no_number, no_position, no_stream, both}
use Rattle.load_choose.specs.declared.Chosen.{Chosen}
use Rattle.error.specs.declared.Refusal.{Refusal}
use Rattle.std.specs.Prelude.{Err, Result, Some, None}

-- the counts of a record that fits are within their limits
pub record Counts (w : List ℕ) : Type 0 where
  pub types : word_at w 22 ≤ 8
  pub streams : word_at w 407 ≤ 8
  pub positions : word_at w 644 ≤ 8

pub counts : (n : ℕ) (w : List ℕ) → record_fits n (header_at w) ≡ true → Counts w
unfolding header_at global_at
counts n w e = let f = fits n (header_at w) e in record { types = f.types; streams = f.streams; positions = f.positions }

-- the last of n groups whose name, in words, has the bytes v
abbrev pub group_named : List ℕ → List ℕ → ℕ → ℕ → ℕ → List ℕ → Option ℕ
group_named s w at step n v = last_below (λ k. same (bytes_of s (span_at w (at + step * k))) v) n

module _ (w : List ℕ) where
  type_at : (i : ℕ) → i < 8 → get_or (header_at w).global.stream_type i no_span ≡ span_at w (6 + 2 * i)
  unfolding header_at global_at
  type_at i l = get_or-run (λ k. span_at w (6 + 2 * k)) no_span 0 8 i l ∙ ap (λ k. span_at w (6 + 2 * k)) (omega arith)

  position_at_lem : (k : ℕ) → k < 8 → get_or (header_at w).positions k no_position_data ≡ position_at w (412 + 29 * k)
  unfolding header_at
  position_at_lem k l = get_or-run (λ j. position_at w (412 + 29 * j)) no_position_data 0 8 k l ∙ ap (λ j. position_at w (412 + 29 * j)) (omega arith)

  stream_at_lem : (k : ℕ) → k < 8 → get_or (header_at w).streams k no_stream_data ≡ stream_at w (95 + 39 * k)
  unfolding header_at
  stream_at_lem k l = get_or-run (λ j. stream_at w (95 + 39 * j)) no_stream_data 0 8 k l ∙ ap (λ j. stream_at w (95 + 39 * j)) (omega arith)

  position_name : (k : ℕ) → k < 8 → (get_or (header_at w).positions k no_position_data).name ≡ span_at w (412 + 29 * k)
  unfolding position_at
  position_name k l = ap (λ (d : PositionData). d.name) (position_at_lem k l)

  stream_name : (k : ℕ) → k < 8 → (get_or (header_at w).streams k no_stream_data).name ≡ span_at w (95 + 39 * k)
  unfolding stream_at
  stream_name k l = ap (λ (d : StreamData). d.name) (stream_at_lem k l)

module _ (s w : List ℕ) (i : ℕ) where
  -- what is found of the i-th name among the words is what the record has
  module _ (f : Counts w) (l : i < word_at w 22) (x : Span) (e : x ≡ span_at w (6 + 2 * i)) where
    named_so : bytes_of s x ≡ type_name s (header_at w) i
    named_so = ap (bytes_of s) (e ∙ sym (type_at w i (omega (arith, f.types))))

    pub position_found : position_named s (header_at w).positions (header_at w).position_count (type_name s (header_at w) i) ≡ group_named s w 412 29 (word_at w 644) (bytes_of s x)
    unfolding header_at
    position_found =
        last_ext_below _ _ (word_at w 644) (λ k h. ap₂ (λ y v. same (bytes_of s y) v) (position_name w k (omega (arith, f.positions))) (sym named_so))

    pub stream_found : stream_named s (header_at w).streams (header_at w).stream_count (type_name s (header_at w) i) ≡ group_named s w 95 39 (word_at w 407) (bytes_of s x)
    unfolding header_at
    stream_found =
        last_ext_below _ _ (word_at w 407) (λ k h. ap₂ (λ y v. same (bytes_of s y) v) (stream_name w k (omega (arith, f.streams))) (sym named_so))

  -- and is among the eight
  module _ (f : Counts w) where
    pub p_inside : {p : ℕ} → position_named s (header_at w).positions (header_at w).position_count (type_name s (header_at w) i) ≡ Some p → p < 8
    unfolding header_at
    p_inside q = omega (arith, last_inside _ _ _ q, f.positions)

    pub k_inside : {k : ℕ} → stream_named s (header_at w).streams (header_at w).stream_count (type_name s (header_at w) i) ≡ Some k → k < 8
    unfolding header_at
    k_inside q = omega (arith, last_inside _ _ _ q, f.streams)

    pub stream_uses : {k : ℕ} → stream_named s (header_at w).streams (header_at w).stream_count (type_name s (header_at w) i) ≡ Some k → flag_at w (95 + 39 * k + 5) ≡ uses_gv s (header_at w) i
    unfolding uses_gv stream_at
    stream_uses {k} q = sym (ap (used_by (header_at w).streams) q ∙ ap (λ (d : StreamData). d.use_gv) (stream_at_lem w k (k_inside q)))

  pub no_stream_uses : stream_named s (header_at w).streams (header_at w).stream_count (type_name s (header_at w) i) ≡ None → false ≡ uses_gv s (header_at w) i
  unfolding uses_gv
  no_stream_uses q = sym (ap (used_by (header_at w).streams) q)

module _ (make : StreamData → PositionData → Result Chosen Refusal) (s w : List ℕ) (i : ℕ) where
  pub not_numbered : word_at w 22 ≤ i → Err refusal.NoPosition ≡ numbered make s (header_at w) i
  unfolding header_at global_at
  not_numbered l = no_number make s (header_at w) i l

  in_types : i < word_at w 22 → i < (header_at w).global.stream_type_count
  unfolding header_at global_at
  in_types l = l

  pub without_position : i < word_at w 22 → position_named s (header_at w).positions (header_at w).position_count (type_name s (header_at w) i) ≡ None → Err refusal.NoPosition ≡ numbered make s (header_at w) i
  without_position l q = no_position make s (header_at w) i (in_types l) q

  pub without_stream : i < word_at w 22 → {p : ℕ} → position_named s (header_at w).positions (header_at w).position_count (type_name s (header_at w) i) ≡ Some p
      → stream_named s (header_at w).streams (header_at w).stream_count (type_name s (header_at w) i) ≡ None → Err refusal.NoStream ≡ numbered make s (header_at w) i
  without_stream l q r = no_stream make s (header_at w) i (in_types l) q r

  pub with_both : Counts w → i < word_at w 22 → {p k : ℕ} → position_named s (header_at w).positions (header_at w).position_count (type_name s (header_at w) i) ≡ Some p
      → stream_named s (header_at w).streams (header_at w).stream_count (type_name s (header_at w) i) ≡ Some k → make (stream_at w (95 + 39 * k)) (position_at w (412 + 29 * p)) ≡ numbered make s (header_at w) i
  with_both f l {p} {k} q r =
      sym (ap₂ make (stream_at_lem w k (k_inside s w i f r)) (position_at_lem w p (p_inside s w i f q))) ∙ both make s (header_at w) i (in_types l) q r
