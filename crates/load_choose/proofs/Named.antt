-- What is made of the entries of a name, by which of them are found.
use mathlib.Core.Path.{◌≡◌, sym, ap, ◌∙◌}
use mathlib.Core.List.{List}
use Prim.Native.Nat.{ℕ, ◌≤◌, ◌<◌}
use borrow.Author.Tests.{lt-ltb, le-ltb}
use lib.ListN.{get_or}
use Rattle.error.specs.declared.Refusal.TheVariants as refusal
use Rattle.head_record.specs.declared.StreamData.{StreamData}
use Rattle.head_record.specs.declared.PositionData.{PositionData}
use Rattle.head_record.specs.declared.Header.{Header}
use Rattle.head_record_fits.specs.Fits.{no_stream_data, no_position_data}
use Rattle.load_choose.specs.Chosen.{position_named, stream_named, with_position, with_stream, named, numbered}
use Rattle.load_choose.specs.Entries.{type_name}
use Rattle.load_choose.specs.declared.Chosen.{Chosen}
use Rattle.error.specs.declared.Refusal.{Refusal}
use Rattle.std.specs.Prelude.{Err, Result, Some, None}

module _ (make : StreamData → PositionData → Result Chosen Refusal) (s : List ℕ) (h : Header) (i : ℕ) where
  pub no_number : h.global.stream_type_count ≤ i → Err refusal.NoPosition ≡ numbered make s h i
  unfolding numbered
  no_number l = rw (le-ltb i h.global.stream_type_count l)

  module _ (l : i < h.global.stream_type_count) where
    in_types : numbered make s h i ≡ named make s h (type_name s h i)
    unfolding numbered
    in_types = rw (lt-ltb i h.global.stream_type_count l)

    pub no_position : position_named s h.positions h.position_count (type_name s h i) ≡ None → Err refusal.NoPosition ≡ numbered make s h i
    unfolding named
    no_position e =
        sym
        (in_types
        ∙ ap
        (with_position (λ p. with_stream (λ d. make d p) h.streams (stream_named s h.streams h.stream_count (type_name s h i))) h.positions)
        e)

    module _ {p : ℕ} (e : position_named s h.positions h.position_count (type_name s h i) ≡ Some p) where
      at_position : numbered make s h i ≡ with_stream (λ d. make d (get_or h.positions p no_position_data)) h.streams (stream_named s h.streams h.stream_count (type_name s h i))
      unfolding named
      at_position =
          in_types
          ∙ ap
          (with_position (λ p. with_stream (λ d. make d p) h.streams (stream_named s h.streams h.stream_count (type_name s h i))) h.positions)
          e

      pub no_stream : stream_named s h.streams h.stream_count (type_name s h i) ≡ None → Err refusal.NoStream ≡ numbered make s h i
      no_stream f = sym (at_position ∙ ap (with_stream (λ d. make d (get_or h.positions p no_position_data)) h.streams) f)

      pub both : {k : ℕ} → stream_named s h.streams h.stream_count (type_name s h i) ≡ Some k → make (get_or h.streams k no_stream_data) (get_or h.positions p no_position_data) ≡ numbered make s h i
      both f = sym (at_position ∙ ap (with_stream (λ d. make d (get_or h.positions p no_position_data)) h.streams) f)
