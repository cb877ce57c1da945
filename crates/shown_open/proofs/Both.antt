-- Each section the other way round: a section that says something within the limits is accepted, with what it says.
use mathlib.Core.Path.{◌≡◌, refl, ap, ◌∙◌}
use mathlib.Core.List.{List, map}
use Prim.Native.Nat.{ℕ, ◌+◌, ◌≤◌}
use lib.ListN.{length}
use Rattle.std.specs.Prelude.{Ok}
use Rattle.written.specs.HeaderText.{Range}
use Rattle.written.specs.Record.{GlobalText, GlobalFits, StreamText, StreamsFit, PositionText, PositionsFit}
use Rattle.written.specs.Record as record_of
use Rattle.written.proofs.OneFile.{global_text_one, stream_text_one, position_text_one}
use Rattle.written_apart.proofs.ApartFile.{no_global_never, no_streams_never, no_positions_never}
use Rattle.head_record.specs.Empty.{empty_stream, empty_position}
use Rattle.head_record.specs.Lists.{filled, range_of}
use Rattle.head_record.specs.Record.{global_record, stream_record, position_record}
use Rattle.text_parts.specs.declared.Span.{Span}
use Rattle.head_de.proofs.Sound.{Bytes}
use Rattle.head_global.specs.Global as global
use Rattle.head_global.specs.declared.GlobalRead.{GlobalRead}
use Rattle.head_streams.specs.declared.GroupsRead as streams-read
use Rattle.shown_groups.specs.Said.{span_said}
use Rattle.head_open.specs.Open.{global_of, streams_of, positions_of}
use Rattle.head_open.specs.declared.PositionRead.{PositionRead}
use Rattle.shown_open.proofs.Parts.{GlobalAnswer, global_text, no_global, global_part, StreamAnswer, stream_text, no_streams, stream_part, PositionAnswer, position_text, no_positions, position_part}

-- how streams stand in the struct
pub record StreamsStand (z : streams-read.GroupsRead) (ds : List record_of.Stream) : Type 0 where
  pub accepted : z.verdict ≡ Ok tt
  pub items : z.streams.items ≡ filled 8 empty_stream (map stream_record ds)
  pub count : z.streams.names.count ≡ length ds

pub record PositionsStand (z : PositionRead) (pdf tree : Range) (ds : List record_of.Position) : Type 0 where
  pub accepted : z.verdict ≡ Ok tt
  pub duration_pdf : z.durations.pdf ≡ range_of pdf
  pub duration_tree : z.durations.tree ≡ range_of tree
  pub items : z.positions.items ≡ filled 8 empty_position (map position_record ds)
  pub count : z.positions.names.count ≡ length ds

module _ {s : List ℕ} (bytes : Bytes s) (x : Span) (inside : x.start + x.len ≤ length s) where
  pub global_accepted : {g : record_of.Global} → GlobalText s (span_said x) g → GlobalFits g → global_of s x ≡ global.made (Ok tt) (global_record g)
  global_accepted {g} a f = go (global_of s x) (global_part bytes x inside)
    where
      go : (z : GlobalRead) → GlobalAnswer s x z → z ≡ global.made (Ok tt) (global_record g)
      go z (global_text b h) = ap (λ (k : record_of.Global). global.made (Ok tt) (global_record k)) (global_text_one b a)
      go z (no_global n) = absurd (no_global_never a f n)

  pub streams_accepted : {ds : List record_of.Stream} → StreamText s (span_said x) ds → StreamsFit ds → StreamsStand (streams_of s x) ds
  streams_accepted {ds} a f = go (streams_of s x) (stream_part bytes x inside)
    where
      go : (z : streams-read.GroupsRead) → StreamAnswer s x z → StreamsStand z ds
      go z (stream_text es b h e n) =
          let q = stream_text_one b a in
          record { accepted = refl; items = e ∙ ap (λ (l : List record_of.Stream). filled 8 empty_stream (map stream_record l)) q; count = n ∙ ap length q }
      go z (no_streams n) = absurd (no_streams_never a f n)

  pub positions_accepted : {pdf tree : Range} {ds : List record_of.Position} → PositionText s (span_said x) pdf tree ds → PositionsFit ds → PositionsStand (positions_of s x) pdf tree ds
  positions_accepted {pdf} {tree} {ds} a f = go (positions_of s x) (position_part bytes x inside)
    where
      go : (z : PositionRead) → PositionAnswer s x z → PositionsStand z pdf tree ds
      go z (position_text p t es b h u v e n) =
          let q = position_text_one b a in
          record {
            accepted = refl;
            duration_pdf = u ∙ ap range_of q.0;
            duration_tree = v ∙ ap range_of q.1;
            items = e ∙ ap (λ (l : List record_of.Position). filled 8 empty_position (map position_record l)) q.2;
            count = n ∙ ap length q.2;
          }
      go z (no_positions r n) = absurd (no_positions_never a f n)
