-- A sum inside a number, without the sum; what an array lacks fits; and what a record that fits promises to those who use it.
use mathlib.Core.Path.{◌≡◌, refl, sym, ◌∙◌}
use mathlib.Core.Bool.{Bool, true, false, cond, ◌&&◌}
use Prim.Native.Nat.{ℕ, ◌+◌, ◌-◌, ◌≤◌}
use native.Mathlib.Omega.{arith}
use borrow.Author.Tests.{le-leb, lt-leb, leb-true, leb-false}
use lib.Dec.{leb}
use Rattle.head_record.specs.Empty.{span, no_span}
use Rattle.head_record.specs.declared.Global.{Global}
use Rattle.head_record.specs.declared.Header.{Header}
use Rattle.written.specs.Record.{file_limit}
use Rattle.written.proofs.Tests.{both}
use Rattle.head_record_fits.specs.Fits.{no_stream_data, no_position_data, each, counted, span_fits, global_fits, stream_fits, position_fits, record_fits}
use Rattle.head_record_fits.proofs.Each.{counted_limit}

pub sum-leb : (a b n : ℕ) → a ≤ n → leb b (n - a) ≡ leb (a + b) n
sum-leb a b n h = go (leb b (n - a)) refl
  where
    go : (t : Bool) → leb b (n - a) ≡ t → leb b (n - a) ≡ leb (a + b) n
    go true e = e ∙ sym (le-leb (a + b) n (omega (arith, leb-true b (n - a) e)))
    go false e = e ∙ sym (lt-leb (a + b) n (omega (arith, leb-false b (n - a) e)))

pub none_fits : (n : ℕ) → span_fits n no_span ≡ true
unfolding span_fits
none_fits n = le-leb 0 n (omega arith)

pub stream_none_fits : (n : ℕ) → stream_fits n no_stream_data ≡ true
unfolding stream_fits counted each
stream_none_fits n = rw (none_fits n, le-leb 0 16 (omega arith))

pub position_none_fits : (n : ℕ) → position_fits n no_position_data ≡ true
unfolding position_fits
position_none_fits n = rw (none_fits n, le-leb 0 8 (omega arith))

-- ---- a record that fits

pub record Fits (n : ℕ) (h : Header) : Type 0 where
  pub file : n ≤ file_limit
  pub data_inside : h.data_start + h.data_len ≤ n
  pub types : h.global.stream_type_count ≤ 8
  pub streams : h.stream_count ≤ 8
  pub positions : h.position_count ≤ 8

five : (a b c d e : Bool) → (a && b && c && d && e) ≡ true → (a ≡ true) × (b ≡ true) × (c ≡ true) × (d ≡ true) × (e ≡ true)
five a b c d e h =
    let h₅ = both (a && b && c && d) e h in
    let h₄ = both (a && b && c) d h₅.0 in
    let h₃ = both (a && b) c h₄.0 in
    let h₂ = both a b h₃.0 in
    (h₂.0, h₂.1, h₃.1, h₄.1, h₅.1)

types_limit : (n : ℕ) (g : Global) → global_fits n g ≡ true → g.stream_type_count ≤ 8
unfolding global_fits
types_limit n g e =
    let types = counted 8 (span_fits n) g.stream_type_count g.stream_type in
    let front = span_fits n g.hts_voice_version && span_fits n g.fullcontext_format && span_fits n g.fullcontext_version in
    let contexts = counted 32 (span_fits n) g.gv_off_context_count g.gv_off_context in
    let comment = cond g.has_comment (span_fits n g.comment) true in
    counted_limit 8 (span_fits n) g.stream_type_count g.stream_type (both front types (both (front && types) contexts (both (front && types && contexts) comment e).0).0).1

pub fits : (n : ℕ) (h : Header) → record_fits n h ≡ true → Fits n h
unfolding record_fits span_fits
fits n h e =
    let r = five
    (leb n file_limit)
    (span_fits n (span h.data_start h.data_len))
    (global_fits n h.global)
    (counted 8 (stream_fits n) h.stream_count h.streams)
    (counted 8 (position_fits n) h.position_count h.positions)
    e in
    record {
      file = leb-true n file_limit r.0;
      data_inside = leb-true (h.data_start + h.data_len) n r.1;
      types = types_limit n h.global r.2;
      streams = counted_limit 8 (stream_fits n) h.stream_count h.streams r.3;
      positions = counted_limit 8 (position_fits n) h.position_count h.positions r.4;
    }
