-- What the rows of a group of [STREAM] make of `StreamData` is the stream that `written` says.
use mathlib.Core.Path.{◌≡◌, refl, ◌∙◌}
use mathlib.Core.Bool.{Bool, true, false}
use mathlib.Core.List.{List, [], ◌∷◌, map}
use Prim.Native.Nat.{ℕ, ◌≤◌, ◌<◌}
use native.Mathlib.Omega.{arith}
use lib.ListN.{length, get_or}
use Rattle.written.specs.Bytes.{bytes, same, Span}
use Rattle.written.specs.HeaderText.{a_number, a_bool, strings, Value, number, flag, texts, kind_of, Entry, Distinct}
use Rattle.written.specs.Record.{stream_group, Once, AtMostOnce, missing, there, SaysStream}
use Rattle.written.specs.Record as record_of
use Rattle.written.specs.Faults.{Missing}
use Rattle.written.proofs.Tests.{both}
use Rattle.laws.proofs.Ranges.{all, at}
use Rattle.head_record.specs.Empty.{empty_stream, no_span}
use Rattle.head_record.specs.Lists.{filled, span_of}
use Rattle.head_record.specs.Record.{stream_record}
use Rattle.head_record.specs.declared.StreamData.{StreamData}
use Rattle.head_de_lists.specs.Lists.{firsts, spans_of, ranges_of}
use Rattle.head_de_lists.proofs.Firsts.{first16}
use Rattle.head_de_values.specs.Values.{value_of}
use Rattle.head_de_values.specs.declared.Value as values
use Rattle.head_fields.specs.Fields.{field_index}
use Rattle.head_lines.specs.Lines.{kept}
use Rattle.head_lines.proofs.Kept.{Kinded, kept_none, kept_one, no_field, as_number, as_flag, as_texts, Leads, leads, first?}
use Rattle.shown_groups.proofs.Fields.{once_made, Optional, not_there, stands, perhaps_made}
use Rattle.head_stream.specs.Group.{stored, with_line, empty_of}

abbrev in_value : Value → values.Value
in_value v = value_of v

-- the required fields of the table are its first 3
pub stream_leads : Leads stream_group 3
unfolding stream_group bytes same field_index
stream_leads = leads stream_group 3 (omega arith) refl refl

pub stream_room : length stream_group ≤ 10
unfolding stream_group
stream_room = omega arith

known : (n : ℕ) → n < 5 → n < length stream_group
unfolding stream_group
known n h = h

all_first : all (first? stream_group) 3 0 ≡ true
unfolding stream_group bytes same field_index
all_first = refl

required : (n : ℕ) → n < 3 → (get_or stream_group n no_field).required ≡ true
unfolding no_field
required n h = let b = both _ _ (at (first? stream_group) 3 0 all_first n (omega arith) (omega arith)) in b.0

-- ---- the fields by their numbers, kinds and names

vector_length_index : field_index stream_group (bytes "VECTOR_LENGTH") ≡ 0
unfolding stream_group bytes same field_index
vector_length_index = refl

vector_length_kind : kind_of stream_group (bytes "VECTOR_LENGTH") ≡ a_number
unfolding stream_group bytes same kind_of
vector_length_kind = refl

vector_length_name : bytes "VECTOR_LENGTH" ≡ (get_or stream_group 0 no_field).name
unfolding stream_group bytes
vector_length_name = refl

num_windows_index : field_index stream_group (bytes "NUM_WINDOWS") ≡ 1
unfolding stream_group bytes same field_index
num_windows_index = refl

num_windows_kind : kind_of stream_group (bytes "NUM_WINDOWS") ≡ a_number
unfolding stream_group bytes same kind_of
num_windows_kind = refl

num_windows_name : bytes "NUM_WINDOWS" ≡ (get_or stream_group 1 no_field).name
unfolding stream_group bytes
num_windows_name = refl

is_msd_index : field_index stream_group (bytes "IS_MSD") ≡ 2
unfolding stream_group bytes same field_index
is_msd_index = refl

is_msd_kind : kind_of stream_group (bytes "IS_MSD") ≡ a_bool
unfolding stream_group bytes same kind_of
is_msd_kind = refl

is_msd_name : bytes "IS_MSD" ≡ (get_or stream_group 2 no_field).name
unfolding stream_group bytes
is_msd_name = refl

use_gv_index : field_index stream_group (bytes "USE_GV") ≡ 3
unfolding stream_group bytes same field_index
use_gv_index = refl

use_gv_kind : kind_of stream_group (bytes "USE_GV") ≡ a_bool
unfolding stream_group bytes same kind_of
use_gv_kind = refl

use_gv_name : bytes "USE_GV" ≡ (get_or stream_group 3 no_field).name
unfolding stream_group bytes
use_gv_name = refl

option_index : field_index stream_group (bytes "OPTION") ≡ 4
unfolding stream_group bytes same field_index
option_index = refl

option_kind : kind_of stream_group (bytes "OPTION") ≡ strings
unfolding stream_group bytes same kind_of
option_kind = refl

option_name : bytes "OPTION" ≡ (get_or stream_group 4 no_field).name
unfolding stream_group bytes
option_name = refl

-- the name stays
kept_name : (d : StreamData) (xs : List Entry) → (kept with_line d xs).name ≡ d.name
unfolding kept with_line stored
kept_name d [] = refl
kept_name d (x ∷ xs) = kept_name (with_line d x) xs

-- ---- the record

module _ {xs : List Entry} (kinded : Kinded stream_group xs) (distinct : Distinct stream_group xs) (whole : ¬ Missing stream_group xs) (name : Span) where
  abbrev start : StreamData
  start = empty_of (span_of name)

  abbrev stored_so : StreamData
  stored_so = kept with_line start xs

  vector_length_says : (x : ℕ) × Once number xs "VECTOR_LENGTH" x × (stored_so.vector_length ≡ x)
  unfolding with_line stored value_of spans_of ranges_of
  vector_length_says =
      let o = once_made kinded distinct 0 (known 0 (omega arith)) "VECTOR_LENGTH" vector_length_name vector_length_kind number (λ v o. as_number o) whole (required 0 (omega arith)) in
      (o.0, record { value = o.1 }, kept_one with_line (λ (d : StreamData). d.vector_length) stream_group (bytes "VECTOR_LENGTH") 0 (λ (v : Value). (in_value v).number) (λ d y. refl) vector_length_index (known 0 (omega arith)) start xs o.1)

  num_windows_says : (x : ℕ) × Once number xs "NUM_WINDOWS" x × (stored_so.num_windows ≡ x)
  unfolding with_line stored value_of spans_of ranges_of
  num_windows_says =
      let o = once_made kinded distinct 1 (known 1 (omega arith)) "NUM_WINDOWS" num_windows_name num_windows_kind number (λ v o. as_number o) whole (required 1 (omega arith)) in
      (o.0, record { value = o.1 }, kept_one with_line (λ (d : StreamData). d.num_windows) stream_group (bytes "NUM_WINDOWS") 1 (λ (v : Value). (in_value v).number) (λ d y. refl) num_windows_index (known 1 (omega arith)) start xs o.1)

  is_msd_says : (x : Bool) × Once flag xs "IS_MSD" x × (stored_so.is_msd ≡ x)
  unfolding with_line stored value_of spans_of ranges_of
  is_msd_says =
      let o = once_made kinded distinct 2 (known 2 (omega arith)) "IS_MSD" is_msd_name is_msd_kind flag (λ v o. as_flag o) whole (required 2 (omega arith)) in
      (o.0, record { value = o.1 }, kept_one with_line (λ (d : StreamData). d.is_msd) stream_group (bytes "IS_MSD") 2 (λ (v : Value). (in_value v).flag) (λ d y. refl) is_msd_index (known 2 (omega arith)) start xs o.1)

  use_gv_says : (x : Bool) × AtMostOnce flag (λ y. y) false xs "USE_GV" x × (stored_so.use_gv ≡ x)
  unfolding with_line stored value_of spans_of ranges_of filled empty_stream
  use_gv_says = go (perhaps_made kinded distinct 3 (known 3 (omega arith)) "USE_GV" use_gv_name use_gv_kind flag (λ v o. as_flag o))
    where
      go : Optional kinded distinct 3 (known 3 (omega arith)) "USE_GV" use_gv_name use_gv_kind flag (λ v o. as_flag o) → (x : Bool) × AtMostOnce flag (λ y. y) false xs "USE_GV" x × (stored_so.use_gv ≡ x)
      go (not_there e) = (false, missing e refl, kept_none with_line (λ (d : StreamData). d.use_gv) stream_group (bytes "USE_GV") 3 (λ (v : Value). (in_value v).flag) (λ d y. refl) use_gv_index (known 3 (omega arith)) start xs e)
      go (stands a e) = (a, there a e refl, kept_one with_line (λ (d : StreamData). d.use_gv) stream_group (bytes "USE_GV") 3 (λ (v : Value). (in_value v).flag) (λ d y. refl) use_gv_index (known 3 (omega arith)) start xs e)

  option_says : (x : List Span) × AtMostOnce texts (λ y. y) [] xs "OPTION" x × (stored_so.«option» ≡ filled 16 no_span (map span_of x)) × (stored_so.option_count ≡ length x)
  unfolding with_line stored value_of spans_of ranges_of filled empty_stream
  option_says = go (perhaps_made kinded distinct 4 (known 4 (omega arith)) "OPTION" option_name option_kind texts (λ v o. as_texts o))
    where
      go : Optional kinded distinct 4 (known 4 (omega arith)) "OPTION" option_name option_kind texts (λ v o. as_texts o) → (x : List Span) × AtMostOnce texts (λ y. y) [] xs "OPTION" x × (stored_so.«option» ≡ filled 16 no_span (map span_of x)) × (stored_so.option_count ≡ length x)
      go (not_there e) = ([], missing e refl, kept_none with_line (λ (d : StreamData). d.«option») stream_group (bytes "OPTION") 4 (λ (v : Value). firsts 16 (in_value v).spans.items 0) (λ d y. refl) option_index (known 4 (omega arith)) start xs e, kept_none with_line (λ (d : StreamData). d.option_count) stream_group (bytes "OPTION") 4 (λ (v : Value). (in_value v).spans.count) (λ d y. refl) option_index (known 4 (omega arith)) start xs e)
      go (stands a e) = (a, there a e refl, kept_one with_line (λ (d : StreamData). d.«option») stream_group (bytes "OPTION") 4 (λ (v : Value). firsts 16 (in_value v).spans.items 0) (λ d y. refl) option_index (known 4 (omega arith)) start xs e ∙ first16 (map span_of a), kept_one with_line (λ (d : StreamData). d.option_count) stream_group (bytes "OPTION") 4 (λ (v : Value). (in_value v).spans.count) (λ d y. refl) option_index (known 4 (omega arith)) start xs e)

  -- the stream that the rows say, and that it stands in the struct
  pub stream_says : (d : record_of.Stream) × (d.name ≡ name) × SaysStream xs d × (stored_so ≡ stream_record d)
  unfolding stream_record
  stream_says =
      let s0 = vector_length_says in
      let s1 = num_windows_says in
      let s2 = is_msd_says in
      let s3 = use_gv_says in
      let s4 = option_says in
      let n = kept_name start xs in (
        record { name = name; vector_length = s0.0; num_windows = s1.0; is_msd = s2.0; use_gv = s3.0; option = s4.0 },
        refl,
        record { vector_length = s0.1; num_windows = s1.1; is_msd = s2.1; use_gv = s3.1; option = s4.1 },
        λ i. record { name = n i; vector_length = s0.2 i; num_windows = s1.2 i; is_msd = s2.2 i; use_gv = s3.2 i; option = s4.2 i; option_count = s4.3 i },
      )
