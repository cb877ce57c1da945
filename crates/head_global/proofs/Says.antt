-- What the lines of [GLOBAL] make of `Global` is the record that `written` says.
use mathlib.Core.Path.{◌≡◌, refl, ap, ◌∙◌, subst}
use mathlib.Core.Bool.{true}
use mathlib.Core.List.{List, [], ◌∷◌, map, Memᴰ}
use mathlib.Core.Option.{Option, some, none}
use Prim.Native.Nat.{ℕ, ◌<◌}
use native.Mathlib.Omega.{arith}
use lib.ListN.{length, get_or}
use Rattle.written.specs.Bytes.{bytes, same, Span}
use Rattle.written.specs.HeaderText.{Kind, a_string, a_number, strings, Value, text, number, texts, Field, kind_of, Entry, values_of, Distinct}
use Rattle.written.specs.Record.{global_fields, Once, AtMostOnce, missing, there, SaysGlobal}
use Rattle.written.specs.Record as record_of
use Rattle.written.specs.Faults.{Missing}
use Rattle.written.proofs.Tests.{both}
use Rattle.laws.proofs.Ranges.{all, at}
use Rattle.head_record.specs.Empty.{empty_global, no_span}
use Rattle.head_record.specs.Lists.{filled, span_of}
use Rattle.head_record.specs.Record.{span_or, there as is_there, global_record}
use Rattle.head_record.specs.declared.Global.{Global}
use Rattle.head_de_lists.specs.Lists.{firsts, spans_of}
use Rattle.head_de_lists.proofs.Firsts.{first8}
use Rattle.head_de_values.specs.Values.{value_of}
use Rattle.head_de_values.specs.declared.Value as values
use Rattle.head_fields.specs.Fields.{field_index}
use Rattle.head_lines.specs.Lines.{kept}
use Rattle.head_lines.proofs.Kept.{OfKind, Kinded, value_kind, Stands, nowhere, once, one_or_none, kept_none, kept_one, no_field, mem_at, needed, as_text, as_number, as_texts, Leads, leads, first?}
use Rattle.head_global.specs.Global.{stored, with_line}

abbrev in_value : Value → values.Value
in_value v = value_of v

-- the required fields of the table are its first eight
pub global_leads : Leads global_fields 8
unfolding global_fields bytes same field_index
global_leads = leads global_fields 8 (omega arith) refl refl

-- ---- HTS_VOICE_VERSION

hts_voice_version_index : field_index global_fields (bytes "HTS_VOICE_VERSION") ≡ 0
unfolding global_fields bytes same field_index
hts_voice_version_index = refl

hts_voice_version_kind : kind_of global_fields (bytes "HTS_VOICE_VERSION") ≡ a_string
unfolding global_fields bytes same kind_of
hts_voice_version_kind = refl

-- ---- SAMPLING_FREQUENCY

sampling_frequency_index : field_index global_fields (bytes "SAMPLING_FREQUENCY") ≡ 1
unfolding global_fields bytes same field_index
sampling_frequency_index = refl

sampling_frequency_kind : kind_of global_fields (bytes "SAMPLING_FREQUENCY") ≡ a_number
unfolding global_fields bytes same kind_of
sampling_frequency_kind = refl

-- ---- FRAME_PERIOD

frame_period_index : field_index global_fields (bytes "FRAME_PERIOD") ≡ 2
unfolding global_fields bytes same field_index
frame_period_index = refl

frame_period_kind : kind_of global_fields (bytes "FRAME_PERIOD") ≡ a_number
unfolding global_fields bytes same kind_of
frame_period_kind = refl

-- ---- NUM_STATES

num_states_index : field_index global_fields (bytes "NUM_STATES") ≡ 3
unfolding global_fields bytes same field_index
num_states_index = refl

num_states_kind : kind_of global_fields (bytes "NUM_STATES") ≡ a_number
unfolding global_fields bytes same kind_of
num_states_kind = refl

-- ---- NUM_STREAMS

num_streams_index : field_index global_fields (bytes "NUM_STREAMS") ≡ 4
unfolding global_fields bytes same field_index
num_streams_index = refl

num_streams_kind : kind_of global_fields (bytes "NUM_STREAMS") ≡ a_number
unfolding global_fields bytes same kind_of
num_streams_kind = refl

-- ---- STREAM_TYPE

stream_type_index : field_index global_fields (bytes "STREAM_TYPE") ≡ 5
unfolding global_fields bytes same field_index
stream_type_index = refl

stream_type_kind : kind_of global_fields (bytes "STREAM_TYPE") ≡ strings
unfolding global_fields bytes same kind_of
stream_type_kind = refl

-- ---- FULLCONTEXT_FORMAT

fullcontext_format_index : field_index global_fields (bytes "FULLCONTEXT_FORMAT") ≡ 6
unfolding global_fields bytes same field_index
fullcontext_format_index = refl

fullcontext_format_kind : kind_of global_fields (bytes "FULLCONTEXT_FORMAT") ≡ a_string
unfolding global_fields bytes same kind_of
fullcontext_format_kind = refl

-- ---- FULLCONTEXT_VERSION

fullcontext_version_index : field_index global_fields (bytes "FULLCONTEXT_VERSION") ≡ 7
unfolding global_fields bytes same field_index
fullcontext_version_index = refl

fullcontext_version_kind : kind_of global_fields (bytes "FULLCONTEXT_VERSION") ≡ a_string
unfolding global_fields bytes same kind_of
fullcontext_version_kind = refl

-- ---- GV_OFF_CONTEXT

gv_off_context_index : field_index global_fields (bytes "GV_OFF_CONTEXT") ≡ 8
unfolding global_fields bytes same field_index
gv_off_context_index = refl

gv_off_context_kind : kind_of global_fields (bytes "GV_OFF_CONTEXT") ≡ strings
unfolding global_fields bytes same kind_of
gv_off_context_kind = refl

-- ---- COMMENT

comment_index : field_index global_fields (bytes "COMMENT") ≡ 9
unfolding global_fields bytes same field_index
comment_index = refl

comment_kind : kind_of global_fields (bytes "COMMENT") ≡ a_string
unfolding global_fields bytes same kind_of
comment_kind = refl

-- ---- the fields by their numbers

abbrev field : ℕ → Field
field n = get_or global_fields n no_field

mem : (n : ℕ) → n < 10 → Memᴰ (field n) global_fields
unfolding global_fields
mem n h = mem_at global_fields n h

all_first : all (first? global_fields) 8 0 ≡ true
unfolding global_fields bytes same field_index
all_first = refl

required : (n : ℕ) → n < 8 → (field n).required ≡ true
unfolding no_field
required n h = let b = both _ _ (at (first? global_fields) 8 0 all_first n (omega arith) (omega arith)) in b.0

hts_voice_version_name : bytes "HTS_VOICE_VERSION" ≡ (field 0).name
unfolding global_fields bytes
hts_voice_version_name = refl

sampling_frequency_name : bytes "SAMPLING_FREQUENCY" ≡ (field 1).name
unfolding global_fields bytes
sampling_frequency_name = refl

frame_period_name : bytes "FRAME_PERIOD" ≡ (field 2).name
unfolding global_fields bytes
frame_period_name = refl

num_states_name : bytes "NUM_STATES" ≡ (field 3).name
unfolding global_fields bytes
num_states_name = refl

num_streams_name : bytes "NUM_STREAMS" ≡ (field 4).name
unfolding global_fields bytes
num_streams_name = refl

stream_type_name : bytes "STREAM_TYPE" ≡ (field 5).name
unfolding global_fields bytes
stream_type_name = refl

fullcontext_format_name : bytes "FULLCONTEXT_FORMAT" ≡ (field 6).name
unfolding global_fields bytes
fullcontext_format_name = refl

fullcontext_version_name : bytes "FULLCONTEXT_VERSION" ≡ (field 7).name
unfolding global_fields bytes
fullcontext_version_name = refl

gv_off_context_name : bytes "GV_OFF_CONTEXT" ≡ (field 8).name
unfolding global_fields bytes
gv_off_context_name = refl

comment_name : bytes "COMMENT" ≡ (field 9).name
unfolding global_fields bytes
comment_name = refl

-- ---- the record

module _ {xs : List Entry} (kinded : Kinded global_fields xs) (distinct : Distinct global_fields xs) (whole : ¬ Missing global_fields xs) where
  abbrev made : Global
  made = kept with_line empty_global xs

  known : (n : ℕ) → n < 10 → n < length global_fields
  unfolding global_fields
  known n h = h

  hts_voice_version_says : (x : Span) × Once text xs "HTS_VOICE_VERSION" x × (made.hts_voice_version ≡ span_of (x))
  unfolding with_line stored value_of spans_of
  hts_voice_version_says =
      let v = needed distinct whole (field 0) (mem 0 (omega arith)) (required 0 (omega arith)) in
      let g : values_of (bytes "HTS_VOICE_VERSION") xs ≡ v.0 ∷ [] = ap (λ (u : List ℕ). values_of u xs) hts_voice_version_name ∙ v.1 in
      let o = as_text (subst (λ (t : Kind). OfKind t v.0) hts_voice_version_kind (value_kind kinded (bytes "HTS_VOICE_VERSION") g)) in
      let e : values_of (bytes "HTS_VOICE_VERSION") xs ≡ text o.0 ∷ [] = g ∙ ap (λ (u : Value). u ∷ []) o.1 in
      (o.0, record { value = e }, kept_one with_line (λ (g : Global). g.hts_voice_version) global_fields (bytes "HTS_VOICE_VERSION") 0 (λ (v : Value). (in_value (v)).span) (λ g x. refl) hts_voice_version_index (known 0 (omega arith)) empty_global xs e)

  sampling_frequency_says : (x : ℕ) × Once number xs "SAMPLING_FREQUENCY" x × (made.sampling_frequency ≡ x)
  unfolding with_line stored value_of spans_of
  sampling_frequency_says =
      let v = needed distinct whole (field 1) (mem 1 (omega arith)) (required 1 (omega arith)) in
      let g : values_of (bytes "SAMPLING_FREQUENCY") xs ≡ v.0 ∷ [] = ap (λ (u : List ℕ). values_of u xs) sampling_frequency_name ∙ v.1 in
      let o = as_number (subst (λ (t : Kind). OfKind t v.0) sampling_frequency_kind (value_kind kinded (bytes "SAMPLING_FREQUENCY") g)) in
      let e : values_of (bytes "SAMPLING_FREQUENCY") xs ≡ number o.0 ∷ [] = g ∙ ap (λ (u : Value). u ∷ []) o.1 in
      (o.0, record { value = e }, kept_one with_line (λ (g : Global). g.sampling_frequency) global_fields (bytes "SAMPLING_FREQUENCY") 1 (λ (v : Value). (in_value (v)).number) (λ g x. refl) sampling_frequency_index (known 1 (omega arith)) empty_global xs e)

  frame_period_says : (x : ℕ) × Once number xs "FRAME_PERIOD" x × (made.frame_period ≡ x)
  unfolding with_line stored value_of spans_of
  frame_period_says =
      let v = needed distinct whole (field 2) (mem 2 (omega arith)) (required 2 (omega arith)) in
      let g : values_of (bytes "FRAME_PERIOD") xs ≡ v.0 ∷ [] = ap (λ (u : List ℕ). values_of u xs) frame_period_name ∙ v.1 in
      let o = as_number (subst (λ (t : Kind). OfKind t v.0) frame_period_kind (value_kind kinded (bytes "FRAME_PERIOD") g)) in
      let e : values_of (bytes "FRAME_PERIOD") xs ≡ number o.0 ∷ [] = g ∙ ap (λ (u : Value). u ∷ []) o.1 in
      (o.0, record { value = e }, kept_one with_line (λ (g : Global). g.frame_period) global_fields (bytes "FRAME_PERIOD") 2 (λ (v : Value). (in_value (v)).number) (λ g x. refl) frame_period_index (known 2 (omega arith)) empty_global xs e)

  num_states_says : (x : ℕ) × Once number xs "NUM_STATES" x × (made.num_states ≡ x)
  unfolding with_line stored value_of spans_of
  num_states_says =
      let v = needed distinct whole (field 3) (mem 3 (omega arith)) (required 3 (omega arith)) in
      let g : values_of (bytes "NUM_STATES") xs ≡ v.0 ∷ [] = ap (λ (u : List ℕ). values_of u xs) num_states_name ∙ v.1 in
      let o = as_number (subst (λ (t : Kind). OfKind t v.0) num_states_kind (value_kind kinded (bytes "NUM_STATES") g)) in
      let e : values_of (bytes "NUM_STATES") xs ≡ number o.0 ∷ [] = g ∙ ap (λ (u : Value). u ∷ []) o.1 in
      (o.0, record { value = e }, kept_one with_line (λ (g : Global). g.num_states) global_fields (bytes "NUM_STATES") 3 (λ (v : Value). (in_value (v)).number) (λ g x. refl) num_states_index (known 3 (omega arith)) empty_global xs e)

  num_streams_says : (x : ℕ) × Once number xs "NUM_STREAMS" x × (made.num_streams ≡ x)
  unfolding with_line stored value_of spans_of
  num_streams_says =
      let v = needed distinct whole (field 4) (mem 4 (omega arith)) (required 4 (omega arith)) in
      let g : values_of (bytes "NUM_STREAMS") xs ≡ v.0 ∷ [] = ap (λ (u : List ℕ). values_of u xs) num_streams_name ∙ v.1 in
      let o = as_number (subst (λ (t : Kind). OfKind t v.0) num_streams_kind (value_kind kinded (bytes "NUM_STREAMS") g)) in
      let e : values_of (bytes "NUM_STREAMS") xs ≡ number o.0 ∷ [] = g ∙ ap (λ (u : Value). u ∷ []) o.1 in
      (o.0, record { value = e }, kept_one with_line (λ (g : Global). g.num_streams) global_fields (bytes "NUM_STREAMS") 4 (λ (v : Value). (in_value (v)).number) (λ g x. refl) num_streams_index (known 4 (omega arith)) empty_global xs e)

  stream_type_says : (x : List Span) × Once texts xs "STREAM_TYPE" x × (made.stream_type ≡ filled 8 no_span (map span_of (x))) × (made.stream_type_count ≡ length (x))
  unfolding with_line stored value_of spans_of
  stream_type_says =
      let v = needed distinct whole (field 5) (mem 5 (omega arith)) (required 5 (omega arith)) in
      let g : values_of (bytes "STREAM_TYPE") xs ≡ v.0 ∷ [] = ap (λ (u : List ℕ). values_of u xs) stream_type_name ∙ v.1 in
      let o = as_texts (subst (λ (t : Kind). OfKind t v.0) stream_type_kind (value_kind kinded (bytes "STREAM_TYPE") g)) in
      let e : values_of (bytes "STREAM_TYPE") xs ≡ texts o.0 ∷ [] = g ∙ ap (λ (u : Value). u ∷ []) o.1 in
      (o.0, record { value = e }, kept_one with_line (λ (g : Global). g.stream_type) global_fields (bytes "STREAM_TYPE") 5 (λ (v : Value). firsts 8 (in_value (v)).spans.items 0) (λ g x. refl) stream_type_index (known 5 (omega arith)) empty_global xs e ∙ first8 _, kept_one with_line (λ (g : Global). g.stream_type_count) global_fields (bytes "STREAM_TYPE") 5 (λ (v : Value). (in_value (v)).spans.count) (λ g x. refl) stream_type_index (known 5 (omega arith)) empty_global xs e)

  fullcontext_format_says : (x : Span) × Once text xs "FULLCONTEXT_FORMAT" x × (made.fullcontext_format ≡ span_of (x))
  unfolding with_line stored value_of spans_of
  fullcontext_format_says =
      let v = needed distinct whole (field 6) (mem 6 (omega arith)) (required 6 (omega arith)) in
      let g : values_of (bytes "FULLCONTEXT_FORMAT") xs ≡ v.0 ∷ [] = ap (λ (u : List ℕ). values_of u xs) fullcontext_format_name ∙ v.1 in
      let o = as_text (subst (λ (t : Kind). OfKind t v.0) fullcontext_format_kind (value_kind kinded (bytes "FULLCONTEXT_FORMAT") g)) in
      let e : values_of (bytes "FULLCONTEXT_FORMAT") xs ≡ text o.0 ∷ [] = g ∙ ap (λ (u : Value). u ∷ []) o.1 in
      (o.0, record { value = e }, kept_one with_line (λ (g : Global). g.fullcontext_format) global_fields (bytes "FULLCONTEXT_FORMAT") 6 (λ (v : Value). (in_value (v)).span) (λ g x. refl) fullcontext_format_index (known 6 (omega arith)) empty_global xs e)

  fullcontext_version_says : (x : Span) × Once text xs "FULLCONTEXT_VERSION" x × (made.fullcontext_version ≡ span_of (x))
  unfolding with_line stored value_of spans_of
  fullcontext_version_says =
      let v = needed distinct whole (field 7) (mem 7 (omega arith)) (required 7 (omega arith)) in
      let g : values_of (bytes "FULLCONTEXT_VERSION") xs ≡ v.0 ∷ [] = ap (λ (u : List ℕ). values_of u xs) fullcontext_version_name ∙ v.1 in
      let o = as_text (subst (λ (t : Kind). OfKind t v.0) fullcontext_version_kind (value_kind kinded (bytes "FULLCONTEXT_VERSION") g)) in
      let e : values_of (bytes "FULLCONTEXT_VERSION") xs ≡ text o.0 ∷ [] = g ∙ ap (λ (u : Value). u ∷ []) o.1 in
      (o.0, record { value = e }, kept_one with_line (λ (g : Global). g.fullcontext_version) global_fields (bytes "FULLCONTEXT_VERSION") 7 (λ (v : Value). (in_value (v)).span) (λ g x. refl) fullcontext_version_index (known 7 (omega arith)) empty_global xs e)

  gv_off_context_says : (x : List Span) × AtMostOnce texts (λ l. l) [] xs "GV_OFF_CONTEXT" x × (made.gv_off_context ≡ filled 32 no_span (map span_of (x))) × (made.gv_off_context_count ≡ length (x))
  unfolding with_line stored value_of spans_of empty_global filled
  gv_off_context_says = go (one_or_none distinct (field 8) (mem 8 (omega arith)))
    where
      go : Stands xs (field 8).name → (x : List Span) × AtMostOnce texts (λ l. l) [] xs "GV_OFF_CONTEXT" x × (made.gv_off_context ≡ filled 32 no_span (map span_of (x))) × (made.gv_off_context_count ≡ length (x))
      go (nowhere h) = let e : values_of (bytes "GV_OFF_CONTEXT") xs ≡ [] = ap (λ (u : List ℕ). values_of u xs) gv_off_context_name ∙ h in ([], missing e refl, kept_none with_line (λ (g : Global). g.gv_off_context) global_fields (bytes "GV_OFF_CONTEXT") 8 (λ (v : Value). (in_value (v)).spans.items) (λ g x. refl) gv_off_context_index (known 8 (omega arith)) empty_global xs e, kept_none with_line (λ (g : Global). g.gv_off_context_count) global_fields (bytes "GV_OFF_CONTEXT") 8 (λ (v : Value). (in_value (v)).spans.count) (λ g x. refl) gv_off_context_index (known 8 (omega arith)) empty_global xs e)
      go (once v h) =
          let g : values_of (bytes "GV_OFF_CONTEXT") xs ≡ v ∷ [] = ap (λ (u : List ℕ). values_of u xs) gv_off_context_name ∙ h in
          let o = as_texts (subst (λ (t : Kind). OfKind t v) gv_off_context_kind (value_kind kinded (bytes "GV_OFF_CONTEXT") g)) in
          let e : values_of (bytes "GV_OFF_CONTEXT") xs ≡ texts o.0 ∷ [] = g ∙ ap (λ (u : Value). u ∷ []) o.1 in
          (o.0, there o.0 e refl, kept_one with_line (λ (g : Global). g.gv_off_context) global_fields (bytes "GV_OFF_CONTEXT") 8 (λ (v : Value). (in_value (v)).spans.items) (λ g x. refl) gv_off_context_index (known 8 (omega arith)) empty_global xs e, kept_one with_line (λ (g : Global). g.gv_off_context_count) global_fields (bytes "GV_OFF_CONTEXT") 8 (λ (v : Value). (in_value (v)).spans.count) (λ g x. refl) gv_off_context_index (known 8 (omega arith)) empty_global xs e)

  comment_says : (x : Option Span) × AtMostOnce text some none xs "COMMENT" x × (made.comment ≡ span_or x) × (made.has_comment ≡ is_there x)
  unfolding with_line stored value_of spans_of empty_global filled
  comment_says = go (one_or_none distinct (field 9) (mem 9 (omega arith)))
    where
      go : Stands xs (field 9).name → (x : Option Span) × AtMostOnce text some none xs "COMMENT" x × (made.comment ≡ span_or x) × (made.has_comment ≡ is_there x)
      go (nowhere h) = let e : values_of (bytes "COMMENT") xs ≡ [] = ap (λ (u : List ℕ). values_of u xs) comment_name ∙ h in (none, missing e refl, kept_none with_line (λ (g : Global). g.comment) global_fields (bytes "COMMENT") 9 (λ (v : Value). (in_value (v)).span) (λ g x. refl) comment_index (known 9 (omega arith)) empty_global xs e, kept_none with_line (λ (g : Global). g.has_comment) global_fields (bytes "COMMENT") 9 (λ (v : Value). true) (λ g x. refl) comment_index (known 9 (omega arith)) empty_global xs e)
      go (once v h) =
          let g : values_of (bytes "COMMENT") xs ≡ v ∷ [] = ap (λ (u : List ℕ). values_of u xs) comment_name ∙ h in
          let o = as_text (subst (λ (t : Kind). OfKind t v) comment_kind (value_kind kinded (bytes "COMMENT") g)) in
          let e : values_of (bytes "COMMENT") xs ≡ text o.0 ∷ [] = g ∙ ap (λ (u : Value). u ∷ []) o.1 in
          (some o.0, there o.0 e refl, kept_one with_line (λ (g : Global). g.comment) global_fields (bytes "COMMENT") 9 (λ (v : Value). (in_value (v)).span) (λ g x. refl) comment_index (known 9 (omega arith)) empty_global xs e, kept_one with_line (λ (g : Global). g.has_comment) global_fields (bytes "COMMENT") 9 (λ (v : Value). true) (λ g x. refl) comment_index (known 9 (omega arith)) empty_global xs e)

  -- the record that the lines say, and that it stands in the struct
  pub global_says : (g : record_of.Global) × SaysGlobal xs g × (made ≡ global_record g)
  unfolding global_record
  global_says =
      let s0 = hts_voice_version_says in
      let s1 = sampling_frequency_says in
      let s2 = frame_period_says in
      let s3 = num_states_says in
      let s4 = num_streams_says in
      let s5 = stream_type_says in
      let s6 = fullcontext_format_says in
      let s7 = fullcontext_version_says in
      let s8 = gv_off_context_says in
      let s9 = comment_says in (
        record { hts_voice_version = s0.0; sampling_frequency = s1.0; frame_period = s2.0; num_states = s3.0; num_streams = s4.0; stream_type = s5.0; fullcontext_format = s6.0; fullcontext_version = s7.0; gv_off_context = s8.0; comment = s9.0 },
        record { hts_voice_version = s0.1; sampling_frequency = s1.1; frame_period = s2.1; num_states = s3.1; num_streams = s4.1; stream_type = s5.1; fullcontext_format = s6.1; fullcontext_version = s7.1; gv_off_context = s8.1; comment = s9.1 },
        λ i. record { hts_voice_version = s0.2 i; sampling_frequency = s1.2 i; frame_period = s2.2 i; num_states = s3.2 i; num_streams = s4.2 i; stream_type = s5.2 i; stream_type_count = s5.3 i; fullcontext_format = s6.2 i; fullcontext_version = s7.2 i; gv_off_context = s8.2 i; gv_off_context_count = s8.3 i; comment = s9.2 i; has_comment = s9.3 i },
      )
