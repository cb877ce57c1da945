-- What the lines of [GLOBAL] make of `Global`.
use Rattle.std.specs.Prelude.{Bool, true, cond, List, [], ◌∷◌, ◌++◌, ℕ, eqb, ltb, Result, Ok, Err, ⊤}
use Rattle.std.proofs.lemmas.List.Edits.{sets}
use Rattle.written.specs.HeaderText.{Entry}
use Rattle.written.specs.Record.{global_fields}
use Rattle.error.specs.declared.Refusal.{Refusal}
use Rattle.error.specs.declared.Refusal.TheVariants as refusal
use Rattle.head_record.specs.Empty.{empty_global}
use Rattle.head_record.specs.declared.Global.{Global}
use Rattle.head_words.specs.Words.{span_words, spans_words, word_at}
use Rattle.head_de_lists.specs.Lists.{firsts}
use Rattle.head_de_values.specs.Values.{value_of}
use Rattle.head_de_values.specs.declared.Value.{Value}
use Rattle.head_fields.specs.Fields.{field_index, any_missing}
use Rattle.head_lines.specs.Lines.{Lines, whole, faulty, kept}
use Rattle.head_global.specs.declared.GlobalRead.{GlobalRead}

-- the value v in the field of the number k
unfoldable pub stored : Global → ℕ → Value → Global
stored g k v =
    record {
      hts_voice_version = cond (eqb k 0) v.span g.hts_voice_version;
      sampling_frequency = cond (eqb k 1) v.number g.sampling_frequency;
      frame_period = cond (eqb k 2) v.number g.frame_period;
      num_states = cond (eqb k 3) v.number g.num_states;
      num_streams = cond (eqb k 4) v.number g.num_streams;
      stream_type = cond (eqb k 5) (firsts 8 v.spans.items 0) g.stream_type;
      stream_type_count = cond (eqb k 5) v.spans.count g.stream_type_count;
      fullcontext_format = cond (eqb k 6) v.span g.fullcontext_format;
      fullcontext_version = cond (eqb k 7) v.span g.fullcontext_version;
      gv_off_context = cond (eqb k 8) v.spans.items g.gv_off_context;
      gv_off_context_count = cond (eqb k 8) v.spans.count g.gv_off_context_count;
      comment = cond (eqb k 9) v.span g.comment;
      has_comment = cond (eqb k 9) (true) g.has_comment;
    }

-- the same among the words of the record
unfoldable pub stored_in : List ℕ → ℕ → Value → List ℕ
stored_in w k v =
    cond (eqb k 0) (sets w 0 (span_words v.span))
    (cond (eqb k 1) (sets w 2 (v.number ∷ []))
    (cond (eqb k 2) (sets w 3 (v.number ∷ []))
    (cond (eqb k 3) (sets w 4 (v.number ∷ []))
    (cond (eqb k 4) (sets w 5 (v.number ∷ []))
    (cond (eqb k 5) (sets w 6 (spans_words 8 v.spans.items ++ (v.spans.count ∷ [])))
    (cond (eqb k 6) (sets w 23 (span_words v.span))
    (cond (eqb k 7) (sets w 25 (span_words v.span))
    (cond (eqb k 8) (sets w 27 (spans_words 32 v.spans.items ++ (v.spans.count ∷ [])))
    (cond (eqb k 9) (sets w 92 (span_words v.span ++ (1 ∷ []))) w)))))))))

-- a line's value in its field
unfoldable pub with_line : Global → Entry → Global
with_line g x = stored g (field_index global_fields x.name) (value_of x.value)

abbrev pub made : Result ⊤ Refusal → Global → GlobalRead
made v g = record { verdict = v; global = g }

abbrev pub refused_with : Refusal → GlobalRead
refused_with r = made (Err r) empty_global

-- a field is missing (9); a count passes its limit (12)
unfoldable pub judged : List Bool → Global → GlobalRead
judged m g =
    cond (any_missing m 8) (refused_with refusal.Field)
    (cond (ltb 8 g.stream_type_count) (refused_with refusal.Limit)
    (cond (ltb 32 g.gv_off_context_count) (refused_with refusal.Limit) (made (Ok tt) g)))

-- the same out of the words of the record
unfoldable pub judged_in : List Bool → List ℕ → Result ⊤ Refusal
judged_in m w =
    cond (any_missing m 8) (Err refusal.Field)
    (cond (ltb 8 (word_at w 22)) (Err refusal.Limit) (cond (ltb 32 (word_at w 91)) (Err refusal.Limit) (Ok tt)))

abbrev pub global_in : Lines → GlobalRead
global_in (whole m xs) = judged m (kept with_line empty_global xs)
global_in (faulty r) = refused_with r
