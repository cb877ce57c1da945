-- A line's value is stored as its field has it, wherever the line ends; among the words of the record likewise, and judged there.
use mathlib.Core.Path.{◌≡◌, refl, sym, ap₂, ◌∙◌}
use mathlib.Core.Bool.{Bool, true, false, cond}
use mathlib.Core.List.{List, [], ◌∷◌, ◌++◌}
use Prim.Native.Nat.{ℕ, zero, suc, ◌<◌, ◌≤◌}
use native.Mathlib.Omega.{arith}
use borrow.Author.Tests.{ne_eqb}
use lib.Dec.{eqb, ltb}
use lib.ListN.{length, take, drop, get_or-replicate}
use lib.Seq.{sets}
use Rattle.std.specs.Prelude.{Ok, Err}
use Rattle.written.specs.HeaderText.{Entry}
use Rattle.written.specs.Record.{global_fields}
use Rattle.laws.proofs.Tables.{sets_at}
use Rattle.error.specs.declared.Refusal.TheVariants as refusal
use Rattle.head_record.specs.Empty.{empty_global}
use Rattle.head_record.specs.declared.Global.{Global}
use Rattle.head_words.specs.Words.{flat, span_words, spans_words, global_words, word_at, Zeros}
use Rattle.head_words.proofs.Items.{zeros-laid, laid_inside}
use Rattle.head_de_lists.specs.Lists.{firsts}
use Rattle.head_de_values.specs.Values.{value_of}
use Rattle.head_de_values.specs.declared.Value.{Value}
use Rattle.head_fields.specs.Fields.{field_index, any_missing}
use Rattle.head_global.specs.Global.{stored, stored_in, with_line, judged, judged_in, made, refused_with}

pub stored_line : (g : Global) (x : Entry) {k : ℕ} {u : Value} → k ≡ field_index global_fields x.name → u ≡ value_of x.value → stored g k u ≡ with_line g x
unfolding with_line
stored_line g x e f = rw (e, f)

-- ---- among the words of a record

-- a number past the fields is none of theirs
past : (k n : ℕ) → n < 10 → eqb (suc (suc (suc (suc (suc (suc (suc (suc (suc (suc k)))))))))) n ≡ false
past k n h = ne_eqb _ n (λ (e : suc (suc (suc (suc (suc (suc (suc (suc (suc (suc k))))))))) ≡ n). omega arith)

-- a value in the words where its field stands
pub stored_words : (w : List ℕ) (g : Global) (k : ℕ) (v : Value) → stored_in (sets w 0 (global_words g)) k v ≡ sets w 0 (global_words (stored g k v))
unfolding stored stored_in global_words flat firsts
stored_words w g zero v = laid_inside w 0 [] (take 2 (global_words g)) (drop 2 (global_words g)) (span_words v.span) refl
stored_words w g (suc zero) v = laid_inside w 0 (take 2 (global_words g)) (take 1 (drop 2 (global_words g))) (drop 3 (global_words g)) (v.number ∷ []) refl
stored_words w g (suc (suc zero)) v = laid_inside w 0 (take 3 (global_words g)) (take 1 (drop 3 (global_words g))) (drop 4 (global_words g)) (v.number ∷ []) refl
stored_words w g (suc (suc (suc zero))) v = laid_inside w 0 (take 4 (global_words g)) (take 1 (drop 4 (global_words g))) (drop 5 (global_words g)) (v.number ∷ []) refl
stored_words w g (suc (suc (suc (suc zero)))) v = laid_inside w 0 (take 5 (global_words g)) (take 1 (drop 5 (global_words g))) (drop 6 (global_words g)) (v.number ∷ []) refl
stored_words w g (suc (suc (suc (suc (suc zero))))) v = laid_inside w 0 (take 6 (global_words g)) (take 17 (drop 6 (global_words g))) (drop 23 (global_words g)) (spans_words 8 v.spans.items ++ (v.spans.count ∷ [])) refl
stored_words w g (suc (suc (suc (suc (suc (suc zero)))))) v = laid_inside w 0 (take 23 (global_words g)) (take 2 (drop 23 (global_words g))) (drop 25 (global_words g)) (span_words v.span) refl
stored_words w g (suc (suc (suc (suc (suc (suc (suc zero))))))) v = laid_inside w 0 (take 25 (global_words g)) (take 2 (drop 25 (global_words g))) (drop 27 (global_words g)) (span_words v.span) refl
stored_words w g (suc (suc (suc (suc (suc (suc (suc (suc zero)))))))) v = laid_inside w 0 (take 27 (global_words g)) (take 65 (drop 27 (global_words g))) (drop 92 (global_words g)) (spans_words 32 v.spans.items ++ (v.spans.count ∷ [])) refl
stored_words w g (suc (suc (suc (suc (suc (suc (suc (suc (suc zero))))))))) v = laid_inside w 0 (take 92 (global_words g)) (take 3 (drop 92 (global_words g))) (drop 95 (global_words g)) (span_words v.span ++ (1 ∷ [])) refl
stored_words w g (suc (suc (suc (suc (suc (suc (suc (suc (suc (suc k)))))))))) v = rw (past k 0 (omega arith), past k 1 (omega arith), past k 2 (omega arith), past k 3 (omega arith), past k 4 (omega arith), past k 5 (omega arith), past k 6 (omega arith), past k 7 (omega arith), past k 8 (omega arith), past k 9 (omega arith))

-- the empty record's words are 0
pub empty_words : (w : List ℕ) → Zeros w 0 95 → w ≡ sets w 0 (global_words empty_global)
unfolding empty_global global_words flat
empty_words w z = sym (zeros-laid w 0 (global_words empty_global) z (λ k h. get_or-replicate 95 k 0 0 h))

verdict_of : (g : Global) (a b c : Bool)
    → cond a (Err refusal.Field) (cond b (Err refusal.Limit) (cond c (Err refusal.Limit) (Ok tt)))
    ≡ (cond a (refused_with refusal.Field) (cond b (refused_with refusal.Limit) (cond c (refused_with refusal.Limit) (made (Ok tt) g)))).verdict
verdict_of g true b c = refl
verdict_of g false true c = refl
verdict_of g false false true = refl
verdict_of g false false false = refl

-- the counts are judged where they stand
pub judged_words : (m : List Bool) (w : List ℕ) (g : Global) → 95 ≤ length w → judged_in m (sets w 0 (global_words g)) ≡ (judged m g).verdict
unfolding judged judged_in global_words flat
judged_words m w g h =
    let a : word_at (sets w 0 (global_words g)) 22 ≡ g.stream_type_count = sets_at (global_words g) w 0 22 0 (omega arith) h in
    let b : word_at (sets w 0 (global_words g)) 91 ≡ g.gv_off_context_count = sets_at (global_words g) w 0 91 0 (omega arith) h in
    ap₂ (λ (x y : ℕ). cond (any_missing m 8) (Err refusal.Field) (cond (ltb 8 x) (Err refusal.Limit) (cond (ltb 32 y) (Err refusal.Limit) (Ok tt)))) a b
    ∙ verdict_of g (any_missing m 8) (ltb 8 g.stream_type_count) (ltb 32 g.gv_off_context_count)
