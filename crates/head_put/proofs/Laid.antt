-- Parts of a record laid one behind another are its words.
use mathlib.Core.Path.{◌≡◌, ◌∙◌}
use mathlib.Core.List.{List, [], ◌∷◌, ◌++◌}
use Prim.Native.Nat.{ℕ, ◌+◌}
use native.Mathlib.Omega.{arith}
use lib.ListN.{length}
use lib.Seq.{sets}
use Rattle.head_record.specs.declared.Header.{Header}
use Rattle.head_words.specs.Words.{global_words, streams_words, positions_words, header_words}
use Rattle.head_words.proofs.Items.{laid_before}
use Rattle.head_words.proofs.Lengths.{length_global, length_streams, length_positions}

-- ---- the parts of a record; the law takes the words after each store

pub header_laid : (h : Header) (t t₁ t₂ t₃ t₄ t₅ t₆ t₇ : List ℕ)
    → t₁ ≡ sets t 0 (global_words h.global)
    → t₂ ≡ sets t₁ 95 (streams_words h.streams)
    → t₃ ≡ sets t₂ 407 (h.stream_count ∷ [])
    → t₄ ≡ sets t₃ 408 (h.duration_pdf.from ∷ h.duration_pdf.to ∷ h.duration_tree.from ∷ h.duration_tree.to ∷ [])
    → t₅ ≡ sets t₄ 412 (positions_words h.positions)
    → t₆ ≡ sets t₅ 644 (h.position_count ∷ [])
    → t₇ ≡ sets t₆ 645 (h.data_start ∷ h.data_len ∷ [])
    → t₇ ≡ sets t 0 (header_words h)
unfolding header_words
header_laid h t t₁ t₂ t₃ t₄ t₅ t₆ t₇ e₁ e₂ e₃ e₄ e₅ e₆ e₇ =
    let y₇ : List ℕ = h.data_start ∷ h.data_len ∷ [] in
    let y₆ : List ℕ = (h.position_count ∷ []) ++ y₇ in
    let y₅ : List ℕ = (positions_words h.positions) ++ y₆ in
    let y₄ : List ℕ = (h.duration_pdf.from ∷ h.duration_pdf.to ∷ h.duration_tree.from ∷ h.duration_tree.to ∷ []) ++ y₅ in
    let y₃ : List ℕ = (h.stream_count ∷ []) ++ y₄ in
    let y₂ : List ℕ = (streams_words h.streams) ++ y₃ in
    let q₆ : 645 ≡ 644 + 1 = omega arith in
    let q₅ : 644 ≡ 412 + length (positions_words h.positions) = omega (arith, length_positions h.positions) in
    let q₄ : 412 ≡ 408 + 4 = omega arith in
    let q₃ : 408 ≡ 407 + 1 = omega arith in
    let q₂ : 407 ≡ 95 + length (streams_words h.streams) = omega (arith, length_streams h.streams) in
    let q₁ : 95 ≡ 0 + length (global_words h.global) = omega (arith, length_global h.global) in
    e₇
    ∙ laid_before t₅ t₆ 644 645 (h.position_count ∷ []) y₇ e₆ q₆
    ∙ laid_before t₄ t₅ 412 644 (positions_words h.positions) y₆ e₅ q₅
    ∙ laid_before t₃ t₄ 408 412 (h.duration_pdf.from ∷ h.duration_pdf.to ∷ h.duration_tree.from ∷ h.duration_tree.to ∷ []) y₅ e₄ q₄
    ∙ laid_before t₂ t₃ 407 408 (h.stream_count ∷ []) y₄ e₃ q₃
    ∙ laid_before t₁ t₂ 95 407 (streams_words h.streams) y₃ e₂ q₂
    ∙ laid_before t t₁ 0 95 (global_words h.global) y₂ e₁ q₁
