-- What is read at the end of a file is what `written` says: the last four bytes are the sum, and the file ends in a trailer with these rows, both ways.
use mathlib.Core.Path.{◌≡◌, refl, sym, ap, ap₂, ◌∙◌, subst}
use mathlib.Core.Bool.{Bool, true, false, ◌&&◌}
use mathlib.Core.List.{List, [], ◌∷◌, ◌++◌, append_assoc}
use Prim.Native.Nat.{ℕ, ◌+◌, ◌-◌, ◌*◌, ◌≤◌}
use native.Mathlib.Omega.{arith}
use borrow.Author.Tests.{eqb-true, eq-eqb}
use lib.Dec.{eqb}
use lib.ListN.{length, take, drop, length-append, take-append-drop}
use lib.Seq.{take_at, drop_at, length-take-le}
use Rattle.written.specs.Blocks.{little_endian, Below32}
use Rattle.written.specs.Blocks as B
use Rattle.written.specs.Trailer.{sum32, unsummed, EndsIn, Summed}
use Rattle.written.proofs.OneFile.{heads, tails, append_same}
use Rattle.written.proofs.OneBlock.{bytes_one}
use Rattle.written_trailer.proofs.Trailing.{sum_below, little-append, little-length, last_three}
use Rattle.pdf_blocks.specs.Values.{word_at, words_at}
use Rattle.pdf_blocks.proofs.Joined.{Small, length_words, words_append, words_below, words_bytes, words_whole}
use Rattle.trail_bytes.specs.Numbers.{same_words}
use Rattle.trail_bytes.proofs.Numbers.{same_are, are_same}
use Rattle.trail_last.specs.Last.{summed_of}

both : (a b : Bool) → a && b ≡ true → (a ≡ true) × (b ≡ true)
both true b e = (refl, e)
both false b e = let u : ◌≡◌ {A = ℕ} 0 1 = cc in absurd (omega arith)

pub below_front : (a b : List ℕ) → Below32 (a ++ b) → Below32 a
below_front [] b h = B.Below32.end
below_front (n ∷ a) b (B.Below32.next l h) = B.Below32.next l (below_front a b h)

below_back : (a : List ℕ) {b : List ℕ} → Below32 (a ++ b) → Below32 b
below_back [] h = h
below_back (n ∷ a) (B.Below32.next l h) = below_back a h

below_both : {a b : List ℕ} → Below32 a → Below32 b → Below32 (a ++ b)
below_both B.Below32.end k = k
below_both (B.Below32.next l h) k = B.Below32.next l (below_both h k)

module _ (s : List ℕ) (small : Small s) where
  -- ---- the sum

  pub summed_so : 4 ≤ length s → summed_of s ≡ true → Summed s
  unfolding summed_of words_at
  summed_so l e =
      let k : ℕ = length s - 4 in
      let w : word_at s k ≡ sum32 (take k s) = eqb-true (word_at s k) (sum32 (take k s)) e in
      let z : length s ≡ k + 4 * 1 = omega arith in
      record {
        earlier = take k s;
        whole = sym (take-append-drop k s) ∙ ap (λ (x : List ℕ). take k s ++ x) (sym (words_whole s small k 1 z) ∙ ap (λ (n : ℕ). little_endian (n ∷ [])) w);
      }

  pub so_summed : Summed s → summed_of s ≡ true
  unfolding summed_of words_at
  so_summed p =
      let E : List ℕ = p.earlier in
      let S : List ℕ = little_endian (sum32 E ∷ []) in
      let four : length S ≡ 4 = little-length (sum32 E ∷ []) in
      let z : length s ≡ length E + 4 = ap length p.whole ∙ length-append E S ∙ ap (λ (n : ℕ). length E + n) four in
      let k : length s - 4 ≡ length E = omega arith in
      let t : take (length s - 4) s ≡ E = ap (take (length s - 4)) p.whole ∙ take_at E S (length s - 4) (sym k) in
      let d : drop (length s - 4) s ≡ S = ap (drop (length s - 4)) p.whole ∙ drop_at E S (length s - 4) (sym k) in
      let one : word_at s (length s - 4) ∷ [] ≡ sum32 E ∷ [] =
      bytes_one (words_below s small (length s - 4) 1) (B.Below32.next (sum_below E) B.Below32.end) (words_whole s small (length s - 4) 1 (omega arith) ∙ d) in
      eq-eqb (word_at s (length s - 4)) (sum32 (take (length s - 4) s)) (heads one ∙ sym (ap sum32 t))

  -- ---- the trailer

  module _ (rows : List ℕ) (n : ℕ) (threes : length rows ≡ 3 * n) (low : Below32 rows) where
    abbrev end : ℕ
    end = length s - 12

    abbrev Stand : Bool
    Stand = eqb (word_at s (length s - 12)) n && (eqb (word_at s (length s - 12 + 4) + 12 * n) (length s - 12) && same_words s (word_at s (length s - 12 + 4)) rows)

    pub stand_ends : 12 ≤ length s → summed_of s ≡ true
        → eqb (word_at s (length s - 12)) n && (eqb (word_at s (length s - 12 + 4) + 12 * n) (length s - 12) && same_words s (word_at s (length s - 12 + 4)) rows) ≡ true
        → EndsIn s rows (word_at s (length s - 12 + 4))
    unfolding summed_of words_at little_endian
    stand_ends l summed e =
        let b : ℕ = word_at s (length s - 12 + 4) in
        let x : ℕ = word_at s (length s - 12 + 8) in
        let p = both (eqb (word_at s (length s - 12)) n) (eqb (word_at s (length s - 12 + 4) + 12 * n) (length s - 12) && same_words s (word_at s (length s - 12 + 4)) rows) e in
        let q = both (eqb (word_at s (length s - 12 + 4) + 12 * n) (length s - 12)) (same_words s (word_at s (length s - 12 + 4)) rows) p.1 in
        let count : word_at s (length s - 12) ≡ n = eqb-true (word_at s (length s - 12)) n p.0 in
        let fits : b + 12 * n ≡ length s - 12 = eqb-true (b + 12 * n) (length s - 12) q.0 in
        let at : b + 4 * (3 * n) ≡ length s - 12 = omega arith in
        let rows_are : words_at s b (3 * n) ≡ rows = ap (words_at s b) (sym threes) ∙ same_are s b rows q.1 in
        let last : words_at s (b + 4 * (3 * n)) 3 ≡ n ∷ b ∷ x ∷ [] =
        ap (λ (i : ℕ). words_at s i 3) at ∙ ap₂ (λ (i j : ℕ). i ∷ b ∷ word_at s j ∷ []) count (let z : length s - 12 + 4 + 4 ≡ length s - 12 + 8 = omega arith in z) in
        let all : words_at s b (3 * n + 3) ≡ rows ++ (n ∷ b ∷ x ∷ []) = words_append s b (3 * n) 3 ∙ ap₂ (λ (u v : List ℕ). u ++ v) rows_are last in
        let size : length s ≡ b + 4 * (3 * n + 3) = omega arith in
        let tail : drop b s ≡ little_endian (rows ++ (n ∷ b ∷ x ∷ [])) = sym (words_whole s small b (3 * n + 3) size) ∙ ap little_endian all in
        let long : length (take b s) ≡ b = length-take-le b s (omega arith) in
        let F : List ℕ = take b s in
        let U : List ℕ = unsummed F rows n in
        let u-is : little_endian (rows ++ (n ∷ b ∷ [])) ≡ U = ap (λ (k : ℕ). little_endian (rows ++ (n ∷ k ∷ []))) (sym long) in
        let split : little_endian (rows ++ (n ∷ b ∷ x ∷ [])) ≡ U ++ little_endian (x ∷ []) =
        ap little_endian (sym (append_assoc rows (n ∷ b ∷ []) (x ∷ []))) ∙ little-append (rows ++ (n ∷ b ∷ [])) (x ∷ []) ∙ ap (λ (v : List ℕ). v ++ little_endian (x ∷ [])) u-is in
        let whole : s ≡ (F ++ U) ++ little_endian (x ∷ []) =
        sym (take-append-drop b s) ∙ ap (λ (v : List ℕ). F ++ v) (tail ∙ split) ∙ sym (append_assoc F U (little_endian (x ∷ []))) in
        let sum-at : word_at s (length s - 4) ≡ sum32 (take (length s - 4) s) = eqb-true (word_at s (length s - 4)) (sum32 (take (length s - 4) s)) summed in
        let x-is : x ≡ word_at s (length s - 4) = ap (word_at s) (let z : length s - 12 + 8 ≡ length s - 4 = omega arith in z) in
        let size-u : length (F ++ U) ≡ length s - 4 = omega (arith, ap length whole, length-append (F ++ U) (little_endian (x ∷ [])), little-length (x ∷ [])) in
        let earlier : take (length s - 4) s ≡ F ++ U = ap (take (length s - 4)) whole ∙ take_at (F ++ U) (little_endian (x ∷ [])) (length s - 4) size-u in
        let sum : x ≡ sum32 (F ++ U) = x-is ∙ sum-at ∙ ap sum32 earlier in
        let below : Below32 (words_at s b (3 * n + 3)) = words_below s small b (3 * n + 3) in
        let three : Below32 (n ∷ b ∷ x ∷ []) = below_back rows (subst Below32 all below) in
        let two : Below32 (n ∷ b ∷ []) = below_front (n ∷ b ∷ []) (x ∷ []) three in
        record {
          before = F;
          trailer = drop b s;
          whole = sym (take-append-drop b s);
          says = record {
            count = n;
            threes = threes;
            below = subst (λ (k : ℕ). Below32 (rows ++ (n ∷ k ∷ []))) (sym long) (below_both low two);
            whole = tail ∙ split ∙ ap (λ (k : ℕ). U ++ little_endian (k ∷ [])) sum;
          };
          begins = sym long;
        }

    pub ends_stand : {begin : ℕ} → EndsIn s rows begin
        → (eqb (word_at s (length s - 12)) n && (eqb (word_at s (length s - 12 + 4) + 12 * n) (length s - 12) && same_words s (word_at s (length s - 12 + 4)) rows) ≡ true)
        × (begin ≡ word_at s (length s - 12 + 4))
    unfolding words_at
    ends_stand {begin} p =
        let T = p.says in
        let F : List ℕ = p.before in
        let c : T.count ≡ n = omega (arith, T.threes, threes) in
        let S : ℕ = sum32 (F ++ unsummed F rows T.count) in
        let three : List ℕ = T.count ∷ length F ∷ S ∷ [] in
        let whole : s ≡ (F ++ little_endian rows) ++ little_endian three = p.whole ∙ last_three T in
        let twelve : length (little_endian three) ≡ 12 = little-length three in
        let rows-size : length (little_endian rows) ≡ 12 * n = little-length rows ∙ ap (λ (k : ℕ). 4 * k) threes ∙ (let z : 4 * (3 * n) ≡ 12 * n = omega arith in z) in
        let front : length (F ++ little_endian rows) ≡ length F + 12 * n = length-append F (little_endian rows) ∙ ap (λ (k : ℕ). length F + k) rows-size in
        let size : length s ≡ length F + 12 * n + 12 = ap length whole ∙ length-append (F ++ little_endian rows) (little_endian three) ∙ ap₂ (λ (i j : ℕ). i + j) front twelve in
        let at : length s - 12 ≡ length (F ++ little_endian rows) = omega arith in
        let tail : drop (length s - 12) s ≡ little_endian three = ap (drop (length s - 12)) whole ∙ drop_at (F ++ little_endian rows) (little_endian three) (length s - 12) (sym at) in
        let low3 : Below32 three = below_both (below_back rows T.below) (B.Below32.next (sum_below (F ++ unsummed F rows T.count)) B.Below32.end) in
        let words : words_at s (length s - 12) 3 ≡ three = bytes_one (words_below s small (length s - 12) 3) low3 (words_whole s small (length s - 12) 3 (omega arith) ∙ tail) in
        let w0 : word_at s (length s - 12) ≡ T.count = heads words in
        let w1 : word_at s (length s - 12 + 4) ≡ length F = heads (tails words) in
        let back : drop (length F) s ≡ little_endian rows ++ little_endian three =
        ap (drop (length F)) (whole ∙ append_assoc F (little_endian rows) (little_endian three)) ∙ drop_at F (little_endian rows ++ little_endian three) (length F) refl in
        let inside : length F + 4 * length rows ≤ length s = omega (arith, threes, size) in
        let parts : little_endian (words_at s (length F) (length rows)) ++ drop (length F + 4 * length rows) s ≡ little_endian rows ++ little_endian three = words_bytes s small (length F) (length rows) inside ∙ back in
        let sizes : length (little_endian (words_at s (length F) (length rows))) ≡ length (little_endian rows) =
        little-length (words_at s (length F) (length rows)) ∙ ap (λ (k : ℕ). 4 * k) (length_words s (length F) (length rows)) ∙ sym (little-length rows) in
        let same : words_at s (length F) (length rows) ≡ rows = bytes_one (words_below s small (length F) (length rows)) low (append_same (little_endian (words_at s (length F) (length rows))) (little_endian rows) sizes parts).0 in
        let rows_same : same_words s (word_at s (length s - 12 + 4)) rows ≡ true = ap (λ (k : ℕ). same_words s k rows) w1 ∙ are_same s (length F) rows same in (
          ap₂ (λ (a d : Bool). a && d) (eq-eqb (word_at s (length s - 12)) n (w0 ∙ c))
              (ap₂ (λ (a d : Bool). a && d) (eq-eqb (word_at s (length s - 12 + 4) + 12 * n) (length s - 12) (omega (arith, w1, size))) rows_same),
          p.begins ∙ sym w1,
        )
