-- What the writer answers is what the definition says, both ways: number, length and buffer of each call.
-- Assumes fewer than 2^63 records, which every slice has: -2^63 is the last id that a text can have.
use mathlib.Core.Path.{◌≡◌, refl, sym, ◌∙◌, subst}
use mathlib.Core.Bool.{Bool, true, false, cond}
use mathlib.Core.Logic.{◌⊎◌, inl, inr}
use mathlib.Core.List.{List}
use Prim.Native.Nat.{ℕ, ◌^◌, ◌≤◌}
use native.Mathlib.Omega.{arith}
use borrow.Author.Tests.{leb-true, leb-false}
use lib.Dec.{leb}
use lib.ListN.{length}
use lib.Seq.{sets}
use Rattle.written.specs.Writing.{Written, Unwritten, NotWritten, Measured, Wrote, first_four}
use Rattle.written_back.proofs.Never.{measured_once, wrote_once}
use Rattle.laws.proofs.Tables.{sets-front}
use Rattle.table_rows.specs.Rows.{record_rows, question_table, pattern_table, tree_table, record_table}
use Rattle.write_rows.specs.Tests.{rows_in}
use Rattle.write_rows.proofs.Outside.{none_outside, some_outside}
use Rattle.write_bytes.specs.Tests.{bytes_fit}
use Rattle.write_bytes.proofs.Odd.{none_odd, some_odd}
use Rattle.write_links.specs.Tests.{links_fit}
use Rattle.write_tables.specs.Answers.{judged_by, judged_of, bytes_of, measured_by, measure_of, answer_of, buffer_of, Answered, number_of, length_of}
use Rattle.shown_write.proofs.Sound.{passed_written}
use Rattle.shown_write.proofs.BackTrees.{read_back_passes}
use Rattle.write_tables.specs.declared.WriteFault.{WriteFault}
use Rattle.write_tables.specs.declared.WriteFault.TheVariants as fault
use Rattle.std.specs.Prelude.{Err, Ok, Result, ⊤}

module _ (d Q P T R : List ℕ) where
  -- the definitions, of the rows of lent tables
  abbrev pub Writes : List ℕ → Type 0
  Writes w = Written d (question_table Q) (pattern_table P) (first_four (tree_table T)) (record_table R) w

  abbrev pub Refuses : ℕ → Type 0
  Refuses n = Unwritten d (question_table Q) (pattern_table P) (first_four (tree_table T)) (record_table R) n

  abbrev pub Measures : ℕ → ℕ → Type 0
  Measures n k = Measured d (question_table Q) (pattern_table P) (first_four (tree_table T)) (record_table R) n k

  abbrev pub WritesInto : List ℕ → ℕ → ℕ → List ℕ → Type 0
  WritesInto b n k e = Wrote d (question_table Q) (pattern_table P) (first_four (tree_table T)) (record_table R) b n k e

  -- ---- each way of judging, in the definition's words

  data Verdict : Result ⊤ WriteFault → Type 0 where
    fits : Writes (bytes_of d Q P T R) → Verdict (Ok tt)
    outside : Refuses 24 → Verdict (Err fault.Outside)
    odd_byte : Refuses 22 → Verdict (Err fault.OddByte)
    unread : Refuses 17 → Verdict (Err fault.Unread)

  module _ (short : record_rows R ≤ 2 ^ 63) where
    verdict : Verdict (judged_of d Q P T R)
    unfolding judged_of bytes_of
    verdict = go (rows_in d Q P T R) (bytes_fit d Q P) (links_fit d Q P T R) refl refl refl
      where
        go : (a b c : Bool) → rows_in d Q P T R ≡ a → bytes_fit d Q P ≡ b → links_fit d Q P T R ≡ c → Verdict (judged_by a b c)
        go false b c u v w = Verdict.outside (Unwritten.outside (some_outside d Q P T R u))
        go true false c u v w = Verdict.odd_byte (Unwritten.odd_byte (none_outside d Q P T R u) (some_odd d Q P T R v))
        go true true false u v w =
            Verdict.unread (Unwritten.unread (none_outside d Q P T R u) (none_odd d Q P T R u v)
            (λ x. let e : ◌≡◌ {A = Bool} true false = sym (read_back_passes d Q P T R x) ∙ w in let z : ◌≡◌ {A = ℕ} 0 1 = cc in omega arith))
        go true true true u v w = Verdict.fits (passed_written d Q P T R short u v w)

    -- ---- how long it is

    pub measure_sound : Measures (number_of (measure_of d Q P T R)) (length_of (measure_of d Q P T R))
    unfolding measure_of
    measure_sound = go verdict
      where
        go : {j : Result ⊤ WriteFault} → Verdict j → Measures (number_of (measured_by (bytes_of d Q P T R) j)) (length_of (measured_by (bytes_of d Q P T R) j))
        go (Verdict.fits w) = Measured.done w refl
        go (Verdict.outside u) = Measured.refused u
        go (Verdict.odd_byte u) = Measured.refused u
        go (Verdict.unread u) = Measured.refused u

    pub measure_complete : {n k : ℕ} → Measures n k → (number_of (measure_of d Q P T R) ≡ n) × (length_of (measure_of d Q P T R) ≡ k)
    measure_complete x = measured_once measure_sound x

    -- ---- into a buffer

    module _ (b : List ℕ) where
      sound : {j : Result ⊤ WriteFault} → Verdict j → WritesInto b (number_of (answer_of (length b) (bytes_of d Q P T R) j)) (length_of (answer_of (length b) (bytes_of d Q P T R) j)) (buffer_of b (bytes_of d Q P T R) j)
      sound (Verdict.fits w) = go (leb (length (bytes_of d Q P T R)) (length b)) refl
        where
          go : (c : Bool) → leb (length (bytes_of d Q P T R)) (length b) ≡ c
              → WritesInto b (number_of (cond c (Ok (length (bytes_of d Q P T R))) (Err fault.Room))) (length_of (cond c (Ok (length (bytes_of d Q P T R))) (Err fault.Room))) (cond c (sets b 0 (bytes_of d Q P T R)) b)
          go true e = let l = leb-true (length (bytes_of d Q P T R)) (length b) e in Wrote.done w l refl (sets-front b (bytes_of d Q P T R) l)
          go false e = Wrote.refused (NotWritten.no_room w (omega (arith, leb-false (length (bytes_of d Q P T R)) (length b) e))) refl
      sound (Verdict.outside u) = Wrote.refused (NotWritten.unwritten u) refl
      sound (Verdict.odd_byte u) = Wrote.refused (NotWritten.unwritten u) refl
      sound (Verdict.unread u) = Wrote.refused (NotWritten.unwritten u) refl

      -- whatever the contract allows is what the definition says
      pub write_sound : {r : Result ℕ WriteFault} {e : List ℕ} → Answered b d Q P T R r e → WritesInto b (number_of r) (length_of r) e
      write_sound {r} {e} a =
          subst (λ (l : List ℕ). WritesInto b (number_of r) (length_of r) l) (sym a.buffer_is)
          (subst (λ (x : Result ℕ WriteFault). WritesInto b (number_of x) (length_of x) (buffer_of b (bytes_of d Q P T R) (judged_of d Q P T R))) (sym a.answer_is) (sound verdict))

      -- and the other way round
      pub write_complete : {r : Result ℕ WriteFault} {e f : List ℕ} {n k : ℕ} → Answered b d Q P T R r e → WritesInto b n k f → (number_of r ≡ n) × (length_of r ≡ k) × (e ≡ f)
      write_complete a x = wrote_once (write_sound a) x

    -- rows have a text that fits into so much room, or are refused with a number
    pub written_or_not : (room : ℕ) → ((w : List ℕ) × Writes w × (length w ≤ room)) ⊎ ((n : ℕ) × NotWritten d (question_table Q) (pattern_table P) (first_four (tree_table T)) (record_table R) room n)
    written_or_not room = go verdict
      where
        fit : Writes (bytes_of d Q P T R) → (c : Bool) → leb (length (bytes_of d Q P T R)) room ≡ c
            → ((w : List ℕ) × Writes w × (length w ≤ room)) ⊎ ((n : ℕ) × NotWritten d (question_table Q) (pattern_table P) (first_four (tree_table T)) (record_table R) room n)
        fit w true e = inl (bytes_of d Q P T R, w, leb-true (length (bytes_of d Q P T R)) room e)
        fit w false e = inr (20, NotWritten.no_room w (omega (arith, leb-false (length (bytes_of d Q P T R)) room e)))

        go : {j : Result ⊤ WriteFault} → Verdict j → ((w : List ℕ) × Writes w × (length w ≤ room)) ⊎ ((n : ℕ) × NotWritten d (question_table Q) (pattern_table P) (first_four (tree_table T)) (record_table R) room n)
        go (Verdict.fits w) = fit w (leb (length (bytes_of d Q P T R)) room) refl
        go (Verdict.outside u) = inr (24, NotWritten.unwritten u)
        go (Verdict.odd_byte u) = inr (22, NotWritten.unwritten u)
        go (Verdict.unread u) = inr (17, NotWritten.unwritten u)

  -- two outcomes of one call are equal
  pub write_once : {b e f : List ℕ} {r s : Result ℕ WriteFault} → Answered b d Q P T R r e → Answered b d Q P T R s f → (r ≡ s) × (e ≡ f)
  write_once x y = (x.answer_is ∙ sym y.answer_is, x.buffer_is ∙ sym y.buffer_is)
