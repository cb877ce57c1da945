-- Each way through the judge and the writer.
use mathlib.Core.Path.{◌≡◌, refl, sym, ap, ◌∙◌}
use mathlib.Core.Bool.{Bool, true, false, cond}
use mathlib.Core.List.{List}
use Prim.Native.Nat.{ℕ, ◌≤◌, ◌<◌, min}
use native.Mathlib.Omega.{arith}
use borrow.Author.Tests.{le-leb, lt-leb}
use lib.ListN.{length}
use lib.Seq.{sets}
use Rattle.write_put.specs.Puts.{Put}
use Rattle.written.specs.Writing.{spelled}
use Rattle.write_rows.specs.Tests.{rows_in}
use Rattle.write_bytes.specs.Tests.{bytes_fit}
use Rattle.write_links.specs.Tests.{links_fit}
use Rattle.write_text.specs.Text.{text_of}
use Rattle.write_tables.specs.Answers.{judged_by, judged_of, bytes_of, measured_by, measure_of, answer_of, buffer_of, Answered}
use Rattle.write_tables.specs.declared.WriteFault.{WriteFault}
use Rattle.write_tables.specs.declared.WriteFault.TheVariants as fault
use Rattle.std.specs.Prelude.{Err, Ok, Result, ⊤}

module _ (d Q P T R : List ℕ) where
  -- what the tests that were made say, and those that weren't
  judged_so : {a b c : Bool} → rows_in d Q P T R ≡ a → bytes_fit d Q P ≡ b → links_fit d Q P T R ≡ c → judged_by a b c ≡ judged_of d Q P T R
  unfolding judged_of
  judged_so u v w = sym (λ i. judged_by (u i) (v i) (w i))

  pub is_outside : rows_in d Q P T R ≡ false → Err fault.Outside ≡ judged_of d Q P T R
  is_outside u = judged_so u refl refl

  module _ (u : rows_in d Q P T R ≡ true) where
    pub is_odd : bytes_fit d Q P ≡ false → Err fault.OddByte ≡ judged_of d Q P T R
    is_odd v = judged_so u v refl

    module _ (v : bytes_fit d Q P ≡ true) where
      pub is_unread : links_fit d Q P T R ≡ false → Err fault.Unread ≡ judged_of d Q P T R
      is_unread w = judged_so u v w

      pub is_fit : links_fit d Q P T R ≡ true → Ok tt ≡ judged_of d Q P T R
      is_fit w = judged_so u v w

  -- the place behind a text put anywhere is its length
  pub long : {b e : List ℕ} {r : ℕ} → Put b 0 (spelled (text_of d Q P T R)) r e → r ≡ min (length (bytes_of d Q P T R)) 18446744073709551615
  unfolding bytes_of
  long p = omega (arith, p.next)

  -- ---- how long it is

  pub measured : (j : Result ⊤ WriteFault) {r : Result ℕ WriteFault} → j ≡ judged_of d Q P T R → r ≡ measured_by (bytes_of d Q P T R) j → r ≡ measure_of d Q P T R
  unfolding measure_of
  measured j q e = e ∙ ap (measured_by (bytes_of d Q P T R)) q

  -- ---- the writer

  module _ (b : List ℕ) where
    answered : (j : Result ⊤ WriteFault) → j ≡ judged_of d Q P T R → {r : Result ℕ WriteFault} {e : List ℕ} → r ≡ answer_of (length b) (bytes_of d Q P T R) j → e ≡ buffer_of b (bytes_of d Q P T R) j → Answered b d Q P T R r e
    answered j q u v = record { answer_is = u ∙ ap (answer_of (length b) (bytes_of d Q P T R)) q; buffer_is = v ∙ ap (buffer_of b (bytes_of d Q P T R)) q }

    pub way_refused : {z : WriteFault} → Err z ≡ judged_of d Q P T R → Answered b d Q P T R (Err z) b
    way_refused {z} q = answered (Err z) q refl refl

    module _ (q : Ok tt ≡ judged_of d Q P T R) {n : ℕ} (l : n ≡ min (length (bytes_of d Q P T R)) 18446744073709551615) where
      pub way_room : length b ≤ 18446744073709551615 → length b < n → Answered b d Q P T R (Err fault.Room) b
      way_room s h =
          let c = lt-leb (length (bytes_of d Q P T R)) (length b) (omega arith) in
          answered (Ok tt) q (sym (ap (λ (x : Bool). cond x (Ok (length (bytes_of d Q P T R))) (Err fault.Room)) c))
          (sym (ap (λ (x : Bool). cond x (sets b 0 (bytes_of d Q P T R)) b) c))

      pub way_done : length b < 18446744073709551615 → n ≤ length b → {r : ℕ} {e : List ℕ} → Put b 0 (spelled (text_of d Q P T R)) r e → Answered b d Q P T R (Ok r) e
      unfolding bytes_of
      way_done s h {r} {e} p =
          let c = le-leb (length (bytes_of d Q P T R)) (length b) (omega (arith, p.short)) in
          let k : r ≡ length (bytes_of d Q P T R) = omega (arith, p.next, p.short) in
          answered (Ok tt) q (ap Ok k ∙ sym (ap (λ (x : Bool). cond x (Ok (length (bytes_of d Q P T R))) (Err fault.Room)) c))
          (p.bytes_of ∙ sym (ap (λ (x : Bool). cond x (sets b 0 (bytes_of d Q P T R)) b) c))
