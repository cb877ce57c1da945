-- `head_words_fit::span_fits`: a sum inside a number, without the sum.
use borrow.Author.Tests.{lt-leb}
use native.Mathlib.Omega.{arith}
use mathlib.Core.Path.{◌≡◌, sym}
use mathlib.Core.Bool.{false}
use Prim.Native.Nat.{ℕ, ◌+◌, ◌<◌}
use lib.Dec.{leb}
use Rattle.head_record_fits.specs.Fits.{span_fits}
use Rattle.head_record_fits.proofs.Fits.{sum-leb}
use Rattle.head_words_fit.proofs.span_fits.Goals as goal

over : (a b n : ℕ) → n < a → false ≡ leb (a + b) n
over a b n h = sym (lt-leb (a + b) n (omega arith))

pub returns-then-n-start : goal.returns-then-n-start
unfolding span_fits
returns-then-n-start c = over _ _ _ c.if-n-start.true

pub returns : goal.returns
unfolding span_fits
returns c = sum-leb _ _ _ c.if-n-start.false
