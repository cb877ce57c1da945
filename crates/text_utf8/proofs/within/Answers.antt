-- `text_utf8::within` meets its contract.
use mathlib.Core.Bool.{and-true}
use borrow.Author.Tests.{le-leb, lt-leb}
use lib.ListN.{drop_of_length-le}
use lib.Seq.{drop-cons}
use Rattle.text_utf8.specs.Widths.{starts}
use Rattle.text_utf8.proofs.within.Goals as goal

pub returns-then-lo-b : goal.returns-then-lo-b
unfolding starts
returns-then-lo-b c = let s = c.args in
    simp (drop-cons s.s.now s.i 0 c.if-i-s.true, le-leb _ _ c.if-lo-b.true, and-true)

pub returns-else-lo-b : goal.returns-else-lo-b
unfolding starts
returns-else-lo-b c = let s = c.args in
    simp (drop-cons s.s.now s.i 0 c.if-i-s.true, lt-leb _ _ c.if-lo-b.false)

pub returns-else-i-s : goal.returns-else-i-s
unfolding starts
returns-else-i-s c = simp (drop_of_length-le c.args.s.now c.if-i-s.false)
