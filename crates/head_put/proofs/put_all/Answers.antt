-- `head_put::put_all`: a part of the words that is copied over is those words stored.
use mathlib.Core.Path.{ap, ◌∙◌}
use native.Mathlib.Omega.{arith}
use Prim.Native.Nat.{◌+◌, ◌-◌}
use lib.ListN.{length}
use lib.Seq.{sets}
use Rattle.laws.proofs.Tables.{part_put}
use Rattle.head_put.proofs.put_all.Goals as goal

pub returns : goal.returns
returns c =
    let a = c.args.at in
    let n = length c.args.from.now in
    let e = c.copy_from_slice.ensures.after in
    part_put c.args.words.now a (a + n - a) c.copy_from_slice.new.self (omega (arith, ap length e)) (omega (arith, c.requires)) ∙ ap (sets c.args.words.now a) e
