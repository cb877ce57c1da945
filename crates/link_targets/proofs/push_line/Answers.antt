-- `link_targets::push_line`: two pushes, one after the other.
use mathlib.Core.Path.{ap}
use Prim.Native.Nat.{◌+◌, ◌*◌}
use native.Mathlib.Omega.{arith}
use lib.ListN.{length, length-append}
use Rattle.written.specs.Linking.{pdf_of}
use Rattle.link_targets.specs.Lines.{ref_at}
use Rattle.link_targets.proofs.Refs.{one_line, pushed_both}
use Rattle.link_targets.proofs.push_line.Goals as goal

pub push_pdf-mid-requires : goal.push_pdf-mid-requires
push_pdf-mid-requires c =
    let a = c.args in
    let w = a.work.now in
    let k = a.line in
    (omega (arith, c.requires.0), omega (arith, c.requires.1, ap length (one_line w k), length-append (pdf_of (ref_at w (6 * k + 1))) (pdf_of (ref_at w (6 * k + 3)))))

pub push_pdf-requires : goal.push_pdf-requires
push_pdf-requires c =
    let a = c.args in
    let w = a.work.now in
    let k = a.line in
    let p = c.push_pdf-mid in
    (omega (arith, c.requires.0), omega (arith, c.requires.1, p.ensures.1, p.auto, ap length (one_line w k), length-append (pdf_of (ref_at w (6 * k + 1))) (pdf_of (ref_at w (6 * k + 3)))))

pub returns : goal.returns
returns c =
    let a = c.args in
    let w = a.work.now in
    let k = a.line in
    pushed_both a.rows.now a.at (pdf_of (ref_at w (6 * k + 1))) (pdf_of (ref_at w (6 * k + 3))) (one_line w k) c.push_pdf-mid.ensures c.push_pdf.ensures
