-- `text_numbers::plus` meets its contract.
use mir.Syntax.{w64}
use mir.ValLaws.{to_z_pos}
use Rattle.text_numbers.proofs.plus.Goals as goal

pub returns : goal.returns
returns c = to_z_pos w64 c.args.m c.requires
