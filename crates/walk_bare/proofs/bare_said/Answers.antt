-- `walk_bare::bare_said`: too short, or told.
use mathlib.Core.Path.{refl, ap, ◌∙◌}
use lib.Seq.{sets}
use Rattle.walk_bare.specs.Bare.{bare_numbers, BareTells}
use Rattle.walk_bare.specs.declared.Meter.{Meter}
use Rattle.walk_bare.proofs.bare_said.Goals as goal

pub returns-then-out-lt-BARE_OUT : goal.returns-then-out-lt-BARE_OUT
returns-then-out-lt-BARE_OUT c = BareTells.no_room c.if-out-lt-BARE_OUT.true refl refl

pub put6-requires : goal.put6-requires
put6-requires c = c.if-out-lt-BARE_OUT.false

pub returns : goal.returns
returns c = BareTells.told c.if-out-lt-BARE_OUT.false (ap (λ (x : Meter). x.number) c.meter_text-m.ensures) (c.put6.ensures ∙ ap (λ (x : Meter). sets c.args.out.now 0 (bare_numbers x)) c.meter_text-m.ensures)
