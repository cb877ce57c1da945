-- `head_fields::position_kind` meets its contract.
use Rattle.head_fields.proofs.Fields.{kind_past, above}
use Rattle.written.specs.Record.{position_fields}
use Rattle.head_fields.specs.Fields.{kind_at}
use native.Mathlib.Omega.{arith}
use mathlib.Core.Path.{sym}
use Rattle.head_fields.proofs.position_kind.Goals as goal

pub returns-in-0 : goal.returns-in-0
unfolding kind_at position_fields
returns-in-0 c = rw c.in-0.is

pub returns-in-1 : goal.returns-in-1
unfolding kind_at position_fields
returns-in-1 c = rw c.in-1.is

pub returns-in_default : goal.returns-in_default
unfolding position_fields
returns-in_default c = sym (kind_past position_fields _ (above 1 c.args.field (above 0 (c.args.field) (omega arith) c.in_default.in_default-own.rest.0.1) c.in_default.in_default-own.rest.1))
