-- `head_fields::global_kind` meets its contract.
use Rattle.head_fields.proofs.Fields.{kind_past, above}
use Rattle.written.specs.Record.{global_fields}
use Rattle.head_fields.specs.Fields.{kind_at}
use native.Mathlib.Omega.{arith}
use mathlib.Core.Path.{sym}
use Rattle.head_fields.proofs.global_kind.Goals as goal

pub returns-in-0 : goal.returns-in-0
unfolding kind_at global_fields
returns-in-0 c = rw c.in-0.is

pub returns-in-1 : goal.returns-in-1
unfolding kind_at global_fields
returns-in-1 c = rw c.in-1.is

pub returns-in-2 : goal.returns-in-2
unfolding kind_at global_fields
returns-in-2 c = rw c.in-2.is

pub returns-in-3 : goal.returns-in-3
unfolding kind_at global_fields
returns-in-3 c = rw c.in-3.is

pub returns-in-4 : goal.returns-in-4
unfolding kind_at global_fields
returns-in-4 c = rw c.in-4.is

pub returns-in-5 : goal.returns-in-5
unfolding kind_at global_fields
returns-in-5 c = rw c.in-5.is

pub returns-in-6 : goal.returns-in-6
unfolding kind_at global_fields
returns-in-6 c = rw c.in-6.is

pub returns-in-7 : goal.returns-in-7
unfolding kind_at global_fields
returns-in-7 c = rw c.in-7.is

pub returns-in-8 : goal.returns-in-8
unfolding kind_at global_fields
returns-in-8 c = rw c.in-8.is

pub returns-in-9 : goal.returns-in-9
unfolding kind_at global_fields
returns-in-9 c = rw c.in-9.is

pub returns-in_default : goal.returns-in_default
unfolding global_fields
returns-in_default c = sym (kind_past global_fields _ (above 9 c.args.field (above 8 (c.args.field) (above 7 ((c.args.field)) (above 6 (((c.args.field))) (above 5 ((((c.args.field)))) (above 4 (((((c.args.field))))) (above 3 ((((((c.args.field)))))) (above 2 (((((((c.args.field))))))) (above 1 ((((((((c.args.field)))))))) (above 0 (((((((((c.args.field))))))))) (omega arith) c.in_default.in_default-own.rest.0.0.0.0.0.0.0.0.0.1) c.in_default.in_default-own.rest.0.0.0.0.0.0.0.0.1) c.in_default.in_default-own.rest.0.0.0.0.0.0.0.1) c.in_default.in_default-own.rest.0.0.0.0.0.0.1) c.in_default.in_default-own.rest.0.0.0.0.0.1) c.in_default.in_default-own.rest.0.0.0.0.1) c.in_default.in_default-own.rest.0.0.0.1) c.in_default.in_default-own.rest.0.0.1) c.in_default.in_default-own.rest.0.1) c.in_default.in_default-own.rest.1))
