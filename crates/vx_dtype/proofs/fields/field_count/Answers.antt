use Rattle.std.proofs.Common.{arith}
use Rattle.vx_dtype.proofs.Pairs.{field_count_view}
use Rattle.vx_dtype.proofs.fields.field_count.Goals as goal

pub returns-clause-count : goal.returns-clause-count
returns-clause-count c = let e = field_count_view c.args.names.now c.args.types.now in omega arith
