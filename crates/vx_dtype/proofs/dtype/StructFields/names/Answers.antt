use Rattle.std.proofs.Common.{arith}
use Rattle.vx_dtype.proofs.Pairs.{field_count_view, field_names_view}
use Rattle.vx_dtype.proofs.dtype.StructFields.names.Goals as goal

pub returns-clause-fields : goal.returns-clause-fields
returns-clause-fields c = field_names_view _ _

pub returns-clause-count : goal.returns-clause-count
returns-clause-count c = let e = field_count_view c.args.self.now.names c.args.self.now.types.value.items in omega arith
