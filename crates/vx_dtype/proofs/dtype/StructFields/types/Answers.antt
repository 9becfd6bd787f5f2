use Rattle.std.proofs.Common.{arith}
use Rattle.vx_dtype.proofs.Pairs.{field_count_view}
use Rattle.vx_dtype.proofs.dtype.StructFields.types.Goals as goal

pub returns-clause-count : goal.returns-clause-count
returns-clause-count c =
    let e = field_count_view c.args.self.now.names c.args.self.now.types.value.items in
    rw (c.deref-2.ensures.value, c.deref.ensures) (omega arith)
