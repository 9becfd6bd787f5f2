use Rattle.std.proofs.Common.{◌≢◌, length, arith}
use Rattle.vx_source_over.proofs.NodeTypes.{literal_untyped}
use Rattle.vx_source_over.proofs.nodes.literal_dtype.Goals as goal

pub returns-else-is_empty : goal.returns-else-is_empty
returns-else-is_empty c = λ s.
    let some : length c.args.children.now ≢ 0 = grind arith in
    literal_untyped s c.args.children.now c.args.scalar.now.type c.args.scalar.now.value some
