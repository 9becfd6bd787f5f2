use Rattle.std.proofs.Common.{refl, arith}
use Rattle.vx_tree.specs.Views.{tree_of}
use Rattle.vx_source_operands.specs.declared.operand.Places.TheViews.{out-Places}
use Rattle.vx_source_operands.proofs.Placing.{kept_wider}
use Rattle.vx_source_operands.proofs.nodes.enclosed.Goals as goal

pub invariant_of-result : goal.invariant_of-result
invariant_of-result c = record {
  counted = c.args.operand.counted;
  placed = kept_wider (tree_of c.args.operand.tree.value) c.args.operand.places c.min.result c.max.result (out-Places c.args.operand.places).children refl (omega arith) (omega arith) c.args.operand.placed;
}
