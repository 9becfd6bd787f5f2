use Rattle.std.proofs.Common.{arith, ap, length}
use Rattle.vx_tree.specs.Trees.{node_types}
use Rattle.vx_tree.specs.Views.{bounds_of}
use Rattle.vx_eval.specs.Columns.{values_of}
use Rattle.vx_eval.proofs.Transposed.{alone_given, as_many}
use Rattle.vx_eval.proofs.trees.evaluate.Goals as goal

pub one-requires : goal.one-requires
one-requires c =
    let many = as_many (bounds_of c.from_ref.result.now) (values_of c.args.batch.now) c.in_ok-columns.columns.items c.in_ok-columns.ensures in
    omega (arith, many, ap (λ bs. length (node_types (bounds_of bs))) c.from_ref.ensures.value)

pub returns : goal.returns
returns c = alone_given c.args.b.now c.from_ref.result.now (values_of c.args.batch.now) c.in_ok-columns.columns.items c.one.result c.from_ref.ensures.value c.in_ok-columns.ensures c.one.ensures
