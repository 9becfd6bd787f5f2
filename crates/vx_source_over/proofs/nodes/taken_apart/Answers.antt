use Rattle.vx_source_over.proofs.NodeTypes.{trees_push, types_push}
use Rattle.vx_source_over.proofs.nodes.taken_apart.Goals as goal

pub loop-settled-preserved : goal.loop-settled-preserved
loop-settled-preserved c = record {
  trees = trees_push c.loop-settled.trees.items c.push.new.self.items c.loop-settled.yielded c.in-Some.settled c.in_ok-push.ensures.items c.loop-settled.invariant.trees;
  types = types_push c.loop-settled.types.items c.push_type.new.types.items c.loop-settled.yielded c.in-Some.settled c.in_ok-push_type.ensures c.loop-settled.invariant.types;
}
