use Rattle.std.proofs.Common.{ap, arith}
use Rattle.vx_value.specs.Views.{type_of}
use Rattle.vx_tree.specs.Nodes.{sizes_of}
use Rattle.vx_tree.proofs.Bindings.{next, end}
use Rattle.vx_tree.proofs.Seen.{item_smaller, sizes_of-children}
use Rattle.vx_tree.proofs.bind.+bind.Goals as goal

pub bind_all-push_bound-requires : goal.bind_all-push_bound-requires
bind_all-push_bound-requires g t c κs within =
    let below = item_smaller g.T.TreeNode.tree c.args.trees.now c.loop-i.i c.index-trees-i.result (omega arith) c.index-trees-i.is in
    (omega (arith, below, c.decreases), within)

pub push_bound-bind_all-requires : goal.push_bound-bind_all-requires
push_bound-bind_all-requires g t c κs within =
    let same = ap sizes_of c.node_children-children.ensures in
    (omega (arith, sizes_of-children (g.T.TreeNode.tree c.args.tree.now), same, c.decreases), within)

pub bind_all-loop-i-preserved : goal.bind_all-loop-i-preserved
bind_all-loop-i-preserved g t c =
    let pushed = c.in_default.ensures.bound in (
      next g.T.TreeNode.tree c.args.trees.now (type_of c.args.scope.now) c.loop-i.nodes.items c.push_bound.new.nodes.items c.loop-i.i c.index-trees-i.result pushed.0 _
          (omega arith) c.index-trees-i.is pushed.1 pushed.2 c.loop-i.invariant.0,
      c.in_default.ensures.typed c.loop-i.invariant.1,
    )

pub bind_all-returns-clause-bound : goal.bind_all-returns-clause-bound
bind_all-returns-clause-bound g t c = end g.T.TreeNode.tree c.args.trees.now (type_of c.args.scope.now) c.loop-i.nodes.items c.loop-i.i _ (omega arith) c.loop-i.invariant.0
