use Rattle.std.proofs.Common.{ap, arith}
use Rattle.vx_value.specs.Views.{type_of}
use Rattle.vx_tree.specs.Nodes.{sizes_of}
use Rattle.vx_tree.specs.Views.{tree_of}
use Rattle.vx_tree.proofs.Seen.{item_smaller, sizes_of-children}
use Rattle.vx_tree.proofs.Typings.{next, end}
use Rattle.vx_tree.proofs.typing.+typing.Goals as goal

pub push_type-type_all-requires : goal.push_type-type_all-requires
push_type-type_all-requires t c =
    let below = sizes_of-children (tree_of c.args.e.now) in
    let those = ap sizes_of c.children.ensures.trees in
    (omega (arith, below, those, c.decreases), tt)

pub type_all-push_type-requires : goal.type_all-push_type-requires
type_all-push_type-requires t c =
    let below = item_smaller tree_of c.args.es.now c.loop-i.i c.index-es-i.result (omega arith) c.index-es-i.is in
    (omega (arith, below, c.decreases), tt)

pub type_all-loop-i-preserved : goal.type_all-loop-i-preserved
type_all-loop-i-preserved t c =
    let pushed = c.in_ok-push_type.ensures in
    next c.args.es.now (type_of c.args.scope.now) c.loop-i.types.items c.push_type.new.types.items c.loop-i.i c.index-es-i.result pushed.0 _
    (omega arith) c.index-es-i.is pushed.1 pushed.2 c.loop-i.invariant

pub type_all-returns : goal.type_all-returns
type_all-returns t c = end c.args.es.now (type_of c.args.scope.now) c.loop-i.types.items c.loop-i.i _ (omega arith) c.loop-i.invariant
