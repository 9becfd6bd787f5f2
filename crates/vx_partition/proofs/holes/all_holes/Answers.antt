use Rattle.std.proofs.Common.{◌≡◌, map, rules, arith}
use Rattle.vx_tree.specs.Nodes.{bound_children_of}
use Rattle.vx_tree.specs.Trees.{node_type}
use Rattle.vx_tree.specs.Views.{bound_of}
use Rattle.vx_partition.specs.Packing.{typed_item, holes_of}
use Rattle.vx_partition.proofs.Taking.{holes_on}
use Rattle.vx_partition.proofs.holes.all_holes.Goals as goal

pub loop-i-preserved : goal.loop-i-preserved
loop-i-preserved c =
    let l = c.loop-i in
    let root = bound_of c.args.root.now in
    let a = c.index-names-i.result in
    let own = c.index-piece_names-i.result in
    let p = c.index-partitions-i.result in
    let v = c.in_ok-item_holes.field-0 in
    let taken : map bound_of v.items ≡ holes_of (typed_item (node_type (bound_of p)) a root) own (bound_children_of (bound_of p)) = search rules in
    holes_on root c.args.names.now c.args.piece_names.now c.args.partitions.now l.i a own p l.holes.items c.push.new.self.items v _
    (omega arith) (search rules) (omega arith) c.index-piece_names-i.is (omega arith) c.index-partitions-i.is c.in_ok-push.ensures.items taken l.invariant
