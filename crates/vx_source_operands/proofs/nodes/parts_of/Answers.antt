use Rattle.std.proofs.Common.{rules, ◌≡◌, ◌∷◌, ◌++◌, [], arith}
use Rattle.vx_fn.specs.Views.{function_of}
use Rattle.vx_tree.specs.Views.{tree_of, trees_of}
use Rattle.vx_source_operands.proofs.Placing.{counted_more, kept_more, kept_node, ordered, trees_more}
use Rattle.vx_source_operands.proofs.nodes.parts_of.Goals as goal

pub loop-operand-preserved : goal.loop-operand-preserved
loop-operand-preserved c =
    let l = c.loop-operand in
    let o = c.in-Some.operand in
    let trees : c.push.new.self.items ≡ l.trees.items ++ o.tree.value ∷ [] = search rules in
    let places : c.push-in-loop-operand.new.self.items ≡ l.children.items ++ o.places ∷ [] = search rules in
    let span = ordered (tree_of o.tree.value) o.places o.placed in
    record {
      trees = trees_more l.trees.items c.push.new.self.items l.yielded o trees l.invariant.trees;
      counted = counted_more l.trees.items c.push.new.self.items o.tree.value l.highest c.max-highest.result o.height trees o.counted l.invariant.counted (omega arith);
      ordered = omega (arith, span);
      within = kept_more l.trees.items c.push.new.self.items l.children.items c.push-in-loop-operand.new.self.items o.tree.value o.places l.start l.end _ _ o.placed trees places (omega arith) (omega arith) (omega arith) (omega arith) l.invariant.within;
    }

pub invariant_of-result : goal.invariant_of-result
invariant_of-result c =
    let l = c.loop-operand in
    record {
      counted = l.invariant.counted;
      placed = kept_node (function_of c.args.scalar_fn) (trees_of l.trees.items) l.start l.end l.children l.invariant.ordered l.invariant.within;
    }
