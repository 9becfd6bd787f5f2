use Rattle.std.proofs.Common.{rules, ◌≡◌, ◌+◌, sym, ap, subst}
use Rattle.vx_fn.specs.Views.{function_of}
use Rattle.vx_tree.specs.Trees.{call}
use Rattle.vx_tree.specs.Views.{tree_of, trees_of}
use Rattle.vx_source_grammar.specs.Nodes.{height_of}
use Rattle.vx_source_operands.specs.PlacedNodes.{IsPlaced}
use Rattle.vx_source_operands.proofs.nodes.measured.Goals as goal

pub invariant_of-result : goal.invariant_of-result
invariant_of-result c =
    let parts = c.args.parts in
    let is : tree_of c.in_ok-scalar.field-0.value ≡ call (function_of parts.scalar_fn) (trees_of parts.trees.items) = search rules in
    record {
      counted = subst (λ t. parts.highest + 1 ≡ height_of t) (sym is) (ap (λ n. n + 1) parts.counted);
      placed = subst (λ t. ∥ IsPlaced t parts.places ∥₁) (sym is) parts.placed;
    }
