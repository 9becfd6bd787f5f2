use Rattle.std.proofs.Common.{rules, ◌≡◌, sym, subst}
use Rattle.vx_tree.specs.Views.{tree_of}
use Rattle.vx_source_grammar.specs.Nodes.{height_of}
use Rattle.vx_source_operands.proofs.Placing.{ordered}
use Rattle.vx_source_operands.proofs.repeated.repeated.Goals as goal

pub invariant_of-result : goal.invariant_of-result
invariant_of-result c =
    let o = c.args.operand.now in
    let is : tree_of c.in_ok-clone.field-0 ≡ tree_of o.tree.value = search rules in
    record {
      counted = subst (λ t. o.height ≡ height_of t) (sym is) o.counted;
      ordered = ordered (tree_of o.tree.value) o.places o.placed;
    }
