use Rattle.std.proofs.Common.{rules, ◌≡◌, ◌∷◌, [], arith}
use Rattle.vx_fn.specs.Views.{function_of}
use Rattle.vx_source_operands.proofs.Placing.{counted_one, kept_one}
use Rattle.vx_source_operands.proofs.nodes.node_over.Goals as goal

pub invariant_of-parts : goal.invariant_of-parts
invariant_of-parts c =
    let o = c.args.operand in
    let trees : c.in_ok-from_array.field-0.items ≡ o.tree.value ∷ [] = search rules in
    let places : c.in_ok-from_array-2.field-0.items ≡ o.places ∷ [] = search rules in
    record {
      counted = counted_one c.in_ok-from_array.field-0.items o.tree.value o.height trees o.counted;
      placed = kept_one (function_of c.args.scalar_fn) c.in_ok-from_array.field-0.items o.tree.value o.places c.min-start.result c.max-end.result c.in_ok-from_array-2.field-0 trees places (omega arith) (omega arith) o.placed;
    }
