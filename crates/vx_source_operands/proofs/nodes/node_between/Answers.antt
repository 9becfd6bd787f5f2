use Rattle.std.proofs.Common.{rules, ◌≡◌, ◌∷◌, [], arith}
use Rattle.vx_fn.specs.Views.{function_of}
use Rattle.vx_source_operands.proofs.Placing.{counted_two, kept_two}
use Rattle.vx_source_operands.proofs.nodes.node_between.Goals as goal

pub invariant_of-parts : goal.invariant_of-parts
invariant_of-parts c =
    let l = c.args.lhs in
    let r = c.args.rhs in
    let trees : c.in_ok-from_array.field-0.items ≡ l.tree.value ∷ r.tree.value ∷ [] = search rules in
    let places : c.in_ok-from_array-2.field-0.items ≡ l.places ∷ r.places ∷ [] = search rules in
    record {
      counted = counted_two c.in_ok-from_array.field-0.items l.tree.value r.tree.value l.height r.height _ trees l.counted r.counted (omega arith);
      placed = kept_two (function_of c.args.scalar_fn) c.in_ok-from_array.field-0.items l.tree.value r.tree.value l.places r.places c.min-start.result c.max-end.result c.in_ok-from_array-2.field-0 trees places (omega arith) (omega arith) (omega arith) (omega arith) l.placed r.placed;
    }
