use Rattle.std.proofs.Common.{rules, ◌≡◌, ◌∷◌, ◌∙◌, [], sym, ap, arith}
use Rattle.vx_tree.specs.Views.{tree_of}
use Rattle.vx_source_grammar.specs.Nodes.{height_of}
use Rattle.vx_source_operands.specs.declared.operand.Places.TheViews.{roll-Places}
use Rattle.vx_source_operands.proofs.Placing.{counted_two, kept_again}
use Rattle.vx_source_operands.proofs.repeated.equal_again.Goals as goal

pub invariant_of-parts : goal.invariant_of-parts
invariant_of-parts c =
    let a = c.args.again.now in
    let o = c.args.item in
    let is : tree_of c.in_ok-clone.field-0 ≡ tree_of a.tree = search rules in
    let trees : c.in_ok-from_array.field-0.items ≡ c.in_ok-clone.field-0 ∷ o.tree.value ∷ [] = search rules in
    let places : c.in_ok-from_array-2.field-0.items ≡ roll-Places record { start = a.start; end = a.end; children = c.new.result } ∷ o.places ∷ [] = search rules in
    let none : c.new.result.items ≡ [] = search rules in
    record {
      counted = counted_two c.in_ok-from_array.field-0.items c.in_ok-clone.field-0 o.tree.value a.height o.height _ trees (a.counted ∙ ap height_of (sym is)) o.counted (omega arith);
      placed = kept_again c.in_ok-from_array.field-0.items c.in_ok-clone.field-0 o.tree.value a.start a.end c.new.result o.places c.min-start.result c.max-end.result c.in_ok-from_array-2.field-0 trees places none a.ordered (omega arith) (omega arith) (omega arith) (omega arith) o.placed;
    }
