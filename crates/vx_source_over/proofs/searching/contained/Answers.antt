use Rattle.std.proofs.Common.{◌≡◌, get_or, subst, sym, rules}
use Rattle.vx_source_over.specs.Views.{EachTyped}
use Rattle.vx_source_over.proofs.Searched.{contained_node, second_typed}
use Rattle.vx_source_over.proofs.searching.contained.Goals as goal

pub returns-clause-tree : goal.returns-clause-tree
returns-clause-tree c = λ f.
    let x = c.swap_remove-operand.result in
    let second : x ≡ get_or c.args.below.items 1 x = search rules in
    contained_node f c.args.below.items c.in_ok-both.both.items c.in_ok-list.list x c.args.list c.node_over.result c.requires second c.in_ok-both.ensures.items c.in_ok-list.ensures.tree c.node_over.ensures.tree

pub returns-clause-typed : goal.returns-clause-typed
returns-clause-typed c = λ s typed.
    let x = c.swap_remove-operand.result in
    let second : x ≡ get_or c.args.below.items 1 x = search rules in
    c.node_over.ensures.typed s (subst (EachTyped s) (sym c.in_ok-both.ensures.items) (c.in_ok-list.ensures.typed s, (second_typed s c.args.below.items x c.requires second typed, tt)))
