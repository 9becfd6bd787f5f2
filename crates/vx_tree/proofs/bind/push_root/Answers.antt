use Rattle.std.proofs.Common.{◌≡◌, sym, subst, rules}
use Rattle.vx_value.specs.Views.{type_of}
use Rattle.vx_tree.specs.declared.bound.BoundExpression.{Root, the_lemmas}
use Rattle.vx_tree.specs.Trees.{scope, WellTyped}
use Rattle.vx_tree.specs.Views.{bound_of}
use Rattle.vx_tree.proofs.Bindings.{well_typed_push}
use Rattle.vx_tree.proofs.bind.push_root.Goals as goal

pub returns-clause-typed : goal.returns-clause-typed
returns-clause-typed c =
    let is : bound_of (Root c.in_ok-clone.field-0) ≡ scope (type_of c.in_ok-clone.field-0) = search (rules, the_lemmas) in
    λ so_far. well_typed_push c.args.nodes.now.items c.push.new.self.items _ c.in_ok-push.ensures.items so_far (subst WellTyped (sym is) tt)
