use Rattle.std.proofs.Common.{◌≡◌, ◌≢◌, inr, length, refl, ap, ◌∙◌, arith, rules}
use Rattle.vx_value.specs.Views.{type_of}
use Rattle.vx_tree.specs.declared.bound.BoundExpression.{the_lemmas}
use Rattle.vx_fn.specs.Views.{function_of}
use Rattle.vx_tree.specs.Nodes.{bound_children_of}
use Rattle.vx_tree.specs.Trees.{scope, node}
use Rattle.vx_tree.specs.Views.{bound_of, bounds_of}
use Rattle.vx_tree.proofs.Nodes.{bound_over-scope, number_refusal-scope, number_refusal-node, IfSome-err, none_of-bounds_of}
use Rattle.vx_tree.proofs.bound.BoundExpression.with_children.Goals as goal

pub returns-else-is_empty-clause-node : goal.returns-else-is_empty-clause-node
returns-else-is_empty-clause-node c =
    let is : bound_of c.args.self ≡ scope (type_of c.in-Root.dtype) = search (rules, the_lemmas) in
    let some : c.len.result ≢ 0 = grind arith in
    inr (bound_over-scope _ _ c.args.children.items _ is (grind arith) some)

pub returns-else-is_empty-clause-same : goal.returns-else-is_empty-clause-same
returns-else-is_empty-clause-same c =
    let is : bound_of c.args.self ≡ scope (type_of c.in-Root.dtype) = search (rules, the_lemmas) in
    let some : length c.args.children.items ≢ 0 = grind arith in
    λ _ own. absurd (some (none_of-bounds_of c.args.children.items (own ∙ ap bound_children_of is)))

pub returns-else-is_empty-clause-number : goal.returns-else-is_empty-clause-number
returns-else-is_empty-clause-number c =
    let is : bound_of c.args.self ≡ scope (type_of c.in-Root.dtype) = search (rules, the_lemmas) in
    let some : c.len.result ≢ 0 = grind arith in
    IfSome-err _ _ _ (number_refusal-scope _ _ c.args.children.items _ is (grind arith) some) refl

pub returns-else-is_empty-clause-root : goal.returns-else-is_empty-clause-root
returns-else-is_empty-clause-root c =
    let is : bound_of c.args.self ≡ scope (type_of c.in-Root.dtype) = search (rules, the_lemmas) in
    let some : c.len.result ≢ 0 = grind arith in
    λ _. bound_over-scope _ _ c.args.children.items _ is (grind arith) some

pub returns-in-Scalar-clause-number : goal.returns-in-Scalar-clause-number
returns-in-Scalar-clause-number c =
    let is : bound_of c.args.self ≡ node (type_of c.in-Scalar.dtype) (function_of c.in-Scalar.scalar_fn) (bounds_of c.in-Scalar.children.value.items) = search (rules, the_lemmas) in
    number_refusal-node _ _ _ _ c.args.children.items _ is c.try_new.ensures.mismatch
