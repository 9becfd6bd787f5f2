use Rattle.std.proofs.Common.{◌≡◌, ◌∙◌, ap, refl, rules}
use Rattle.vx_fn.specs.Views.{function_of}
use Rattle.vx_tree.specs.Trees.{node, node_type}
use Rattle.vx_tree.specs.Views.{bound_of, bounds_of}
use Rattle.vx_rewrite_rule_laws.specs.Folding.{known_given}
use Rattle.vx_rewrite_folding.proofs.Shapes.{node_of, nothing_of_scope}
use Rattle.vx_rewrite_folding.proofs.given.may_know.Goals as goal

pub returns-in_default : goal.returns-in_default
returns-in_default c h = nothing_of_scope (bound_of c.args.node.now) (search rules)

pub returns-in-CaseWhen : goal.returns-in-CaseWhen
returns-in-CaseWhen c h =
    let b = bound_of c.args.node.now in
    let o = c.in-CaseWhen.field-0 in
    let seen : b ≡ node (node_type b) (function_of c.in-Some.scalar_fn.now) (bounds_of c.children-children.result.now) = node_of b _ _ _ c.in-Some.ensures refl c.children-children.ensures.trees in
    ap known_given seen ∙ ap (λ f. known_given (node (node_type b) f (bounds_of c.children-children.result.now))) (ap function_of c.in-CaseWhen.is) ∙ c.has_idle_pair.ensures h (node_type b) o.num_when_then_pairs o.has_else

pub returns-in_default-scalar_fn : goal.returns-in_default-scalar_fn
returns-in_default-scalar_fn c h =
    let b = bound_of c.args.node.now in
    let seen = node_of b _ _ _ c.in-Some.ensures c.dtype.ensures c.children-children.ensures.trees in
    ap known_given seen ∙ search rules
