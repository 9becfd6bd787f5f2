use Rattle.std.proofs.Common.{◌∙◌, ap, refl, rules, subst, sym}
use Rattle.std.specs.Prelude.{Ok}
use Rattle.std.specs.Option.{option_map}
use Rattle.vx_value.specs.Returns.{ReturnsOrOom}
use Rattle.vx_fn.specs.Views.{function_of}
use Rattle.vx_tree.specs.Trees.{node, node_type, WellTyped}
use Rattle.vx_tree.specs.Views.{bound_of, bounds_of}
use Rattle.vx_rewrite_rule_laws.specs.Folding.{known_given}
use Rattle.vx_rewrite_folding.proofs.Nullable.{is_made}
use Rattle.vx_rewrite_folding.proofs.Shapes.{node_of, nothing_of_scope}
use Rattle.vx_rewrite_folding.proofs.given.known_given.Goals as goal

pub returns-in_default : goal.returns-in_default
returns-in_default c = ap Ok (nothing_of_scope (bound_of c.args.node.now) (search rules))

pub of_case-requires : goal.of_case-requires
of_case-requires c =
    let b = bound_of c.args.node.now in
    let seen = node_of b (node_type b) _ _ c.in-Some.ensures refl c.children-children.ensures.trees in
    (node_type b, subst WellTyped (seen ∙ ap (λ f. node (node_type b) f (bounds_of c.children-children.result.now)) (ap function_of c.in-CaseWhen.is)) c.requires.typed)

pub returns-in-CaseWhen : goal.returns-in-CaseWhen
returns-in-CaseWhen c =
    let b = bound_of c.args.node.now in
    let seen = node_of b (node_type b) _ _ c.in-Some.ensures refl c.children-children.ensures.trees in
    subst (λ u. ReturnsOrOom (option_map bound_of) c.of_case.result (Ok (known_given u))) (sym (seen ∙ ap (λ f. node (node_type b) f (bounds_of c.children-children.result.now)) (ap function_of c.in-CaseWhen.is))) (c.of_case.ensures (node_type b))

pub known_tree-requires : goal.known_tree-requires
known_tree-requires c =
    let b = bound_of c.args.node.now in
    let seen = node_of b _ _ _ c.in-Some.ensures c.dtype.ensures c.children-children.ensures.trees in
    is_made b c.in-Some-known_of.known c.requires.typed c.requires.no_constant (ap known_given seen ∙ sym c.in-Some-known_of.ensures)
