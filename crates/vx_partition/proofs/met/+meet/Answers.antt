use Rattle.std.proofs.Common.{◌≡◌, ◌∙◌, false, None, rules, sym}
use Rattle.std.specs.Prelude.{is_some}
use Rattle.std.proofs.lemmas.Result.{on_ok_weaker}
use Rattle.vx_fn.specs.Views.{function_of}
use Rattle.vx_value.specs.Views.{type_of}
use Rattle.vx_tree.specs.declared.bound.BoundExpression.{the_lemmas}
use Rattle.vx_tree.specs.Trees.{scope, node}
use Rattle.vx_tree.specs.Views.{bound_of, bounds_of}
use Rattle.vx_partition.specs.Only.{only_annotation}
use Rattle.vx_partition.proofs.Meeting.{copied_put, meets_node, meets_scope, none_copied}
use Rattle.vx_partition.proofs.met.+meet.Goals as goal

pub meet-returns-in-Root : goal.meet-returns-in-Root
meet-returns-in-Root g t c =
    let quiet : is_some c.in_ok-only.only ≡ false = search rules in
    let none = none_copied c.in_ok-only.only quiet in
    let is : bound_of c.args.e.now ≡ scope (type_of c.in-Root.dtype) = search (rules, the_lemmas) in
    meets_scope (only_annotation c.args.annotations.now) (bound_of c.args.e.now) _ _ _ is (sym c.in_ok-only.ensures ∙ none) (copied_put _ _ c.in_ok-only.only None none c.in_ok-push.ensures.items)

pub meet-returns-in-Scalar : goal.meet-returns-in-Scalar
meet-returns-in-Scalar g t c =
    let quiet : is_some c.in_ok-only.only ≡ false = search rules in
    let none = none_copied c.in_ok-only.only quiet in
    let is : bound_of c.args.e.now ≡ node (type_of c.in-Scalar.dtype) (function_of c.in-Scalar.scalar_fn) (bounds_of c.as_slice.result.now) = search (rules, the_lemmas) in
    on_ok_weaker c.meet_below.result (λ below.
    meets_node (only_annotation c.args.annotations.now) (bound_of c.args.e.now) _ _ _ _ _ _ is (sym c.in_ok-only.ensures ∙ none) (copied_put _ _ c.in_ok-only.only None none c.in_ok-push.ensures.items) below)
    c.meet_below.ensures
