use Rattle.std.proofs.Common.{◌≡◌, ◌-◌, ap, subst}
use Rattle.vx_value.specs.Returns.{ReturnsOrOom}
use Rattle.vx_value.specs.Views.{type_of}
use Rattle.vx_fn.specs.Functions.{case_when}
use Rattle.vx_tree.specs.Binding.{node_over}
use Rattle.vx_tree.specs.Views.{bound_of, bounds_of, bounds_from}
use Rattle.vx_rewrite_standard.proofs.Answering.{others_ok, some_answer}
use Rattle.vx_rewrite_standard.proofs.branches.others.Goals as goal

pub returns : goal.returns
returns c =
    let pairs = c.args.options.num_when_then_pairs in
    let has_else = c.args.options.has_else in
    let same : bounds_of c.in_ok-copies.field-0.items ≡ bounds_of c.args.rest.now = ap bounds_from c.in_ok-copies.ensures in
    some_answer c.try_new.result (node_over (case_when (pairs - 1) has_else) (bounds_of c.args.rest.now))
    (subst (λ bs. ReturnsOrOom bound_of c.try_new.result (node_over (case_when (pairs - 1) has_else) bs)) same c.try_new.ensures.node)
    (others_ok (type_of c.args.dtype.now) pairs has_else (bounds_of c.args.rest.now) c.requires.several c.requires.typed)
