use Rattle.std.proofs.Common.{◌≡◌, ◌∙◌, ◌-◌, ◌*◌, true, rules, arith, sym, ap}
use Rattle.vx_fn.specs.Views.{function_of}
use Rattle.vx_tree.specs.Views.{bound_of, bounds_of}
use Rattle.vx_value.specs.Views.{type_of}
use Rattle.vx_prune_bounds.specs.Views.{bounds_view}
use Rattle.vx_prune_tree.specs.Cases.{is_of_children}
use Rattle.vx_prune_tree.proofs.Proper.{along-proper, given-proper}
use Rattle.vx_prune_tree.proofs.Steps.{path-given, node-given, three-given, many-unknown, case-more, case-all}
use Rattle.vx_prune_tree.proofs.bounding.+put_bounds.Goals as goal

pub put_bounds_of-put_of_type-requires : goal.put_bounds_of-put_of_type-requires
put_bounds_of-put_of_type-requires t c =
    along-proper c.args.stats.now (bound_of c.args.e.now) (bounds_view c.put_along.new.known) (sym c.requires ∙ c.if-is_path.true) c.put_along.ensures

pub put_bounds_of-put_of_type-requires-in-Scalar : goal.put_bounds_of-put_of_type-requires-in-Scalar
put_bounds_of-put_of_type-requires-in-Scalar t c =
    given-proper c.args.stats.now (function_of c.in-Scalar.scalar_fn) (bounds_of c.as_slice.result.now) (bounds_view c.put_given.new.known) c.put_given.ensures

pub put_bounds_of-returns-then-is_path : goal.put_bounds_of-returns-then-is_path
put_bounds_of-returns-then-is_path t c =
    path-given c.args.stats.now (bound_of c.args.e.now) (type_of c.dtype.result.now) (bounds_view c.put_of_type.new.x) (bounds_view c.put_along.new.known)
    (sym c.requires ∙ c.if-is_path.true) c.dtype.ensures c.put_along.ensures c.put_of_type.ensures

pub put_bounds_of-returns : goal.put_bounds_of-returns
put_bounds_of-returns t c =
    node-given c.args.stats.now c.args.e.now c.in-Scalar.dtype c.in-Scalar.scalar_fn c.in-Scalar.children c.as_slice.result.now
    (bounds_view c.put_of_type-in-Scalar.new.x) (bounds_view c.put_given.new.known)
    c.in-Scalar.is (c.as_slice.ensures.value ∙ ap (λ v. v.items) c.deref.ensures) (sym c.requires ∙ c.if-is_path.false)
    c.put_given.ensures c.put_of_type-in-Scalar.ensures

pub put_given-returns-in-len3 : goal.put_given-returns-in-len3
put_given-returns-in-len3 t c =
    three-given c.args.stats.now (function_of c.args.f.now) c.args.children.now (bounds_view c.put_of_three_children.new.known) c.in-len3.len_at_least c.put_of_three_children.ensures

pub put_given-returns-in_default-children : goal.put_given-returns-in_default-children
put_given-returns-in_default-children t c =
    let fixed : is_of_children (function_of c.args.f.now) ≡ true = search rules in
    c.put_unknown-in_default-children.ensures ∙ sym (many-unknown c.args.stats.now (function_of c.args.f.now) c.args.children.now fixed c.in_default-children.len_at_least)

pub put_case-loop-pair-preserved : goal.put_case-loop-pair-preserved
put_case-loop-pair-preserved t c =
    case-more c.args.stats.now c.args.children.now (2 * (c.loop-pair.pair - 1)) (2 * c.loop-pair.pair) c.index-children-pair.result c.index-children-pair-in-loop-pair.result
    c.truths_of-condition.result (bounds_view c.put_of_pair.new.rest) (bounds_view c.put_bounds-in-loop-pair.new.known) (bounds_view c.loop-pair.known)
    (omega arith) (omega arith) c.index-children-pair.is c.index-children-pair-in-loop-pair.is c.truths_of-condition.ensures c.put_bounds-in-loop-pair.ensures c.loop-pair.invariant c.put_of_pair.ensures

pub put_case-returns : goal.put_case-returns
put_case-returns t c = case-all c.args.stats.now c.args.children.now c.loop-pair.pair (bounds_view c.loop-pair.known) (omega arith) c.loop-pair.invariant
