use Rattle.std.proofs.Common.{◌≡◌, sym, ◌∙◌, ap, rules}
use Rattle.vx_tree.specs.declared.bound.BoundExpression.{the_lemmas}
use Rattle.vx_tree.specs.Nodes.{bound_children_of, bound_count_of}
use Rattle.vx_tree.specs.Views.{bound_of, bounds_of}
use Rattle.vx_tree.proofs.Nodes.{bound_count_of-bounds_of}
use Rattle.vx_tree.proofs.bound.BoundExpression.children.Goals as goal

pub returns-in-Scalar-clause-count : goal.returns-in-Scalar-clause-count
returns-in-Scalar-clause-count c =
    let same : bounds_of c.as_slice.result.now ≡ bound_children_of (bound_of c.args.self.now) = search (rules, the_lemmas) in
    sym (bound_count_of-bounds_of c.as_slice.result.now) ∙ ap bound_count_of same
