use Rattle.std.proofs.Common.{subst}
use Rattle.vx_fn.specs.Functions.{case_when}
use Rattle.vx_tree.specs.Trees.{node, WellTyped}
use Rattle.vx_tree.specs.Views.{bound_of, bounds_of}
use Rattle.vx_rewrite_standard.proofs.Answering.{two_and_rest}
use Rattle.vx_rewrite_folding.proofs.given.of_case.Goals as goal

pub case_given-requires : goal.case_given-requires
case_given-requires c = (
  c.requires.0,
  subst (λ xs. WellTyped (node c.requires.0 (case_when c.args.options.num_when_then_pairs c.args.options.has_else) xs))
      (two_and_rest (bounds_of c.args.children.now) (bound_of c.in-Some.condition.now) (bound_of c.in-Some.then.now) (bounds_of c.in-Some.rest.now) c.in-Some.ensures) c.requires.1,
)
