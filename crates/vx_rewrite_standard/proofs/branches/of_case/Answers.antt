use Rattle.vx_value.specs.Views.{type_of}
use Rattle.vx_tree.specs.Views.{bound_of, bounds_of}
use Rattle.vx_rewrite_standard.proofs.Answering.{behind_pair}
use Rattle.vx_rewrite_standard.proofs.branches.of_case.Goals as goal

pub without_first-requires : goal.without_first-requires
without_first-requires c =
    behind_pair (type_of c.args.dtype.now) c.args.options.num_when_then_pairs c.args.options.has_else (bounds_of c.args.children.now)
    (bound_of c.in-Some.condition.now) (bound_of c.in-Some.then.now) (bounds_of c.in-Some.rest.now) c.requires c.in-Some.ensures
