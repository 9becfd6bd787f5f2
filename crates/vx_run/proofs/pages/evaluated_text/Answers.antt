use Rattle.vx_tree.specs.Views.{bound_of}
use Rattle.vx_run.proofs.pages.evaluated_text.Goals as goal

pub bound_text-text-requires : goal.bound_text-text-requires
bound_text-text-requires c = c.in_ok-column.ensures.evaluation (bound_of c.args.bound.now) c.requires.bound
