use Rattle.vx_tree.specs.Views.{bound_of, tree_of}
use Rattle.vx_run.specs.Kleene.{kleene}
use Rattle.vx_run.proofs.Fusing.{found}
use Rattle.vx_run.proofs.Made.{made, bound_source}
use Rattle.vx_run.proofs.fused.tree.Goals as goal

pub returns : goal.returns
returns c =
    found (bound_of c.in_ok-bound.bound) c.find_between.result
    (bound_source kleene.source kleene.batch.type (bound_of c.in_ok-bound.bound) (tree_of c.in_ok-unfused.unfused) _ c.in_ok-bound.ensures.well_typed c.in_ok-bound.ensures.over.0 c.in_ok-bound.ensures.over.1 (made kleene.source _ c.in_ok-unfused.ensures) c.requires)
    c.find_between.ensures.merges c.find_between.ensures.fused c.find_between.ensures.memory
