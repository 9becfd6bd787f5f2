use Rattle.vx_tree.specs.Views.{tree_of}
use Rattle.vx_run.specs.Kleene.{kleene}
use Rattle.vx_run.proofs.Fusing.{unfused}
use Rattle.vx_run.proofs.Made.{made}
use Rattle.vx_run.proofs.Queried.{fused_query}
use Rattle.vx_run.proofs.fused.result.Goals as goal

pub returns : goal.returns
returns c =
    fused_query (tree_of c.in_ok-unfused.unfused) c.args.batch.now c.run_query-answer.result (made kleene.source _ c.in_ok-unfused.ensures) c.requires
    (c.run_query-answer.ensures.run unfused)
