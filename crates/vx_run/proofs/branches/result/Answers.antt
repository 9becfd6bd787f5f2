use Rattle.vx_tree.specs.Views.{tree_of}
use Rattle.vx_run.specs.Branches.{never_then_zero}
use Rattle.vx_run.proofs.Branching.{unfilled}
use Rattle.vx_run.proofs.Made.{made}
use Rattle.vx_run.proofs.Queried.{branches_query}
use Rattle.vx_run.proofs.branches.result.Goals as goal

pub returns : goal.returns
returns c =
    branches_query (tree_of c.in_ok-case.case) c.args.batch.now c.run_query-answer.result (made never_then_zero _ c.in_ok-case.ensures) c.requires
    (c.run_query-answer.ensures.run unfilled)
