use Rattle.vx_value.specs.Views.{type_of}
use Rattle.vx_run.specs.Scan.{scan}
use Rattle.vx_run.proofs.Made.{made}
use Rattle.vx_run.proofs.Scanned.{planned_tree}
use Rattle.vx_run.proofs.scan.planned.Goals as goal

pub returns-clause-tree : goal.returns-clause-tree
returns-clause-tree c = planned_tree _ (type_of c.args.scope.now) c.plan.result (made scan.source _ c.in_ok-conditions.ensures) c.requires c.plan.ensures.planned
