use Rattle.vx_run.specs.Coalesce.{coalesce}
use Rattle.vx_run.proofs.Shown.{same_batch}
use Rattle.vx_run.proofs.pages.branches_page.Goals as goal

pub branches_over-text-requires : goal.branches_over-text-requires
branches_over-text-requires c = same_batch c.in_ok-batch.batch coalesce.batch c.in_ok-batch.ensures
