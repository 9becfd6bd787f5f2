use Rattle.vx_run.specs.Kleene.{kleene}
use Rattle.vx_run.proofs.Shown.{same_batch}
use Rattle.vx_run.proofs.pages.fused_page.Goals as goal

pub fused_over-text-requires : goal.fused_over-text-requires
fused_over-text-requires c = same_batch c.in_ok-batch.batch kleene.batch c.in_ok-batch.ensures
