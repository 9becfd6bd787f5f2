use Rattle.vx_run.specs.Scan.{scan}
use Rattle.vx_run.proofs.Shown.{same_batch}
use Rattle.vx_run.proofs.pages.scan_page.Goals as goal

pub scan_over-text-requires : goal.scan_over-text-requires
scan_over-text-requires c = same_batch c.in_ok-batch.batch scan.batch c.in_ok-batch.ensures
