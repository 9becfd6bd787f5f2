use Rattle.std.specs.Prelude.{string_bytes}
use Rattle.vx_tree.specs.Views.{bound_of}
use Rattle.vx_run.proofs.Shown.{scan_shown}
use Rattle.vx_run.proofs.pages.scan_over.Goals as goal

pub returns : goal.returns
returns c = scan_shown string_bytes (bound_of c.in_ok-plan.plan.tree) c.args.batch.now c.scan_text-text.result c.requires c.in_ok-plan.ensures.tree c.scan_text-text.ensures
