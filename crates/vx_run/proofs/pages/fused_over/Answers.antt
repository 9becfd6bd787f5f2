use Rattle.std.specs.Prelude.{string_bytes}
use Rattle.vx_tree.specs.Views.{bound_of}
use Rattle.vx_run.proofs.Shown.{fused_shown}
use Rattle.vx_run.proofs.pages.fused_over.Goals as goal

pub returns : goal.returns
returns c = fused_shown string_bytes (bound_of c.in_ok-tree.tree) c.args.batch.now c.fused_text-text.result c.requires c.in_ok-tree.ensures c.fused_text-text.ensures
