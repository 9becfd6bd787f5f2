use Rattle.std.proofs.Common.{ap, sym}
use Rattle.std.specs.Prelude.{is_some}
use Rattle.vx_prune_tree.proofs.Found.{path_to-many}
use Rattle.vx_prune_tree.proofs.paths.+is_path.Goals as goal

pub is_only_path-returns-in_default-2 : goal.is_only_path-returns-in_default-2
is_only_path-returns-in_default-2 t c = sym (ap is_some (path_to-many c.args.children.now c.in_default.len_at_least))
