use Rattle.std.proofs.Common.{◌≡◌, drop, map}
use Rattle.std.specs.Map.{lookup}
use Rattle.vx_tree.specs.Views.{bound_of}
use Rattle.vx_prune_tree.specs.Views.{entry_facts}
use Rattle.vx_prune_tree.specs.Bounding.{path_to}
use Rattle.vx_prune_tree.specs.Cases.{is_that_path}
use Rattle.vx_prune_tree.proofs.paths.entry_of.Given as goal

-- what is sought is found among the entries that are left
abbrev pub invariant-loop-entry : goal.invariant-loop-entry
invariant-loop-entry l =
    lookup (is_that_path (path_to (bound_of l.e))) (map entry_facts (drop l.entry-index l.entries)) ≡ lookup (is_that_path (path_to (bound_of l.e))) (map entry_facts l.entries)
