use Rattle.std.proofs.Common.{map}
use Rattle.vx_fn.specs.Functions.{or_else}
use Rattle.vx_tree.specs.Views.{tree_of}
use Rattle.vx_build.proofs.Collecting.{collects_trees}
use Rattle.vx_build.proofs.collects.or_collect.Goals as goal

pub returns-clause-collected : goal.returns-clause-collected
returns-clause-collected c = collects_trees or_else (map tree_of c.args.items.items) c.collect.result c.collect.ensures.left
