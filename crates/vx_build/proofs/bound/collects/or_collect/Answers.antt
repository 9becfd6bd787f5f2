use Rattle.std.proofs.Common.{map}
use Rattle.vx_fn.specs.Functions.{or_else}
use Rattle.vx_tree.specs.Views.{bound_of}
use Rattle.vx_build.proofs.Collecting.{collects_bound}
use Rattle.vx_build.proofs.bound.collects.or_collect.Goals as goal

pub returns-clause-collected : goal.returns-clause-collected
returns-clause-collected c = collects_bound or_else (map bound_of c.args.items.items) c.collect.result c.collect.ensures.left
