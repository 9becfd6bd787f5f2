use Rattle.vx_tree.specs.Views.{bound_of}
use Rattle.vx_places.proofs.Evaluated.{applied_quiet}
use Rattle.vx_places.proofs.holes.column_or_values.Goals as goal

pub returns-in-None : goal.returns-in-None
returns-in-None c =
    applied_quiet (bound_of c.args.b.now) c.args.batch.now c.apply_bound.result c.requires.typed c.requires.over c.requires.seen.0 (c.apply_bound.ensures.meaning c.requires.over)
