use Rattle.vx_value.specs.Views.{type_of}
use Rattle.vx_tree.specs.Views.{bounds_of}
use Rattle.vx_rewrite_standard.proofs.Answering.{else_or_null}
use Rattle.vx_rewrite_standard.proofs.branches.without_first.Goals as goal

pub last-requires : goal.last-requires
last-requires c = else_or_null (type_of c.args.dtype.now) c.args.options.num_when_then_pairs c.args.options.has_else (bounds_of c.args.rest.now) c.requires
