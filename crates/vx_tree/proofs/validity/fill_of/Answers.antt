use Rattle.std.proofs.Common.{arith}
use Rattle.vx_tree.specs.Views.{bound_of}
use Rattle.vx_tree.proofs.Nullness.{fill_of_other}
use Rattle.vx_tree.proofs.validity.fill_of.Goals as goal

pub returns-in_default : goal.returns-in_default
returns-in_default c = fill_of_other bound_of _ c.args.children.now (omega arith)

pub returns-in_default-2 : goal.returns-in_default-2
returns-in_default-2 c = fill_of_other bound_of _ c.args.children.now (omega arith)
