use Rattle.std.specs.Cmp.Rules.{comparing}
use Rattle.std.proofs.Common.{rules}
use Rattle.vx_partition.proofs.FreeNames.{names_are_free}
use Rattle.vx_partition.proofs.laws.field_names_are_free.Goals as goal

pub returns : goal.returns
returns c = names_are_free (search (comparing, rules))
