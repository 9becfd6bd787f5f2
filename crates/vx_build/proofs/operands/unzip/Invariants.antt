use Rattle.std.proofs.Common.{◌≡◌}
use Rattle.vx_build.specs.Operands.{pack_names, pack_operands}
use Rattle.vx_build.proofs.operands.unzip.Given as goal

abbrev pub invariant-loop-name : goal.invariant-loop-name
invariant-loop-name g l = (l.names.items ≡ pack_names l.yielded) × (l.operands.items ≡ pack_operands l.yielded)
