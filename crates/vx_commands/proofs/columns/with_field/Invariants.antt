use Rattle.std.proofs.Common.{◌≡◌, length}
use Rattle.vx_commands.proofs.columns.with_field.Given as goal

abbrev pub invariant-loop-i : goal.invariant-loop-i
invariant-loop-i l = length l.names.items ≡ length l.types.items
