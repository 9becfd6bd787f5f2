use Rattle.std.proofs.Common.{◌≡◌, length}
use Rattle.vx_data.proofs.csv_files.infer.+typed.Given as goal

abbrev pub invariant-struct_of-loop-branch : goal.invariant-struct_of-loop-branch
invariant-struct_of-loop-branch l = length l.names.items ≡ length l.types.items
