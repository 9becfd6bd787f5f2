use Rattle.std.proofs.Common.{length}
use Rattle.vx_data.proofs.csv_files.branches.+grow.Given as goal

abbrev pub decreases-grow : goal.decreases-grow
decreases-grow l = length l.names.now
