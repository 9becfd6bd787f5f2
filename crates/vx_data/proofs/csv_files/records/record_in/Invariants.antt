use Rattle.std.proofs.Common.{length}
use Rattle.vx_data.proofs.csv_files.records.record_in.Given as goal

abbrev pub decreases-ends : goal.decreases-ends
decreases-ends l = length l.record
