-- What was read so far is left out, and the type of the rows stays.
use Rattle.std.proofs.Common.{◌≡◌}
use Rattle.vx_records.proofs.Skipped.{SkipsTo}
use Rattle.vx_records.proofs.skipping.SkippingRecordReader.read.Given as goal

abbrev pub invariant-refused : goal.invariant-refused
invariant-refused g l = (g.R.RecordReader.scope l.self.records ≡ g.R.RecordReader.scope l.fn.self.records)
    × SkipsTo (g.R.RecordReader.leaves l.fn.self.records) (g.R.RecordReader.leaves l.self.records)
