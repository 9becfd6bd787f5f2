-- The records read so far lead from the start to here, and are of the type.
use Rattle.std.proofs.Common.{◌≡◌, ◌-◌, ◌≤◌, length, map}
use Rattle.vx_value.specs.Fits.{IsBatch}
use Rattle.vx_records.specs.Reading.{Reads}
use Rattle.vx_records.specs.Records.{record_of, rows}
use Rattle.vx_records.proofs.read.read_chunk.Given as goal

abbrev pub invariant-loop-alloc : goal.invariant-loop-alloc
invariant-loop-alloc g l = (length l.read.items ≤ l.count) × Reads (g.R.RecordReader.leaves l.fn.records) (g.R.RecordReader.leaves l.records) (map record_of l.read.items) × (g.R.RecordReader.scope l.records ≡ g.R.RecordReader.scope l.fn.records)
    × IsBatch (g.R.RecordReader.scope l.fn.records) (rows (map record_of l.read.items))

abbrev pub decreases-loop-alloc : goal.decreases-loop-alloc
decreases-loop-alloc g l = l.count - length l.read.items
