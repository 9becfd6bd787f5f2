-- What is written of the records read so far is written.
use Rattle.std.proofs.Common.{◌≡◌, ◌+◌, List, length}
use Rattle.vx_records.specs.Reading.{Reads}
use Rattle.vx_records.specs.Records.{Record}
use Rattle.vx_records.proofs.portions.in_portions.Given as goal

abbrev pub invariant-loop-left : goal.invariant-loop-left
invariant-loop-left g l = (rs : List Record) × (length rs + l.left ≡ l.limit)
    × Reads (g.R.RecordReader.leaves l.fn.records) (g.R.RecordReader.leaves l.records) rs
    × g.P.Portion.writes l.portion (g.R.RecordReader.scope l.fn.records) l.fn.out l.out rs
    × (g.R.RecordReader.scope l.records ≡ g.R.RecordReader.scope l.fn.records)

abbrev pub decreases-loop-left : goal.decreases-loop-left
decreases-loop-left g l = l.left
