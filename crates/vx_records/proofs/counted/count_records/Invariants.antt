-- Those of the records read so far of which the tree is true are counted.
use Rattle.std.proofs.Common.{◌≡◌, ◌+◌, ◌≤◌, List, length}
use Rattle.vx_tree.specs.Trees.{unbound}
use Rattle.vx_tree.specs.Views.{bound_of}
use Rattle.vx_records.specs.Reading.{Reads}
use Rattle.vx_records.specs.Records.{Record, kept_count}
use Rattle.vx_records.proofs.counted.count_records.Given as goal

abbrev pub invariant-loop-left : goal.invariant-loop-left
invariant-loop-left g l = (rs : List Record) × (length rs + l.left ≡ l.limit)
    × Reads (g.R.RecordReader.leaves l.fn.records) (g.R.RecordReader.leaves l.records) rs
    × (l.kept ≡ kept_count (unbound (bound_of l.tree)) (g.R.RecordReader.scope l.fn.records) rs)
    × (g.R.RecordReader.scope l.records ≡ g.R.RecordReader.scope l.fn.records)
    × (l.kept + l.left ≤ l.limit)

abbrev pub decreases-loop-left : goal.decreases-loop-left
decreases-loop-left g l = l.left
