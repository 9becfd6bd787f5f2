-- The heading and the lines of the records read so far that are kept are written, unless the tree faults on some of them, and their chunks are counted; as long as more may be read each of these is full.
use Rattle.std.proofs.Common.{◌≡◌, ◌≤◌, ◌<◌, ◌+◌, ◌*◌, ◌++◌, List, length}
use Rattle.std.specs.Io.KnownBytes.{Appends}
use Rattle.std.specs.NonZero.{non_zero_usize_get}
use Rattle.vx_tree.specs.Trees.{unbound}
use Rattle.vx_tree.specs.Views.{bound_of}
use Rattle.vx_records.specs.Outcomes.{UnlessFaulting}
use Rattle.vx_records.specs.Reading.{Reads}
use Rattle.vx_records.specs.Records.{Record, kept_lines}
use Rattle.vx_records.specs.Tallies.{tally_of}
use Rattle.vx_records.proofs.chunked.filter_chunks.Given as goal

abbrev pub invariant-loop-left : goal.invariant-loop-left
invariant-loop-left g l = (rs : List Record) × (length rs + l.left ≡ l.chunking.limit)
    × Reads (g.R.RecordReader.leaves l.fn.records) (g.R.RecordReader.leaves l.records) rs
    × UnlessFaulting (non_zero_usize_get l.chunking.size) (bound_of l.tree) (λ rs. Appends (g.W.Write.contents l.fn.out) (g.W.Write.contents l.out) (g.R.RecordReader.head l.fn.records ++ kept_lines (unbound (bound_of l.tree)) (g.R.RecordReader.scope l.fn.records) rs)) rs
    × (g.R.RecordReader.scope l.records ≡ g.R.RecordReader.scope l.fn.records)
    × (l.tally ≡ tally_of (non_zero_usize_get l.chunking.size) (bound_of l.tree) (g.R.RecordReader.scope l.fn.records) rs) × (0 < l.left → length rs ≡ l.tally.chunks * non_zero_usize_get l.chunking.size)
    × (l.tally.evaluated ≤ l.tally.chunks) × (l.tally.chunks + l.left ≤ l.chunking.limit)

abbrev pub decreases-loop-left : goal.decreases-loop-left
decreases-loop-left g l = l.left
