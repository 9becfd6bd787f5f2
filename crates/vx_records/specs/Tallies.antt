-- How many chunks records are, and how many of these their statistics leave open.
use Rattle.std.specs.Prelude.{ℕ, min, Bool, true, false, List, length, map, count_by, if◌then◌else◌}
use Rattle.std.specs.Fork.{slice_chunk}
use Rattle.std.specs.Int.{div_ceil}
use Rattle.std.specs.List.{range_with_len}
use Rattle.vx_value.specs.Paths.{minimal_paths}
use Rattle.vx_value.specs.Types.{LogicalType}
use Rattle.vx_tree.specs.Trees.{BoundTree}
use Rattle.vx_rewrite_paths.specs.Asked.{referenced}
use Rattle.vx_prune_tree.specs.Reading.{facts_along}
use Rattle.vx_prune_tree.specs.Verdicts.{verdict_in}
use Rattle.vx_prune_tree.specs.declared.verdicts.Verdict.{Verdict}
use Rattle.vx_prune_tree.specs.declared.verdicts.Verdict.TheVariants.{NoRow, EveryRow, Unknown}
use Rattle.vx_records.specs.Records.{Record, rows}
use Rattle.vx_records.specs.declared.chunked.ChunkTally.{ChunkTally}

-- the records in chunks of n, of which the last may have fewer
abbrev pub chunks_of : ℕ → List Record → List (List Record)
chunks_of n rs = map (slice_chunk rs n) (range_with_len 0 (div_ceil (length rs) n))

-- what the statistics of a chunk tell of the tree: those of its rows of the type s, along the paths that the tree references
abbrev pub verdict_on : BoundTree → LogicalType → List Record → Verdict
verdict_on b s chunk = verdict_in (facts_along s (minimal_paths (referenced b)) (rows chunk)) b

-- whether a verdict leaves open in which rows the tree is true
abbrev pub is_open : Verdict → Bool
is_open Unknown = true
is_open NoRow = false
is_open EveryRow = false

-- so many chunks, of which so many were evaluated
abbrev pub tally : ℕ → ℕ → ChunkTally
tally chunks evaluated = record { chunks = chunks; evaluated = evaluated }

-- the tally of records in chunks of n: how many chunks they are, and how many of these are left open
abbrev pub tally_of : ℕ → BoundTree → LogicalType → List Record → ChunkTally
tally_of n b s rs = tally (length (chunks_of n rs)) (count_by (λ chunk. is_open (verdict_on b s chunk)) (chunks_of n rs))

-- the tally of a chunk of so many records with that verdict, of no chunk where there is no record
abbrev pub tally_by : ℕ → Verdict → ChunkTally
tally_by n verdict = tally (min 1 n) (if is_open verdict then 1 else 0)

-- the tally of these records as one chunk
abbrev pub chunk_tally : BoundTree → LogicalType → List Record → ChunkTally
chunk_tally b s chunk = tally_by (length chunk) (verdict_on b s chunk)
