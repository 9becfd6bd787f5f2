use Rattle.vx_value.specs.Paths.{minimal_paths}
use Rattle.vx_prune_tree.proofs.StatisticsAlong.{Along}
use Rattle.vx_prune_tree.proofs.chunk_stats.ChunkStats.of.Given as goal

abbrev pub invariant-loop-path : goal.invariant-loop-path
invariant-loop-path l = Along l.batch.type l.batch.rows (minimal_paths l.paths) l.path-iterator l.fields.items
