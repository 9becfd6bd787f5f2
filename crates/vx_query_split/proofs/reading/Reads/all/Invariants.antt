use Rattle.std.proofs.Common.{take}
use Rattle.vx_query_split.specs.Reads.{IsReadBy}
use Rattle.vx_query_split.proofs.reading.Reads.all.Given as goal

abbrev pub invariant-loop-name : goal.invariant-loop-name
invariant-loop-name l = IsReadBy l.reads (take l.name-index l.names)
