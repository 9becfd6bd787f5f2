use Rattle.std.proofs.Common.{subst}
use Rattle.vx_tree.specs.Views.{bound_of}
use Rattle.vx_value.specs.Paths.{minimal_paths}
use Rattle.vx_value.specs.Views.{type_of}
use Rattle.vx_projection.specs.Readers.{AreJust}
use Rattle.vx_prune.specs.Selected.{Selected}
use Rattle.vx_array_chunks.proofs.scanned.scan_chunk.Goals as goal

-- src/scanned.rt:25:5
pub select_rows_array-requires : goal.select_rows_array-requires
select_rows_array-requires g c =
    record { allowed = λ same truth unsure. subst (λ paths. AreJust (g.C.Reader.ArrayReader.allowed c.reader-reader.result) (minimal_paths paths)) c.paths.ensures c.reader-reader.ensures.allowed }

pub returns : goal.returns
returns g c =
    let s = type_of c.args.plan.now.scope in
    let u = bound_of c.args.plan.now.tree in
    let found = c.select_rows_array.ensures in
    let r = c.select_rows_array.result in
    let read : Selected s u c.stats.result.now (g.C.Reader.ArrayReader.batch c.reader-reader.result) r =
    record { mismatch = found.mismatch; not_bool = found.not_bool; rows = found.rows; faults = found.faults; sure = found.sure } in
    let here : Selected s u c.stats.result.now (g.C.Chunk.batch c.args.chunk.now) r = subst (λ batch. Selected s u c.stats.result.now batch r) c.reader-reader.ensures.batch read in
    subst (λ known. Selected s u known (g.C.Chunk.batch c.args.chunk.now) r) c.stats.ensures here
