use Rattle.std.proofs.Common.{◌≡◌}
use Rattle.vx_value.proofs.Misfits.{no_misfit}
use Rattle.vx_value.specs.Fits.{IsBatch}
use Rattle.vx_value.specs.Paths.{minimal_paths}
use Rattle.vx_projection.specs.Kept.{kept_batch}
use Rattle.vx_array_scan.proofs.Described.{read_describes, read_of_kept}
use Rattle.vx_array_scan.proofs.statistics.stats_of_array.Goals as goal

pub returns-clause-read : goal.returns-clause-read
returns-clause-read c =
    let batch = c.args.batch.now in
    let paths = minimal_paths c.args.paths.now in
    let fit : IsBatch batch.type batch.rows = (no_misfit batch.type batch.rows).0 c.lanes.ensures.fit in
    let is : kept_batch paths batch ≡ c.in_ok-column.column = cc (c.in_ok-read.ensures, c.in_ok-column.ensures) in
    read_of_kept paths batch c.in_ok-column.column c.of.result fit is c.of.ensures.read

pub returns-clause-describes : goal.returns-clause-describes
returns-clause-describes c =
    let batch = c.args.batch.now in
    let paths = minimal_paths c.args.paths.now in
    let fit : IsBatch batch.type batch.rows = (no_misfit batch.type batch.rows).0 c.lanes.ensures.fit in
    let is : kept_batch paths batch ≡ c.in_ok-column.column = cc (c.in_ok-read.ensures, c.in_ok-column.ensures) in
    read_describes paths batch c.of.result (read_of_kept paths batch c.in_ok-column.column c.of.result fit is c.of.ensures.read)
