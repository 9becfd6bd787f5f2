use Rattle.std.proofs.Common.{◌≡◌, ◌∙◌, IfSome, None, ap, map, subst}
use Rattle.vx_value.proofs.Misfits.{no_misfit}
use Rattle.vx_value.specs.Columns.{first_misfit}
use Rattle.vx_value.specs.Paths.{minimal_paths}
use Rattle.vx_value.specs.Views.{type_of}
use Rattle.vx_array.specs.Rows.{lanes_rows}
use Rattle.vx_projection.specs.Kept.{kept}
use Rattle.vx_projection.specs.Wanted.{lent_paths}
use Rattle.vx_projection.proofs.Keeping.{kept_rows-fit}
use Rattle.vx_array_projection.proofs.read.read_referenced_array.Goals as goal

pub new-requires : goal.new-requires
new-requires c =
    let batch = c.args.batch.now in
    let paths = minimal_paths c.args.paths.now in
    let type : type_of c.in_ok-dtype-in-Some.dtype ≡ batch.type = c.in_ok-dtype-in-Some.ensures.cases ∙ c.dtype-in-Some.ensures in
    let found : lanes_rows c.in-Some.lanes ≡ map (kept (lent_paths c.in_ok-along.along.items) (type_of c.dtype.result.now)) (lanes_rows c.lanes.result.now) =
    subst (λ o. IfSome o (λ l. lanes_rows l ≡ map (kept (lent_paths c.in_ok-along.along.items) (type_of c.dtype.result.now)) (lanes_rows c.lanes.result.now))) c.in-Some.is c.in_ok-lanes.ensures in
    let rows : lanes_rows c.in-Some.lanes ≡ map (kept paths batch.type) batch.rows =
    found ∙ ap (λ ps. map (kept ps (type_of c.dtype.result.now)) (lanes_rows c.lanes.result.now)) c.in_ok-along.ensures ∙ ap (λ u. map (kept paths u) (lanes_rows c.lanes.result.now)) c.dtype.ensures ∙ ap (map (kept paths batch.type)) c.lanes.ensures.rows in
    let fit : first_misfit batch.type (map (kept paths batch.type) batch.rows) ≡ None = (no_misfit batch.type (map (kept paths batch.type) batch.rows)).1 (kept_rows-fit paths batch.type batch.rows ((no_misfit batch.type batch.rows).0 c.lanes.ensures.fit)) in
    ap (λ u. first_misfit u (lanes_rows c.in-Some.lanes)) type ∙ ap (first_misfit batch.type) rows ∙ fit
