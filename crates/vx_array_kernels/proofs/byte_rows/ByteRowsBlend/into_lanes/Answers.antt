use Rattle.std.proofs.Common.{◌≡◌, ◌∙◌, ap}
use Rattle.vx_array.specs.Rows.{lanes_each, lanes_rows}
use Rattle.vx_array_kernels.specs.ByteRows.{picked_rows}
use Rattle.vx_array_kernels.proofs.Chosen.{found_all}
use Rattle.vx_array_kernels.proofs.byte_rows.ByteRowsBlend.into_lanes.Goals as goal

pub returns : goal.returns
returns g c =
    let rows = picked_rows (lanes_each c.as_slice.result.now) c.as_slice-2.result.now in
    let same : rows ≡ c.args.self = ap (λ ls. picked_rows (lanes_each ls) c.as_slice-2.result.now) c.as_slice.ensures.value ∙ ap (picked_rows (lanes_each c.self.inside.columns.items)) c.as_slice-2.ensures.value ∙ c.self.view_is in
    found_all c.gathered.result (λ out. lanes_rows out ≡ rows) (λ out. lanes_rows out ≡ c.args.self) (λ out is. is ∙ same) c.gathered.ensures
