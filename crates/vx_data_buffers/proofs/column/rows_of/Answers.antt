use Rattle.std.proofs.Common.{◌≡◌, ◌+◌, map, sym, subst, rules, arith}
use Rattle.std.specs.Prelude.{Err}
use Rattle.vx_value.specs.Views.{type_of, value_of}
use Rattle.std.specs.Global.{Vec}
use Rattle.vx_value.specs.declared.value.Value.{Value}
use Rattle.vx_data_buffers.specs.Results.{BufferReturnsOrOom, each_from}
use Rattle.vx_data_buffers.specs.Bytes.{bytes_in}
use Rattle.vx_data_buffers.specs.Rows.{row_of}
use Rattle.vx_data_buffers.proofs.Grown.{fit_after}
use Rattle.vx_data_buffers.proofs.Runs.{pushed, refused}
use Rattle.vx_data_buffers.proofs.column.rows_of.Goals as goal

pub loop-row-preserved : goal.loop-row-preserved
loop-row-preserved c = record {
  rows = pushed (row_of (bytes_in c.args.buffers.now) (type_of c.args.t.now)) 0 c.loop-row.row (c.loop-row.row + 1) c.loop-row.row c.loop-row.values.items c.push.new.self.items c.in_ok-row_of.field-0
      (omega arith) (omega arith) c.loop-row.invariant.rows c.in_ok-row_of.ensures.value c.in_ok-push.ensures.items;
  fit = fit_after (type_of c.args.t.now) c.loop-row.values.items c.push.new.self.items c.in_ok-row_of.field-0 c.in_ok-push.ensures.items c.loop-row.invariant.fit c.in_ok-row_of.ensures.fits;
}

pub returns-in_err-row_of-clause-rows : goal.returns-in_err-row_of-clause-rows
returns-in_err-row_of-clause-rows c =
    let f = row_of (bytes_in c.args.buffers.now) (type_of c.args.t.now) in
    let failed : c.from_residual.result ≡ Err c.in_err-row_of.field-0.0 = search rules in
    subst (λ r. BufferReturnsOrOom (λ (vs : Vec Value). map value_of vs.items) r (each_from f 0 c.args.rows)) (sym failed)
    (refused f 0 c.loop-row.row c.args.rows c.loop-row.row _ _ _ (omega arith) (omega arith) c.loop-row.invariant.rows c.in_err-row_of.ensures.value)
