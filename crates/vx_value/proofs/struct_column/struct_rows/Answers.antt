use Rattle.std.proofs.Common.{arith, ◌∙◌, ◌≢◌, ap}
use Rattle.vx_value.specs.Fields.{data_of}
use Rattle.vx_value.specs.Types.{struct_of}
use Rattle.vx_value.proofs.StructRows.{struct_pushed}
use Rattle.vx_value.proofs.TakenRows.{row_still}
use Rattle.vx_value.proofs.struct_column.struct_rows.Goals as goal

pub take_row-requires : goal.take_row-requires
take_row-requires c = row_still _ _ _ c.loop-i.invariant.long (c.requires c.loop-i.i (omega arith))

pub loop-i-preserved : goal.loop-i-preserved
loop-i-preserved c = record {
  so_far = struct_pushed _ _ _ _ _ c.loop-i.invariant.so_far c.in_ok-push.ensures.items
      (c.in_ok-take_row.ensures.value ∙ ap (λ row. struct_of (data_of row)) (c.loop-i.invariant.left c.loop-i.i (omega arith)));
  left = λ k h. let apart : k ≢ c.loop-i.i = omega arith in c.in_ok-take_row.ensures.others k apart ∙ c.loop-i.invariant.left k (omega arith);
  long = c.in_ok-take_row.ensures.long ∙ c.loop-i.invariant.long;
}
