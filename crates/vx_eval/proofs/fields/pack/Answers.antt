use Rattle.std.proofs.Common.{arith, ◌∙◌, ◌≡◌, ◌≢◌, ap, refl}
use Rattle.vx_value.specs.Views.{value_of}
use Rattle.vx_value.specs.Fields.{data_of}
use Rattle.vx_value.specs.Types.{struct_of}
use Rattle.vx_fn.specs.Functions.{pack}
use Rattle.vx_eval.specs.Columns.{rows_views, row_at, each_row}
use Rattle.vx_eval_masks.proofs.Writing.{row_pushed}
use Rattle.vx_eval.proofs.Filled.{given}
use Rattle.vx_value.proofs.TakenRows.{row_still}
use Rattle.vx_eval.proofs.Conjoined.{have_row}
use Rattle.vx_eval.proofs.fields.pack.Goals as goal

pub take_row-requires : goal.take_row-requires
take_row-requires c = row_still _ _ _ c.loop-i.invariant.long (have_row c.args.count _ _ c.requires (omega arith))

pub loop-i-preserved : goal.loop-i-preserved
loop-i-preserved c = record {
  so_far = row_pushed value_of _ _ _ _ _ c.loop-i.invariant.so_far c.in_ok-push.ensures.items
      (c.in_ok-take_row.ensures.value ∙ ap (λ row. struct_of (data_of row)) (c.loop-i.invariant.left c.loop-i.i (omega arith)));
  left = λ k h. let apart : k ≢ c.loop-i.i = omega arith in c.in_ok-take_row.ensures.others k apart ∙ c.loop-i.invariant.left k (omega arith);
  long = c.in_ok-take_row.ensures.long ∙ c.loop-i.invariant.long;
}

pub returns : goal.returns
returns c = λ names n ts.
    let end : c.loop-i.i ≡ c.args.count = omega arith in
    given (pack names n) ts c.args.count (rows_views c.args.columns.items) _ refl
    (c.loop-i.invariant.so_far ∙ ap (λ m. each_row m (λ k. struct_of (data_of (row_at (rows_views c.args.columns.items) k)))) end)
