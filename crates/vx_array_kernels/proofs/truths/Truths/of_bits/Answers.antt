use Rattle.vx_array_kernels.proofs.Bits.{rows_there, shown_truths}
use Rattle.vx_array_kernels.proofs.truths.Truths.of_bits.Goals as goal

pub valid_rows-requires : goal.valid_rows-requires
valid_rows-requires c = (rows_there c.args.validity.now c.args.bits.now c.args.count c.requires).1

pub first-requires : goal.first-requires
first-requires c = (rows_there c.args.validity.now c.args.bits.now c.args.count c.requires).0

pub invariant_of-result : goal.invariant_of-result
invariant_of-result c =
    (shown_truths c.args.validity.now c.args.bits.now c.in_ok-valid_rows.field-0 c.in_ok-first.field-0 c.args.count c.requires c.in_ok-valid_rows.ensures.long c.in_ok-valid_rows.ensures.each c.in_ok-first.ensures).0

pub returns : goal.returns
returns c =
    (shown_truths c.args.validity.now c.args.bits.now c.in_ok-valid_rows.field-0 c.in_ok-first.field-0 c.args.count c.requires c.in_ok-valid_rows.ensures.long c.in_ok-valid_rows.ensures.each c.in_ok-first.ensures).1
