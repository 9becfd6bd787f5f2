use Rattle.std.proofs.Common.{◌∙◌, sym, ap, arith, length}
use Rattle.std.proofs.lemmas.List.{length-take}
use Rattle.vx_value.specs.Views.{value_of}
use Rattle.vx_fn.specs.Values.{is_true}
use Rattle.vx_array.specs.Rows.{lanes_rows}
use Rattle.vx_array.proofs.Held.{rows-Bools, rows-Same}
use Rattle.vx_array_kernels.proofs.Bits.{rows_there}
use Rattle.vx_array_kernels.proofs.Where.{same_mask, truth_mask}
use Rattle.vx_array_kernels.proofs.masks.mask_of.Goals as goal

pub valid_rows-requires : goal.valid_rows-requires
valid_rows-requires c =
    (rows_there c.in-Bools.validity c.in-Bools.bits c.args.count (sym (ap length (ap lanes_rows c.in-Bools.is ∙ rows-Bools c.in-Bools.bits c.in-Bools.validity)) ∙ c.requires)).1

pub first-requires : goal.first-requires
first-requires c =
    (rows_there c.in-Bools.validity c.in-Bools.bits c.args.count (sym (ap length (ap lanes_rows c.in-Bools.is ∙ rows-Bools c.in-Bools.bits c.in-Bools.validity)) ∙ c.requires)).0

pub and_with-requires : goal.and_with-requires
and_with-requires c =
    let there = (rows_there c.in-Bools.validity c.in-Bools.bits c.args.count (sym (ap length (ap lanes_rows c.in-Bools.is ∙ rows-Bools c.in-Bools.bits c.in-Bools.validity)) ∙ c.requires)).0 in
    ap length c.in_ok-first-in-Bools.ensures ∙ length-take c.args.count c.in-Bools.bits ∙ omega (arith, there) ∙ sym c.in_ok-mask-in-Bools.ensures.long

pub returns-in_ok-first-in-Bools : goal.returns-in_ok-first-in-Bools
returns-in_ok-first-in-Bools c =
    truth_mask c.in-Bools.validity c.in-Bools.bits c.in_ok-mask-in-Bools.mask c.in_ok-first-in-Bools.field-0 c.and_with.new.self (lanes_rows c.args.condition.now) c.args.count (ap lanes_rows c.in-Bools.is ∙ rows-Bools c.in-Bools.bits c.in-Bools.validity) c.requires
    c.in_ok-mask-in-Bools.ensures.long c.in_ok-mask-in-Bools.ensures.each c.in_ok-first-in-Bools.ensures c.and_with.ensures

pub returns-in_ok-same_rows-in-Same : goal.returns-in_ok-same_rows-in-Same
returns-in_ok-same_rows-in-Same c =
    same_mask c.args.count c.in-Same.field-1 (value_of c.in-Same.value.value) c.is_true.result c.in_ok-same_rows-in-Same.field-0 (lanes_rows c.args.condition.now) (ap lanes_rows c.in-Same.is ∙ rows-Same c.in-Same.value c.in-Same.field-1) c.requires
    (c.is_true.ensures ∙ ap (λ v. is_true (value_of v)) c.as_ref.ensures) c.in_ok-same_rows-in-Same.ensures
