use Rattle.std.proofs.Common.{◌∙◌, sym, ap, arith, length, map, take}
use Rattle.std.proofs.lemmas.List.{length-map, length-take}
use Rattle.vx_value.specs.Types.{int}
use Rattle.vx_array_kernels.proofs.Chosen.{count_there, numbers_copied}
use Rattle.vx_array_kernels.proofs.number_rows.copied.Goals as goal

pub slice_bounds-from_slice-end : goal.slice_bounds-from_slice-end
slice_bounds-from_slice-end g c =
    let there = (count_there int c.args.validity.now (map g.T.Number.number c.args.part.now) c.args.count c.requires).0 in
    sym (length-take c.args.count c.as_slice.result.now ∙ omega (arith, there, length-map c.args.part.now g.T.Number.number, ap length c.as_slice.ensures))

pub valid_rows-requires : goal.valid_rows-requires
valid_rows-requires g c = (count_there int c.args.validity.now (map g.T.Number.number c.args.part.now) c.args.count c.requires).1

pub invariant_of-result : goal.invariant_of-result
invariant_of-result g c =
    (numbers_copied g.T.Number.number c.args.validity.now c.args.part.now c.in_ok-numbers.numbers.items c.in_ok-valid.valid c.args.count c.requires c.in_ok-valid.ensures.long c.in_ok-valid.ensures.each (c.in_ok-numbers.ensures.items ∙ ap (take c.args.count) c.as_slice.ensures)).0

pub returns : goal.returns
returns g c =
    (numbers_copied g.T.Number.number c.args.validity.now c.args.part.now c.in_ok-numbers.numbers.items c.in_ok-valid.valid c.args.count c.requires c.in_ok-valid.ensures.long c.in_ok-valid.ensures.each (c.in_ok-numbers.ensures.items ∙ ap (take c.args.count) c.as_slice.ensures)).1
