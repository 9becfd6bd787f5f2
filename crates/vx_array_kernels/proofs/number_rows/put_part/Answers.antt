use Rattle.std.proofs.Common.{◌≡◌, ◌∙◌, ◌<◌, ap, sym, map, length, get_or, arith, rules}
use Rattle.std.proofs.lemmas.List.{length-map, with_items_is}
use Rattle.vx_value.specs.Types.{int}
use Rattle.vx_array_kernels.specs.Choices.{number_rows}
use Rattle.vx_array_kernels.proofs.Chosen.{count_there, numbers_long, part_put}
use Rattle.vx_array_kernels.proofs.number_rows.put_part.Goals as goal

pub write_where-requires-clause-long : goal.write_where-requires-clause-long
write_where-requires-clause-long g c =
    c.requires.mask ∙ numbers_long g.T.Number.number c.rows.inside.valid c.rows.inside.numbers.items c.args.rows.now c.rows.view_is ∙ c.rows.invariant ∙ sym (ap length c.as_mut_slice.ensures.value)

pub write_where-requires-clause-call : goal.write_where-requires-clause-call
write_where-requires-clause-call g c = λ i lt.
    let there = (count_there int c.args.validity.now (map g.T.Number.number c.args.part.now) (length c.args.rows.now) c.requires.part).0 in
    let counted = numbers_long g.T.Number.number c.rows.inside.valid c.rows.inside.numbers.items c.args.rows.now c.rows.view_is in
    let low : i < length c.as_slice-numbers.result.now = omega (arith, there, counted, c.rows.invariant, length-map c.args.part.now g.T.Number.number, ap length c.as_slice-numbers.ensures, ap length c.as_mut_slice.ensures.value) in
    (λ κs ptr is ranges small u. omega (arith, low), λ κs ptr is ranges small u. low)

pub valid_rows-requires : goal.valid_rows-requires
valid_rows-requires g c = (count_there int c.args.validity.now (map g.T.Number.number c.args.part.now) c.len.result (c.requires.part ∙ sym c.requires.mask ∙ sym c.len.ensures)).1

pub put_bits-requires-clause-mask : goal.put_bits-requires-clause-mask
put_bits-requires-clause-mask g c = c.requires.mask ∙ numbers_long g.T.Number.number c.rows.inside.valid c.rows.inside.numbers.items c.args.rows.now c.rows.view_is

pub put_bits-requires-clause-other : goal.put_bits-requires-clause-other
put_bits-requires-clause-other g c = c.in_ok-valid.ensures.long ∙ c.len.ensures ∙ c.requires.mask ∙ numbers_long g.T.Number.number c.rows.inside.valid c.rows.inside.numbers.items c.args.rows.now c.rows.view_is

pub invariant_of-rows-2 : goal.invariant_of-rows-2
invariant_of-rows-2 g c =
    let new = c.write_where.new.rows in
    (part_put g.T.Number.number c.args.mask.now c.rows.inside.valid c.in_ok-valid.valid c.put_bits.new.bits new c.rows.inside.numbers.items c.args.part.now c.args.validity.now c.args.rows.now c.rows.view_is c.rows.invariant c.requires.part
    (c.in_ok-valid.ensures.long ∙ c.len.ensures ∙ c.requires.mask) (λ k lt. c.in_ok-valid.ensures.each k (omega (arith, c.len.ensures, c.requires.mask))) (c.write_where.auto.rows ∙ ap length c.as_mut_slice.ensures.value) c.put_bits.ensures
    (λ i x lt on is.
    let post = c.write_where.ensures.on i x (omega (arith, ap length c.as_mut_slice.ensures.value)) on is in
    let read : x ≡ get_or c.as_slice-numbers.result.now i x = search rules in
    read ∙ ap (λ l. get_or l i x) c.as_slice-numbers.ensures)
    (λ i x lt off is. c.write_where.ensures.off i x (omega (arith, ap length c.as_mut_slice.ensures.value)) off is ∙ ap (λ l. get_or l i x) c.as_mut_slice.ensures.value)).0
    ∙ sym (ap length (with_items_is c.rows.inside.numbers new (omega (arith, c.write_where.auto.rows, c.as_mut_slice.ensures.len))))

pub returns : goal.returns
returns g c =
    let new = c.write_where.new.rows in
    ap (λ l. number_rows c.put_bits.new.bits (map g.T.Number.number l)) (with_items_is c.rows.inside.numbers new (omega (arith, c.write_where.auto.rows, c.as_mut_slice.ensures.len)))
    ∙ (part_put g.T.Number.number c.args.mask.now c.rows.inside.valid c.in_ok-valid.valid c.put_bits.new.bits new c.rows.inside.numbers.items c.args.part.now c.args.validity.now c.args.rows.now c.rows.view_is c.rows.invariant c.requires.part
    (c.in_ok-valid.ensures.long ∙ c.len.ensures ∙ c.requires.mask) (λ k lt. c.in_ok-valid.ensures.each k (omega (arith, c.len.ensures, c.requires.mask))) (c.write_where.auto.rows ∙ ap length c.as_mut_slice.ensures.value) c.put_bits.ensures
    (λ i x lt on is.
    let post = c.write_where.ensures.on i x (omega (arith, ap length c.as_mut_slice.ensures.value)) on is in
    let read : x ≡ get_or c.as_slice-numbers.result.now i x = search rules in
    read ∙ ap (λ l. get_or l i x) c.as_slice-numbers.ensures)
    (λ i x lt off is. c.write_where.ensures.off i x (omega (arith, ap length c.as_mut_slice.ensures.value)) off is ∙ ap (λ l. get_or l i x) c.as_mut_slice.ensures.value)).1
