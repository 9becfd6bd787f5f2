use Rattle.std.proofs.Common.{◌≡◌, ◌∙◌, ap, sym, length, true, map, get_or, arith, rules}
use Rattle.std.proofs.Math.ListN.{replicate}
use Rattle.std.proofs.lemmas.List.{length-replicate, with_items_is}
use Rattle.vx_array_kernels.specs.Choices.{number_rows}
use Rattle.vx_array_kernels.proofs.Chosen.{numbers_long, number_put}
use Rattle.vx_array_kernels.proofs.number_rows.put_number.Goals as goal

pub write_where-requires-clause-long : goal.write_where-requires-clause-long
write_where-requires-clause-long g c = c.requires ∙ numbers_long g.T.Number.number c.rows.inside.valid c.rows.inside.numbers.items c.args.rows.now c.rows.view_is ∙ c.rows.invariant ∙ sym (ap length c.as_mut_slice.ensures.value)

pub put_bits-requires-clause-mask : goal.put_bits-requires-clause-mask
put_bits-requires-clause-mask g c = c.requires ∙ numbers_long g.T.Number.number c.rows.inside.valid c.rows.inside.numbers.items c.args.rows.now c.rows.view_is

pub put_bits-requires-clause-other : goal.put_bits-requires-clause-other
put_bits-requires-clause-other g c =
    ap length c.in_ok-all-in-Some.ensures ∙ length-replicate c.len.result true ∙ c.len.ensures ∙ c.requires ∙ numbers_long g.T.Number.number c.rows.inside.valid c.rows.inside.numbers.items c.args.rows.now c.rows.view_is

pub invariant_of-rows-in-Some : goal.invariant_of-rows-in-Some
invariant_of-rows-in-Some g c =
    let new = c.write_where.new.rows in
    let one : g.T.Number.number c.in-Some.number ≡ c.args.number.now = search rules in
    (number_put g.T.Number.number c.args.mask.now c.rows.inside.valid c.in_ok-all-in-Some.all c.put_bits.new.bits new c.rows.inside.numbers.items c.in-Some.number c.args.number.now c.args.rows.now c.rows.view_is c.rows.invariant c.requires
    (c.in_ok-all-in-Some.ensures ∙ ap (λ m. replicate m true) c.len.ensures) one (c.write_where.auto.rows ∙ ap length c.as_mut_slice.ensures.value) c.put_bits.ensures
    (λ i y lt on is.
    let post = c.write_where.ensures.on i y (omega (arith, ap length c.as_mut_slice.ensures.value)) on is in
    let same : y ≡ c.in-Some.number = search rules in
    same)
    (λ i y lt off is. c.write_where.ensures.off i y (omega (arith, ap length c.as_mut_slice.ensures.value)) off is ∙ ap (λ l. get_or l i y) c.as_mut_slice.ensures.value)).0
    ∙ sym (ap length (with_items_is c.rows.inside.numbers new (omega (arith, c.write_where.auto.rows, c.as_mut_slice.ensures.len))))

pub returns-in_ok-all-in-Some : goal.returns-in_ok-all-in-Some
returns-in_ok-all-in-Some g c = λ _.
    let new = c.write_where.new.rows in
    let one : g.T.Number.number c.in-Some.number ≡ c.args.number.now = search rules in
    ap (λ l. number_rows c.put_bits.new.bits (map g.T.Number.number l)) (with_items_is c.rows.inside.numbers new (omega (arith, c.write_where.auto.rows, c.as_mut_slice.ensures.len)))
    ∙ (number_put g.T.Number.number c.args.mask.now c.rows.inside.valid c.in_ok-all-in-Some.all c.put_bits.new.bits new c.rows.inside.numbers.items c.in-Some.number c.args.number.now c.args.rows.now c.rows.view_is c.rows.invariant c.requires
    (c.in_ok-all-in-Some.ensures ∙ ap (λ m. replicate m true) c.len.ensures) one (c.write_where.auto.rows ∙ ap length c.as_mut_slice.ensures.value) c.put_bits.ensures
    (λ i y lt on is.
    let post = c.write_where.ensures.on i y (omega (arith, ap length c.as_mut_slice.ensures.value)) on is in
    let same : y ≡ c.in-Some.number = search rules in
    same)
    (λ i y lt off is. c.write_where.ensures.off i y (omega (arith, ap length c.as_mut_slice.ensures.value)) off is ∙ ap (λ l. get_or l i y) c.as_mut_slice.ensures.value)).1
