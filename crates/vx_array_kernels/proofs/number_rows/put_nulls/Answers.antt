use Rattle.std.proofs.Common.{◌∙◌, ap, length, false}
use Rattle.std.proofs.Math.ListN.{replicate}
use Rattle.std.proofs.lemmas.List.{length-replicate}
use Rattle.vx_array_kernels.proofs.Chosen.{numbers_long, nulls_put}
use Rattle.vx_array_kernels.proofs.number_rows.put_nulls.Goals as goal

pub put_bits-requires-clause-mask : goal.put_bits-requires-clause-mask
put_bits-requires-clause-mask g c = c.requires ∙ numbers_long g.T.Number.number c.rows.inside.valid c.rows.inside.numbers.items c.args.rows.now c.rows.view_is

pub put_bits-requires-clause-other : goal.put_bits-requires-clause-other
put_bits-requires-clause-other g c =
    ap length c.in_ok-none.ensures ∙ length-replicate c.len.result false ∙ c.len.ensures ∙ c.requires ∙ numbers_long g.T.Number.number c.rows.inside.valid c.rows.inside.numbers.items c.args.rows.now c.rows.view_is

pub invariant_of-rows : goal.invariant_of-rows
invariant_of-rows g c =
    (nulls_put g.T.Number.number c.args.mask.now c.rows.inside.valid c.in_ok-none.none c.put_bits.new.bits c.rows.inside.numbers.items c.args.rows.now c.rows.view_is c.rows.invariant c.requires (c.in_ok-none.ensures ∙ ap (λ m. replicate m false) c.len.ensures) c.put_bits.ensures).0

pub returns : goal.returns
returns g c =
    (nulls_put g.T.Number.number c.args.mask.now c.rows.inside.valid c.in_ok-none.none c.put_bits.new.bits c.rows.inside.numbers.items c.args.rows.now c.rows.view_is c.rows.invariant c.requires (c.in_ok-none.ensures ∙ ap (λ m. replicate m false) c.len.ensures) c.put_bits.ensures).1
