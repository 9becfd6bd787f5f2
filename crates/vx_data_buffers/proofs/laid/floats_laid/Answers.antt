use Rattle.std.proofs.Common.{◌≡◌, rules}
use Rattle.vx_dtype.specs.declared.dtype.DType.{the_lemmas as the_types}
use Rattle.vx_value.specs.Types.{atomic, floating, shape_of}
use Rattle.vx_value.specs.Views.{type_of}
use Rattle.vx_array.specs.Kinds.{numbers_in}
use Rattle.vx_data_buffers.proofs.LaidOut.{have_floats}
use Rattle.vx_data_buffers.proofs.laid.floats_laid.Goals as goal

pub returns : goal.returns
returns c =
    let f = c.in-Float.float_type in
    let shape : shape_of (type_of c.args.dtype.now) ≡ atomic (floating f) = rw c.in-Float.is (search (rules, the_types)) in
    let format = rw c.in-Some.is at c.in_ok-bits.ensures.format in
    let bits = rw c.in-Some.is at c.in_ok-bits.ensures.bits in
    have_floats (shape_of (type_of c.args.dtype.now)) c.args.floats.now f c.bits_type.result (numbers_in c.in-Some.bits) c.in_ok-valid.valid.items c.in-Some-2.spelled.items c.args.validity.now c.len.result _ shape format c.bits_type.ensures bits c.in_ok-two.ensures c.len.ensures c.in_ok-valid.ensures
    (rw c.in-Some-2.is at c.in_ok-spelled.ensures)
