use Rattle.std.proofs.Common.{refl, sym, ap}
use Rattle.std.proofs.Output.{has_written_append, has_written_of_eq, writes_in_calls_nil}
use Rattle.std.proofs.lemmas.List.{take_all}
use Rattle.hex.specs.Hex.{encode_lower}
use Rattle.vx_floats.proofs.Octets.{none, one_more}
use Rattle.vx_floats.proofs.texts.write_octets.Goals as goal

pub loop-octet-init : goal.loop-octet-init
loop-octet-init g c = λ plain. has_written_of_eq _ _ _ _ _ (sym none) (record { wrote = writes_in_calls_nil _ _; plain = plain })

pub loop-octet-preserved : goal.loop-octet-preserved
loop-octet-preserved g c = λ plain.
    let so_far = c.loop-octet.invariant plain in
    let octet = c.in_ok-write_octet.ensures so_far.plain refl in
    has_written_of_eq _ _ _ _ _ (one_more c.args.octets.now c.loop-octet.octet-index c.loop-octet-test.true) (has_written_append _ _ _ _ _ _ so_far octet)

pub returns : goal.returns
returns g c = λ plain ok. has_written_of_eq _ _ _ _ _ (ap encode_lower (take_all c.loop-octet.octet-index c.args.octets.now c.loop-octet-test.false)) (c.loop-octet.invariant plain)
