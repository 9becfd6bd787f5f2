use Rattle.std.proofs.Common.{false, rules}
use Rattle.std.proofs.lemmas.Fmt as texts
use Rattle.vx_floats.proofs.Octets.{spelled}
use Rattle.vx_floats.proofs.texts.write_octet.Goals as goal

pub returns : goal.returns
returns g c =
    let e = texts.hex_byte false c.args.octet c.ranges.octet.fits in
    let a = c.in_radix.ensures in
    let b = c.laid_out.ensures in
    rw (spelled c.args.octet c.ranges.octet.fits, ← e) (search rules)
