use Rattle.std.proofs.Common.{false, rules}
use Rattle.std.proofs.lemmas.Fmt as texts
use Rattle.vx_array.proofs.texts.write_byte.Goals as goal

pub returns : goal.returns
returns g c =
    let e = texts.hex_byte false c.args.b c.ranges.b.fits in
    let a = c.in_radix.ensures in
    let b = c.laid_out.ensures in
    rw (← e) (search rules)
