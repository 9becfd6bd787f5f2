use Rattle.std.proofs.Common.{map, sym, ap, ◌∙◌}
use Rattle.vx_array.proofs.Parts.{part-map}
use Rattle.vx_array.proofs.numbers.sliced.Goals as goal

pub returns : goal.returns
returns g c = ap (map g.T.Number.number) c.in_ok-part.ensures ∙ sym (part-map g.T.Number.number c.args.from c.args.len c.args.numbers.now)
