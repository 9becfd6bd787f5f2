use Rattle.vx_array.proofs.Parts.{moved_part}
use Rattle.vx_array.proofs.part.Part.slice.Goals as goal

pub returns : goal.returns
returns g c = moved_part c.self.inside.items.value c.in_ok-clone.field-0.value c.args.self.now c.self.inside.from c.self.inside.len c.args.from c.args.len c.in_ok-clone.ensures.cases c.self.view_is c.self.invariant c.requires
