use Rattle.std.proofs.Common.{◌++◌, ◌∙◌, ap}
use Rattle.vx_array_loops.proofs.Joined.{appended}
use Rattle.vx_array_loops.proofs.bits.Bits.append.Goals as goal

pub returns : goal.returns
returns c =
    let us = c.self.inside.words.items in
    (appended us c.other.inside.words.items _ c.self.inside.len c.other.inside.len c.in-Some.sum _ _ c.self.view_is c.other.view_is c.self.invariant c.other.invariant
    (c.in_ok-extend_from_slice.ensures.items ∙ ap (λ l. us ++ l) c.as_slice.ensures.value) c.in-Some.ensures).1
