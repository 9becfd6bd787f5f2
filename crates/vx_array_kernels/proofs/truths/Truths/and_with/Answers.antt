use Rattle.std.proofs.Common.{◌&&◌}
use Rattle.vx_fn.specs.Values.{kleene_and}
use Rattle.vx_array_loops.specs.Logic.{and_valid}
use Rattle.vx_array_kernels.proofs.Bits.{and_is, combined_truths, same_counts}
use Rattle.vx_array_kernels.proofs.truths.Truths.and_with.Goals as goal

pub and_validity-requires-clause-valid : goal.and_validity-requires-clause-valid
and_validity-requires-clause-valid c = (same_counts c.self.inside.valid c.self.inside.bits c.other.inside.valid c.other.inside.bits c.args.self.now c.args.other.now c.self.view_is c.other.view_is c.self.invariant c.other.invariant c.requires).0

pub and_validity-requires-clause-other : goal.and_validity-requires-clause-other
and_validity-requires-clause-other c = (same_counts c.self.inside.valid c.self.inside.bits c.other.inside.valid c.other.inside.bits c.args.self.now c.args.other.now c.self.view_is c.other.view_is c.self.invariant c.other.invariant c.requires).1.0

pub and_with-requires : goal.and_with-requires
and_with-requires c = (same_counts c.self.inside.valid c.self.inside.bits c.other.inside.valid c.other.inside.bits c.args.self.now c.args.other.now c.self.view_is c.other.view_is c.self.invariant c.other.invariant c.requires).1.1

pub invariant_of-self : goal.invariant_of-self
invariant_of-self c =
    (combined_truths (λ a b. a && b) and_valid kleene_and and_is c.self.inside.valid c.self.inside.bits c.other.inside.valid c.other.inside.bits _ _ c.args.self.now c.args.other.now c.self.view_is c.other.view_is c.self.invariant c.requires
    c.and_validity.ensures c.and_with.ensures).0

pub returns : goal.returns
returns c =
    (combined_truths (λ a b. a && b) and_valid kleene_and and_is c.self.inside.valid c.self.inside.bits c.other.inside.valid c.other.inside.bits _ _ c.args.self.now c.args.other.now c.self.view_is c.other.view_is c.self.invariant c.requires
    c.and_validity.ensures c.and_with.ensures).1
