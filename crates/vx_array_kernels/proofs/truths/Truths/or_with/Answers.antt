use Rattle.std.proofs.Common.{◌||◌}
use Rattle.vx_fn.specs.Values.{kleene_or}
use Rattle.vx_array_loops.specs.Logic.{or_valid}
use Rattle.vx_array_kernels.proofs.Bits.{or_is, combined_truths, same_counts}
use Rattle.vx_array_kernels.proofs.truths.Truths.or_with.Goals as goal

pub or_validity-requires-clause-valid : goal.or_validity-requires-clause-valid
or_validity-requires-clause-valid c = (same_counts c.self.inside.valid c.self.inside.bits c.other.inside.valid c.other.inside.bits c.args.self.now c.args.other.now c.self.view_is c.other.view_is c.self.invariant c.other.invariant c.requires).0

pub or_validity-requires-clause-other : goal.or_validity-requires-clause-other
or_validity-requires-clause-other c = (same_counts c.self.inside.valid c.self.inside.bits c.other.inside.valid c.other.inside.bits c.args.self.now c.args.other.now c.self.view_is c.other.view_is c.self.invariant c.other.invariant c.requires).1.0

pub or_with-requires : goal.or_with-requires
or_with-requires c = (same_counts c.self.inside.valid c.self.inside.bits c.other.inside.valid c.other.inside.bits c.args.self.now c.args.other.now c.self.view_is c.other.view_is c.self.invariant c.other.invariant c.requires).1.1

pub invariant_of-self : goal.invariant_of-self
invariant_of-self c =
    (combined_truths (λ a b. a || b) or_valid kleene_or or_is c.self.inside.valid c.self.inside.bits c.other.inside.valid c.other.inside.bits _ _ c.args.self.now c.args.other.now c.self.view_is c.other.view_is c.self.invariant c.requires
    c.or_validity.ensures c.or_with.ensures).0

pub returns : goal.returns
returns c =
    (combined_truths (λ a b. a || b) or_valid kleene_or or_is c.self.inside.valid c.self.inside.bits c.other.inside.valid c.other.inside.bits _ _ c.args.self.now c.args.other.now c.self.view_is c.other.view_is c.self.invariant c.requires
    c.or_validity.ensures c.or_with.ensures).1
