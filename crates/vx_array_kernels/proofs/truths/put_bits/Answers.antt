use Rattle.std.proofs.Common.{◌∙◌, sym}
use Rattle.vx_array_kernels.proofs.Chosen.{chosen_is, merge_counts}
use Rattle.vx_array_kernels.proofs.truths.put_bits.Goals as goal

pub or_with-requires : goal.or_with-requires
or_with-requires c =
    let counts = merge_counts c.args.mask.now c.args.other c.args.bits.now c.and_with.new.self c.and_not_with.new.self c.requires.mask c.requires.other c.and_with.ensures c.and_not_with.ensures in
    counts.0 ∙ sym counts.1

pub returns : goal.returns
returns c =
    chosen_is c.args.mask.now c.args.other c.args.bits.now c.and_with.new.self c.and_not_with.new.self c.or_with.new.self c.requires.mask c.requires.other c.and_with.ensures c.and_not_with.ensures c.or_with.ensures
