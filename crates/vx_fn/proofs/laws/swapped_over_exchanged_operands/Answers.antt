use Rattle.vx_fn.proofs.Swaps as lemmas
use Rattle.vx_fn.proofs.laws.swapped_over_exchanged_operands.Goals as goal

pub returns : goal.returns
returns c = lemmas.swapped_over_exchanged_operands
