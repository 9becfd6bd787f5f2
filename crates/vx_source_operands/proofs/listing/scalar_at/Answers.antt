use Rattle.std.proofs.Common.{arith}
use Rattle.std.proofs.lemmas.Grind.{common_steps}
use Rattle.vx_source_operands.proofs.Gathering.{seen_node}
use Rattle.vx_source_operands.proofs.listing.scalar_at.Goals as goal

pub returns-else-is_empty : goal.returns-else-is_empty
returns-else-is_empty c = seen_node c.args.e.now c.in-Scalar.scalar_fn c.in-Scalar.children c.in-Scalar.is (λ none. grind (arith, common_steps))
