use Rattle.std.proofs.Common.{arith, w64}
use Rattle.std.proofs.lemmas.Nat.Bits.{bit_at-trailing_zeros}
use Rattle.vx_array_kernels.proofs.Upward.{upward_first, upward_next}
use Rattle.vx_array_kernels.proofs.reach.upward.Goals as goal

pub returns-clause-first : goal.returns-clause-first
returns-clause-first c = let lowest = bit_at-trailing_zeros w64 c.args.reached (omega arith) (omega arith) in upward_first c.args.reached _ (lowest.1, lowest.2)

pub returns-clause-next : goal.returns-clause-next
returns-clause-next c = let lowest = bit_at-trailing_zeros w64 c.args.reached (omega arith) (omega arith) in λ k lt. upward_next c.args.reached _ k (lowest.1, lowest.2) lt
