use Rattle.std.proofs.Common.{◌≡◌, ℕ, ◌==◌, ◌||◌, get_or, take}
use Rattle.vx_array_kernels.specs.Buckets.{is_one_of, is_there}
use Rattle.vx_array_kernels.proofs.buckets.filled.Given as goal

-- the first number is there, and those that were put
abbrev pub invariant-loop-number : goal.invariant-loop-number
invariant-loop-number l = (n : ℕ) → is_there l.buckets n ≡ (get_or l.numbers 0 0 == n || is_one_of (take l.number-index l.numbers) n)
