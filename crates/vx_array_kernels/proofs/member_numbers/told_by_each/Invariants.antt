use Rattle.std.proofs.Common.{◌≡◌, length, map, take}
use Rattle.vx_array_kernels.specs.Members.{has_number}
use Rattle.vx_array_kernels.proofs.member_numbers.told_by_each.Given as goal

-- what is told of the numbers so far
abbrev pub invariant-loop-other : goal.invariant-loop-other
invariant-loop-other g l = record {
  told : l.told ≡ map (λ x. has_number g.T.Number.number (take l.other-index l.others) (g.T.Number.number x)) l.numbers;
  long : length l.same ≡ length l.numbers;
}
