use Rattle.std.proofs.Common.{◌≡◌, ℤ, ◌||◌, drop}
use Rattle.vx_value.specs.Types.{int}
use Rattle.vx_value.specs.Views.{data_view}
use Rattle.vx_fn.specs.Values.{has_element}
use Rattle.vx_array_kernels.specs.Members.{has_number}
use Rattle.vx_array_kernels.proofs.member_numbers.numbers_of.Given as goal

-- a number is one of those that were found, or an element that is left, just where it is an element
abbrev pub invariant-loop-item : goal.invariant-loop-item
invariant-loop-item g l = (n : ℤ) → (has_number g.T.Number.number l.numbers.items n || has_element (data_view (drop l.item-index l.items)) (int n)) ≡ has_element (data_view l.items) (int n)
