use Rattle.std.proofs.Common.{◌≡◌, drop}
use Rattle.vx_value.specs.Views.{data_view}
use Rattle.vx_fn.specs.Values as values
use Rattle.vx_array_kernels.proofs.membership.has_null.Given as goal

-- what the elements that are left tell is what all tell
abbrev pub invariant-loop-item : goal.invariant-loop-item
invariant-loop-item l = values.has_null (data_view (drop l.item-index l.items)) ≡ values.has_null (data_view l.items)
