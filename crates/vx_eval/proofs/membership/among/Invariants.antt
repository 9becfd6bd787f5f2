use Rattle.std.proofs.Common.{◌≡◌, drop, ◌||◌, true, false, if◌then◌else◌}
use Rattle.vx_value.specs.Types.{null, bool}
use Rattle.vx_value.specs.Views.{value_of, data_view}
use Rattle.vx_fn.specs.Values.{has_element, has_null, among}
use Rattle.vx_eval.proofs.membership.among.Given as goal

-- what the elements that are left tell, and whether one before them was null, is what all tell
abbrev pub invariant-loop-item : goal.invariant-loop-item
invariant-loop-item l =
    (if has_element (data_view (drop l.item-index l.items)) (value_of l.needle) then bool true else if l.has_null || has_null (data_view (drop l.item-index l.items)) then null else bool false)
    ≡ among (data_view l.items) (value_of l.needle)
