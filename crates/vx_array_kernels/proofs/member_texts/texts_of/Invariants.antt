use Rattle.std.proofs.Common.{◌≡◌, ℕ, List, ◌||◌, drop}
use Rattle.std.specs.Borrow.{Bor}
use Rattle.std.specs.HashSet.{contains}
use Rattle.vx_value.specs.Types.{utf8}
use Rattle.vx_value.specs.Views.{data_view}
use Rattle.vx_fn.specs.Values.{has_element}
use Rattle.vx_array_kernels.specs.Members.{same_bytes}
use Rattle.vx_array_kernels.proofs.member_texts.texts_of.Given as goal

-- a text is in the set, or an element that is left, just where it is an element
abbrev pub invariant-loop-item : goal.invariant-loop-item
invariant-loop-item l = (q : Bor (List ℕ)) → (contains same_bytes l.set q || has_element (data_view (drop l.item-index l.items)) (utf8 q.now)) ≡ has_element (data_view l.items) (utf8 q.now)
