-- Sets of the elements of lists. No public contract names this file.
use Rattle.std.specs.Prelude.{◌≡◌, Bool}
use Rattle.std.specs.Borrow.{Bor}
use Rattle.std.specs.HashSet.{HashSet, contains}
use Rattle.vx_value.specs.declared.value.Value.{Value}
use Rattle.vx_value.specs.Types.{Data}
use Rattle.vx_value.specs.Equality.{equal_datum}
use Rattle.vx_value.specs.Views.{value_of}
use Rattle.vx_fn.specs.Values.{has_element}

-- whether two values that are lent are the same
abbrev pub same_lent : Bor Value → Bor Value → Bool
same_lent a b = equal_datum (value_of a.now) (value_of b.now)

-- the set has a value exactly if it is one of the elements
abbrev pub HasElements : {S : Type 0} → HashSet (Bor Value) S → Data → Type 0
HasElements set ws = (q : Bor Value) → contains same_lent set q ≡ has_element ws (value_of q.now)
