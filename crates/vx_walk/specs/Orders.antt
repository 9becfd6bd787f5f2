-- Where a walk goes on.
use Rattle.std.specs.Prelude.{◌≡◌, Result, Ok}
use Rattle.vx_dtype.specs.declared.error.VortexError.{VortexError}
use Rattle.vx_walk.specs.declared.order.TraversalOrder.{TraversalOrder}
use Rattle.vx_walk.specs.declared.order.TraversalOrder.TheVariants.{Skip, Stop, Continue}

-- what a visitor, a closure or a walk answers
abbrev pub Answer : Type 0
Answer = Result TraversalOrder VortexError

-- after a node's way down: Skip goes on past the children, Stop ends, and after Continue the children answer
abbrev pub VisitsChildren : (Answer → Type 0) → TraversalOrder → Answer → Type 0
VisitsChildren below Skip a = a ≡ Ok Continue
VisitsChildren below Stop a = a ≡ Ok Stop
VisitsChildren below Continue a = below a

-- after a node's children: after Continue the node's way up answers, and other orders stay
abbrev pub VisitsParent : (Answer → Type 0) → TraversalOrder → Answer → Type 0
VisitsParent above Skip a = a ≡ Ok Skip
VisitsParent above Stop a = a ≡ Ok Stop
VisitsParent above Continue a = above a

-- after this order the next sibling is visited
abbrev pub GoesOn : TraversalOrder → Type 0
GoesOn o = ¬ (o ≡ Stop)

-- after this answer of the children a node's way up is left out
abbrev pub Ends : Answer → Type 0
Ends a = ¬ (a ≡ Ok Continue)
