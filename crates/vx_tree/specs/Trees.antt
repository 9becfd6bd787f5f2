-- Both trees, typing, and what makes a bound tree right.
use Rattle.std.specs.Prelude.{◌≡◌, List, [], ◌∷◌, Result, Ok, Err}
use Rattle.vx_value.specs.Types.{LogicalType}
use Rattle.vx_fn.specs.Functions.{Function, HasFittingLiteral, Typing, fn_type}
use Rattle.vx_dtype.specs.declared.error.VortexError.{VortexError}

-- a tree is the scope's row, or a function over trees
mutual
  pub data Tree : Type 0 where
    root : Tree
    call : Function → Trees → Tree

  pub data Trees : Type 0 where
    no_tree : Trees
    tree : Tree → Trees → Trees

-- a bound tree is the scope's row with its type, or a function over bound trees with its type
mutual
  pub data BoundTree : Type 0 where
    scope : LogicalType → BoundTree
    node : LogicalType → Function → BoundTrees → BoundTree

  pub data BoundTrees : Type 0 where
    no_bound : BoundTrees
    bound : BoundTree → BoundTrees → BoundTrees

-- what f gives of a value, or the refusal
abbrev pub on_ok : {A B : Type 0} → (A → Result B VortexError) → Result A VortexError → Result B VortexError
on_ok f (Ok a) = f a
on_ok f (Err r) = Err r

-- the type of a tree over a scope's type, or the first refusal: the children's from left to right, then the node's
abbrev mutual
  pub typed : Tree → LogicalType → Typing
  typed root s = Ok s
  typed (call f es) s = on_ok (fn_type f) (each_typed es s)

  pub each_typed : Trees → LogicalType → Result (List LogicalType) VortexError
  each_typed no_tree s = Ok []
  each_typed (tree e es) s = on_ok (λ t. on_ok (λ ts. Ok (t ∷ ts)) (each_typed es s)) (typed e s)

-- the type that is stored at a node
abbrev pub node_type : BoundTree → LogicalType
node_type (scope t) = t
node_type (node t f bs) = t

-- the types that are stored at the nodes, from left to right
abbrev pub node_types : BoundTrees → List LogicalType
node_types no_bound = []
node_types (bound b bs) = node_type b ∷ node_types bs

-- a bound tree without its types
abbrev mutual
  pub unbound : BoundTree → Tree
  unbound (scope t) = root
  unbound (node t f bs) = call f (unbound_each bs)

  pub unbound_each : BoundTrees → Trees
  unbound_each no_bound = no_tree
  unbound_each (bound b bs) = tree (unbound b) (unbound_each bs)

-- each node has the type that its function gives over its children's types
abbrev mutual
  pub WellTyped : BoundTree → Type 0
  WellTyped (scope t) = Unit {0}
  WellTyped (node t f bs) = (fn_type f (node_types bs) ≡ Ok t) × HasFittingLiteral f × EachWellTyped bs

  pub EachWellTyped : BoundTrees → Type 0
  EachWellTyped no_bound = Unit {0}
  EachWellTyped (bound b bs) = WellTyped b × EachWellTyped bs

-- each scope root has the type s
abbrev mutual
  pub Over : BoundTree → LogicalType → Type 0
  Over (scope t) s = t ≡ s
  Over (node t f bs) s = EachOver bs s

  pub EachOver : BoundTrees → LogicalType → Type 0
  EachOver no_bound s = Unit {0}
  EachOver (bound b bs) s = Over b s × EachOver bs s
