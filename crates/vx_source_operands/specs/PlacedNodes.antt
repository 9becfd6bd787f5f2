-- Where the nodes of a tree were read from.
use Rattle.std.specs.Prelude.{◌≡◌, ◌≤◌, ◌⊎◌, ℕ, Bool, true, false, List, [], ◌∷◌}
use Rattle.vx_fn.specs.Functions.{Function, binary, compares, equal}
use Rattle.vx_tree.specs.Trees.{Tree, root, call, Trees, no_tree, tree}
use Rattle.vx_source_operands.specs.declared.operand.Places.{Places, out-Places}

-- the first byte of a place, the byte behind its last, and the places of the children
abbrev pub start_of : Places → ℕ
start_of p = (out-Places p).start

abbrev pub end_of : Places → ℕ
end_of p = (out-Places p).end

abbrev pub children_of : Places → List Places
children_of p = (out-Places p).children.items

-- whether the first child of the function's node may stand before once more: `in` compares its operand with each item
abbrev pub repeats : Function → Bool
repeats (binary (compares equal)) = true
repeats f = false

-- the place ends no sooner than it begins
abbrev pub IsSpan : Places → Type 0
IsSpan p = start_of p ≤ end_of p

-- the place is that of a node that stands before once more: none of the children's
abbrev pub IsAgain : Bool → Places → Type 0
IsAgain may p = (may ≡ true) × IsSpan p × (children_of p ≡ [])

-- each node of the tree has one place, and those of its children lie within it, in the order of the tree
abbrev mutual
  pub IsPlaced : Tree → Places → Type 0
  IsPlaced root p = IsSpan p × (children_of p ≡ [])
  IsPlaced (call f es) p = IsSpan p × AreWithin (repeats f) (start_of p) (end_of p) es (children_of p)

  -- the trees have as many places, between these bytes; the first may stand before once more
  pub AreWithin : Bool → ℕ → ℕ → Trees → List Places → Type 0
  AreWithin may start end no_tree [] = Unit {0}
  AreWithin may start end no_tree (p ∷ ps) = ⊥
  AreWithin may start end (tree e es) [] = ⊥
  AreWithin may start end (tree e es) (p ∷ ps) = (start ≤ start_of p) × (end_of p ≤ end) × (IsPlaced e p ⊎ IsAgain may p) × AreWithin false start end es ps
