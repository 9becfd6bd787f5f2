-- What merges promise.
use Rattle.std.specs.Prelude.{◌≡◌, ℕ, ◌+◌, ◌≤◌, Bool, true, false, length, if◌then◌else◌}
use Rattle.vx_fn.specs.Functions.{Function, binary, and_also}
use Rattle.vx_tree.specs.Trees.{BoundTree, scope, node, BoundTrees, no_bound, bound, WellTyped}
use Rattle.vx_rewrite_fusing.specs.Conjuncts.{conjuncts, Fused, FusedBelow}
use Rattle.vx_rewrite_fusing.specs.Merging.{MergeAt, Merges, KeepsAlike}

-- any number of merges keeps, with an equal type
abbrev pub MergesKeep : Type 0
MergesKeep = (b u : BoundTree) (n : ℕ) → WellTyped b → Merges b n u → KeepsAlike b u

-- nothing is merged in a tree without mergeable conjuncts
abbrev pub FusedStays : Type 0
FusedStays = (b u : BoundTree) (n : ℕ) → Fused b → Merges b n u → u ≡ b

-- a merge makes no And below the root that has two
abbrev pub MergeStaysFused : Type 0
MergeStaysFused = (b u : BoundTree) → MergeAt b u → FusedBelow u

-- and there is one conjunct less
abbrev pub MergeShortens : Type 0
MergeShortens = (b u : BoundTree) → MergeAt b u → length (conjuncts u) + 1 ≡ length (conjuncts b)

-- whether the function is And
abbrev pub is_conjunction : Function → Bool
is_conjunction (binary and_also) = true
is_conjunction f = false

-- how many Ands the tree has, or trees together
abbrev mutual
  pub and_count : BoundTree → ℕ
  and_count (scope t) = 0
  and_count (node t f bs) = (if is_conjunction f then 1 else 0) + and_counts bs

  pub and_counts : BoundTrees → ℕ
  and_counts no_bound = 0
  and_counts (bound b bs) = and_count b + and_counts bs

-- merging ends: there are no more merges than Ands
abbrev pub MergesEnd : Type 0
MergesEnd = (b u : BoundTree) (n : ℕ) → Merges b n u → n + and_count u ≤ and_count b

-- merges of a well-typed tree that leave no mergeable pair give one and the same tree, whatever their order
abbrev pub FusingIsUnique : Type 0
FusingIsUnique = (b u w : BoundTree) (n k : ℕ) → WellTyped b → Merges b n u → Fused u → Merges b k w → Fused w → u ≡ w
