-- What the steps of `find_between` answer. No public contract names this file: it is for the contracts of the steps within the crate.
use Rattle.std.specs.Prelude.{◌≡◌, ℕ, zero, suc, List, [], ◌∷◌, Option, Some, None, Result, Ok, Err, Bool, IsFalse, option_map}
use Rattle.std.specs.declared.alloc.Global.{Global}
use Rattle.std.specs.declared.boxed.Box.{Box}
use Rattle.vx_dtype.specs.declared.error.VortexError.{VortexError}
use Rattle.vx_dtype.specs.declared.error.VortexError.TheVariants.{OutOfMemory}
use Rattle.vx_fn.specs.Functions.{Operation, compares, and_also, or_else, computes}
use Rattle.vx_fn.specs.Views.{is_strict}
use Rattle.vx_dtype.specs.Lists.{IsIn}
use Rattle.vx_tree.specs.Trees.{BoundTree, scope, node, BoundTrees, no_bound, bound}
use Rattle.vx_tree.specs.Views.{bound_of}
use Rattle.vx_tree.specs.declared.bound.BoundExpression.{BoundExpression}
use Rattle.vx_rewrite_fusing.specs.declared.ranges.RangeComparison.{RangeComparison}
use Rattle.vx_rewrite_fusing.specs.declared.ranges.Side.{Side}
use Rattle.vx_rewrite_fusing.specs.declared.ranges.Side.TheVariants.{Below, Above}
use Rattle.vx_rewrite_fusing.specs.Conjuncts.{is_and, conjuncts, conjuncts_left, conjoined, tree_in, Range, from_below, from_above, range, range_of, MergeTo, NoneMergeable, Fused}
use Rattle.vx_rewrite_fusing.specs.Merging.{Replaced, Removed, IsFirstPair, IsFusedOf, Merges}

-- None where there is nothing to do, else what is done, or memory ran out
abbrev pub Finds : {A : Type 0} → Type 0 → (A → Type 0) → Result (Option A) VortexError → Type 0
Finds nothing done (Ok None) = nothing
Finds nothing done (Ok (Some a)) = (nothing → ⊥) × done a
Finds nothing done (Err e) = (nothing → ⊥) × (e ≡ OutOfMemory)

-- the node is neither an And nor a range comparison
abbrev pub IsOther : BoundTree → Type 0
IsOther b = IsFalse (is_and b) × (range_of b ≡ None)

-- what the operation between x and y says of x
abbrev pub range_by : Operation → BoundTree → BoundTree → Option Range
range_by (compares c) x y = range c x y
range_by and_also x y = None
range_by or_else x y = None
range_by (computes a) x y = None

-- the range with that side
abbrev pub range_from : Side → Bool → BoundTree → BoundTree → Range
range_from Below = from_below
range_from Above = from_above

-- what a range comparison stands for
abbrev pub range_seen : RangeComparison → Range
range_seen r = range_from r.side (is_strict r.strict) (bound_of r.item.now) (bound_of r.bound.now)

-- ---- what is merged of two conjunctions

-- the first conjunct of l that is mergeable with d is merged with it
pub record LeftMerged (d l u : BoundTree) : Type 0 where
  pub conjunct : BoundTree
  pub merged : BoundTree
  pub front : List BoundTree
  pub mergeable : MergeTo conjunct d merged
  pub none_of_front : NoneMergeable front (d ∷ [])
  pub replaced : Replaced conjunct merged front l u

-- d is gone: it was the whole tree, or a conjunct
pub data Gone (d : BoundTree) : List BoundTree → BoundTree → Option BoundTree → Type 0 where
  whole : IsFalse (is_and d) → Gone d [] d None
  part : {back : List BoundTree} {r u : BoundTree} → Removed d back r u → Gone d back r (Some u)

-- the first pair of a conjunct of l and one of r is merged: l becomes u, and `rest` is left of r
pub record PairMerged (l r u : BoundTree) (rest : Option BoundTree) : Type 0 where
  pub left : BoundTree
  pub right : BoundTree
  pub merged : BoundTree
  pub front : List BoundTree
  pub back : List BoundTree
  pub first : IsFirstPair l front left back right merged
  pub replaced : Replaced left merged front l u
  pub gone : Gone right back r rest

-- first pairs are merged one after another
pub data Pairs : BoundTree → BoundTree → BoundTree → Option BoundTree → Type 0 where
  last_pair : {l r u : BoundTree} {rest : Option BoundTree} → PairMerged l r u rest → Pairs l r u rest
  and_pairs : {l r u s w : BoundTree} {rest : Option BoundTree} → PairMerged l r u (Some s) → Pairs u s w rest → Pairs l r w rest

-- and no pair is left
pub record PairsMerged (l r u : BoundTree) (rest : Option BoundTree) : Type 0 where
  pub pairs : Pairs l r u rest
  pub none_left : NoneMergeable (conjuncts u) (conjuncts_left rest)

-- the pairs of l and y are merged, or there are none, and what is left of y stands behind `right`
pub data MergesSecond (l : BoundTree) (right : Option BoundTree) (y u : BoundTree) : Option BoundTree → Type 0 where
  with_pairs : {rest : Option BoundTree} → PairsMerged l y u rest → MergesSecond l right y u (conjoined right rest)
  without_pairs : u ≡ l → NoneMergeable (conjuncts l) (conjuncts y) → MergesSecond l right y u (conjoined right (Some y))

-- ---- what is fused of conjuncts

-- each conjunct is fused
abbrev pub ConjunctsFused : BoundTree → Type 0
ConjunctsFused b = (c : BoundTree) → IsIn c (conjuncts b) → Fused c

-- reached by merge after merge, and each conjunct is fused
pub record IsFusedApart (b u : BoundTree) : Type 0 where
  pub count : ℕ
  pub merges : Merges b count u
  pub fused : ConjunctsFused u

-- the side from which a range bounds its item
abbrev pub side_of : Range → Side
side_of (from_below strict x y) = Below
side_of (from_above strict x y) = Above

-- no conjunct bounds an item from that side
abbrev pub Unbounded : Side → BoundTree → Type 0
Unbounded s b = (c : BoundTree) → IsIn c (conjuncts b) → option_map side_of (range_of c) ≡ Some s → ⊥

-- a tree as it has become
abbrev pub tree_or : BoundTree → Option (Box BoundExpression Global) → BoundTree
tree_or b None = b
tree_or b (Some u) = tree_in u

-- ---- what is fused of children

-- each child is fused
pub data EachFusedOf : BoundTrees → BoundTrees → Type 0 where
  none_fused : EachFusedOf no_bound no_bound
  more_fused : {b u : BoundTree} {bs us : BoundTrees} → IsFusedOf b u → EachFusedOf bs us → EachFusedOf (bound b bs) (bound u us)

-- the child at that index is the first that isn't fused, and u is what is fused of it
abbrev pub FirstChanged : BoundTrees → ℕ → BoundTree → Type 0
FirstChanged no_bound i u = ⊥
FirstChanged (bound b bs) zero u = (Fused b → ⊥) × IsFusedOf b u
FirstChanged (bound b bs) (suc i) u = Fused b × FirstChanged bs i u

-- the node with the same type over other children
abbrev pub over_children : BoundTree → BoundTrees → BoundTree
over_children (scope t) us = scope t
over_children (node t f bs) us = node t f us
