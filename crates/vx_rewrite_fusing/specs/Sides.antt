-- The pairs of the two sides of an And merged, by functions of trees and by the places of conjuncts. No public contract names this file.
use Rattle.std.specs.Prelude.{◌≡◌, ℕ, List, ◌++◌, Option, Some, None, false, length, if◌then◌else◌}
use Rattle.vx_tree.specs.Equality.{equal_bound}
use Rattle.vx_fn.specs.Functions.{binary, and_also}
use Rattle.vx_tree.specs.Trees.{BoundTree, node, bound, no_bound}
use Rattle.vx_rewrite_fusing.specs.declared.places.Place.{Place}
use Rattle.vx_rewrite_fusing.specs.Conjuncts.{and_of, between_node, conjuncts, conjoined, Range, from_below, from_above, range_of, Fused}
use Rattle.vx_rewrite_fusing.specs.Merging.{IsFusedOf}
use Rattle.vx_rewrite_fusing.specs.Places.{has_merged, Holds, IsWithin, NoPair}

-- ---- pairs of a left and a right tree

-- the Between of two ranges that bound one item from opposite sides
abbrev pub between_of : Option Range → Option Range → Option BoundTree
between_of (Some (from_below ls x y)) (Some (from_above us w z)) = if equal_bound x w then Some (between_node ls us x y z) else None
between_of (Some (from_above us x z)) (Some (from_below ls w y)) = if equal_bound x w then Some (between_node ls us x y z) else None
between_of c d = None

-- the And of two trees with what the first that changes becomes
abbrev pub changed_of : BoundTree → BoundTree → Option BoundTree → Option BoundTree → Option BoundTree
changed_of l r (Some u) o = Some (and_of u r)
changed_of l r None (Some u) = Some (and_of l u)
changed_of l r None None = None

-- the tree with its first conjunct that is mergeable with d merged with it
abbrev pub with_merged : BoundTree → BoundTree → Option BoundTree
with_merged d (node t (binary and_also) (bound l (bound r no_bound))) = changed_of l r (with_merged d l) (with_merged d r)
with_merged d c = between_of (range_of c) (range_of d)

-- the left tree and what is left of the right one, after a single conjunct
abbrev pub after_single : BoundTree → BoundTree → Option BoundTree → BoundTree × Option BoundTree
after_single l d (Some u) = (u, None)
after_single l d None = (l, Some d)

-- the left tree and what is left of the right one, where the right conjuncts are merged in order
abbrev pub merged_with : BoundTree → BoundTree → BoundTree × Option BoundTree
merged_with l (node t (binary and_also) (bound x (bound y no_bound))) =
    let first = merged_with l x in
    let second = merged_with first.0 y in
    (second.0, conjoined first.1 second.1)
merged_with l d = after_single l d (with_merged d l)

-- the same where nothing may be left of one of them
abbrev pub both_merged : Option BoundTree → Option BoundTree → Option BoundTree × Option BoundTree
both_merged None r = (None, r)
both_merged (Some l) None = (Some l, None)
both_merged (Some l) (Some r) = (Some (merged_with l r).0, (merged_with l r).1)

-- what is left of two trees after that
abbrev pub HoldBoth : List Place → List Place → BoundTree → BoundTree → Option BoundTree × Option BoundTree → Type 0
HoldBoth rights lefts r l o = Holds r rights o.1 × Holds l lefts o.0

-- the conjuncts of a right tree stand behind others that stand behind the left tree's
pub record IsRight (all back rs mid ls : List Place) (r : BoundTree) (at start : ℕ) : Type 0 where
  pub parts : all ≡ back ++ (rs ++ (mid ++ ls))
  pub at_back : at ≡ length (back ++ rs)
  pub at_left : start ≡ length (back ++ (rs ++ mid))
  pub count : length rs ≡ length (conjuncts r)
  pub apart : NoPair ls (mid ++ ls)

-- the conjuncts of a left tree stand behind others of the left tree, and before the rest of it, which stands before the right tree's
pub record IsLeft (all back rs mid ls front : List Place) (l : BoundTree) (at begin : ℕ) : Type 0 where
  pub parts : all ≡ back ++ (rs ++ (mid ++ (ls ++ front)))
  pub at_right : begin ≡ length back
  pub at_back : at ≡ length (back ++ (rs ++ (mid ++ ls)))
  pub count : length ls ≡ length (conjuncts l)
  pub apart : NoPair rs front
  pub alone : NoPair (mid ++ (ls ++ front)) (mid ++ (ls ++ front))

-- the pairs with a right tree are merged
pub record MergedRight (all back rs mid ls : List Place) (r : BoundTree) : Type 0 where
  pub rights : List Place
  pub lefts : List Place
  pub parts : all ≡ back ++ (rights ++ (mid ++ lefts))
  pub long : length rights ≡ length rs
  pub stays : NoPair ls rs → (rights ≡ rs) × (lefts ≡ ls)
  pub rights_within : IsWithin rights rs
  pub lefts_within : IsWithin lefts ls
  pub apart : NoPair lefts (rights ++ (mid ++ lefts))
  pub trees : (l : BoundTree) (u o : Option BoundTree) → Holds r rs o → Holds l ls u → HoldBoth rights lefts r l (both_merged u o)

-- the pairs with a left tree are merged
pub record MergedLeft (all back rs mid ls front : List Place) (l : BoundTree) : Type 0 where
  pub rights : List Place
  pub lefts : List Place
  pub parts : all ≡ back ++ (rights ++ (mid ++ (lefts ++ front)))
  pub long_right : length rights ≡ length rs
  pub long_left : length lefts ≡ length ls
  pub stays : NoPair ls rs → (rights ≡ rs) × (lefts ≡ ls)
  pub rights_within : IsWithin rights rs
  pub lefts_within : IsWithin lefts ls
  pub apart : NoPair rights lefts
  pub trees : (r : BoundTree) (u o : Option BoundTree) → Holds r rs o → Holds l ls u → HoldBoth rights lefts r l (both_merged u o)

-- some places are those of the tree's conjuncts
abbrev pub CanStandRight : List Place → BoundTree → ℕ → ℕ → Type 0
CanStandRight all r at start = (back : List Place) × (rs : List Place) × (mid : List Place) × (ls : List Place) × IsRight all back rs mid ls r at start

abbrev pub CanStandLeft : List Place → BoundTree → ℕ → ℕ → Type 0
CanStandLeft all l at begin = (back : List Place) × (rs : List Place) × (mid : List Place) × (ls : List Place) × (front : List Place) × IsLeft all back rs mid ls front l at begin

-- ---- conjunctions

-- the conjuncts of the tree are put behind others, and the pairs of each of its Ands are merged
pub record TreeMerged (all back : List Place) (b : BoundTree) : Type 0 where
  pub places : List Place
  pub tree : BoundTree
  pub parts : all ≡ back ++ places
  pub holds : Holds b places (Some tree)
  pub fused : IsFusedOf b tree
  pub stays : Fused b → has_merged places ≡ false
  pub apart : NoPair places places
