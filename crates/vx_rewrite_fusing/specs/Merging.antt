-- Merges of conjuncts.
use Rattle.std.specs.Prelude.{◌≡◌, ℕ, List, [], ◌∷◌, ◌++◌, IsFalse}
use Rattle.vx_value.specs.Types.{LogicalType}
use Rattle.vx_tree.specs.Trees.{BoundTree, node_type}
use Rattle.vx_rewrite_core.specs.Keeps.{Keeps}
use Rattle.vx_rewrite_core.specs.Steps.{Step, Steps}
use Rattle.vx_rewrite_fusing.specs.Conjuncts.{and_node, and_of, is_and, conjuncts, MergeTo, NoneMergeable, Fused}

-- m stands in the place of the conjunct c, which comes after those of `front`; the Ands above it are typed anew
pub data Replaced (c m : BoundTree) : List BoundTree → BoundTree → BoundTree → Type 0 where
  itself : IsFalse (is_and c) → Replaced c m [] c m
  on_left : {t : LogicalType} {l l' r : BoundTree} {front : List BoundTree} → Replaced c m front l l' → Replaced c m front (and_node t l r) (and_of l' r)
  on_right : {t : LogicalType} {l r r' : BoundTree} {front : List BoundTree} → Replaced c m front r r' → Replaced c m (conjuncts l ++ front) (and_node t l r) (and_of l r')

-- the conjunct d, which comes after those of `front`, is gone, and its And is its other child
pub data Removed (d : BoundTree) : List BoundTree → BoundTree → BoundTree → Type 0 where
  left_gone : {t : LogicalType} {r : BoundTree} → IsFalse (is_and d) → Removed d [] (and_node t d r) r
  right_gone : {t : LogicalType} {l : BoundTree} → IsFalse (is_and d) → Removed d (conjuncts l) (and_node t l d) l
  from_left : {t : LogicalType} {l l' r : BoundTree} {front : List BoundTree} → Removed d front l l' → Removed d front (and_node t l r) (and_of l' r)
  from_right : {t : LogicalType} {l r r' : BoundTree} {front : List BoundTree} → Removed d front r r' → Removed d (conjuncts l ++ front) (and_node t l r) (and_of l r')

-- c and d, which come after those of `front` and `back`, are the first mergeable pair of a left and a right conjunct:
-- the right ones are taken in order, and for each the left ones
pub record IsFirstPair (l : BoundTree) (front : List BoundTree) (c : BoundTree) (back : List BoundTree) (d m : BoundTree) : Type 0 where
  pub mergeable : MergeTo c d m
  pub none_of_back : NoneMergeable (conjuncts l) back
  pub none_of_front : NoneMergeable front (d ∷ [])

-- at an And below which there is no mergeable pair, the first pair becomes one
pub data MergeAt : BoundTree → BoundTree → Type 0 where
  right_stays : {t : LogicalType} {l l' r r' c d m : BoundTree} {front back : List BoundTree} → Fused l → Fused r → IsFirstPair l front c back d m → Replaced c m front l l' → Removed d back r r' → MergeAt (and_node t l r) (and_of l' r')
  right_goes : {t : LogicalType} {l l' c d m : BoundTree} {front : List BoundTree} → Fused l → Fused d → IsFalse (is_and d) → IsFirstPair l front c [] d m → Replaced c m front l l' → MergeAt (and_node t l d) l'

-- the same at any node, ancestors typed anew
abbrev pub Merge : BoundTree → BoundTree → Type 0
Merge = Step MergeAt

-- so many merges one after another
abbrev pub Merges : BoundTree → ℕ → BoundTree → Type 0
Merges = Steps MergeAt

-- reached by merge after merge, and no mergeable pair is left
pub record IsFusedOf (b u : BoundTree) : Type 0 where
  pub count : ℕ
  pub merges : Merges b count u
  pub fused : Fused u

-- the second tree keeps the first, with an equal type
abbrev pub KeepsAlike : BoundTree → BoundTree → Type 0
KeepsAlike b u = Keeps b u × (node_type u ≡ node_type b)
