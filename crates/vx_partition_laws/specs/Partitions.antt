-- The partitions that pack the pieces of a tree, one for each annotation.
-- `text` gives an annotation's text, and `name` the field name that its partition goes by.
use Rattle.std.specs.Prelude.{◌≡◌, ℕ, ◌+◌, ◌<◌, ◌^◌, Bool, true, List, [], ◌∷◌, ◌++◌, length, IsFalse, codes}
use Rattle.std.specs.List.{AllByRecursion, list_any}
use Rattle.std.specs.Str.{bytes_eq}
use Rattle.std.specs.Fmt.{decimal}
use Rattle.vx_value.specs.Types.{Name, LogicalType}
use Rattle.vx_tree.specs.Trees.{BoundTree, BoundTrees, no_bound, bound}
use Rattle.vx_tree.specs.Views.{bounds_from}
use Rattle.vx_partition_laws.specs.Items.{struct_type, packed}
use Rattle.vx_partition_laws.specs.Pieces.{Group}

-- the name of a piece: the annotation's text, `_`, and the index
abbrev pub piece_name : List ℕ → ℕ → Name
piece_name text i = text ++ codes "_" ++ decimal i

-- the names of these pieces, from that index on
abbrev pub piece_names : List ℕ → ℕ → List BoundTree → List Name
piece_names text i [] = []
piece_names text i (b ∷ bs) = piece_name text i ∷ piece_names text (i + 1) bs

-- no name stands twice
abbrev pub Distinct : List Name → Type 0
Distinct [] = Unit {0}
Distinct (a ∷ names) = IsFalse (list_any (bytes_eq a) names) × Distinct names

module _ {A : Type 0} where
  -- equal annotations are given the same
  abbrev pub IsShared : (A → A → Bool) → (A → List ℕ) → Type 0
  IsShared eq given = (a b : A) → eq a b ≡ true → given a ≡ given b

  -- each annotation has fewer than 2^64 pieces, so that their indices print apart
  abbrev pub AllShort : List (Group A) → Type 0
  AllShort gs = AllByRecursion (λ g. length g.1 < 2 ^ 64) gs

  module _ (text : A → List ℕ) where
    -- the pieces of an annotation, packed in their order
    abbrev pub partition : Group A → BoundTree
    partition g = packed (piece_names (text g.0) 0 g.1) (bounds_from g.1)

    -- a partition for each annotation
    abbrev pub partitions : List (Group A) → BoundTrees
    partitions [] = no_bound
    partitions (g ∷ gs) = bound (partition g) (partitions gs)

  -- the names of the partitions
  abbrev pub partition_names : (A → Name) → List (Group A) → List Name
  partition_names name [] = []
  partition_names name (g ∷ gs) = name g.0 ∷ partition_names name gs

  -- the struct type, not nullable, of the partitions
  abbrev pub partitioned_type : (text : A → List ℕ) (name : A → Name) → List (Group A) → LogicalType
  partitioned_type text name gs = struct_type (partition_names name gs) (partitions text gs)
