-- What is told of the fields that a tree reads.
use Rattle.std.specs.Prelude.{◌≡◌, ◌≢◌, Bool, ◌||◌, List, [], ◌∷◌, ◌++◌, Option, Some, None, is_some}
use Rattle.vx_value.specs.Types.{Name}
use Rattle.vx_tree.specs.Trees.{BoundTree, BoundTrees}
use Rattle.vx_rewrite_analysis.specs.Covers.{is_covered, are_covered}
use Rattle.vx_partition.specs.Only.{met_at, annotations_met, annotations_met_in}
use Rattle.vx_query_split.specs.Reading.{only_name, fields_at, fields_in, only_field, reads_one}
use Rattle.vx_query_split.specs.declared.reading.Reads.{Reads}
use Rattle.vx_query_split.specs.declared.reading.Reads.TheVariants.{Nothing, One, Several}

-- no name, just one, or several
abbrev pub IsReadBy : Reads → List Name → Type 0
IsReadBy Nothing names = names ≡ []
IsReadBy (One a) names = only_name names ≡ Some a.now
IsReadBy Several names = (only_name names ≡ None) × (names ≢ [])

-- the name, if there is one
abbrev pub name_list : Option Name → List Name
name_list None = []
name_list (Some a) = a ∷ []

module _ (names : List Name) where
  -- the fields that the tree reads, whether nodes that read one field cover it, and what a walk of it meets
  pub record IsReadAt (b : BoundTree) (reads : Reads) (covered : Bool) (old new : List (Option Name)) : Type 0 where
    pub told : IsReadBy reads (fields_at names b)
    pub covers : covered ≡ is_covered (reads_one names) b
    pub met : new ≡ old ++ annotations_met (only_field names) b

  -- the same of a node that reads no field itself, by its children
  pub record IsReadBelow (bs : BoundTrees) (reads : Reads) (covered : Bool) (old new : List (Option Name)) : Type 0 where
    pub told : IsReadBy reads (fields_in names bs)
    pub covers : covered ≡ (is_some (only_name (fields_in names bs)) || are_covered (reads_one names) bs)
    pub met : new ≡ old ++ met_at (only_name (fields_in names bs)) (annotations_met_in (only_field names) bs)
