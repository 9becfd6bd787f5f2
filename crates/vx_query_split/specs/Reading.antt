-- The fields of the scope that a tree reads.
use Rattle.std.specs.Prelude.{Bool, List, [], ◌∷◌, ◌++◌, Option, Some, None, is_some, if◌then◌else◌}
use Rattle.std.specs.List.{list_all}
use Rattle.std.specs.Str.{bytes_eq}
use Rattle.vx_value.specs.Types.{Name}
use Rattle.vx_tree.specs.Trees.{BoundTree, scope, node, BoundTrees, no_bound, bound}
use Rattle.vx_rewrite_analysis.specs.Fields.{free_fields}

-- the name that a list has, once or more often, and no other
abbrev pub only_name : List Name → Option Name
only_name [] = None
only_name (a ∷ names) = if list_all (bytes_eq a) names then Some a else None

-- a node's own fields, or, where it reads none itself, those that are read below it
abbrev pub own_or : List Name → List Name → List Name
own_or [] below = below
own_or (a ∷ own) below = a ∷ own

module _ (names : List Name) where
  -- the fields of a scope with these names that are read at the node or below it
  abbrev mutual
    pub fields_at : BoundTree → List Name
    fields_at (scope t) = names
    fields_at (node t f bs) = own_or (free_fields (node t f bs) names) (fields_in bs)

    -- those that are read at or below one of the nodes
    pub fields_in : BoundTrees → List Name
    fields_in no_bound = []
    fields_in (bound b bs) = fields_at b ++ fields_in bs

  -- the field, where just one is read
  abbrev pub only_field : BoundTree → Option Name
  only_field b = only_name (fields_at b)

  -- whether just one field is read
  abbrev pub reads_one : BoundTree → Bool
  reads_one b = is_some (only_field b)
