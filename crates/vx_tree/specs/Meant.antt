-- A bound tree's own value is the meaning of its source.
use Rattle.std.specs.Prelude.{◌≡◌, Ok}
use Rattle.vx_value.specs.Types.{LogicalType, Datum}
use Rattle.vx_tree.specs.Trees.{BoundTree, unbound, node_type, typed, WellTyped, Over}
use Rattle.vx_tree.specs.Meaning.{mean, value}

-- a well-typed tree over a scope has the type and the meaning of its source
abbrev pub BoundMeansItsSource : Type 0
BoundMeansItsSource = (b : BoundTree) (s : LogicalType) → WellTyped b → Over b s →
    (typed (unbound b) s ≡ Ok (node_type b)) × ((v : Datum) → mean (unbound b) s v ≡ value b v)
