-- When rows agree along paths, and when that fixes what a tree means.
use Rattle.std.specs.Prelude.{◌≡◌, List, [], ◌∷◌, map}
use Rattle.std.specs.List.{AllByRecursion, AllZip}
use Rattle.std.specs.Option.{IsSomeAnd}
use Rattle.vx_value.specs.Fields.{field_type, field_value}
use Rattle.vx_value.specs.Fits.{IsBatch}
use Rattle.vx_value.specs.Paths.{Path}
use Rattle.vx_value.specs.Types.{LogicalType, ty, struct, Datum, null, struct_of}
use Rattle.vx_tree.specs.Faults.{HasNoFault}
use Rattle.vx_tree.specs.Meaning.{mean}
use Rattle.vx_tree.specs.Trees.{BoundTree, unbound, Over}

-- the values are equal at the end of the path; on the way to it both are null, or both are structs whose first
-- field of the name agrees along the rest
abbrev pub Agree : Path → LogicalType → Datum → Datum → Type 0
Agree [] t v w = v ≡ w
Agree (a ∷ path) t null null = Unit {0}
Agree (a ∷ path) (ty (struct fs) n) (struct_of vs) (struct_of ws) =
    IsSomeAnd (field_type a fs) (λ t. Agree path t (field_value a fs vs) (field_value a fs ws))
Agree (a ∷ path) _ _ _ = ⊥

-- the values agree along each of the paths
abbrev pub AgreeAlong : List Path → LogicalType → Datum → Datum → Type 0
AgreeAlong paths t v w = AllByRecursion (λ path. Agree path t v w) paths

-- the batches are of one length, and agree along the paths in every row
abbrev pub RowsAgree : List Path → LogicalType → List Datum → List Datum → Type 0
RowsAgree paths s first second = AllZip (AgreeAlong paths s) first second

-- on two batches that agree along the paths, and on neither of which it faults, the tree means the same in every row
abbrev pub FixTheMeaning : BoundTree → List Path → Type 0
FixTheMeaning b paths = (s : LogicalType) (first second : List Datum) → Over b s →
    IsBatch s first → HasNoFault b first → IsBatch s second → HasNoFault b second →
    RowsAgree paths s first second → map (mean (unbound b) s) first ≡ map (mean (unbound b) s) second
