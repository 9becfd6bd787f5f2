-- Paths that lead to a place in a type.
use Rattle.std.specs.Prelude.{List, [], ◌∷◌}
use Rattle.std.specs.List.{AllByRecursion}
use Rattle.std.specs.Option.{IsSomeAnd}
use Rattle.vx_value.specs.Fields.{field_type}
use Rattle.vx_value.specs.Paths.{Path}
use Rattle.vx_value.specs.Types.{LogicalType, ty, struct}

-- the path leads to a place in the type
abbrev pub Leads : Path → LogicalType → Type 0
Leads [] t = Unit {0}
Leads (a ∷ path) (ty (struct fs) n) = IsSomeAnd (field_type a fs) (λ t. Leads path t)
Leads (a ∷ path) _ = ⊥

-- each path leads to a place in the type
abbrev pub EachLeads : List Path → LogicalType → Type 0
EachLeads paths t = AllByRecursion (λ path. Leads path t) paths
