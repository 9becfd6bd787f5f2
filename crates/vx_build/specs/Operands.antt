-- The children of nodes that take any number of them.
use Rattle.std.specs.Prelude.{List, [], ◌∷◌, ◌++◌, map, flat_map, Option, option_to_list}
use Rattle.vx_value.specs.Types.{Name}

-- each condition and the value beside it
abbrev pub pair_operands : {A : Type 0} → List (A × A) → List A
pair_operands pairs = flat_map (λ p. p.0 ∷ p.1 ∷ []) pairs

-- the children of a CASE: each condition and the value beside it, then the ELSE value, if there is one
abbrev pub case_operands : {A : Type 0} → List (A × A) → Option A → List A
case_operands pairs else_value = pair_operands pairs ++ option_to_list else_value

-- the names of the fields that a struct is packed from
abbrev pub pack_names : {A : Type 0} → List (Name × A) → List Name
pack_names elements = map (λ e. e.0) elements

-- what a struct is packed from
abbrev pub pack_operands : {A : Type 0} → List (Name × A) → List A
pack_operands elements = map (λ e. e.1) elements
