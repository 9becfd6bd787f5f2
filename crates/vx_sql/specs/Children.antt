-- What the text of a node depends on beside its children's texts.
use Rattle.std.specs.Prelude.{ℕ, Bool, true, false, not, List, [], Option, Some, None}
use Rattle.vx_value.specs.Columns.{Constant, constant}
use Rattle.vx_value.specs.Fields.{field_names}
use Rattle.vx_value.specs.Types.{Name, text, octets, LogicalType, ty, atomic, struct, is_null_datum, is_nullable}
use Rattle.vx_fn.specs.Functions.{literal, is_text, is_atomic}
use Rattle.vx_tree.specs.Nodes.{is_root, bound_at}
use Rattle.vx_tree.specs.Trees.{BoundTree, node, BoundTrees, node_type, unbound}

-- whether the test passes at the child, if there is one
abbrev pub passes : (BoundTree → Bool) → Option BoundTree → Bool
passes p None = false
passes p (Some b) = p b

-- whether the first child is the row of the scope
abbrev pub is_row : BoundTrees → Bool
is_row bs = passes (λ b. is_root (unbound b)) (bound_at bs 0)

-- whether the first child is a text, one of texts and bytes, a struct, or a value without parts
abbrev pub has_text_first : BoundTrees → Bool
has_text_first bs = passes (λ b. is_text (node_type b)) (bound_at bs 0)

-- texts and bytes
abbrev pub is_string : LogicalType → Bool
is_string (ty (atomic text) n) = true
is_string (ty (atomic octets) n) = true
is_string _ = false

abbrev pub has_string_first : BoundTrees → Bool
has_string_first bs = passes (λ b. is_string (node_type b)) (bound_at bs 0)

abbrev pub is_struct : LogicalType → Bool
is_struct (ty (struct fs) n) = true
is_struct _ = false

abbrev pub has_struct_first : BoundTrees → Bool
has_struct_first bs = passes (λ b. is_struct (node_type b)) (bound_at bs 0)

abbrev pub has_atomic_first : BoundTrees → Bool
has_atomic_first bs = passes (λ b. is_atomic (node_type b)) (bound_at bs 0)

-- whether the child at that place may be null
abbrev pub admits_null_at : BoundTrees → ℕ → Bool
admits_null_at bs i = passes (λ b. is_nullable (node_type b)) (bound_at bs i)

-- the names of the fields of a struct, none of another type
abbrev pub names_in : LogicalType → List Name
names_in (ty (struct fs) n) = field_names fs
names_in _ = []

-- the names among which a field of the first child is looked up
abbrev pub names_of_child : Option BoundTree → List Name
names_of_child None = []
names_of_child (Some b) = names_in (node_type b)

abbrev pub names_first : BoundTrees → List Name
names_first bs = names_of_child (bound_at bs 0)

-- the literal that a tree is
abbrev pub literal_in : BoundTree → Option Constant
literal_in (node t (literal u v) bs) = Some (constant u v)
literal_in _ = None

-- whether it is one that isn't null
abbrev pub is_value : Option Constant → Bool
is_value None = false
is_value (Some c) = not (is_null_datum c.value)
