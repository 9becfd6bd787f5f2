-- Types in a notation: what notations have in common, over how each writes the name of a field.
use Rattle.std.specs.Prelude.{ℕ, List, [], ◌∷◌, ◌++◌, codes}
use Rattle.std.specs.Fmt.{decimal}
use Rattle.vx_dtype.specs.Types.{Name, LogicalType, ty, Shape, atomic, list, fixed, struct, Fields, no_field, field}
use Rattle.vx_dtype.specs.Texts.{with_commas, mark, atomic_text}

-- the text of a type: that of its shape, marked where it is nullable
abbrev mutual
  pub type_in : (Name → List ℕ) → LogicalType → List ℕ
  type_in named (ty s n) = shape_in named s ++ mark n

  -- the text of a shape
  pub shape_in : (Name → List ℕ) → Shape → List ℕ
  shape_in named (atomic p) = atomic_text p
  shape_in named (list t) = codes "list(" ++ (type_in named t ++ codes ")")
  shape_in named (fixed t k) = codes "fixed_size_list(" ++ (type_in named t ++ (codes ")[" ++ (decimal k ++ codes "]")))
  shape_in named (struct fs) = codes "{" ++ (with_commas (fields_in named fs) ++ codes "}")

  -- each field by its name and its type
  pub fields_in : (Name → List ℕ) → Fields → List (List ℕ)
  fields_in named no_field = []
  fields_in named (field a t fs) = (named a ++ (codes "=" ++ type_in named t)) ∷ fields_in named fs
