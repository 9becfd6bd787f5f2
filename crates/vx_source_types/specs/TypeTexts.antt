-- Types as source text.
use Rattle.std.specs.Prelude.{ℕ, List, [], ◌∷◌, ◌++◌, codes}
use Rattle.std.specs.Fmt.{decimal}
use Rattle.vx_dtype.specs.Texts.{with_commas, mark, atomic_text}
use Rattle.vx_dtype.specs.Types.{LogicalType, ty, Shape, atomic, list, fixed, struct, Fields, no_field, field}
use Rattle.vx_source_types.specs.Names.{name_source}

-- the text of a type, with the names that are no words between backquotes
abbrev mutual
  pub type_source : LogicalType → List ℕ
  type_source (ty s n) = shape_source s ++ mark n

  pub shape_source : Shape → List ℕ
  shape_source (atomic p) = atomic_text p
  shape_source (list t) = codes "list(" ++ (type_source t ++ codes ")")
  shape_source (fixed t k) = codes "fixed_size_list(" ++ (type_source t ++ (codes ")[" ++ (decimal k ++ codes "]")))
  shape_source (struct fs) = codes "{" ++ (with_commas (field_sources fs) ++ codes "}")

  -- each field by its name and its type
  pub field_sources : Fields → List (List ℕ)
  field_sources no_field = []
  field_sources (field a t fs) = (name_source a ++ (codes "=" ++ type_source t)) ∷ field_sources fs
