-- The options of functions as source text.
use Rattle.std.specs.Prelude.{ℕ, Bool, List, ◌++◌, codes}
use Rattle.vx_value.specs.Types.{Name}
use Rattle.vx_fn.specs.declared.options.FieldSelection.{FieldSelection}
use Rattle.vx_fn.specs.declared.options.FieldSelection.TheVariants.{Include, Exclude}
use Rattle.vx_fn.specs.Functions.{Function, get_item, literal, pack, select, cast}
use Rattle.vx_fn.specs.Texts.{nullability_text, options_text}
use Rattle.vx_source_types.specs.Names.{name_source, names_source}
use Rattle.vx_source_types.specs.TypeTexts.{type_source}
use Rattle.vx_source_types.specs.ScalarTexts.{scalar_source}

-- the names between braces, behind a tilde where they are left out
abbrev pub selection_source : FieldSelection → List ℕ
selection_source (Include names) = codes "{" ++ (names_source names ++ codes "}")
selection_source (Exclude names) = codes "~{" ++ (names_source names ++ codes "}")

-- the names and the nullability
abbrev pub pack_options_source : List Name → Bool → List ℕ
pack_options_source names n = codes "names: [" ++ (names_source names ++ (codes "], nullability: " ++ nullability_text n))

-- what a function says of itself beside its name: its text, with names, types and scalars as source text
abbrev pub options_source : Function → List ℕ
options_source (get_item a) = name_source a
options_source (literal t v) = scalar_source v t
options_source (pack names n) = pack_options_source names n
options_source (select selection) = selection_source selection
options_source (cast t) = type_source t
options_source f = options_text f
