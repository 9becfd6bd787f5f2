-- Structs of columns side by side.
use Rattle.std.proofs.Common.{◌≡◌, ℕ, List, length, map, ap, ◌∙◌, rules, true, false}
use Rattle.std.specs.Prelude.{Option, None, is_some}
use Rattle.std.specs.declared.alloc.Global.{Global}
use Rattle.std.specs.declared.sync.Arc.{Arc}
use Rattle.std.proofs.Common.{Vec}
use Rattle.vx_dtype.specs.declared.dtype.DType.{DType, the_lemmas as the_types}
use Rattle.vx_dtype.specs.declared.dtype.DType.TheVariants as DType
use Rattle.vx_dtype.specs.declared.dtype.Nullability.{Nullability}
use Rattle.vx_dtype.specs.declared.dtype.StructFields.{StructFields}
use Rattle.vx_value.specs.Types.{Name, ty, struct}
use Rattle.vx_value.specs.Fields.{fields_named}
use Rattle.vx_value.specs.Views.{admits_null, fields_of, type_of}
use Rattle.vx_value.specs.Columns.{Batch, first_misfit}
use Rattle.vx_value.specs.StructColumns.{EachFit, all_long, rows_in, struct_rows, struct_type, types_in}
use Rattle.vx_value.proofs.StructRows.{structs_fit}
use Rattle.vx_array.specs.declared.lanes.Lanes as Kind
use Rattle.vx_array.specs.declared.lanes.Lanes.{Lanes}
use Rattle.vx_array.specs.declared.stretch.Stretch.{Stretch}
use Rattle.vx_array.specs.declared.validity.Validity.{Validity}
use Rattle.vx_array.specs.Rows.{lanes_rows, lanes_each}
use Rattle.vx_array.specs.Shown.{shown}
use Rattle.vx_array.proofs.Held.{rows-Structs}
use Rattle.vx_array_build.specs.Built.{shown_by}
use Rattle.vx_array_build.proofs.Made.{shown_fit}

-- the type that was made
pub struct_typed : (fields : StructFields) (nullability : Nullability) (names : List Name) (types : List DType) (cs : List Batch) (v : Option Validity) → map type_of types ≡ types_in cs → fields_of fields ≡ fields_named names (map type_of types) → admits_null nullability ≡ is_some v →
    type_of (DType.Struct fields nullability) ≡ struct_type names cs (is_some v)
struct_typed fields nullability names types cs v typed made nullable =
    let t : type_of (DType.Struct fields nullability) ≡ ty (struct (fields_of fields)) (admits_null nullability) = search (rules, the_types) in
    t ∙ ap (λ n. ty (struct (fields_of fields)) n) nullable ∙ ap (λ fs. ty (struct fs) (is_some v)) (made ∙ ap (fields_named names) typed)

-- the structs that were made
pub structs_shown : (fs : Arc (Vec Lanes Global) Global) (s : Stretch) (w : Validity) (cs : List Batch) (n : ℕ) (v : Option Validity) → s.from ≡ 0 → s.len ≡ n → lanes_each fs.value.items ≡ rows_in cs → ((ds : _) → shown w ds ≡ shown_by v ds) → lanes_rows (Kind.Structs fs s w) ≡ shown_by v (struct_rows n (rows_in cs))
structs_shown fs s w cs n v first long taken same = rows-Structs fs s w ∙ rw (first, long, taken) (same (struct_rows n (rows_in cs)))

pub structs_made : (names : List Name) (cs : List Batch) (n : ℕ) (v : Option Validity) → length names ≡ length cs → EachFit cs → all_long n cs ≡ true → first_misfit (struct_type names cs (is_some v)) (shown_by v (struct_rows n (rows_in cs))) ≡ None
structs_made names cs n v named fit long = shown_fit (struct (fields_named names (types_in cs))) v (struct_rows n (rows_in cs)) (structs_fit names cs n false named fit long)
