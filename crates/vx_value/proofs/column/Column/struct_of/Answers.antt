use Rattle.std.proofs.Common.{◌≡◌, true, ◌∙◌, sym, rules}
use Rattle.vx_value.specs.StructColumns.{all_long}
use Rattle.vx_value.specs.Views.{type_of, fields_of, fields_view}
use Rattle.vx_value.specs.Columns.{Batch}
use Rattle.vx_value.proofs.StructRows.{rows_there, as_many, structs_made}
use Rattle.vx_value.proofs.column.Column.struct_of.Goals as goal

pub struct_rows-requires : goal.struct_rows-requires
struct_rows-requires c =
    let long : all_long c.args.rows c.args.columns.items ≡ true = search rules in
    rw (c.in_ok-types.ensures.values) (rows_there _ _ long)

pub new-requires : goal.new-requires
new-requires c = c.requires ∙ sym (as_many type_of (λ (b : Batch). b.type) _ _ c.in_ok-types.ensures.types)

pub from_shared-requires : goal.from_shared-requires
from_shared-requires c =
    let long : all_long c.args.rows c.args.columns.items ≡ true = search rules in
    let fields : fields_of c.in_ok-fields.fields ≡ fields_view c.args.names c.in_ok-types.types.items = search rules in
    let kept : c.in_ok-new.field-0.value ≡ c.in_ok-structs.structs = search rules in
    rw kept (structs_made c.in_ok-fields.fields c.args.nullability c.args.names c.in_ok-types.types.items c.args.columns.items c.args.rows _ c.in_ok-structs.structs.items c.requires c.in_ok-types.ensures.fit long c.in_ok-types.ensures.types c.in_ok-types.ensures.values fields c.in_ok-structs.ensures)
