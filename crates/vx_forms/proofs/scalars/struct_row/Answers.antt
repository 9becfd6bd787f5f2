use Rattle.std.proofs.Common.{◌≡◌, rules}
use Rattle.vx_dtype.specs.Views.{fields_of, fields_view}
use Rattle.vx_forms.proofs.Rows.{both_long, made_fits}
use Rattle.vx_forms.proofs.scalars.struct_row.Goals as goal

pub struct_-requires : goal.struct_-requires
struct_-requires g c =
    let names : c.in_ok-names-2.names ≡ c.in_ok-names.names.items = search rules in
    let fields : fields_of c.in_ok-fields.fields ≡ fields_view c.in_ok-names-2.names c.in_ok-types.types.items = search rules in
    made_fits c.in_ok-fields.fields c.in_ok-names-2.names c.in_ok-types.types.items c.in_ok-names.scalars.items c.in_ok-types.scalars.items
    (both_long _ _ _ _ _ names c.in_ok-names.ensures.names c.in_ok-names.ensures.others)
    c.in_ok-types.ensures.fit c.in_ok-types.ensures.types c.in_ok-types.ensures.scalars fields
