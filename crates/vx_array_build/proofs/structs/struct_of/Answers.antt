use Rattle.std.proofs.Common.{◌≡◌, ap, sym, ◌∙◌, map}
use Rattle.std.specs.Prelude.{is_some}
use Rattle.vx_value.specs.Columns.{first_misfit}
use Rattle.vx_value.specs.Fields.{fields_named}
use Rattle.vx_value.specs.StructColumns.{struct_type}
use Rattle.vx_value.specs.Views.{fields_of, type_of}
use Rattle.vx_array.specs.declared.lanes.Lanes as Kind
use Rattle.vx_array.specs.Rows.{lanes_each, lanes_rows}
use Rattle.vx_array_build.proofs.Joined.{struct_typed, structs_made, structs_shown}
use Rattle.vx_array_build.proofs.structs.struct_of.Goals as goal

pub new-requires-3 : goal.new-requires-3
new-requires-3 c =
    let v = c.args.validity in
    let cs = c.args.columns.now in
    let n = c.args.rows in
    let made : fields_of c.in_ok-fields.fields ≡ fields_named c.args.names (map type_of c.in_ok-types.types.items) = cc c.in_ok-fields.ensures.fields in
    let held : lanes_each c.in_ok-lanes.lanes.value.items ≡ lanes_each c.in_ok-types.lanes.items = ap (λ u. lanes_each u.items) c.in_ok-lanes.ensures.ok in
    ap (λ u. first_misfit u (lanes_rows (Kind.Structs c.in_ok-lanes.lanes c.first.result c.or_all.result))) (struct_typed c.in_ok-fields.fields c.nullability.result c.args.names c.in_ok-types.types.items cs v c.in_ok-types.ensures.types made c.nullability.ensures)
    ∙ ap (first_misfit (struct_type c.args.names cs (is_some v))) (structs_shown c.in_ok-lanes.lanes c.first.result c.or_all.result cs n v c.first.ensures.from c.first.ensures.len (held ∙ c.in_ok-types.ensures.lanes) c.or_all.ensures)
    ∙ structs_made c.args.names cs n v c.requires c.in_ok-types.ensures.fit (sym c.if-not-all_long.ensures)
