use Rattle.std.proofs.Common.{◌∙◌, ap, sym, length, Some, None}
use Rattle.std.specs.Prelude.{position}
use Rattle.std.specs.Str.{bytes_eq}
use Rattle.std.proofs.lemmas.Bool.{ltb-true}
use Rattle.vx_dtype.proofs.FieldsAt.{field_there, field_nowhere}
use Rattle.vx_value.specs.Fields.{field_type}
use Rattle.vx_array.proofs.Fielded.{field_placed}
use Rattle.vx_array.proofs.fields.find.Goals as goal

pub returns-in_err-place-clause-field : goal.returns-in_err-place-clause-field
returns-in_err-place-clause-field c =
    rw c.from_residual.ensures (field_nowhere c.args.name.now c.args.fields.now.names c.args.fields.now.types.value.items (c.in_err-place.ensures ∙ ap (position (bytes_eq c.args.name.now)) c.names.ensures.names))

pub returns-in_err-inside-clause-field : goal.returns-in_err-inside-clause-field
returns-in_err-inside-clause-field c =
    let a = c.args.name.now in
    rw c.from_residual-in_err-inside.ensures (field_there a _ c.types.result.now c.in_ok-place.place None (c.in_ok-place.ensures ∙ ap (position (bytes_eq a)) c.names.ensures.names) c.in_err-inside.ensures.lookup ∙ ap (field_type a) c.types.ensures.fields)

pub returns-clause-field : goal.returns-clause-field
returns-clause-field c =
    let a = c.args.name.now in
    field_there a _ c.types.result.now c.in_ok-place.place (Some c.in_ok-inside.inside) (c.in_ok-place.ensures ∙ ap (position (bytes_eq a)) c.names.ensures.names) c.in_ok-inside.ensures.lookup ∙ ap (field_type a) c.types.ensures.fields

pub returns-clause-place : goal.returns-clause-place
returns-clause-place c =
    let a = c.args.name.now in
    field_placed a _ c.types.result.now _ c.in_ok-place.place (c.in_ok-place.ensures ∙ ap (position (bytes_eq a)) c.names.ensures.names) (ltb-true c.in_ok-place.place (length c.types.result.now) (sym c.in_ok-inside.ensures.lookup.0)) c.types.ensures.fields
