use Rattle.std.proofs.Common.{◌≡◌, ◌∙◌, ap, false, map, rules}
use Rattle.vx_dtype.specs.declared.dtype.DType.{the_lemmas}
use Rattle.vx_value.specs.Fields.{fields_named}
use Rattle.vx_value.specs.Types.{ty, struct}
use Rattle.vx_value.specs.Views.{type_of, fields_of}
use Rattle.vx_example_field_columns.proofs.rows_type.Goals as goal

pub returns-clause-typed : goal.returns-clause-typed
returns-clause-typed c =
    let fields : fields_of c.in_ok-fields.fields ≡ fields_named c.args.names.now (map type_of c.in_ok-types.types.items) = search rules in
    let typed : type_of _ ≡ ty (struct (fields_of c.in_ok-fields.fields)) false = search (rules, the_lemmas) in
    typed ∙ ap (λ fs. ty (struct fs) false) (fields ∙ ap (fields_named c.args.names.now) c.in_ok-types.ensures.types)
