use Rattle.vx_dtype.proofs.FieldsAt.{field_there, field_nowhere}
use Rattle.vx_dtype.proofs.fields.field_of.Goals as goal

pub returns-in_err-find : goal.returns-in_err-find
returns-in_err-find c =
    rw c.from_residual.ensures (field_nowhere c.args.name.now c.args.names.now c.args.types.now c.in_err-find.ensures)

pub returns : goal.returns
returns c = field_there c.args.name.now c.args.names.now c.args.types.now c.in_ok-find.field-0 c.get.result c.in_ok-find.ensures c.get.ensures.lookup
