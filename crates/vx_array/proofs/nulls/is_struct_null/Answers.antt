use Rattle.std.proofs.Common.{sym, ap, ◌∙◌}
use Rattle.std.specs.Prelude.{not}
use Rattle.vx_value.specs.Types.{is_null_datum}
use Rattle.vx_array.specs.Rows.{lanes_each}
use Rattle.vx_array.proofs.Masked.{null_unless}
use Rattle.vx_array.proofs.Reading.{struct_there, struct_missing}
use Rattle.vx_array.proofs.nulls.is_struct_null.Goals as goal

pub returns : goal.returns
returns c =
    let v = c.args.validity.now in
    let columns = lanes_each c.args._fields.now in
    ap not c.has_row.ensures
    ∙ null_unless _ _
    (λ e. ap is_null_datum (sym (struct_there v c.args.stretch.from c.args.stretch.len columns c.args.i e)))
    (λ e. struct_missing v c.args.stretch.from c.args.stretch.len columns c.args.i e)
