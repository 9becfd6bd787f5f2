use Rattle.std.proofs.Common.{◌≡◌, true, false, rules}
use Rattle.vx_value.proofs.Misfits.{no_misfit}
use Rattle.vx_value.proofs.StructRows.{structs_fit}
use Rattle.vx_value.specs.StructColumns.{all_long, EachFit}
use Rattle.vx_example_field_columns.specs.FieldColumns.{joined}
use Rattle.vx_example_field_columns.proofs.FieldColumns.try_new.Goals as goal

pub invariant_of-result : goal.invariant_of-result
invariant_of-result c =
    let columns = c.args.columns.items in
    let long : all_long c.args.rows columns ≡ true = search rules in
    let fit : EachFit columns = rw (← c.as_slice-2.ensures.value) c.in_ok-dtype.ensures.fit in record {
      named = c.requires;
      typed = rw (← c.as_slice-2.ensures.value) c.in_ok-dtype.ensures.typed;
      long = long;
      fit = (no_misfit (joined c.args.names columns c.args.rows).type (joined c.args.names columns c.args.rows).rows).0 (structs_fit c.args.names columns c.args.rows false c.requires fit long);
    }
