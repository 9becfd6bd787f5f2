use Rattle.std.proofs.Common.{◌∙◌, ap, pos, refl, [], false}
use Rattle.std.specs.List.{range_with_len}
use Rattle.vx_floats.specs.declared.float.Float.TheVariants as bits
use Rattle.vx_value.specs.StructColumns.{struct_at}
use Rattle.vx_value.specs.Types.{bool, bytes, float, int}
use Rattle.vx_array.specs.Kinds.{floats_in, numbers_in, spans_in}
use Rattle.vx_array.specs.Rows.{lanes_each, lanes_rows}
use Rattle.vx_array.proofs.Held.{rows-Bools, rows-Numbers, rows-Floats, rows-Octets, rows-Structs}
use Rattle.vx_array_kernels.proofs.NullRows.{tells_nulls}
use Rattle.vx_array_kernels.proofs.nulls.validity_of.Goals as goal

pub returns-in-Bools : goal.returns-in-Bools
returns-in-Bools c =
    tells_nulls false bool (λ x. refl) c.in-Bools.validity c.in-Bools.field-0 (lanes_rows c.args.lanes.now) (ap lanes_rows c.in-Bools.is ∙ rows-Bools c.in-Bools.field-0 c.in-Bools.validity)

pub returns-in-Numbers : goal.returns-in-Numbers
returns-in-Numbers c =
    tells_nulls (pos 0) int (λ x. refl) c.in-Numbers.validity (numbers_in c.in-Numbers.field-0) (lanes_rows c.args.lanes.now) (ap lanes_rows c.in-Numbers.is ∙ rows-Numbers c.in-Numbers.field-0 c.in-Numbers.validity)

pub returns-in-Floats : goal.returns-in-Floats
returns-in-Floats c =
    tells_nulls (bits.F32 0) float (λ x. refl) c.in-Floats.validity (floats_in c.in-Floats.field-0) (lanes_rows c.args.lanes.now) (ap lanes_rows c.in-Floats.is ∙ rows-Floats c.in-Floats.field-0 c.in-Floats.validity)

pub returns-in-Octets : goal.returns-in-Octets
returns-in-Octets c =
    tells_nulls [] bytes (λ x. refl) c.in-Octets.validity (spans_in c.in-Octets.field-0) (lanes_rows c.args.lanes.now) (ap lanes_rows c.in-Octets.is ∙ rows-Octets c.in-Octets.field-0 c.in-Octets.validity)

pub returns-in-Structs : goal.returns-in-Structs
returns-in-Structs c =
    tells_nulls 0 (struct_at (lanes_each c.in-Structs.field-0.value.items)) (λ x. refl) c.in-Structs.validity (range_with_len c.in-Structs.field-1.from c.in-Structs.field-1.len) (lanes_rows c.args.lanes.now)
    (ap lanes_rows c.in-Structs.is ∙ rows-Structs c.in-Structs.field-0 c.in-Structs.field-1 c.in-Structs.validity)
