-- What lanes stand for, row by row.
use Rattle.std.specs.Prelude.{ℕ, List, map}
use Rattle.std.proofs.Math.ListN.{replicate}
use Rattle.std.specs.List.{range_with_len}
use Rattle.vx_value.specs.StructColumns.{struct_at}
use Rattle.vx_value.specs.Types.{Datum, bool, int, float, bytes}
use Rattle.vx_value.specs.Views.{value_of}
use Rattle.vx_array.specs.declared.lanes.Lanes.{Lanes, fold-Lanes}
use Rattle.vx_array.specs.declared.lanes.Lanes.TheOpen.{Lanes-F}
use Rattle.vx_array.specs.Kinds.{floats_in, numbers_in, spans_in, text_row}
use Rattle.vx_array.specs.Shown.{shown}

-- the structs of so many rows of columns from one on
abbrev pub structs_from : ℕ → ℕ → List (List Datum) → List Datum
structs_from from n columns = map (struct_at columns) (range_with_len from n)

-- rows are made from the parts of lanes, seen already
abbrev pub lanes_step : Lanes-F (List Datum) → List Datum
lanes_step (Lanes-F.Same v n) = replicate n (value_of v.value)
lanes_step (Lanes-F.Values vs) = map value_of vs
lanes_step (Lanes-F.Bools bs v) = shown v (map bool bs)
lanes_step (Lanes-F.Numbers ns v) = shown v (map int (numbers_in ns))
lanes_step (Lanes-F.Floats fs v) = shown v (map float (floats_in fs))
lanes_step (Lanes-F.Texts ss v) = shown v (map text_row (spans_in ss))
lanes_step (Lanes-F.Octets ss v) = shown v (map bytes (spans_in ss))
lanes_step (Lanes-F.Structs fs s v) = shown v (structs_from s.from s.len fs.value.items)

-- the rows that lanes stand for
abbrev pub lanes_rows : Lanes → List Datum
lanes_rows = fold-Lanes (List Datum) lanes_step

-- the rows of each of some lanes
abbrev pub lanes_each : List Lanes → List (List Datum)
lanes_each ls = map lanes_rows ls
