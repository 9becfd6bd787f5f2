-- What is found of columns, where there is a fast way.
use Rattle.std.specs.Prelude.{◌≡◌, List, length, IfOk, IfSome, Option, Result}
use Rattle.vx_value.specs.Types.{Datum}
use Rattle.vx_array.specs.declared.lanes.Lanes.{Lanes}
use Rattle.vx_array.specs.Rows.{lanes_rows}
use Rattle.vx_array_kernels.specs.declared.pair.Pair.{Pair}
use Rattle.vx_array_kernels.specs.Truths.{both_rows}

-- lanes that are found hold these rows
abbrev pub Finds : {E : Type 0} → List Datum → Result (Option Lanes) E → Type 0
Finds rows r = IfOk r (λ found. IfSome found (λ out. lanes_rows out ≡ rows))

-- both columns have as many rows as the pair says
abbrev pub IsLong : Pair → Type 0
IsLong p = (length (lanes_rows p.lhs.now) ≡ p.count) × (length (lanes_rows p.rhs.now) ≡ p.count)

-- what g gives of the values of each row of the two
abbrev pub pair_rows : (Datum → Datum → Datum) → Pair → List Datum
pair_rows g p = both_rows p.count g (lanes_rows p.lhs.now) (lanes_rows p.rhs.now)
