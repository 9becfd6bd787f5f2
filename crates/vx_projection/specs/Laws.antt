-- What is kept of a batch: a batch of the type, which agrees with it along the paths.
use Rattle.std.specs.Prelude.{List, map}
use Rattle.vx_value.specs.Fits.{IsBatch}
use Rattle.vx_value.specs.Paths.{Path}
use Rattle.vx_value.specs.Types.{LogicalType, Datum}
use Rattle.vx_rewrite_paths.specs.Agreement.{RowsAgree}
use Rattle.vx_rewrite_paths.specs.Leading.{EachLeads}
use Rattle.vx_projection.specs.Kept.{kept}

-- what is kept of the rows of a type are rows of the type
abbrev pub KeptRowsFit : Type 0
KeptRowsFit = (paths : List Path) (t : LogicalType) (rows : List Datum) → IsBatch t rows → IsBatch t (map (kept paths t) rows)

-- along paths of the type they agree with these rows
abbrev pub KeptRowsAgree : Type 0
KeptRowsAgree = (paths : List Path) (t : LogicalType) (rows : List Datum) → EachLeads paths t → IsBatch t rows → RowsAgree paths t rows (map (kept paths t) rows)
