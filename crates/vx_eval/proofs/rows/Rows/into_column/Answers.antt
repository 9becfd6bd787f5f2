use Rattle.std.proofs.Common.{ap, refl, Ok}
use Rattle.vx_value.specs.Views.{type_of}
use Rattle.vx_eval.proofs.Fitting.{made_fits}
use Rattle.vx_eval.proofs.Matched.{column_of}
use Rattle.vx_eval.proofs.rows.Rows.into_column.Goals as goal

pub from_shared-requires : goal.from_shared-requires
from_shared-requires c = made_fits (type_of c.args.dtype.now) _ _ _ c.in_ok-dtype.ensures.cases c.in_ok-rows.ensures c.requires

pub returns : goal.returns
returns c = ap Ok (column_of (type_of c.args.dtype.now) _ _ _ _ _ refl c.in_ok-rows.ensures c.in_ok-dtype.ensures.cases c.from_shared.ensures)
