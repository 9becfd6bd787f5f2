-- The rows are values of the type, which the copy is.
use Rattle.std.proofs.Common.{rules, map, List, None, ◌≡◌, subst, sym}
use Rattle.vx_value.specs.Columns.{first_misfit}
use Rattle.vx_value.specs.Fits.{IsBatch}
use Rattle.vx_value.specs.Types.{LogicalType}
use Rattle.vx_value.specs.Views.{type_of, value_of}
use Rattle.vx_value.proofs.Misfits.{no_misfit}
use Rattle.vx_value.specs.declared.value.Value.{Value}
use Rattle.vx_records.proofs.batches.batch_of.Goals as goal

same_misfit : (s t : LogicalType) (us vs : List Value) → t ≡ s → us ≡ vs → IsBatch s (map value_of vs) → first_misfit t (map value_of us) ≡ None
same_misfit s t us vs type rows fit = subst (λ t. first_misfit t (map value_of us) ≡ None) (sym type) (subst (λ us. first_misfit s (map value_of us) ≡ None) (sym rows) ((no_misfit s (map value_of vs)).1 fit))

pub from_shared-requires : goal.from_shared-requires
from_shared-requires c = same_misfit (type_of c.args.dtype.now) (type_of c.in_ok-clone.field-0) c.in_ok-rows.rows.value.items c.args.rows.items (search rules) (search rules) c.requires
