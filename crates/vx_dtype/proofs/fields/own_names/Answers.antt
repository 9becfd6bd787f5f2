use Rattle.std.proofs.Common.{sym}
use Rattle.vx_dtype.proofs.Pairs.{field_names_view}
use Rattle.vx_dtype.proofs.fields.own_names.Goals as goal

pub returns : goal.returns
returns c = rw c.field_count.ensures.count (sym (field_names_view _ _))
