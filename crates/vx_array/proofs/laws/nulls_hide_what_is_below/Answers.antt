use Rattle.vx_array.proofs.Below.{hidden}
use Rattle.vx_array.proofs.laws.nulls_hide_what_is_below.Goals as goal

pub returns : goal.returns
returns c = hidden
