-- A query that isn't to be split.
use Rattle.std.proofs.Common.{◌≡◌, Bool, true, false, None, refl}
use Rattle.vx_value.specs.Types.{LogicalType}
use Rattle.vx_query_split.specs.Division.{split_names}

pub not_asked : (split : Bool) (s : LogicalType) → split ≡ false → split_names split s ≡ None
not_asked false s e = refl
not_asked true s e = cc
