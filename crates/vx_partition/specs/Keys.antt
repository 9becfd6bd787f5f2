-- Names that are equal have the same bytes.
use Rattle.std.specs.Prelude.{◌≡◌, true, nat_eq}
use Rattle.std.specs.Cmp.{unsigned_Decides}
use Rattle.std.specs.Cmp.Lexicographic.{pointwise, pointwise_decides}
use Rattle.vx_value.specs.Types.{Name}

-- equal names are the same
pub same_bytes : (a b : Name) → pointwise nat_eq a b ≡ true → a ≡ b
same_bytes a b = (pointwise_decides unsigned_Decides a b).0
