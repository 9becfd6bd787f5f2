-- Scalars that are lent.
use Rattle.std.specs.Prelude.{List, map}
use Rattle.std.specs.Borrow.{Bor}
use Rattle.vx_value.specs.Columns.{Constant}

-- those that are lent
abbrev pub lent_scalars : List (Bor Constant) → List Constant
lent_scalars scalars = map (λ c. c.now) scalars
