-- Which paths a reader allows.
use Rattle.std.specs.Prelude.{List}
use Rattle.vx_value.specs.Paths.{Path}
use Rattle.vx_dtype.specs.Lists.{IsIn}

-- each of the first paths is one of the second
abbrev pub AreAmong : List Path → List Path → Type 0
AreAmong paths allowed = (p : Path) → IsIn p paths → IsIn p allowed

-- the paths are just those, in whatever order
abbrev pub AreJust : List Path → List Path → Type 0
AreJust allowed paths = AreAmong paths allowed × AreAmong allowed paths
