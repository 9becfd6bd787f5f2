-- Names with something beside each.
use Rattle.std.specs.Prelude.{List, map}
use Rattle.vx_value.specs.Types.{Name}

-- the names, each seen by view
abbrev pub named : {N A : Type 0} → (N → Name) → List (N × A) → List Name
named view entries = map (λ e. view e.0) entries

-- what stands beside them
abbrev pub beside : {N A : Type 0} → List (N × A) → List A
beside entries = map (λ e. e.1) entries
