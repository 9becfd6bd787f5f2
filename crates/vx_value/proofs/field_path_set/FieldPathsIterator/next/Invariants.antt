use Rattle.std.proofs.Common.{◌≡◌, length, filter}
use Rattle.std.specs.Prelude.{not}
use Rattle.vx_value.specs.Paths.{has_proper_prefix}
use Rattle.vx_value.proofs.field_path_set.FieldPathsIterator.next.Given as goal

abbrev pub invariant-loop-path : goal.invariant-loop-path
invariant-loop-path l = filter (λ path. not (has_proper_prefix l.self-inside.set.now path)) l.self-inside.rest ≡ l.fn.self

abbrev pub decreases-loop-path : goal.decreases-loop-path
decreases-loop-path l = length l.self-inside.rest
