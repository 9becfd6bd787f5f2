use Rattle.std.proofs.Common.{◌≡◌}
use Rattle.vx_value.specs.Paths.{minimal_paths}
use Rattle.vx_value.specs.Views.{type_of}
use Rattle.vx_projection.specs.Lost.{first_lost}
use Rattle.vx_projection.proofs.lost.check_paths.Given as goal

abbrev pub invariant-loop-path : goal.invariant-loop-path
invariant-loop-path l = first_lost (minimal_paths l.paths) (type_of l.dtype) ≡ first_lost l.path-iterator (type_of l.dtype)
