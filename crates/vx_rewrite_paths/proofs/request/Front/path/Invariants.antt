use Rattle.std.proofs.Common.{◌≡◌, ◌++◌, length}
use Rattle.vx_rewrite_paths.specs.Requests.{front_path}
use Rattle.vx_rewrite_paths.proofs.request.Front.path.Given as goal

abbrev pub invariant-loop-rest : goal.invariant-loop-rest
invariant-loop-rest l = l.path ++ front_path l.rest ≡ front_path l.self

abbrev pub decreases-loop-rest : goal.decreases-loop-rest
decreases-loop-rest l = length (front_path l.rest)
