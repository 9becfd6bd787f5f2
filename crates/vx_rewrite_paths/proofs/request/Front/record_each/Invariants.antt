use Rattle.std.proofs.Common.{◌≡◌, ◌++◌, map, take}
use Rattle.vx_rewrite_paths.specs.Asked.{each_alone}
use Rattle.vx_rewrite_paths.specs.Requests.{front_path}
use Rattle.vx_rewrite_paths.proofs.request.Front.record_each.Given as goal

abbrev pub invariant-loop-name : goal.invariant-loop-name
invariant-loop-name l = l.recorded.items ≡ l.fn.recorded.items ++ map (λ end. front_path l.self ++ end) (each_alone (take l.name-index l.names))
