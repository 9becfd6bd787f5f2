use Rattle.std.proofs.Common.{◌≡◌, ◌++◌, drop}
use Rattle.vx_tree.specs.Views.{bounds_of}
use Rattle.vx_rewrite_paths.specs.Asked.{each_asked}
use Rattle.vx_rewrite_paths.specs.Requests.{requested}
use Rattle.vx_rewrite_paths.proofs.referenced.+ask.Given as goal

-- what is recorded, and what the trees that are left ask for, is what all of them ask for
abbrev pub invariant-ask_each-loop-b : goal.invariant-ask_each-loop-b
invariant-ask_each-loop-b l =
    l.recorded.items ++ each_asked (bounds_of (drop l.b-index l.bs)) (requested l.request)
    ≡ l.fn.recorded.items ++ each_asked (bounds_of l.bs) (requested l.request)
