use Rattle.std.proofs.Common.{rules, ◌<◌}
use Rattle.vx_tree.specs.Nodes.{size_of}
use Rattle.vx_tree.specs.Trees.{unbound}
use Rattle.vx_tree.specs.Views.{bound_of}
use Rattle.vx_rewrite_fusing.proofs.Binaries.{left_smaller, right_smaller}
use Rattle.vx_rewrite_fusing.proofs.nodes.+conjuncts_in.Goals as goal

pub conjuncts_in-before-requires : goal.conjuncts_in-before-requires
conjuncts_in-before-requires t c =
    let smaller : size_of (unbound (bound_of c.in-Some.first.now)) < size_of (unbound (bound_of c.args.b.now)) = left_smaller c.in-Some.ensures in
    search rules

pub conjuncts_in-requires : goal.conjuncts_in-requires
conjuncts_in-requires t c =
    let smaller : size_of (unbound (bound_of c.in-Some.second.now)) < size_of (unbound (bound_of c.args.b.now)) = right_smaller c.in-Some.ensures in
    search rules
