use Rattle.std.proofs.Common.{rules, ◌<◌}
use Rattle.vx_fn.specs.Functions.{and_also}
use Rattle.vx_tree.specs.Nodes.{size_of}
use Rattle.vx_tree.specs.Trees.{unbound}
use Rattle.vx_tree.specs.Views.{bound_of}
use Rattle.vx_rewrite_fusing.proofs.Binaries.{left_smaller, right_smaller}
use Rattle.vx_sql_plan.proofs.pushdown.+left_of.Goals as goal

pub left_of-requires : goal.left_of-requires
left_of-requires t c =
    let smaller : size_of (unbound (bound_of c.in-Some.l.now)) < size_of (unbound (bound_of c.args.tree.now)) = left_smaller {op = and_also} c.in-Some.ensures in
    search rules

pub left_of-requires-2 : goal.left_of-requires-2
left_of-requires-2 t c =
    let smaller : size_of (unbound (bound_of c.in-Some.r.now)) < size_of (unbound (bound_of c.args.tree.now)) = right_smaller {op = and_also} c.in-Some.ensures in
    search rules
