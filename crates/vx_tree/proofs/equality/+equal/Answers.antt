use Rattle.std.proofs.Common.{sym, arith}
use Rattle.vx_tree.proofs.Nodes.{equal_trees-lengths}
use Rattle.vx_tree.proofs.equality.+equal.Goals as goal

pub equal_all-returns-then-ds-es : goal.equal_all-returns-then-ds-es
equal_all-returns-then-ds-es t c = sym (equal_trees-lengths c.args.ds.now c.args.es.now (omega arith))
