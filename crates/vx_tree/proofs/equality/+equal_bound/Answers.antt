use Rattle.std.proofs.Common.{sym, arith}
use Rattle.vx_tree.proofs.Nodes.{equal_bounds-lengths}
use Rattle.vx_tree.proofs.equality.+equal_bound.Goals as goal

pub equal_bounds-returns-then-bs-cs : goal.equal_bounds-returns-then-bs-cs
equal_bounds-returns-then-bs-cs t c = sym (equal_bounds-lengths c.args.bs.now c.args.cs.now (omega arith))
