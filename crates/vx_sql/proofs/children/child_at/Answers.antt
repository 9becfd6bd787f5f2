use Rattle.vx_sql.proofs.Seen.{bound_at-there, bound_at-beyond}
use Rattle.vx_sql.proofs.children.child_at.Goals as goal

pub returns-then-index-children : goal.returns-then-index-children
returns-then-index-children c = bound_at-there _ _ _ c.if-index-children.true c.index-children-index.is

pub returns-else-index-children : goal.returns-else-index-children
returns-else-index-children c = bound_at-beyond _ _ c.if-index-children.false
