use Rattle.std.proofs.Common.{sym, ◌∙◌}
use Rattle.vx_prune_bounds.proofs.Ends.{contains_alone}
use Rattle.vx_prune_bounds.proofs.bounds.Bounds.contains.Goals as goal

pub returns-in-None : goal.returns-in-None
returns-in-None c = contains_alone c.args.self.now _ _ (sym c.is_null.ensures ∙ c.if-is_null.false) c.in-None.ensures c.is_open.ensures
