use Rattle.std.proofs.Common.{ap, ◌∙◌}
use Rattle.std.specs.Prelude.{not}
use Rattle.vx_sql.proofs.Items.{has_items-given}
use Rattle.vx_sql.proofs.lists.has_items.Goals as goal

pub returns : goal.returns
returns c = ap not c.is_empty.ensures ∙ has_items-given c.args.items.now
