use Rattle.std.proofs.Common.{sym, ap}
use Rattle.std.proofs.Output.{has_written_of_eq}
use Rattle.vx_fn.specs.Texts.{with_commas}
use Rattle.vx_tree.proofs.Written.{shown_names}
use Rattle.vx_tree.proofs.sql.SqlNotation.write_names.Goals as goal

pub returns : goal.returns
returns g c plain ok = has_written_of_eq _ _ _ _ _ (ap with_commas (sym (shown_names c.args.names.now))) (c.write_names.ensures plain ok)
