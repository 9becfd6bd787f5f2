use Rattle.std.proofs.Common.{inr}
use Rattle.vx_commands.proofs.Kept.{kept}
use Rattle.vx_commands.proofs.sql.run_sql.Goals as goal

pub returns-in-Err : goal.returns-in-Err
returns-in-Err g c = inr (kept (g.W.Write.contents c.args.out.now), (c.in-Err.error, c.in-Err.ensures.error, c.tell_error.ensures))
