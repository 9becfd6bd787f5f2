use Rattle.std.proofs.Common.{ap, sym, ◌∙◌}
use Rattle.vx_array.specs.Rows.{lanes_rows}
use Rattle.vx_array.specs.Shown.{shown}
use Rattle.vx_array.proofs.Joined.{all_nulls}
use Rattle.vx_array.proofs.lanes.Lanes.masked.Goals as goal

pub returns-in_ok-nulls-in-Nothing : goal.returns-in_ok-nulls-in-Nothing
returns-in_ok-nulls-in-Nothing c =
    c.in_ok-nulls-in-Nothing.ensures ∙ all_nulls (lanes_rows c.args.self.now) c.len.result c.len.ensures ∙ ap (λ v. shown v (lanes_rows c.args.self.now)) (sym c.in-Nothing.is)
