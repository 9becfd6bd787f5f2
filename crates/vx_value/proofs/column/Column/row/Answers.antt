use Rattle.std.proofs.Common.{◌≡◌, get_or, length, ◌<◌, arith}
use Rattle.std.proofs.lemmas.Grind.{common_steps}
use Rattle.vx_value.specs.Types.{null}
use Rattle.vx_value.specs.Views.{value_of}
use Rattle.vx_value.proofs.Lists.{fits_at}
use Rattle.vx_value.proofs.column.Column.row.Goals as goal

pub returns-clause-fits : goal.returns-clause-fits
returns-clause-fits c =
    let at : value_of c.index-rows-i.result ≡ get_or c.args.self.now.rows c.args.i null = grind (arith, common_steps) in
    let below : c.args.i < length c.args.self.now.rows = grind (arith, common_steps) in
    rw at (fits_at _ _ _ null c.rows.ensures.fit below)
