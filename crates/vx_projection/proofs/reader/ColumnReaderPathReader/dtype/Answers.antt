use Rattle.vx_value.proofs.Misfits.{no_misfit}
use Rattle.vx_projection.proofs.reader.ColumnReaderPathReader.dtype.Goals as goal

pub returns-clause-rows : goal.returns-clause-rows
returns-clause-rows c = (no_misfit c.args.self.now.column.type c.args.self.now.column.rows).0 c.rows-rows.ensures.fit
