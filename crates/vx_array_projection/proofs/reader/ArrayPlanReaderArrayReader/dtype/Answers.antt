use Rattle.vx_value.proofs.Misfits.{no_misfit}
use Rattle.vx_array_projection.proofs.reader.ArrayPlanReaderArrayReader.dtype.Goals as goal

pub returns-clause-rows : goal.returns-clause-rows
returns-clause-rows c = (no_misfit c.args.self.now.batch.now.type c.args.self.now.batch.now.rows).0 c.lanes-lanes.ensures.fit
