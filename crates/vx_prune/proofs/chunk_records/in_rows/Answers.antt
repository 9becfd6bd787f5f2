use Rattle.vx_value.specs.Views.{data_view}
use Rattle.vx_prune.proofs.Read.{given-consistent}
use Rattle.vx_prune.specs.Views.{places_of}
use Rattle.vx_prune.proofs.chunk_records.in_rows.Goals as goal

pub returns-in-Some-Struct-clause-consistent : goal.returns-in-Some-Struct-clause-consistent
returns-in-Some-Struct-clause-consistent c = given-consistent c.args.rows (places_of c.args.places.now) (data_view c.as_slice.result.now) c.with_places.result c.with_places.ensures
