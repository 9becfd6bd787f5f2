use Rattle.std.proofs.Output.{has_written_of_eq}
use Rattle.vx_dtype.specs.Views.{type_of}
use Rattle.vx_source_types.proofs.FieldSources.{type_as_source}
use Rattle.vx_source_types.proofs.type_text.write_type.Goals as goal

pub returns : goal.returns
returns g c plain ok = has_written_of_eq _ _ _ _ _ (type_as_source (type_of c.args.t.now)) (c.write_type_in.ensures plain ok)
