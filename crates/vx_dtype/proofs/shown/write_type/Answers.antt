use Rattle.std.proofs.Output.{has_written_of_eq}
use Rattle.vx_dtype.specs.Views.{type_of}
use Rattle.vx_dtype.proofs.TypesWritten.{type_as_text}
use Rattle.vx_dtype.proofs.shown.write_type.Goals as goal

pub returns : goal.returns
returns g c plain ok = has_written_of_eq _ _ _ _ _ (type_as_text (type_of c.args.t.now)) (c.write_type_in.ensures plain ok)
