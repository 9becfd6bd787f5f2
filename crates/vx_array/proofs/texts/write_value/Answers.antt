use Rattle.std.proofs.Output.{has_written_of_eq}
use Rattle.vx_value.specs.Views.{type_of, value_of}
use Rattle.vx_value.proofs.ValuesWritten.{value_as_text}
use Rattle.vx_array.proofs.texts.write_value.Goals as goal

pub returns : goal.returns
returns g c plain ok = has_written_of_eq _ _ _ _ _ (value_as_text (value_of c.args.value.now) (type_of c.args.t.now)) (c.write_value_in.ensures plain ok)
