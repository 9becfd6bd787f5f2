use Rattle.std.proofs.Output.{has_written_of_eq}
use Rattle.vx_value.specs.Views.{type_of, data_view}
use Rattle.vx_value.proofs.ValuesWritten.{list_as_text}
use Rattle.vx_value.proofs.value_texts.write_list.Goals as goal

pub returns : goal.returns
returns g c plain ok = has_written_of_eq _ _ _ _ _ (list_as_text (data_view c.args.values.now) (type_of c.args.t.now)) (c.write_list_in.ensures plain ok)
