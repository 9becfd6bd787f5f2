use Rattle.std.proofs.Common.{◌++◌, codes, ap, ◌∙◌}
use Rattle.std.proofs.Output.{has_written_of_eq}
use Rattle.vx_value.specs.ValueTexts.{value_text}
use Rattle.vx_value.specs.Views.{type_of}
use Rattle.vx_array.proofs.Reading.{text_read, no_text_read}
use Rattle.vx_array.proofs.texts.write_text.Goals as goal

pub returns-in-Ok : goal.returns-in-Ok
returns-in-Ok g c plain ok =
    has_written_of_eq _ _ _ _ _ (ap (λ s. codes "\"" ++ (s ++ codes "\"")) c.in-Ok.ensures.cases.0 ∙ ap (λ v. value_text v (type_of c.args.t.now)) (text_read c.args.text.now c.in-Ok.ensures.cases.1)) (c.write_text.ensures plain ok)

pub returns-in-Err : goal.returns-in-Err
returns-in-Err g c plain ok =
    has_written_of_eq _ _ _ _ _ (ap (λ v. value_text v (type_of c.args.t.now)) (no_text_read c.args.text.now c.in-Err.ensures.cases.0)) (c.write_str.ensures.writes plain ok)
