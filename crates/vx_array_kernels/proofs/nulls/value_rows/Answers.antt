use Rattle.std.proofs.Common.{◌∙◌, ap, length, sym}
use Rattle.vx_array.specs.Kinds.{spans_in, text_row}
use Rattle.vx_array.specs.Rows.{lanes_rows}
use Rattle.vx_array.proofs.Held.{rows-Texts}
use Rattle.vx_array_kernels.proofs.Chosen.{count_there}
use Rattle.vx_array_kernels.proofs.nulls.value_rows.Goals as goal

pub texts_there-requires-clause-there : goal.texts_there-requires-clause-there
texts_there-requires-clause-there c =
    (count_there text_row c.in-Texts.validity (spans_in c.in-Texts.spans) c.args.count (ap length (sym (ap lanes_rows c.in-Texts.is ∙ rows-Texts c.in-Texts.spans c.in-Texts.validity)) ∙ c.requires)).0
