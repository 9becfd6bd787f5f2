use Rattle.std.proofs.Common.{◌∙◌, ap, map, not}
use Rattle.vx_value.specs.Types.{bool}
use Rattle.vx_array.specs.Rows.{lanes_rows}
use Rattle.vx_array.specs.Shown.{shown}
use Rattle.vx_array.proofs.Held.{rows-Bools}
use Rattle.vx_array_kernels.proofs.Bits.{not_rows, all_taken}
use Rattle.vx_array_kernels.proofs.logic.not.Goals as goal

pub returns-in_ok-clone-in-Bools : goal.returns-in_ok-clone-in-Bools
returns-in_ok-clone-in-Bools c =
    not_rows c.in-Bools.validity c.in-Bools.bits c.in_ok-new-in-Bools.field-0 (lanes_rows c.args.input.now) _
    (c.in_ok-new-in-Bools.ensures ∙ c.in_ok-others-in-Bools.ensures ∙ ap (map not) (c.in_ok-first-in-Bools.ensures ∙ all_taken c.len.result c.in-Bools.bits c.len.ensures))
    (rows-Bools c.in_ok-new-in-Bools.field-0 c.in_ok-clone-in-Bools.field-0 ∙ ap (λ v. shown v (map bool c.in_ok-new-in-Bools.field-0)) c.in_ok-clone-in-Bools.ensures.cases)
    (ap lanes_rows c.in-Bools.is ∙ rows-Bools c.in-Bools.bits c.in-Bools.validity)
