use Rattle.std.proofs.Common.{◌∙◌, ◌<◌, Bool, false, rules, subst, sym}
use Rattle.std.specs.Prelude.{if◌then◌else◌}
use Rattle.std.proofs.lemmas.List.{get_or-map, length-map}
use Rattle.vx_array_loops.proofs.Filled.{filled_as}
use Rattle.vx_ffi_plan.specs.Selections.{selection}
use Rattle.vx_ffi_plan.proofs.select.bytes_of.Goals as goal

pub returns : goal.returns
returns c =
    let rows = c.args.rows.now in
    let byte = λ (b : Bool). if b then 1 else 0 in
    filled_as 0 c.len.result (selection rows) _ c.tabulated.result (length-map rows byte ∙ sym c.len.ensures) c.tabulated.ensures.long c.tabulated.ensures.each
    (λ k x lt post. rw (get_or-map byte rows k false 0 (subst (λ n. k < n) c.len.ensures lt)) (search rules))
