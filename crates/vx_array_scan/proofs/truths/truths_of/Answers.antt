use Rattle.std.proofs.Common.{◌∙◌, false, length, map, rules}
use Rattle.std.proofs.lemmas.List.{length-map}
use Rattle.vx_value.specs.Views.{value_of}
use Rattle.vx_fn.specs.Values.{is_true}
use Rattle.vx_array_loops.proofs.Filled.{made_as}
use Rattle.vx_array_scan.proofs.TrueRows.{true_at}
use Rattle.vx_array_scan.proofs.truths.truths_of.Goals as goal

pub returns : goal.returns
returns c =
    let values = c.args.values.now in
    let rows = map value_of values in
    made_as false (length values) (map is_true rows) _ c.tabulated.result (length-map rows is_true ∙ length-map values value_of) c.tabulated.ensures.long c.tabulated.ensures.each
    (λ k x lt post. rw (true_at rows k) (search rules))
