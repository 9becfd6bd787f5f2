use Rattle.std.proofs.Common.{[], ◌∷◌, ◌++◌, ap, ◌∙◌, append_assoc, arith}
use Rattle.json.specs.Token.{begin_object, end_object}
use Rattle.vx_value.specs.Fields.{field_count}
use Rattle.vx_value.specs.Views.{fields_view}
use Rattle.vx_data.proofs.Spelled.{fields_all}
use Rattle.vx_data.proofs.json_lines.write.+write.Goals as goal

pub write_fields-returns-clause-tokens : goal.write_fields-returns-clause-tokens
write_fields-returns-clause-tokens t c =
    let names = c.as_slice-names.ensures ∙ c.names.ensures.names in
    let fields = ap (λ ns. fields_view ns c.types-types.result.now) names ∙ c.types-types.ensures.fields in
    let count = ap field_count fields in
    let (same, left) = c.loop-i.invariant in
    let all = fields_all c.as_slice-names.result.now c.args.values.now c.types-types.result.now c.loop-i.i _ _ (omega arith) left in
    c.in_ok-end_object.ensures.ok ∙ ap (λ ts. ts ++ end_object ∷ []) all ∙ append_assoc (_ ++ begin_object ∷ []) _ _ ∙ append_assoc _ (begin_object ∷ []) _
