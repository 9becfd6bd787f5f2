use Rattle.std.proofs.Common.{◌≡◌, ◌++◌, [], ◌∷◌}
use Rattle.json.specs.Token.{begin_array, begin_object}
use Rattle.vx_value.specs.Views.{type_of, fields_of, data_view}
use Rattle.vx_data.specs.Lines.{item_tokens, field_tokens}
use Rattle.vx_data.proofs.Spelled.{items_from, fields_from}
use Rattle.vx_data.proofs.json_lines.write.+write.Given as goal

abbrev pub invariant-write_items-loop-i : goal.invariant-write_items-loop-i
invariant-write_items-loop-i l =
    (l.writer.before ≡ l.fn.writer.before)
    × (l.writer.tokens ++ items_from l.i l.items (type_of l.element) ≡ (l.fn.writer.tokens ++ begin_array ∷ []) ++ item_tokens (data_view l.items) (type_of l.element))

abbrev pub invariant-write_fields-loop-i : goal.invariant-write_fields-loop-i
invariant-write_fields-loop-i l =
    (l.writer.before ≡ l.fn.writer.before)
    × (l.writer.tokens ++ fields_from l.i l.names l.values l.types ≡ (l.fn.writer.tokens ++ begin_object ∷ []) ++ field_tokens (data_view l.values) (fields_of l.fields))
