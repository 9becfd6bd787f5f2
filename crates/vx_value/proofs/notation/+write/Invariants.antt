use Rattle.std.proofs.Common.{◌≡◌, ℕ, List, ◌++◌}
use Rattle.std.specs.Fmt.{HasWritten, IsPlainFormatter}
use Rattle.vx_dtype.proofs.Commas.{behind}
use Rattle.vx_value.specs.Notations.{row_in}
use Rattle.vx_value.specs.Texts.{with_commas}
use Rattle.vx_value.specs.Views.{type_of, fields_of, data_view}
use Rattle.vx_value.proofs.ValuesWritten.{items_from, row_from}
use Rattle.vx_value.proofs.notation.+write.Given as goal

abbrev pub invariant-write_items-loop-i : goal.invariant-write_items-loop-i
invariant-write_items-loop-i g l =
    IsPlainFormatter l.initial.f →
    (done : List ℕ) × HasWritten g.W.Write.write_str_gives l.initial.f done l.f
    × (done ++ behind l.i (items_from g.N.TypeNotation.named g.N.ValueNotation.words l.i l.values (type_of l.t)) ≡ with_commas (items_from g.N.TypeNotation.named g.N.ValueNotation.words 0 l.values (type_of l.t)))

abbrev pub invariant-write_row-loop-i : goal.invariant-write_row-loop-i
invariant-write_row-loop-i g l =
    IsPlainFormatter l.initial.f →
    (done : List ℕ) × HasWritten g.W.Write.write_str_gives l.initial.f done l.f
    × (done ++ behind l.i (row_from g.N.TypeNotation.named g.N.ValueNotation.words l.i l.names l.values l.types) ≡ with_commas (row_in g.N.TypeNotation.named g.N.ValueNotation.words (data_view l.values) (fields_of l.fields)))
