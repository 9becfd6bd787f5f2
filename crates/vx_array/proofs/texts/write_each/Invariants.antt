use Rattle.std.proofs.Common.{◌≡◌, ℕ, List, ◌++◌}
use Rattle.std.specs.Fmt.{HasWritten, IsPlainFormatter}
use Rattle.vx_dtype.proofs.Commas.{behind}
use Rattle.vx_value.specs.Texts.{with_commas}
use Rattle.vx_value.specs.Views.{type_of}
use Rattle.vx_array.specs.Rows.{lanes_rows}
use Rattle.vx_array.proofs.Written.{items_from}
use Rattle.vx_array.proofs.texts.write_each.Given as goal

abbrev pub invariant-loop-i : goal.invariant-loop-i
invariant-loop-i g l =
    IsPlainFormatter l.initial.f →
    (done : List ℕ) × HasWritten g.W.Write.write_str_gives l.initial.f done l.f
    × (done ++ behind l.i (items_from l.i (lanes_rows l.lanes) (type_of l.t)) ≡ with_commas (items_from 0 (lanes_rows l.lanes) (type_of l.t)))
