use Rattle.std.proofs.Common.{◌≡◌, ℕ, List, ◌++◌, drop}
use Rattle.std.specs.Fmt.{HasWritten, IsPlainFormatter}
use Rattle.vx_dtype.proofs.Commas.{behind}
use Rattle.vx_value.specs.Texts.{with_commas}
use Rattle.vx_value.specs.Views.{type_of, data_view}
use Rattle.vx_sql.specs.Literals.{items_sql}
use Rattle.vx_sql.proofs.literals.write_items.Given as goal

-- what is written, and what is left to write, is the text of all values
abbrev pub invariant-loop-i : goal.invariant-loop-i
invariant-loop-i g l =
    IsPlainFormatter l.initial.f
    → (done : List ℕ) × HasWritten g.W.Write.write_str_gives l.initial.f done l.f
    × (done ++ behind l.i (items_sql l.dialect (data_view (drop l.i l.items)) (type_of l.dtype)) ≡ with_commas (items_sql l.dialect (data_view l.items) (type_of l.dtype)))
