use Rattle.std.proofs.Common.{◌≡◌, ℕ, List, ◌++◌, drop}
use Rattle.std.specs.Fmt.{HasWritten, IsPlainFormatter}
use Rattle.vx_dtype.proofs.Commas.{behind}
use Rattle.vx_fn.specs.Texts.{with_commas}
use Rattle.vx_fn.proofs.texts.write_names.Given as goal

-- what is written, and what is left to write, is the text of all
abbrev pub invariant-loop-i : goal.invariant-loop-i
invariant-loop-i g l =
    IsPlainFormatter l.initial.f →
    (done : List ℕ) × HasWritten g.W.Write.write_str_gives l.initial.f done l.f
    × (done ++ behind l.i (drop l.i l.names) ≡ with_commas l.names)
