use Rattle.std.proofs.Common.{◌≡◌, ℕ, List, ◌++◌, drop, map}
use Rattle.std.specs.Fmt.{HasWritten, IsPlainFormatter}
use Rattle.vx_dtype.proofs.Commas.{behind}
use Rattle.vx_source_types.specs.Names.{name_source, names_source}
use Rattle.vx_source_types.proofs.names.write_names.Given as goal

abbrev pub invariant-loop-i : goal.invariant-loop-i
invariant-loop-i g l =
    IsPlainFormatter l.initial.f →
    (done : List ℕ) × HasWritten g.W.Write.write_str_gives l.initial.f done l.f
    × (done ++ behind l.i (map name_source (drop l.i l.names)) ≡ names_source l.names)
