use Rattle.std.proofs.Common.{◌≡◌, ℕ, List, ◌++◌}
use Rattle.std.specs.Fmt.{HasWritten, IsPlainFormatter}
use Rattle.vx_dtype.specs.Texts.{with_commas}
use Rattle.vx_dtype.proofs.Commas.{behind}
use Rattle.vx_dtype.proofs.TypesWritten.{fields_from}
use Rattle.vx_dtype.proofs.notation.+write.Given as goal

abbrev pub invariant-write_fields-loop-i : goal.invariant-write_fields-loop-i
invariant-write_fields-loop-i g l =
    IsPlainFormatter l.initial.f →
    (done : List ℕ) × HasWritten g.W.Write.write_str_gives l.initial.f done l.f
    × (done ++ behind l.i (fields_from g.N.TypeNotation.named l.i l.names l.types) ≡ with_commas (fields_from g.N.TypeNotation.named 0 l.names l.types))
