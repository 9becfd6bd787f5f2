-- The bytes before `written` were appended.
use Rattle.std.proofs.Common.{◌-◌, ◌≤◌, length, take}
use Rattle.std.specs.Io.KnownBytes.{Appends}
use Rattle.vx_writing.proofs.write_text.Given as goal

abbrev pub invariant-loop-written : goal.invariant-loop-written
invariant-loop-written g l =
    (l.written ≤ length l.fn.text) × Appends (g.W.Write.contents l.fn.out) (g.W.Write.contents l.out) (take l.written l.fn.text)

abbrev pub decreases-loop-written : goal.decreases-loop-written
decreases-loop-written g l = length l.fn.text - l.written
