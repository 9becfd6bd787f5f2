use Rattle.std.proofs.Common.{string_bytes}
use Rattle.vx_tree.specs.Views.{bound_of}
use Rattle.vx_ffi_calls.specs.VerdictPages.{AreVerdictLines}
use Rattle.vx_ffi_calls.proofs.verdicts.verdict_lines.Given as goal

abbrev pub invariant-loop : goal.invariant-loop
invariant-loop l = AreVerdictLines (bound_of l.tree) (string_bytes l.page)
