use Rattle.std.proofs.Common.{[]}
use Rattle.vx_tree.specs.Views.{bound_of}
use Rattle.vx_ffi_calls.proofs.Lines.{one_more}
use Rattle.vx_ffi_calls.proofs.verdicts.verdict_lines.Goals as goal

pub loop-init : goal.loop-init
loop-init c = ([], c.new-page.ensures.bytes)

pub loop-preserved : goal.loop-preserved
loop-preserved c = one_more (bound_of c.args.tree.now) _ _ c.loop.invariant c.in_ok-push_chunk-in-Ok-Some.ensures.line

pub returns-in-Ok-None-clause-lines : goal.returns-in-Ok-None-clause-lines
returns-in-Ok-None-clause-lines c = c.loop.invariant

pub returns-clause-lines : goal.returns-clause-lines
returns-clause-lines c = c.loop.invariant
