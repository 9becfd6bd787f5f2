use Rattle.std.proofs.Common.{false, rules}
use Rattle.std.proofs.Math.ListN.{replicate}
use Rattle.std.proofs.lemmas.List.{length-replicate, get_or-replicate}
use Rattle.vx_array_loops.proofs.Filled.{made_as}
use Rattle.vx_array_scan.proofs.truths.repeated.Goals as goal

pub returns : goal.returns
returns c =
    let n = c.args.count in
    made_as false n (replicate n c.args.truth) _ c.tabulated.result (length-replicate n c.args.truth) c.tabulated.ensures.long c.tabulated.ensures.each
    (λ k x lt post. rw (get_or-replicate n k c.args.truth false lt) (search rules))
