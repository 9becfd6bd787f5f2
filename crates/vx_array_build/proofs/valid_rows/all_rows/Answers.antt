use Rattle.std.proofs.Common.{◌≡◌, ◌∙◌, false, true, rules, sym}
use Rattle.std.proofs.Math.ListN.{replicate}
use Rattle.std.proofs.lemmas.List.{get_or-replicate, length-replicate}
use Rattle.vx_array_loops.proofs.Filled.{made_as}
use Rattle.vx_array_build.proofs.valid_rows.all_rows.Goals as goal

pub returns : goal.returns
returns c =
    made_as false c.args.count (replicate c.args.count true) _ c.tabulated.result (length-replicate c.args.count true) c.tabulated.ensures.long c.tabulated.ensures.each
    (λ k x lt post. let told : x ≡ true = search rules in told ∙ sym (get_or-replicate c.args.count k true false lt))
