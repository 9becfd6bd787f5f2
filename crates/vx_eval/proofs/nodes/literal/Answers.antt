use Rattle.std.proofs.Common.{ap, ◌∙◌, Ok, sym}
use Rattle.std.proofs.Math.ListN.{replicate}
use Rattle.vx_eval.proofs.Filled.{literal_rows}
use Rattle.vx_eval.proofs.nodes.literal.Goals as goal

pub returns : goal.returns
returns c = λ ts. ap Ok (literal_rows _ c.args.count) ∙ ap (λ d. Ok (replicate c.args.count d)) (sym c.value.ensures.value)
