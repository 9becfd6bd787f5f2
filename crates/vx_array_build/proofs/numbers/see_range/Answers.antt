use Rattle.std.proofs.Common.{◌≡◌, ap, sym, ◌∙◌, arith, get_or, map, pos, true, below_more}
use Rattle.std.proofs.lemmas.List.{get_or-map}
use Rattle.vx_array_build.proofs.numbers.see_range.Goals as goal

pub loop-i-preserved : goal.loop-i-preserved
loop-i-preserved g c =
    below_more (λ k. g.T.Number.fits (get_or (map g.T.Number.number c.args.numbers.now) k (pos 0)) ≡ true) c.loop-i.i c.loop-i.invariant
    (ap g.T.Number.fits (get_or-map g.T.Number.number c.args.numbers.now c.loop-i.i c.index-numbers-i.result (pos 0) (omega arith) ∙ ap g.T.Number.number (sym c.index-numbers-i.is)) ∙ c.widened.ensures.within)
