use Rattle.std.proofs.Common.{false, length, rules, sym, ◌∙◌}
use Rattle.std.specs.Ordering.{int_cmp}
use Rattle.std.specs.Simd.Lanes.{zip2}
use Rattle.std.proofs.lemmas.Simd.{length-zip2}
use Rattle.vx_array_loops.specs.Comparisons.{holds}
use Rattle.vx_array_loops.proofs.Filled.{written_as}
use Rattle.vx_array_loops.proofs.comparing.both_by.Goals as goal

pub returns : goal.returns
returns g c =
    let told = λ (x y : g.row.T.Denot). holds c.args.comparison (int_cmp (g.T.Number.number x) (g.T.Number.number y)) in
    written_as false (length c.args.rows.now) (zip2 told c.args.numbers.now c.args.others.now) c.write.new.self _ (length-zip2 told c.args.numbers.now c.args.others.now (sym c.requires.numbers ∙ c.requires.others) ∙ sym c.requires.numbers) c.write.ensures.long c.write.ensures.each (λ i b lt post. search rules)
