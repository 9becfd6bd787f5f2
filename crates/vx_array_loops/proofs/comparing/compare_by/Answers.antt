use Rattle.std.proofs.Common.{map, false, length, rules, sym, ◌∙◌}
use Rattle.std.specs.Ordering.{int_cmp}
use Rattle.std.proofs.lemmas.List.{length-map}
use Rattle.vx_array_loops.specs.Comparisons.{holds}
use Rattle.vx_array_loops.proofs.Filled.{written_as}
use Rattle.vx_array_loops.proofs.comparing.compare_by.Goals as goal

pub returns : goal.returns
returns g c =
    let told = λ (x : g.row.T.Denot). holds c.args.comparison (int_cmp (g.T.Number.number x) (g.T.Number.number c.args.other)) in
    written_as false (length c.args.rows.now) (map told c.args.numbers.now) c.write.new.self _ (length-map c.args.numbers.now told ∙ sym c.requires) c.write.ensures.long c.write.ensures.each (λ i b lt post. search rules)
