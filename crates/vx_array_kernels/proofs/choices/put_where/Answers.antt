use Rattle.std.proofs.Common.{◌≡◌, true, rules}
use Rattle.vx_array.specs.Rows.{lanes_rows}
use Rattle.vx_array_kernels.specs.Choices.{blended, chosen_rows, IsMask}
use Rattle.vx_array_kernels.proofs.Cases.{chosen_by}
use Rattle.vx_array_kernels.proofs.Chosen.{ok_all}
use Rattle.vx_array_kernels.proofs.choices.put_where.Goals as goal

pub returns-in-Some : goal.returns-in-Some
returns-in-Some g c =
    let mask = c.in-Some.mask in
    let old = g.B.Blend.rows c.args.rows.now in
    let new = g.B.Blend.rows c.put.new.self in
    let cs = lanes_rows c.args.condition.now in
    let vs = lanes_rows c.args.values.now in
    let masks : IsMask mask cs = search rules in
    ok_all c.put.result (λ done. done ≡ true → new ≡ blended mask vs old) (λ done. done ≡ true → new ≡ chosen_rows c.args.count cs vs old)
    (λ done is yes. chosen_by c.args.count mask cs vs old new masks c.requires.condition c.requires.rows (is yes)) c.put.ensures
