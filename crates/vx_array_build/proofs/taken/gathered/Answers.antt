use Rattle.std.proofs.Common.{◌≡◌, ap, subst, sym, ◌∙◌, get_or, length, map, pos}
use Rattle.vx_array_build.specs.Taken.{AreWithin}
use Rattle.vx_array_build.proofs.Taking.{gathered_is, ok_map}
use Rattle.vx_array_build.proofs.taken.gathered.Goals as goal

pub returns : goal.returns
returns g c =
    let number = g.T.Number.number in
    let xs = c.as_slice.result.now in
    let ys = c.args.numbers.now in
    let indices = c.args.indices.now in
    let within = subst (λ l. AreWithin indices (length l)) (sym c.as_slice.ensures) c.requires in
    ok_map c.new.result (λ p. p ≡ c.in_ok-gathered.gathered.items) (λ p. map number p ≡ map (λ i. get_or (map number ys) i (pos 0)) indices)
    (λ p is. ap (map number) is ∙ gathered_is number xs c.in_ok-gathered.gathered.items indices c.in_ok-gathered.ensures.long within c.in_ok-gathered.ensures.each ∙ ap (λ l. map (λ i. get_or (map number l) i (pos 0)) indices) c.as_slice.ensures) c.new.ensures
