use Rattle.std.proofs.Common.{◌≡◌, ◌+ℤ◌, ℕ, pos, false, get_or, length, map, rules}
use Rattle.std.proofs.lemmas.List.{length-map}
use Rattle.vx_array_loops.proofs.Filled.{written_as}
use Rattle.vx_array_kernels.specs.Buckets.{is_there}
use Rattle.vx_array_kernels.specs.Members.{has_number}
use Rattle.vx_array_kernels.proofs.Members.{code_found}
use Rattle.vx_array_kernels.proofs.member_numbers.told_by_buckets.Goals as goal

pub returns : goal.returns
returns g c =
    let numbers = c.args.numbers.now in
    let others = c.args.others.now in
    let number = g.T.Number.number in
    let above = g.T.Width.above in
    let told = λ (x : g.row.T.Denot). has_number number others (number x) in
    written_as false (length numbers) (map told numbers) c.in_ok-told.told _ (length-map numbers told) c.in_ok-told.ensures.long c.in_ok-told.ensures.each
    (λ k b lt post.
    let has : (code : ℕ) × (pos code ≡ get_or (map (λ (x : g.row.T.Denot). g.T.Number.number x +ℤ g.T.Width.above) numbers) k (pos 0)) × (b ≡ is_there c.in-Some.buckets code) = search rules in
    code_found number above c.in-Some.buckets numbers others k has.0 b lt has.2 has.1 (rw c.in-Some.is at c.in_ok-buckets.ensures))
