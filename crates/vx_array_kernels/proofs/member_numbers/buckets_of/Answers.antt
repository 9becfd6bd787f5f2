use Rattle.std.proofs.Common.{◌≡◌, ◌∙◌, ◌+ℤ◌, ℕ, pos, ap, get_or, map, rules}
use Rattle.std.proofs.lemmas.List.{get_or_default}
use Rattle.vx_array_kernels.specs.Buckets.{is_one_of, is_there}
use Rattle.vx_array_kernels.specs.Members.{HasCodes}
use Rattle.vx_array_kernels.proofs.Members.{buckets_found, found_each}
use Rattle.vx_array_kernels.proofs.member_numbers.buckets_of.Goals as goal

pub returns : goal.returns
returns g c =
    let codes = c.in_ok-codes.codes.items in
    let numbers = c.args.numbers.now in
    found_each c.of.result (λ b. (n : ℕ) → is_there b n ≡ is_one_of c.as_slice.result.now n) (λ b. HasCodes g.T.Number.number g.T.Width.above b numbers)
    (λ b tells. buckets_found g.T.Number.number g.T.Width.above numbers codes b c.in_ok-codes.ensures.long
    (λ k lt.
    let post = c.in_ok-codes.ensures.each k (get_or codes k 0) lt (get_or_default codes k 0 (get_or codes k 0) (rw c.in_ok-codes.ensures.long lt)) in
    let code : pos (get_or codes k 0) ≡ get_or (map (λ (x : g.row.T.Denot). g.T.Number.number x +ℤ g.T.Width.above) numbers) k (pos 0) = search rules in
    code) (λ n. tells n ∙ ap (λ l. is_one_of l n) c.as_slice.ensures.value)) c.of.ensures
