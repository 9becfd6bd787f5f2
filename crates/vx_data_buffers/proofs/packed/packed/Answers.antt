use Rattle.std.proofs.Common.{◌≡◌, ap, ℕ, ◌+◌, ◌*◌, ◌<◌, ◌∙◌, false, get_or, length, rules, subst, sym, arith}
use Rattle.std.specs.Int.{div_ceil}
use Rattle.std.proofs.lemmas.List.FromFn.{get_or-map-range_with_len, length-map-range_with_len}
use Rattle.vx_array_loops.proofs.Filled.{filled_as}
use Rattle.vx_data_buffers.specs.Laid.{packed_bits, packed_bytes}
use Rattle.vx_data_buffers.proofs.packed.packed.Goals as goal

pub returns : goal.returns
returns c =
    let bits = c.args.bits.now in
    let f : ℕ → ℕ = λ k. packed_bits (λ j. get_or bits (k * 8 + j) false) 8 in
    let n = div_ceil (length bits) 8 in
    let e : c.div_ceil.result ≡ n = c.div_ceil.ensures ∙ ap (λ m. div_ceil m 8) c.len.ensures in
    filled_as 0 c.div_ceil.result (packed_bytes bits) _ c.tabulated.result (length-map-range_with_len f 0 n ∙ sym e) c.tabulated.ensures.long c.tabulated.ensures.each
    (λ k x lt post. rw (get_or-map-range_with_len f 0 n k k 0 (subst (λ m. k < m) e lt) (omega arith)) (search rules))
