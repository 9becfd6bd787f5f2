use Rattle.std.proofs.Common.{◌≡◌, ◌∙◌, ℕ, ap, arith, rules}
use Rattle.std.proofs.lemmas.List.FromFn.{get_or-map-range_with_len, length-map-range_with_len}
use Rattle.std.specs.Float.{binary32}
use Rattle.vx_array_loops.proofs.Filled.{filled_as}
use Rattle.vx_array_loops.specs.WordBits.{each_row}
use Rattle.vx_array_kernels.specs.FloatResults.{bits_result}
use Rattle.vx_array_kernels.proofs.float_arithmetic.tabulated_32.Goals as goal

pub returns : goal.returns
returns g c f h left right =
    let op = c.args.computation in
    let made : ℕ → ℕ = λ k. bits_result op binary32 (f k) (h k) in
    filled_as 0 c.args.count (each_row c.args.count made) _ c.tabulated.result (length-map-range_with_len made 0 c.args.count) c.tabulated.ensures.long c.tabulated.ensures.each
    (λ k z lt post.
    let told : (x : ℕ) × (y : ℕ) × goal.L-post g c.args.lhs k x × goal.R-post g c.args.rhs k y × (z ≡ bits_result op binary32 x y) = search rules in
    rw (get_or-map-range_with_len made 0 c.args.count k k 0 lt (omega arith)) (told.4 ∙ ap (λ x. bits_result op binary32 x told.1) (left k told.0 lt told.2) ∙ ap (bits_result op binary32 (f k)) (right k told.1 lt told.3)))
