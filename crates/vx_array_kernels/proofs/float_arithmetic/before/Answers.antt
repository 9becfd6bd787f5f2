use Rattle.std.proofs.Common.{◌∙◌, ℕ, get_or, refl, sym, rules}
use Rattle.vx_array_kernels.proofs.float_arithmetic.before.Goals as goal

pub returns-in_ok-new-in-F32-F32 : goal.returns-in_ok-new-in-F32-F32
returns-in_ok-new-in-F32-F32 c =
    let m = c.in-F32-F32 in
    let f : ℕ → ℕ = λ _. m.first in
    let h : ℕ → ℕ = λ k. get_or m.bits k 0 in
    let made = c.in_ok-new-in-F32-F32.ensures ∙ c.in_ok-results-in-F32-F32.ensures f h (λ k x lt post. search rules) (λ k y lt post. search rules) in
    rw m.is-1 (m.first, sym m.is-0, (refl, made))

pub returns-in_ok-new-in-F64-F64 : goal.returns-in_ok-new-in-F64-F64
returns-in_ok-new-in-F64-F64 c =
    let m = c.in-F64-F64 in
    let f : ℕ → ℕ = λ _. m.first in
    let h : ℕ → ℕ = λ k. get_or m.bits k 0 in
    let made = c.in_ok-new-in-F64-F64.ensures ∙ c.in_ok-results-in-F64-F64.ensures f h (λ k x lt post. search rules) (λ k y lt post. search rules) in
    rw m.is-1 (m.first, sym m.is-0, (refl, made))
