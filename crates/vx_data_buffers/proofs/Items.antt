-- Rows of lists, where the row is valid and it is known where its items lie.
use Rattle.std.proofs.Common.{◌≡◌, ℕ, ◌+◌, ◌-◌, ◌*◌, Bool, true, List, arith}
use Rattle.std.specs.Prelude.{Ok}
use Rattle.vx_value.specs.Fields.{data_of}
use Rattle.vx_value.specs.Types.{LogicalType, ty, list, fixed, list_of}
use Rattle.vx_data_buffers.specs.Results.{and_so, each_from}
use Rattle.vx_data_buffers.specs.Layout.{is_valid, span, value_at}

pub list_read : (buffers : List (List ℕ)) (whole t : LogicalType) (n : Bool) (at i from to : ℕ) → whole ≡ ty (list t) n → is_valid buffers at i ≡ Ok true → span buffers (at + 1) i ≡ Ok (from, to)
    → value_at buffers whole at i ≡ and_so (each_from (value_at buffers t (at + 1 + 1)) from (to - from)) (λ vs. list_of (data_of vs))
list_read buffers whole t n at i from to kind valid there = rw (kind, valid, there)

pub fixed_read : (buffers : List (List ℕ)) (whole t : LogicalType) (k : ℕ) (n : Bool) (at i from to : ℕ) → whole ≡ ty (fixed t k) n → is_valid buffers at i ≡ Ok true → from ≡ i * k → to ≡ i * k + k
    → value_at buffers whole at i ≡ and_so (each_from (value_at buffers t (at + 1)) from (to - from)) (λ vs. list_of (data_of vs))
fixed_read buffers whole t k n at i from to kind valid first behind =
    let many : to - from ≡ k = omega arith in
    rw (kind, valid, many, first)
