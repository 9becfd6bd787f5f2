-- Runs within a limit.
use Rattle.std.proofs.Common.{◌≡◌, ℕ, ◌+◌, ◌-◌, ◌<◌, ◌≤◌, List, length, get_or, take, map, sym, ap, ◌∙◌, arith, Bool, true, false, Some, None}
use Rattle.std.specs.Prelude.{nat_le}
use Rattle.std.specs.List.{sum_by}
use Rattle.std.proofs.lemmas.List.{take-map, get_or-map, length-map}
use Rattle.std.proofs.lemmas.List.Sums.{sum_by_more_le}
use Rattle.vx_value.specs.Columns.{Batch}
use Rattle.vx_eval_masks.specs.Masks.{runs}
use Rattle.std.proofs.lemmas.Bool.Decides.{nat_tests}
use Rattle.vx_eval_masks.specs.Choices.{left_of, masks_in, runs_together, run_limit, prefers_runs}

-- where a limit is kept, what is left
pub left_is : (left n rest : ℕ) → Some rest ≡ left_of left n → (n ≤ left) × (rest ≡ left - n)
left_is left n rest e = grind (arith, nat_tests)

pub none_left : (left n : ℕ) → None ≡ left_of left n → left < n
none_left left n e = grind (arith, nat_tests)

pub over : (a b : ℕ) → b < a → false ≡ nat_le a b
over a b h = grind (arith, nat_tests)

pub under : (a b : ℕ) → a ≤ b → true ≡ nat_le a b
under a b h = grind (arith, nat_tests)

pub over_limit : (bs : List (List Bool × Batch)) (j left rows : ℕ) (b : List Bool × Batch) → j < length bs → b ≡ get_or bs j b → left + runs_together (masks_in (take j bs)) ≡ run_limit (length bs) rows → left < length (runs b.0) → false ≡ prefers_runs (masks_in bs) rows
over_limit bs j left rows b lt is so_far more =
    let f = λ (m : List Bool). length (runs m) in
    let g = λ (x : List Bool × Batch). x.0 in
    let cut : sum_by f (take j (map g bs)) ≡ sum_by f (map g (take j bs)) = ap (sum_by f) (take-map g j bs) in
    let here : f (get_or (map g bs) j b.0) ≡ f b.0 = ap f (get_or-map g bs j b b.0 lt ∙ ap g (sym is)) in
    let size : length (map g bs) ≡ length bs = length-map bs g in
    let le : sum_by f (take j (map g bs)) + f (get_or (map g bs) j b.0) ≤ sum_by f (map g bs) = sum_by_more_le f (map g bs) j b.0 (omega arith) in
    over (runs_together (masks_in bs)) (run_limit (length bs) rows) (omega arith) ∙ ap (λ n. nat_le (runs_together (masks_in bs)) (run_limit n rows)) (sym size)
