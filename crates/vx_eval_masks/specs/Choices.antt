-- How masks are gone over.
use Rattle.std.specs.Prelude.{◌≡◌, ℕ, ◌-◌, ◌/◌, ◌<◌, ◌≤◌, List, map, length, get_or, Bool, true, false, if◌then◌else◌, Option, Some, None, max, nat_le}
use Rattle.std.specs.List.{sum_by}
use Rattle.vx_value.specs.Columns.{Batch}
use Rattle.vx_eval_masks.specs.declared.choice.Merging.{Merging}
use Rattle.vx_eval_masks.specs.declared.choice.Merging.TheVariants.{Runs}
use Rattle.vx_eval_masks.specs.Masks.{runs}

-- the masks beside the columns
abbrev pub masks_in : List (List Bool × Batch) → List (List Bool)
masks_in branches = map (λ b. b.0) branches

-- how many runs the masks have together
abbrev pub runs_together : List (List Bool) → ℕ
runs_together ms = sum_by (λ m. length (runs m)) ms

-- how many runs there may be: as many as branches, or a 256th of the rows
abbrev pub run_limit : ℕ → ℕ → ℕ
run_limit branches row_count = max branches (row_count / 256)

-- whether there are no more
abbrev pub prefers_runs : List (List Bool) → ℕ → Bool
prefers_runs ms row_count = nat_le (runs_together ms) (run_limit (length ms) row_count)

-- what is left of a limit beside n, if n is no more
abbrev pub left_of : ℕ → ℕ → Option ℕ
left_of left n = if nat_le n left then Some (left - n) else None

-- the run of true rows that is at row s goes no further than to before row e; where runs are gone over it goes as far
pub record IsLimit (merging : Merging) (m : List Bool) (s e : ℕ) : Type 0 where
  pub some : s < e
  pub high : e ≤ length m
  pub sure : merging ≡ Runs → (k : ℕ) → s ≤ k → k < e → get_or m k false ≡ true
  pub behind : get_or m e false ≡ false
