-- Masks: for each row whether it is meant.
use Rattle.std.specs.Prelude.{◌≡◌, ℕ, ◌+◌, ◌<◌, ◌≤◌, List, [], ◌∷◌, length, get_or, Bool, true, false, ◌&&◌, not, if◌then◌else◌, Option, Some, None, nat_le, All}
use Rattle.std.specs.List.{filter, count_by, range_with_len}

-- the rows, in order, at which the mask is true
abbrev pub true_rows : List Bool → List ℕ
true_rows m = filter (λ k. get_or m k false) (range_with_len 0 (length m))

-- how many of them there are
abbrev pub count_true : List Bool → ℕ
count_true m = count_by (λ b. b) m

-- the runs of a mask whose first row is row i, each as its first row and the row behind its last one; a run that reaches row i began at the row that is given
abbrev pub runs_from : ℕ → Option ℕ → List Bool → List (ℕ × ℕ)
runs_from i None [] = []
runs_from i (Some s) [] = (s, i) ∷ []
runs_from i None (false ∷ m) = runs_from (i + 1) None m
runs_from i None (true ∷ m) = runs_from (i + 1) (Some i) m
runs_from i (Some s) (true ∷ m) = runs_from (i + 1) (Some s) m
runs_from i (Some s) (false ∷ m) = (s, i) ∷ runs_from (i + 1) None m

-- the runs of a mask
abbrev pub runs : List Bool → List (ℕ × ℕ)
runs m = runs_from 0 None m

-- no row from that one on is true
abbrev pub NoneFrom : List Bool → ℕ → Type 0
NoneFrom m i = (k : ℕ) → i ≤ k → get_or m k false ≡ false

-- each row is true
abbrev pub IsAll : List Bool → Type 0
IsAll m = (k : ℕ) → k < length m → get_or m k false ≡ true

-- the rows from s to before e are true, and the one behind them isn't
pub record IsRunFrom (m : List Bool) (s e : ℕ) : Type 0 where
  pub some : s < e
  pub high : e ≤ length m
  pub on : (k : ℕ) → s ≤ k → k < e → get_or m k false ≡ true
  pub behind : get_or m e false ≡ false

-- the first true rows from row i on go from s to before e
pub record IsNextRun (m : List Bool) (i s e : ℕ) : Type 0 where
  pub low : i ≤ s
  pub before : (k : ℕ) → i ≤ k → k < s → get_or m k false ≡ false
  pub run : IsRunFrom m s e

-- the number, if it is at most that
abbrev pub up_to : ℕ → ℕ → Option ℕ
up_to most n = if nat_le n most then Some n else None

-- both are true, row by row
abbrev pub both : List Bool → List Bool → List Bool
both (a ∷ m) (b ∷ others) = (a && b) ∷ both m others
both _ _ = []

-- the first is true and the other isn't, row by row
abbrev pub but : List Bool → List Bool → List Bool
but (a ∷ m) (b ∷ others) = (a && not b) ∷ but m others
but _ _ = []

-- one of the stretches goes over that row
abbrev pub IsIn : ℕ → List (ℕ × ℕ) → Type 0
IsIn k rs = (j : ℕ) × (j < length rs) × (((get_or rs j (0, 0)).0 ≤ k) × (k < (get_or rs j (0, 0)).1))

-- a stretch of true rows of the mask that no longer one holds
abbrev pub IsRun : List Bool → ℕ × ℕ → Type 0
IsRun m r = (r.0 < r.1) × (r.1 ≤ length m) × ((k : ℕ) → r.0 ≤ k → k < r.1 → get_or m k false ≡ true) × ((k : ℕ) → k + 1 ≡ r.0 → get_or m k false ≡ false) × (get_or m r.1 false ≡ false)

-- they are the mask's runs, in order, and all of them
pub record AreRuns (m : List Bool) (rs : List (ℕ × ℕ)) : Type 0 where
  pub each : All (IsRun m) rs
  pub order : (j : ℕ) → j + 1 < length rs → (get_or rs j (0, 0)).1 < (get_or rs (j + 1) (0, 0)).0
  pub every : (k : ℕ) → get_or m k false ≡ true → IsIn k rs
