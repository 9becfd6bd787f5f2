-- Columns beside masks: which value is meant at a row, and rows that are put together.
use Rattle.std.specs.Prelude.{◌≡◌, ℕ, ◌<◌, ◌≤◌, List, [], ◌∷◌, map, length, get_or, Bool, true, false, if◌then◌else◌, Result, Ok}
use Rattle.std.specs.List.{AllByRecursion, range_with_len}
use Rattle.vx_value.specs.declared.value.Value.{Value}
use Rattle.vx_value.specs.Types.{Datum, null, bool}
use Rattle.vx_value.specs.Views.{value_of}
use Rattle.vx_fn.specs.Values.{is_true}
use Rattle.vx_eval_masks.specs.Masks.{both, but}

-- what each value stands for
abbrev pub values_of : List Value → List Datum
values_of vs = map value_of vs

-- the values of f at the first n rows
abbrev pub each_row : {A : Type 0} → ℕ → (ℕ → A) → List A
each_row n f = map f (range_with_len 0 n)

-- row k of columns: each column's value there
abbrev pub row_at : List (List Datum) → ℕ → List Datum
row_at cs k = map (λ c. get_or c k null) cs

-- of conditions and the values beside them, the value beside the first true condition, else the last
abbrev pub first_match : List Datum → List Datum → Datum → Datum
first_match (c ∷ cs) (v ∷ vs) otherwise = if is_true c then v else first_match cs vs otherwise
first_match _ _ otherwise = otherwise

-- row k of masks: each mask's truth value there
abbrev pub mask_row : List (List Bool) → ℕ → List Datum
mask_row ms k = map (λ m. bool (get_or m k false)) ms

-- at row k of masks and the columns beside them, the value beside the first true mask, else the one that is given
abbrev pub merged_at : List (List Bool) → List (List Datum) → Datum → ℕ → Datum
merged_at ms cs otherwise k = first_match (mask_row ms k) (row_at cs k) otherwise

-- each mask has n rows
abbrev pub EachMask : ℕ → List (List Bool) → Type 0
EachMask n ms = AllByRecursion (λ m. length m ≡ n) ms

-- no row is in two of the masks
abbrev pub AreApart : List (List Bool) → Type 0
AreApart ms = (i j k : ℕ) → get_or (get_or ms i []) k false ≡ true → get_or (get_or ms j []) k false ≡ true → i ≡ j

-- row k is in none of the masks
abbrev pub NoneAt : List (List Bool) → ℕ → Type 0
NoneAt ms k = (j : ℕ) → get_or (get_or ms j []) k false ≡ false

-- of each mask the rows that are open and in no mask before it
abbrev pub claimed : List Bool → List (List Bool) → List (List Bool)
claimed open_rows [] = []
claimed open_rows (m ∷ ms) = both m open_rows ∷ claimed (but open_rows m) ms

-- the open rows that are in none of the masks
abbrev pub unclaimed : List Bool → List (List Bool) → List Bool
unclaimed open_rows [] = open_rows
unclaimed open_rows (m ∷ ms) = unclaimed (but open_rows m) ms

-- where a call answers at a row from one on that is in the mask, it is what g gives there
abbrev pub AnswersIn : {E : Type 0} → (ℕ → Result Value E → Type 0) → List Bool → ℕ → (ℕ → Datum) → Type 0
AnswersIn post m from g = (i : ℕ) (v : Value) → from ≤ i → i < length m → get_or m i false ≡ true → post i (Ok v) → value_of v ≡ g i

-- the values at the rows from one on that are in the mask are what g gives there
abbrev pub HoldsIn : List Bool → ℕ → List Datum → (ℕ → Datum) → Type 0
HoldsIn m from vs g = (k : ℕ) → from ≤ k → k < length m → get_or m k false ≡ true → get_or vs k null ≡ g k

-- the value is what g gives at each row from one on that is in the mask
abbrev pub IsIn : List Bool → ℕ → Datum → (ℕ → Datum) → Type 0
IsIn m from v g = (k : ℕ) → from ≤ k → k < length m → get_or m k false ≡ true → v ≡ g k

-- the values from that row on are as they were
abbrev pub StaysFrom : ℕ → List Datum → List Datum → Type 0
StaysFrom from before now = (k : ℕ) → from ≤ k → get_or now k null ≡ get_or before k null

-- g's values at the rows that are in the mask, and at the others the values before
pub record IsWritten (m : List Bool) (g : ℕ → Datum) (before after : List Datum) : Type 0 where
  pub long : length after ≡ length before
  pub at : (k : ℕ) → k < length before → get_or after k null ≡ (if get_or m k false then g k else get_or before k null)
