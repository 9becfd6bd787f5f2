-- What the steps of a walk answer that looks for a place. No public contract names this file.
use Rattle.std.specs.Prelude.{◌≡◌, ◌⊎◌, ℕ, List, [], ◌∷◌, ◌++◌, Bool, true, false, Option, Some, None, Result, MatchResult, MatchOption, IfSome, Ok, map}
use Rattle.vx_dtype.specs.declared.error.VortexError.{VortexError}
use Rattle.vx_dtype.specs.declared.error.VortexError.TheVariants.{OutOfMemory}
use Rattle.vx_value.specs.Columns.{Batch, batch}
use Rattle.vx_value.specs.Types.{Datum}
use Rattle.vx_fn.specs.Faults.{node_fault}
use Rattle.vx_fn.specs.Functions.{Function, binary, computes, cast, fill_null}
use Rattle.vx_tree.specs.Faults.{HasNoFault}
use Rattle.vx_tree.specs.Meaning.{value, values}
use Rattle.vx_places.specs.declared.place.Place.{Place}
use Rattle.vx_tree.specs.Trees.{BoundTree, scope, node, BoundTrees, no_bound, bound, node_type, node_types}

-- a value, seen by view, is put behind the old ones, and it is what is said
abbrev pub Adds : {A B : Type 0} → (A → B) → List A → Result B VortexError → List A → Type 0
Adds {A = A} view old said new = (x : A) × (new ≡ old ++ x ∷ []) × (said ≡ Ok (view x))

-- where the call succeeds the path is as it was; where it is refused the path goes on from there to the place, unless memory ran out
abbrev pub LeadsToNode : {A : Type 0} → (List ℕ → VortexError → Type 0) → List ℕ → Result A VortexError → List ℕ → Type 0
LeadsToNode IsPlace old result new = MatchResult result (λ _. new ≡ old) (λ e. (e ≡ OutOfMemory) ⊎ ((rest : List ℕ) × (new ≡ old ++ rest) × IsPlace rest e))

-- the same of a place that lies at or below one of some children
abbrev pub LeadsBelow : {A : Type 0} → (ℕ → List ℕ → VortexError → Type 0) → List ℕ → Result A VortexError → List ℕ → Type 0
LeadsBelow IsPlace old result new = MatchResult result (λ _. new ≡ old) (λ e. (e ≡ OutOfMemory) ⊎ ((i : ℕ) × (rest : List ℕ) × (new ≡ old ++ i ∷ rest) × IsPlace i rest e))

-- whether a node of the function may fault
abbrev pub may_fault : Function → Bool
may_fault (binary (computes a)) = true
may_fault (cast t) = true
may_fault fill_null = true
may_fault _ = false

-- the fault of the tree's first node over its children's values
abbrev pub own_fault : BoundTree → List Datum → Option VortexError
own_fault (scope t) rows = None
own_fault (node t f bs) rows = node_fault f (node_types bs) (map (values bs) rows)

-- the column of a tree's values
abbrev pub column_of : BoundTree → List Datum → Batch
column_of b rows = batch (node_type b) (map (value b) rows)

-- that of each tree, from left to right
abbrev pub columns_of : BoundTrees → List Datum → List Batch
columns_of no_bound rows = []
columns_of (bound b bs) rows = column_of b rows ∷ columns_of bs rows

-- the tree doesn't fault, and a column that is there is that of its values
abbrev pub IsSeen : List Datum → BoundTree → Option Batch → Type 0
IsSeen rows b column = HasNoFault b rows × IfSome column (λ c. c ≡ column_of b rows)

-- so of each tree and the column beside it
abbrev pub AreSeen : List Datum → BoundTrees → List (Option Batch) → Type 0
AreSeen rows no_bound [] = Unit {0}
AreSeen rows (bound b bs) (column ∷ columns) = IsSeen rows b column × AreSeen rows bs columns
AreSeen rows _ _ = ⊥

-- what is seen of the tree is put behind the old columns
abbrev pub AddsSeen : List Datum → BoundTree → List (Option Batch) → List (Option Batch) → Type 0
AddsSeen rows b old new = (column : Option Batch) × (new ≡ old ++ column ∷ []) × IsSeen rows b column

-- what the call says of the tree, or its first node's fault, unless memory ran out
abbrev pub SaysOrFaults : {A : Type 0} → (A → Type 0) → List Datum → BoundTree → Result A VortexError → Type 0
SaysOrFaults Says rows b result = MatchResult result Says (λ e. (e ≡ OutOfMemory) ⊎ (own_fault b rows ≡ Some e))

-- the answer is the place with this path and refusal, which isn't want of memory; or memory ran out
abbrev pub IsPlaced : List ℕ → VortexError → Result (Option Place) VortexError → Type 0
IsPlaced path refusal result = MatchResult result (λ found. MatchOption found ⊥ (λ p. (p.path.items ≡ path) × (p.refusal ≡ refusal) × (refusal ≡ OutOfMemory → ⊥))) (λ e. e ≡ OutOfMemory)
