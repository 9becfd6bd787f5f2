-- What is pushed of a tree and what is left mean the tree.
use Rattle.std.specs.Prelude.{◌≡◌, true, not, ◌&&◌, List, [], ◌∷◌, Option, Some, None, map, filter}
use Rattle.std.specs.List.{list_all, AllByRecursion}
use Rattle.vx_value.specs.Fits.{Fits}
use Rattle.vx_value.specs.Types.{LogicalType, Datum, bool}
use Rattle.vx_fn.specs.Functions.{truth_type}
use Rattle.vx_fn.specs.Values.{is_true, kleene_and}
use Rattle.vx_tree.specs.Faults.{HasNoFault}
use Rattle.vx_tree.specs.Meaning.{value}
use Rattle.vx_tree.specs.Trees.{BoundTree, WellTyped, Over}
use Rattle.vx_rewrite_fusing.specs.Conjuncts.{conjuncts, conjuncts_left}
use Rattle.vx_sql.specs.declared.dialect.Dialect.{Dialect}
use Rattle.vx_sql_plan.specs.Pushdown.{is_pushed, pushed, residual}

-- what is left are the conjuncts that aren't pushed, in their order: none is lost, and none is there twice
abbrev pub OthersAreLeft : Type 0
OthersAreLeft = (d : Dialect) (b : BoundTree) → conjuncts_left (residual d b) ≡ filter (λ c. not (is_pushed d c)) (conjuncts b)

-- ---- meaning

-- the value of what is left at a row, true where nothing is
abbrev pub value_left : Option BoundTree → Datum → Datum
value_left None v = bool true
value_left (Some r) v = value r v

-- a row is selected by a tree exactly where each pushed conjunct is true, and so is what is left
abbrev pub SelectsAlike : Type 0
SelectsAlike = (d : Dialect) (b : BoundTree) (v : Datum) → is_true (value b v) ≡ (list_all (λ c. is_true (value c v)) (pushed d b) && is_true (value_left (residual d b) v))

-- the And of values, true of none
abbrev pub conjunction : List Datum → Datum
conjunction [] = bool true
conjunction (v ∷ vs) = kleene_and v (conjunction vs)

-- a truth value of a tree, or its null, is the And of the pushed conjuncts' values and of what is left
abbrev pub MeansAlike : Type 0
MeansAlike = (d : Dialect) (b : BoundTree) (v : Datum) → Fits (value b v) (truth_type true)
    → value b v ≡ kleene_and (conjunction (map (λ c. value c v) (pushed d b))) (value_left (residual d b) v)

-- ---- faults and types

-- that holds of what is left, if something is
abbrev pub IfLeft : (BoundTree → Type 0) → Option BoundTree → Type 0
IfLeft P None = Unit {0}
IfLeft P (Some r) = P r

-- on a batch on which a tree doesn't fault, neither a pushed conjunct does nor what is left
abbrev pub NoOtherFault : Type 0
NoOtherFault = (d : Dialect) (b : BoundTree) (batch : List Datum) → HasNoFault b batch
    → AllByRecursion (λ c. HasNoFault c batch) (pushed d b) × IfLeft (λ r. HasNoFault r batch) (residual d b)

-- what is left of a well-typed tree is well typed, and over the same scope
abbrev pub StaysTyped : Type 0
StaysTyped = (d : Dialect) (b : BoundTree) → WellTyped b → IfLeft WellTyped (residual d b)

abbrev pub StaysOver : Type 0
StaysOver = (d : Dialect) (b : BoundTree) (s : LogicalType) → Over b s → IfLeft (λ r. Over r s) (residual d b)
