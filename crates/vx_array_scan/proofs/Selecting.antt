-- What a selection of rows gives is what it promises, whichever way it ends.
use Rattle.std.proofs.Common.{◌≡◌, List, Bool, true, false, Result, Ok, Err, refl, ap, subst, inl}
use Rattle.vx_dtype.specs.Returns.{ReturnsOrOom}
use Rattle.vx_dtype.specs.declared.error.VortexError.{VortexError}
use Rattle.vx_dtype.specs.declared.error.VortexError.TheVariants.{OutOfMemory}
use Rattle.vx_value.specs.Columns.{Batch}
use Rattle.vx_value.specs.Fits.{IsBatch}
use Rattle.vx_tree.specs.Trees.{BoundTree}
use Rattle.vx_eval.specs.Evaluation.{evaluation}
use Rattle.vx_query_split.proofs.Meant.{whole_means}
use Rattle.vx_query_split.specs.Sources.{IsMeantBy}
use Rattle.vx_scan.specs.Scans.{KeepsMeaning}
use Rattle.vx_array_scan.specs.Selected.{AreValues, IsSelection, true_rows}

-- nothing is both true and false
pub both_ways : (b : Bool) → b ≡ true → b ≡ false → ⊥
both_ways true t f = cc
both_ways false t f = cc

-- what a tree gives over a batch has the meaning of each source that it keeps
pub meaning_kept : (u : BoundTree) (c : Batch) (r : Result Batch VortexError) → IsBatch c.type c.rows → ReturnsOrOom (λ x. x) r (evaluation u c) → KeepsMeaning u c r
meaning_kept u c r fit gives = λ e b is k quiet. subst (λ d. IsMeantBy d c r) is.source (whole_means b u c k is.over fit quiet r gives)

-- memory that ran out
pub unselected : (u : BoundTree) (c : Batch) → IsSelection u c (Err OutOfMemory)
unselected u c = (Err OutOfMemory, (inl refl, λ e b is k quiet. refl), refl)

-- the rows of values
pub selected_in : (u : BoundTree) (c values : Batch) (rows : List Bool) → AreValues u c (Ok values) → rows ≡ true_rows values → IsSelection u c (Ok rows)
selected_in u c values rows are is = (Ok values, are, ap Ok is)

-- values that there aren't
pub refused : (u : BoundTree) (c : Batch) (e : VortexError) → AreValues u c (Err e) → IsSelection u c (Err e)
refused u c e are = (Err e, are, refl)
