-- Why a query ends so.
use Rattle.std.proofs.Common.{◌≡◌, ◌⊎◌, Bool, List, Result, Ok, Err, refl, sym, ap, subst, ◌∙◌, inl, inr}
use Rattle.vx_dtype.specs.declared.error.VortexError.{VortexError}
use Rattle.vx_dtype.specs.declared.error.VortexError.TheVariants.{OutOfMemory}
use Rattle.vx_value.specs.Columns.{Batch}
use Rattle.vx_value.specs.Fits.{IsBatch}
use Rattle.vx_value.specs.Types.{LogicalType}
use Rattle.vx_fn.specs.Functions.{Typing}
use Rattle.vx_tree.specs.Binding.{binding}
use Rattle.vx_tree.specs.Faults.{HasNoFault}
use Rattle.vx_tree.specs.Trees.{Tree, BoundTree, typed, node_type}
use Rattle.vx_tree.proofs.Meant.{typed-unbound}
use Rattle.vx_tree.proofs.Unique.{binding-unbound}
use Rattle.vx_rewrite.specs.declared.passes.Pass.{Pass}
use Rattle.vx_query_split.specs.Sources.{IsBound, IsMeantBy}
use Rattle.vx_query.specs.Promises.{Promised}
use Rattle.vx_query.specs.Queries.{RunsPassed, not_passed}
use Rattle.vx_query.proofs.Running.{passed_means, passed_faults}

-- a bound source has a type
typed_source : (e : Tree) (s : LogicalType) (b : BoundTree) → IsBound e s b → typed e s ≡ Ok (node_type b)
typed_source e s b is = ap (λ d. typed d s) (sym is.source) ∙ typed-unbound b s is.well_typed is.over

-- there is one
one_source : (e : Tree) (s : LogicalType) (b u : BoundTree) → IsBound e s b → IsBound e s u → b ≡ u
one_source e s b u is also =
    let first : binding e s ≡ Ok b = ap (λ d. binding d s) (sym is.source) ∙ binding-unbound b s is.well_typed is.over in
    let second : binding e s ≡ Ok u = ap (λ d. binding d s) (sym also.source) ∙ binding-unbound u s also.well_typed also.over in
    cc

not_both : {X : Type 0} (t : LogicalType) (y : VortexError) (given : Typing) → given ≡ Ok t → given ≡ Err y → X
not_both t y given ok err = cc

same_refusal : (x y : VortexError) (given : Typing) → given ≡ Err x → given ≡ Err y → x ≡ y
same_refusal x y given a b = cc

module _ (e : Tree) (c : Batch) (passes : List Pass) (split : Bool) where
  -- for want of memory
  pub memory_ends : Promised e c passes split (Err OutOfMemory)
  memory_ends = record { refusal = λ y t. inl refl; meaning = λ b is quiet. refl; faults = λ t typed. inl refl; run = λ b is. not_passed refl }

  -- with a refusal of typing
  pub refusal_ends : (x : VortexError) → (x ≡ OutOfMemory) ⊎ (typed e c.type ≡ Err x) → Promised e c passes split (Err x)
  refusal_ends x (inl m) = rw m memory_ends
  refusal_ends x (inr refused) = record {
    refusal = λ y t. inr (same_refusal x y (typed e c.type) refused t);
    meaning = λ b is quiet. not_both (node_type b) x (typed e c.type) (typed_source e c.type b is) refused;
    faults = λ t has. not_both t x (typed e c.type) has refused;
    run = λ b is. not_both (node_type b) x (typed e c.type) (typed_source e c.type b is) refused;
  }

  -- evaluated
  pub evaluation_ends : (b : BoundTree) (r : Result Batch VortexError) → IsBound e c.type b → IsBatch c.type c.rows → RunsPassed passes split b c r → Promised e c passes split r
  evaluation_ends b r is fit runs = record {
    refusal = λ y t. not_both (node_type b) y (typed e c.type) (typed_source e c.type b is) t;
    meaning = λ u also quiet.
        let same : u ≡ b = one_source e c.type u b also is in
        subst (λ d. IsMeantBy d c r) is.source (passed_means passes split b c r is.well_typed is.over fit (subst (λ w. HasNoFault w c.rows) same quiet) runs);
    faults = λ t has. passed_faults passes split b c r runs;
    run = λ u also. subst (λ w. RunsPassed passes split w c r) (sym (one_source e c.type u b also is)) runs;
  }
