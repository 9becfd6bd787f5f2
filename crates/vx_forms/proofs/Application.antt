-- A source over a batch, by what binding it and evaluating it gave.
use Rattle.std.proofs.Common.{◌≡◌, ap, inl, inr, refl, subst, sym}
use Rattle.std.specs.Prelude.{◌⊎◌, Result, Ok, Err}
use Rattle.vx_dtype.specs.declared.error.VortexError.{VortexError}
use Rattle.vx_dtype.specs.declared.error.VortexError.TheVariants.{OutOfMemory}
use Rattle.vx_dtype.specs.Returns.{ReturnsOrOom}
use Rattle.vx_value.specs.Columns.{Batch}
use Rattle.vx_value.specs.Types.{LogicalType}
use Rattle.vx_tree.specs.Binding.{binding}
use Rattle.vx_tree.specs.Trees.{Tree, BoundTree, on_ok, typed, unbound, WellTyped, Over}
use Rattle.vx_tree.proofs.Binds.{Binds, binds}
use Rattle.vx_tree.proofs.Unique.{binding-unbound}
use Rattle.vx_eval.specs.Evaluation.{evaluation}
use Rattle.vx_forms.specs.Applied.{application}

-- binding refuses as typing does
binding_refuses : (e : Tree) (s : LogicalType) (r : VortexError) → typed e s ≡ Err r → binding e s ≡ Err r
binding_refuses e s r h = go (binding e s) refl
  where
    go : (q : Result BoundTree VortexError) → binding e s ≡ q → binding e s ≡ Err r
    go (Ok b) is = let k = (subst (Binds e s) is (binds e s)).0 in cc
    go (Err other) is = let k = subst (Binds e s) is (binds e s) in cc

-- what was refused as the source was bound
pub application_refused : (e : Tree) (c : Batch) (s : LogicalType) (r : VortexError) → s ≡ c.type → (r ≡ OutOfMemory) ⊎ (typed e s ≡ Err r) → (r ≡ OutOfMemory) ⊎ (application e c ≡ Err r)
application_refused e c s r is (inl memory) = inl memory
application_refused e c s r is (inr h) = inr (ap (on_ok (λ b. evaluation b c)) (binding_refuses e c.type r (subst (λ t. typed e t ≡ Err r) is h)))

-- what the bound tree gives is what the source does
pub application_evaluated : (e : Tree) (c : Batch) (s : LogicalType) (b : BoundTree) (result : Result Batch VortexError) → s ≡ c.type → WellTyped b → Over b s × (unbound b ≡ e)
    → (Over b c.type → ReturnsOrOom (λ x. x) result (evaluation b c)) → ReturnsOrOom (λ x. x) result (application e c)
application_evaluated e c s b result is typed h answered =
    let over = subst (Over b) is h.0 in
    let bound : binding e c.type ≡ Ok b = subst (λ t. binding t c.type ≡ Ok b) h.1 (binding-unbound b c.type typed over) in
    subst (ReturnsOrOom (λ x. x) result) (sym (ap (on_ok (λ b. evaluation b c)) bound)) (answered over)
