-- Binding gives the type of the tree, over the scope, and keeps the tree; it refuses where typing does.
use Rattle.std.proofs.Common.{◌≡◌, inl, inr, ⊎_elim, List, ◌∷◌, Result, Ok, Err, refl, ap, subst, ◌∙◌, IfOk}
use Rattle.vx_dtype.specs.declared.error.VortexError.{VortexError}
use Rattle.vx_value.specs.Returns.{ReturnsOrOom}
use Rattle.vx_value.specs.Types.{LogicalType}
use Rattle.vx_fn.specs.Functions.{Function, Typing, fn_type}
use Rattle.vx_tree.specs.declared.bound.BoundExpression.{BoundExpression}
use Rattle.vx_tree.specs.Trees.{Tree, root, call, Trees, no_tree, tree, BoundTree, node, BoundTrees, bound, on_ok, typed, each_typed, node_type, node_types, unbound, unbound_each, Over, EachOver}
use Rattle.vx_tree.specs.Binding.{node_over, binding, each_binding}
use Rattle.vx_tree.specs.Views.{bound_of}

abbrev pub Binds : Tree → LogicalType → Result BoundTree VortexError → Type 0
Binds e s (Ok b) = (typed e s ≡ Ok (node_type b)) × Over b s × (unbound b ≡ e)
Binds e s (Err r) = typed e s ≡ Err r

abbrev pub BindsEach : Trees → LogicalType → Result BoundTrees VortexError → Type 0
BindsEach es s (Ok bs) = (each_typed es s ≡ Ok (node_types bs)) × EachOver bs s × (unbound_each bs ≡ es)
BindsEach es s (Err r) = each_typed es s ≡ Err r

node_binds : (f : Function) (es : Trees) (s : LogicalType) (bs : BoundTrees) → BindsEach es s (Ok bs) → (t : Typing) → fn_type f (node_types bs) ≡ t
    → Binds (call f es) s (on_ok (λ u. Ok (node u f bs)) t)
node_binds f es s bs h (Ok t) q = (ap (on_ok (fn_type f)) h.0 ∙ q, h.1, ap (call f) h.2)
node_binds f es s bs h (Err r) q = ap (on_ok (fn_type f)) h.0 ∙ q

call_binds : (f : Function) (es : Trees) (s : LogicalType) (r : Result BoundTrees VortexError) → BindsEach es s r → Binds (call f es) s (on_ok (node_over f) r)
call_binds f es s (Ok bs) h = node_binds f es s bs h (fn_type f (node_types bs)) refl
call_binds f es s (Err r) h = ap (on_ok (fn_type f)) h

abbrev with_types : Result (List LogicalType) VortexError → LogicalType → Result (List LogicalType) VortexError
with_types rest t = on_ok (λ ts. Ok (t ∷ ts)) rest

more_binds : (e : Tree) (es : Trees) (s : LogicalType) (r : Result BoundTree VortexError) → Binds e s r → (q : Result BoundTrees VortexError) → BindsEach es s q
    → BindsEach (tree e es) s (on_ok (λ b. on_ok (λ bs. Ok (bound b bs)) q) r)
more_binds e es s (Ok b) h (Ok bs) k = (
  ap (on_ok (with_types (each_typed es s))) h.0 ∙ ap (λ rest. with_types rest (node_type b)) k.0,
  (h.1, k.1),
  ap (λ x. tree x (unbound_each bs)) h.2 ∙ ap (tree e) k.2,
)
more_binds e es s (Ok b) h (Err r) k = ap (on_ok (with_types (each_typed es s))) h.0 ∙ ap (λ rest. with_types rest (node_type b)) k
more_binds e es s (Err r) h q k = ap (on_ok (with_types (each_typed es s))) h

mutual
  pub binds : (e : Tree) (s : LogicalType) → Binds e s (binding e s)
  binds root s = (refl, refl, refl)
  binds (call f es) s = call_binds f es s (each_binding es s) (binds_each es s)

  pub binds_each : (es : Trees) (s : LogicalType) → BindsEach es s (each_binding es s)
  binds_each no_tree s = (refl, tt, refl)
  binds_each (tree e es) s = more_binds e es s (binding e s) (binds e s) (each_binding es s) (binds_each es s)

-- ---- what a call that gave the bound tree gave

pub typed_of : (r : Result BoundExpression VortexError) (e : Tree) (s : LogicalType) → ReturnsOrOom bound_of r (binding e s) → ReturnsOrOom (λ b. node_type (bound_of b)) r (typed e s)
typed_of (Ok x) e s h = (subst (Binds e s) h (binds e s)).0
typed_of (Err r) e s h = ⊎_elim (λ m. inl m) (λ q. inr (subst (Binds e s) q (binds e s))) h

pub bound_over : (r : Result BoundExpression VortexError) (e : Tree) (s : LogicalType) → ReturnsOrOom bound_of r (binding e s) → IfOk r (λ b. Over (bound_of b) s × (unbound (bound_of b) ≡ e))
bound_over (Ok x) e s h = let w = subst (Binds e s) h (binds e s) in (w.1, w.2)
bound_over (Err r) e s h = tt
