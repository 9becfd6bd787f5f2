-- The test that a bound tree is well typed decides whether it is.
use Rattle.std.proofs.Common.{◌≡◌, ◌↔◌, inl, inr, refl, Bool, Result, Ok, Err, IsTrue, MatchResult}
use Rattle.std.specs.Bool.{Decides}
use Rattle.std.proofs.lemmas.Bool.Decides.{Decides-and, Decides-like}
use Rattle.vx_dtype.specs.declared.error.VortexError.{VortexError}
use Rattle.vx_dtype.specs.declared.error.VortexError.TheVariants.{OutOfMemory}
use Rattle.vx_value.specs.Returns.{ReturnsOrOom}
use Rattle.vx_value.specs.Deciding.{apart, equal_type-Decides}
use Rattle.vx_value.specs.Types.{LogicalType}
use Rattle.vx_fn.specs.Functions.{Function, literal, HasFittingLiteral, Typing, fn_type}
use Rattle.vx_tree.specs.Checked.{is_given, has_fitting_literal, is_well_typed, are_well_typed}
use Rattle.vx_tree.specs.Trees.{BoundTree, scope, node, BoundTrees, no_bound, bound, node_types, WellTyped, EachWellTyped}

is_given-Decides : (r : Typing) (t : LogicalType) → Decides (is_given r t) (r ≡ Ok t)
is_given-Decides (Ok u) t = Decides-like _ (λ e. cc) (λ e. cc) (equal_type-Decides u t)
is_given-Decides (Err refusal) t = apart (λ e. cc)

literal-Decides : (f : Function) → Decides (has_fitting_literal f) (HasFittingLiteral f)
literal-Decides (literal t v) = (λ e. e, λ e. e)
literal-Decides _ = (λ e. tt, λ e. refl)

mutual
  pub is_well_typed-Decides : (b : BoundTree) → Decides (is_well_typed b) (WellTyped b)
  is_well_typed-Decides (scope t) = (λ e. tt, λ e. refl)
  is_well_typed-Decides (node t f bs) =
      Decides-like _ (λ w. (w.0, w.1.0, w.1.1)) (λ w. (w.0, (w.1, w.2)))
      (Decides-and _ _ (is_given-Decides (fn_type f (node_types bs)) t) (Decides-and _ _ (literal-Decides f) (are_well_typed-Decides bs)))

  pub are_well_typed-Decides : (bs : BoundTrees) → Decides (are_well_typed bs) (EachWellTyped bs)
  are_well_typed-Decides no_bound = (λ e. tt, λ e. refl)
  are_well_typed-Decides (bound b bs) = Decides-and _ _ (is_well_typed-Decides b) (are_well_typed-Decides bs)

-- an answer of the test tells whether the tree is well typed
pub answer_decides : (r : Result Bool VortexError) (b : BoundTree) → ReturnsOrOom (λ told. told) r (Ok (is_well_typed b))
    → MatchResult r (λ told. IsTrue told ↔ WellTyped b) (λ e. e ≡ OutOfMemory)
answer_decides (Ok told) b h =
    let same : is_well_typed b ≡ told = cc in
    let decided = is_well_typed-Decides b in
    (λ e. decided.0 cc, λ w. let e = decided.1 w in cc)
answer_decides (Err e) b (inl h) = h
answer_decides (Err e) b (inr h) = cc
