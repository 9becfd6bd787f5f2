-- What code answers by the rules as a function is what the rules give: the two clauses of a rule set.
use Rattle.std.proofs.Common.{◌≡◌, inl, inr}
use Rattle.std.specs.Prelude.{Option, Some, None, Result, Ok, Err, IfOk, IfErr, MatchOption}
use Rattle.std.specs.Option.{option_map}
use Rattle.vx_dtype.specs.declared.error.VortexError.{VortexError}
use Rattle.vx_dtype.specs.declared.error.VortexError.TheVariants.{OutOfMemory}
use Rattle.vx_rewrite_core.specs.Steps.{GivesNothing}
use Rattle.vx_rewrite_core.specs.Sets.{either, DecidedBy}
use Rattle.vx_tree.specs.Trees.{BoundTree, WellTyped}
use Rattle.vx_tree.specs.Views.{bound_of}
use Rattle.vx_tree.specs.declared.bound.BoundExpression.{BoundExpression}
use Rattle.vx_value.specs.Returns.{ReturnsOrOom}

-- what `apply_at` of the set R promises of its answer at b
abbrev pub Gives : (BoundTree → BoundTree → Type 0) → BoundTree → Result (Option BoundExpression) VortexError → Type 0
Gives R b r = IfOk r (λ o. MatchOption o (GivesNothing R b) (λ u. R b (bound_of u)))

module _ (R : BoundTree → BoundTree → Type 0) (given : BoundTree → Option BoundTree) (decided : DecidedBy R given) where
  -- nothing is given where the function says so
  nothing : (b : BoundTree) → WellTyped b → given b ≡ None → GivesNothing R b
  nothing b w e = λ u r. let f = (decided b u w).0 r in cc

  pub answer_gives : (r : Result (Option BoundExpression) VortexError) (b : BoundTree) → WellTyped b → ReturnsOrOom (option_map bound_of) r (Ok (given b)) → Gives R b r
  answer_gives (Ok None) b w e = nothing b w cc
  answer_gives (Ok (Some u)) b w e = (decided b (bound_of u) w).1 cc
  answer_gives (Err x) b w e = tt

-- refused for want of memory alone
pub answer_refuses : (o : Option BoundTree) (r : Result (Option BoundExpression) VortexError) → ReturnsOrOom (option_map bound_of) r (Ok o) → IfErr r (λ e. e ≡ OutOfMemory)
answer_refuses o (Ok u) e = tt
answer_refuses o (Err x) (inl e) = e
answer_refuses o (Err x) (inr e) = cc

-- where the first of two sets gives nothing, what the second gives
pub second_gives : (R S : BoundTree → BoundTree → Type 0) (b : BoundTree) (r : Result (Option BoundExpression) VortexError) → GivesNothing R b → Gives S b r → Gives (either R S) b r
second_gives R S b (Ok None) n g = λ u e. elim e [ inl x ↦ n u x | inr x ↦ g u x ]
second_gives R S b (Ok (Some u)) n g = inr g
second_gives R S b (Err x) n g = tt

-- and what the first gives
pub first_gives : (R S : BoundTree → BoundTree → Type 0) (b : BoundTree) (u : BoundExpression) → R b (bound_of u) → either R S b (bound_of u)
first_gives R S b u r = inl r
