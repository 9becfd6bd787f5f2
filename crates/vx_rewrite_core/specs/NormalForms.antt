-- What optimizing gives: a normal form of the tree, at the root alone or whole.
use Rattle.std.specs.Prelude.{◌≡◌, ℕ, ◌+◌, ◌≤◌, List, ◌++◌}
use Rattle.vx_tree.specs.Trees.{BoundTree, BoundTrees, no_bound, bound}
use Rattle.vx_tree.specs.Views.{bounds_from}
use Rattle.vx_rewrite_core.specs.Keeps.{Keeps}
use Rattle.vx_rewrite_core.specs.Steps.{Steps, RootSteps, GivesNothing, Normal, EachNormal}
use Rattle.vx_rewrite_core.specs.Weights.{weight}

-- u is reached from b by steps, each of which takes some of its weight, and no rule of R fits at any node of u;
-- so u keeps b
pub record NormalForm (R : BoundTree → BoundTree → Type 0) (b u : BoundTree) : Type 0 where
  pub count : ℕ
  pub steps : Steps R b count u
  pub lighter : count + weight u ≤ weight b
  pub normal : Normal R u
  pub keeps : Keeps b u

-- the same at the root alone: all steps are taken there, and there no rule fits any more
pub record RootNormalForm (R : BoundTree → BoundTree → Type 0) (b u : BoundTree) : Type 0 where
  pub count : ℕ
  pub steps : RootSteps R b count u
  pub lighter : count + weight u ≤ weight b
  pub normal : GivesNothing R u
  pub keeps : Keeps b u

-- the trees us are normal forms of the trees bs, one of each in their order
pub data NormalForms (R : BoundTree → BoundTree → Type 0) : BoundTrees → BoundTrees → Type 0 where
  no_form : NormalForms R no_bound no_bound
  form : {b u : BoundTree} {bs us : BoundTrees} → NormalForm R b u → NormalForms R bs us → NormalForms R (bound b bs) (bound u us)

-- so, and not all of the trees bs were normal
pub record SomeNormalForms (R : BoundTree → BoundTree → Type 0) (bs us : BoundTrees) : Type 0 where
  pub forms : NormalForms R bs us
  pub some : EachNormal R bs → ⊥

-- the list has normal forms of the trees bs behind the trees before
pub record NormalFormsBehind (R : BoundTree → BoundTree → Type 0) (before : List BoundTree) (bs : BoundTrees) (all : List BoundTree) : Type 0 where
  pub behind : List BoundTree
  pub forms : NormalForms R bs (bounds_from behind)
  pub is : all ≡ before ++ behind
