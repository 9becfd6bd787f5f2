-- Sets of rules: what each of them promises, and two together.
use Rattle.std.specs.Prelude.{◌≡◌, ◌⊎◌, ◌↔◌, ◌<◌, ℕ, Option, Some}
use Rattle.vx_tree.specs.Trees.{BoundTree, WellTyped}
use Rattle.vx_rewrite_core.specs.Keeps.{Keeps}
use Rattle.vx_rewrite_core.specs.Lawful.{Lawful}
use Rattle.vx_rewrite_core.specs.Steps.{Steps, Normal, NormalBelow}
use Rattle.vx_rewrite_core.specs.Weights.{weight}
use Rattle.vx_rewrite_core.specs.FromSubterms.{FromSubterms}

-- what one of two sets of rules gives
abbrev pub either : (BoundTree → BoundTree → Type 0) → (BoundTree → BoundTree → Type 0) → BoundTree → BoundTree → Type 0
either R S b u = R b u ⊎ S b u

-- what is given keeps the tree at which it is given
abbrev pub Keeping : (BoundTree → BoundTree → Type 0) → Type 0
Keeping R = (b u : BoundTree) → WellTyped b → R b u → Keeps b u

-- what is given is lighter
abbrev pub Lightening : (BoundTree → BoundTree → Type 0) → Type 0
Lightening R = (b u : BoundTree) → WellTyped b → R b u → weight u < weight b

-- what is normal below the root stays so
abbrev pub StayingNormal : (BoundTree → BoundTree → Type 0) → Type 0
StayingNormal R = (b u : BoundTree) → WellTyped b → R b u → NormalBelow R b → NormalBelow R u

-- at most one tree is given at a node
abbrev pub Functional : (BoundTree → BoundTree → Type 0) → Type 0
Functional R = (b u w : BoundTree) → WellTyped b → R b u → R b w → u ≡ w

-- what is given is what the rules as a function say
abbrev pub DecidedBy : (BoundTree → BoundTree → Type 0) → (BoundTree → Option BoundTree) → Type 0
DecidedBy R given = (b u : BoundTree) → WellTyped b → R b u ↔ (given b ≡ Some u)

-- a tree that is normal below its root has one normal form: whatever steps are taken until nothing is given any more, they end alike
abbrev pub NormalFormIsOne : (BoundTree → BoundTree → Type 0) → Type 0
NormalFormIsOne R = (b u v : BoundTree) (n m : ℕ) → WellTyped b → NormalBelow R b → Steps R b n u → Normal R u → Steps R b m v → Normal R v → u ≡ v

-- two sets whose new children come from below the root make such a set together, and a lawful one
abbrev pub TogetherLawful : (BoundTree → BoundTree → Type 0) → (BoundTree → BoundTree → Type 0) → Type 0
TogetherLawful R S = FromSubterms R → FromSubterms S → FromSubterms (either R S) × Lawful (either R S)

-- a tree at no node of which one of the two gives anything is one at no node of which the first does
abbrev pub TogetherNormal : (BoundTree → BoundTree → Type 0) → (BoundTree → BoundTree → Type 0) → Type 0
TogetherNormal R S = (b : BoundTree) → Normal (either R S) b → Normal R b
