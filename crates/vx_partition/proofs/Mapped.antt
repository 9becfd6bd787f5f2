-- Names that are taken by the map of a closure.
use Rattle.std.proofs.Common.{◌≡◌, Bool, List, Ok, Err, inl, inr}
use Rattle.std.specs.Prelude.{◌⊎◌, None, Option, Result, Some, IfErr}
use Rattle.vx_dtype.specs.declared.error.VortexError.{VortexError}
use Rattle.vx_dtype.specs.declared.error.VortexError.TheVariants.{OutOfMemory}
use Rattle.vx_value.specs.Returns.{ReturnsOrOom}
use Rattle.vx_value.specs.Types.{Name}
use Rattle.vx_tree.specs.Trees.{BoundTree}
use Rattle.vx_partition_laws.specs.Partitions.{partition_names}
use Rattle.vx_partition_laws.specs.Pieces.{groups}
use Rattle.vx_partition.specs.Only.{only_annotation}
use Rattle.vx_partition.specs.Partitioned.{free_names}
use Rattle.vx_partition.specs.Splitting.{AnnotationMap, IsTakenBy}

module _ {A : Type 0} (eq : A → A → Bool) (name : A → Name) (Facts : AnnotationMap A → Type 0) (b : BoundTree) where
  -- a name that is taken by such a map
  abbrev TakenBySome : VortexError → Type 0
  TakenBySome y = (m : AnnotationMap A) × Facts m × IsTakenBy eq name m b y

  -- a refusal by such a map, beside those that came earlier
  pub taken_or : {P : Type 0} (r : Result P VortexError) (names_of : P → List Name) (m : AnnotationMap A) (Asked : VortexError → Type 0) → Facts m
      → ReturnsOrOom names_of r (free_names (partition_names name (groups eq (only_annotation m) b)))
      → IfErr r (λ y. (y ≡ OutOfMemory) ⊎ Asked y ⊎ TakenBySome y)
  taken_or (Ok p) names_of m Asked facts n = tt
  taken_or (Err y) names_of m Asked facts n = elim n [
    | inl memory ↦ inl memory
    | inr taken ↦ inr (inr (m, facts, taken))
  ]

  -- a refusal by such a map, where what the closure says is none
  pub taken_after : {P Said : Type 0} (r : Result P VortexError) (names_of : P → List Name) (m : AnnotationMap A) (Says : Said → Type 0) (met : Said → Option VortexError) → Facts m → ((said : Said) → Says said → met said ≡ None)
      → ReturnsOrOom names_of r (free_names (partition_names name (groups eq (only_annotation m) b)))
      → IfErr r (λ y. (said : Said) → Says said → (y ≡ OutOfMemory) ⊎ (met said ≡ Some y) ⊎ ((met said ≡ None) × TakenBySome y))
  taken_after (Ok p) names_of m Says met facts none n = tt
  taken_after (Err y) names_of m Says met facts none n = λ said says. elim n [
    | inl memory ↦ inl memory
    | inr taken ↦ inr (inr (none said says, (m, facts, taken)))
  ]

-- a refusal that came earlier
pub earlier : {X Y Z : Type 0} → X ⊎ Y → X ⊎ Y ⊎ Z
earlier (inl x) = inl x
earlier (inr y) = inr (inl y)
