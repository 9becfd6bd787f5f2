-- How many partitions are shown.
use Rattle.std.proofs.Common.{◌≡◌, ℕ, List, [], ◌∷◌, length, min, refl, ap, ◌∙◌, arith}
use Rattle.vx_value.specs.Types.{Name}
use Rattle.vx_fn.specs.Texts.{with_commas, named_texts}
use Rattle.vx_tree.specs.Texts.{sql, sqls}
use Rattle.vx_tree.specs.Trees.{unbound, unbound_each}
use Rattle.vx_tree.specs.Views.{bound_of, bounds_of}
use Rattle.vx_tree.specs.declared.bound.BoundExpression.{BoundExpression}
use Rattle.vx_tree.proofs.Texts.{length-texts}
use Rattle.vx_partition.specs.Partitioned.{texts_of}

count_texts : (names : List Name) (cs : List (List ℕ)) → length (named_texts names cs) ≡ min (length names) (length cs)
count_texts [] cs = omega arith
count_texts (a ∷ names) [] = omega arith
count_texts (a ∷ names) (c ∷ cs) = omega (arith, count_texts names cs)

-- as many as names and partitions both give
pub count_named : (names : List Name) (bs : List BoundExpression) → length (named_texts names (texts_of bs)) ≡ min (length names) (length bs)
count_named names bs = count_texts names (texts_of bs) ∙ ap (min (length names)) (length-texts (λ b. unbound (bound_of b)) bs)

-- none are no text
pub nothing_named : (names : List Name) (bs : List BoundExpression) → min (length names) (length bs) ≡ 0 → with_commas (named_texts names (texts_of bs)) ≡ []
nothing_named [] bs h = refl
nothing_named (a ∷ names) [] h = refl
nothing_named (a ∷ names) (b ∷ bs) h = absurd (omega arith)

-- the texts of bound trees are those of their sources
pub texts_are : (bs : List BoundExpression) → texts_of bs ≡ sqls (unbound_each (bounds_of bs))
texts_are [] = refl
texts_are (b ∷ bs) = ap (λ cs. sql (unbound (bound_of b)) ∷ cs) (texts_are bs)
