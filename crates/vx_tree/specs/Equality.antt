-- When two trees are equal, as tests that decide `≡`.
use Rattle.std.specs.Prelude.{◌≡◌, ◌↔◌, Bool, true, false, ◌&&◌, IsTrue}
use Rattle.std.specs.Bool.{Decides}
use Rattle.std.specs.Cmp.{IsEquivalence}
use Rattle.std.proofs.lemmas.Bool.Decides.{Decides-and, Decides-like}
use Rattle.std.proofs.Common.{ap}
use Rattle.vx_value.specs.Equality.{equal_type}
use Rattle.vx_value.specs.Deciding.{apart, itself, equivalence_of, equal_type-Decides}
use Rattle.vx_fn.specs.Equality.{equal_function}
use Rattle.vx_fn.specs.Deciding.{equal_function-Decides}
use Rattle.vx_tree.specs.Trees.{Tree, root, call, Trees, no_tree, tree, BoundTree, scope, node, BoundTrees, no_bound, bound}

-- whether two trees, or two lists of trees, are equal
abbrev mutual
  pub equal_tree : Tree → Tree → Bool
  equal_tree root root = true
  equal_tree (call f es) (call g fs) = equal_function f g && equal_trees es fs
  equal_tree _ _ = false

  pub equal_trees : Trees → Trees → Bool
  equal_trees no_tree no_tree = true
  equal_trees (tree d es) (tree e fs) = equal_tree d e && equal_trees es fs
  equal_trees _ _ = false

-- these tests decide `≡`
mutual
  pub equal_tree-Decides : (d e : Tree) → Decides (equal_tree d e) (d ≡ e)
  equal_tree-Decides root root = itself
  equal_tree-Decides (call f es) (call g fs) = Decides-like _ (λ p. cc) (λ p. (cc, cc)) (Decides-and _ _ (equal_function-Decides f g) (equal_trees-Decides es fs))
  equal_tree-Decides _ _ = apart (λ p. cc)

  pub equal_trees-Decides : (ds es : Trees) → Decides (equal_trees ds es) (ds ≡ es)
  equal_trees-Decides no_tree no_tree = itself
  equal_trees-Decides (tree d es) (tree e fs) = Decides-like _ (λ p. cc) (λ p. (cc, cc)) (Decides-and _ _ (equal_tree-Decides d e) (equal_trees-Decides es fs))
  equal_trees-Decides _ _ = apart (λ p. cc)

-- so the test of trees is an equivalence
pub equal_tree_equiv : IsEquivalence equal_tree
equal_tree_equiv = equivalence_of equal_tree-Decides

-- whether two bound trees, or two lists of them, are equal, types included
abbrev mutual
  pub equal_bound : BoundTree → BoundTree → Bool
  equal_bound (scope t) (scope u) = equal_type t u
  equal_bound (node t f bs) (node u g cs) = equal_type t u && (equal_function f g && equal_bounds bs cs)
  equal_bound _ _ = false

  pub equal_bounds : BoundTrees → BoundTrees → Bool
  equal_bounds no_bound no_bound = true
  equal_bounds (bound b bs) (bound c cs) = equal_bound b c && equal_bounds bs cs
  equal_bounds _ _ = false

-- these tests decide `≡` too
mutual
  pub equal_bound-Decides : (b c : BoundTree) → Decides (equal_bound b c) (b ≡ c)
  equal_bound-Decides (scope t) (scope u) = Decides-like _ (λ p. ap scope p) (λ p. cc) (equal_type-Decides t u)
  equal_bound-Decides (node t f bs) (node u g cs) =
      Decides-like _ (λ p. cc) (λ p. (cc, (cc, cc))) (Decides-and _ _ (equal_type-Decides t u) (Decides-and _ _ (equal_function-Decides f g) (equal_bounds-Decides bs cs)))
  equal_bound-Decides _ _ = apart (λ p. cc)

  pub equal_bounds-Decides : (bs cs : BoundTrees) → Decides (equal_bounds bs cs) (bs ≡ cs)
  equal_bounds-Decides no_bound no_bound = itself
  equal_bounds-Decides (bound b bs) (bound c cs) = Decides-like _ (λ p. cc) (λ p. (cc, cc)) (Decides-and _ _ (equal_bound-Decides b c) (equal_bounds-Decides bs cs))
  equal_bounds-Decides _ _ = apart (λ p. cc)

-- so the test of bound trees is an equivalence
pub equal_bound_equiv : IsEquivalence equal_bound
equal_bound_equiv = equivalence_of equal_bound-Decides

-- trees are equal exactly where they are one tree
abbrev pub EqualityIsExact : Type 0
EqualityIsExact =
    ((d e : Tree) → IsTrue (equal_tree d e) ↔ (d ≡ e))
    × ((b c : BoundTree) → IsTrue (equal_bound b c) ↔ (b ≡ c))
