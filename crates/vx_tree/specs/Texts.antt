-- The SQL text of a tree.
use Rattle.std.specs.Prelude.{ℕ, ◌+◌, List, [], ◌∷◌, ◌++◌, map, get_or, codes}
use Rattle.vx_fn.specs.Texts.{node_sql}
use Rattle.vx_tree.specs.Trees.{Tree, root, call, Trees, no_tree, tree}
use Rattle.vx_tree.specs.Views.{trees_from}

-- the SQL text of a tree, and those of a list of trees
abbrev mutual
  pub sql : Tree → List ℕ
  sql root = codes "$"
  sql (call f es) = node_sql f (sqls es)

  pub sqls : Trees → List (List ℕ)
  sqls no_tree = []
  sqls (tree e es) = sql e ∷ sqls es

-- the SQL texts of what is seen as a list of trees
abbrev pub texts : {A : Type 0} → (A → Tree) → List A → List (List ℕ)
texts view xs = sqls (trees_from (map view xs))

-- the condition at a place, and the value behind it
abbrev pub pair_sql : List (List ℕ) → ℕ → List ℕ
pair_sql cs i = codes " WHEN " ++ (get_or cs i [] ++ (codes " THEN " ++ get_or cs (i + 1) []))
