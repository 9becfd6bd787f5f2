-- The node that the first refusal of a tree's binding is of.
use Rattle.std.specs.Prelude.{◌≡◌, ℕ, zero, suc, List, [], ◌∷◌, Ok, Err}
use Rattle.vx_dtype.specs.declared.error.VortexError.{VortexError}
use Rattle.vx_value.specs.Types.{LogicalType}
use Rattle.vx_fn.specs.Functions.{Function, fn_type}
use Rattle.vx_tree.specs.Trees.{Tree, call, Trees, tree, typed, each_typed}

-- over the scope's type s, the node at the path refuses over its children, each of which has a type;
-- and so has each child to the left of the path
mutual
  pub data IsFirstRefusal (s : LogicalType) : Tree → List ℕ → VortexError → Type 0 where
    here : {f : Function} {es : Trees} {ts : List LogicalType} {refusal : VortexError} → each_typed es s ≡ Ok ts → fn_type f ts ≡ Err refusal → IsFirstRefusal s (call f es) [] refusal
    below : {f : Function} {es : Trees} {i : ℕ} {path : List ℕ} {refusal : VortexError} → IsFirstRefusalIn s es i path refusal → IsFirstRefusal s (call f es) (i ∷ path) refusal

  -- the same of the child of that index, where each child before it has a type
  pub data IsFirstRefusalIn (s : LogicalType) : Trees → ℕ → List ℕ → VortexError → Type 0 where
    this_one : {e : Tree} {es : Trees} {path : List ℕ} {refusal : VortexError} → IsFirstRefusal s e path refusal → IsFirstRefusalIn s (tree e es) zero path refusal
    later_one : {e : Tree} {es : Trees} {t : LogicalType} {i : ℕ} {path : List ℕ} {refusal : VortexError} → typed e s ≡ Ok t → IsFirstRefusalIn s es i path refusal → IsFirstRefusalIn s (tree e es) (suc i) path refusal
