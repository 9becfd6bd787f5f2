-- Nodes fault with faults alone.
use Rattle.std.proofs.Common.{◌≡◌, ℕ, Bool, true, false, List, [], get_or, if◌then◌else◌, map, Option, Some, None, Err, refl, subst}
use Rattle.std.specs.Option.{option_or, option_map}
use Rattle.std.specs.Prelude.{position}
use Rattle.vx_dtype.specs.declared.error.VortexError.{VortexError}
use Rattle.vx_dtype.specs.declared.error.VortexError.TheVariants.{AddOverflow, CastNull, BadFill, DivisionByZero}
use Rattle.vx_floats.specs.declared.arithmetic.Arithmetic.{Arithmetic}
use Rattle.vx_value.specs.Columns.{Batch, batch}
use Rattle.vx_value.specs.Types.{LogicalType, Datum}
use Rattle.vx_fn.specs.Faults.{node_fault, divides_by_zero, has_fault, row_fault, misfits, is_bad_fill, fill_of, when}
use Rattle.vx_fn.specs.Functions.{Function, binary, computes, cast, fill_null}
use Rattle.vx_tree.specs.Faults.{first_fault, each_fault}
use Rattle.vx_tree.specs.Meaning.{mean, values}
use Rattle.vx_tree.specs.Trees.{BoundTree, scope, node, BoundTrees, no_bound, bound, node_type, node_types, unbound}
use Rattle.vx_eval.specs.Columns.{unless_fault}
use Rattle.vx_eval.specs.Evaluation.{evaluation}
use Rattle.vx_query.specs.Refusals.{IsFault}

either : (o p : Option VortexError) (y : VortexError) → ((z : VortexError) → o ≡ Some z → IsFault z) → ((z : VortexError) → p ≡ Some z → IsFault z) → option_or o p ≡ Some y → IsFault y
either None p y a b e = b y e
either (Some z) p y a b e = a y e

in_row : (o : Option ℕ) (make : ℕ → VortexError) (y : VortexError) → ((n : ℕ) → IsFault (make n)) → option_map make o ≡ Some y → IsFault y
in_row None make y k e = cc
in_row (Some n) make y k e = let same : make n ≡ y = cc in subst IsFault same (k n)

bad_fill : (b : Bool) (y : VortexError) → when b BadFill ≡ Some y → IsFault y
bad_fill true y e = let same : BadFill ≡ y = cc in subst IsFault same tt
bad_fill false y e = cc

row_faults : (a : Arithmetic) (row : List Datum) (n : ℕ) → IsFault (row_fault a row n)
row_faults a row n = go (divides_by_zero a row)
  where
    go : (b : Bool) → IsFault (if b then DivisionByZero n else AddOverflow n)
    go true = tt
    go false = tt

node_faults : (f : Function) (ts : List LogicalType) (rows : List (List Datum)) (y : VortexError) → node_fault f ts rows ≡ Some y → IsFault y
node_faults (binary (computes a)) ts rows y e = in_row (position (has_fault a ts) rows) (λ n. row_fault a (get_or rows n []) n) y (λ n. row_faults a (get_or rows n []) n) e
node_faults (cast t) ts rows y e = in_row (position (misfits t) rows) CastNull y (λ n. tt) e
node_faults fill_null ts rows y e = bad_fill (is_bad_fill ts (map fill_of rows)) y e
node_faults _ ts rows y e = cc

mutual
  pub tree_faults : (b : BoundTree) (rows : List Datum) (y : VortexError) → first_fault b rows ≡ Some y → IsFault y
  tree_faults (scope t) rows y e = cc
  tree_faults (node t f bs) rows y e = either (each_fault bs rows) (node_fault f (node_types bs) (map (values bs) rows)) y (each_faults bs rows) (node_faults f (node_types bs) (map (values bs) rows)) e

  pub each_faults : (bs : BoundTrees) (rows : List Datum) (y : VortexError) → each_fault bs rows ≡ Some y → IsFault y
  each_faults no_bound rows y e = cc
  each_faults (bound b bs) rows y e = either (first_fault b rows) (each_fault bs rows) y (tree_faults b rows) (each_faults bs rows) e

-- so evaluation refuses with a fault
pub evaluation_faults : (b : BoundTree) (c : Batch) (y : VortexError) → evaluation b c ≡ Err y → IsFault y
evaluation_faults b c y e = go (first_fault b c.rows) refl e
  where
    go : (o : Option VortexError) → first_fault b c.rows ≡ o → unless_fault o (batch (node_type b) (map (mean (unbound b) c.type) c.rows)) ≡ Err y → IsFault y
    go None q e = cc
    go (Some fault) q e = tree_faults b c.rows y (cc)
