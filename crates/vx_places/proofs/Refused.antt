-- What is refused first is what typing refuses, and its place leads to a node.
use Rattle.std.proofs.Common.{◌≡◌, ◌⊎◌, inl, inr, ℕ, suc, ◌+◌, ◌<◌, List, [], ◌∷◌, length, get_or, drop, Option, Some, Ok, Err, refl, sym, ap, subst, ◌∙◌, arith}
use Rattle.std.specs.Prelude.{IsSome, IsErr, option_and_then}
use Rattle.vx_dtype.specs.declared.error.VortexError.{VortexError}
use Rattle.vx_dtype.proofs.Lists.{drop_next}
use Rattle.vx_value.specs.Types.{LogicalType}
use Rattle.vx_fn.specs.Functions.{fn_type}
use Rattle.vx_tree.specs.declared.expression.Expression.{Expression}
use Rattle.vx_tree.specs.Nodes.{tree_at, children_of}
use Rattle.vx_tree.specs.Trees.{Tree, root, call, Trees, no_tree, on_ok, typed, each_typed}
use Rattle.vx_tree.specs.Views.{tree_of, trees_of}
use Rattle.vx_places.specs.Nodes.{node_at}
use Rattle.vx_places.specs.Refusals.{IsFirstRefusal, here, below, IsFirstRefusalIn, this_one, later_one}

mutual
  pub refused : {s : LogicalType} {e : Tree} {path : List ℕ} {r : VortexError} → IsFirstRefusal s e path r → typed e s ≡ Err r
  refused (here {f = f} ts h) = ap (on_ok (fn_type f)) ts ∙ h
  refused (below {f = f} h) = ap (on_ok (fn_type f)) (refused_in h)

  refused_in : {s : LogicalType} {es : Trees} {i : ℕ} {path : List ℕ} {r : VortexError} → IsFirstRefusalIn s es i path r → each_typed es s ≡ Err r
  refused_in (this_one h) = rw (refused h) refl
  refused_in (later_one t h) = rw (t, refused_in h) refl

mutual
  pub leads : {s : LogicalType} {e : Tree} {path : List ℕ} {r : VortexError} → IsFirstRefusal s e path r → IsSome (node_at path e)
  leads (here ts h) = refl
  leads (below h) = leads_in h

  leads_in : {s : LogicalType} {es : Trees} {i : ℕ} {path : List ℕ} {r : VortexError} → IsFirstRefusalIn s es i path r → IsSome (option_and_then (node_at path) (tree_at es i))
  leads_in (this_one h) = leads h
  leads_in (later_one t h) = leads_in h

pub is_refused : {s : LogicalType} {e : Tree} {path : List ℕ} {r : VortexError} → IsFirstRefusal s e path r → IsErr (typed e s)
is_refused h = rw (refused h) refl

-- ---- a node and its children

-- the node refuses over its children's types
pub refuses_here : (s : LogicalType) (e : Tree) (ts : List LogicalType) (r : VortexError) → each_typed (children_of e) s ≡ Ok ts → typed e s ≡ Err r → IsFirstRefusal s e [] r
refuses_here s root ts r has refuses = absurd (cc)
refuses_here s (call f es) ts r has refuses = here has (sym (ap (on_ok (fn_type f)) has) ∙ refuses)

none_refused_in : {s : LogicalType} {i : ℕ} {path : List ℕ} {r : VortexError} → IsFirstRefusalIn s no_tree i path r → ⊥
none_refused_in h = elim h [ ]

-- one of its children does
pub refuses_below : (s : LogicalType) (e : Tree) (es : Trees) (i : ℕ) (rest : List ℕ) (r : VortexError) → es ≡ children_of e → IsFirstRefusalIn s es i rest r → IsFirstRefusal s e (i ∷ rest) r
refuses_below s root es i rest r those found = absurd (none_refused_in (subst (λ xs. IsFirstRefusalIn s xs i rest r) those found))
refuses_below s (call f all) es i rest r those found = below (subst (λ xs. IsFirstRefusalIn s xs i rest r) those found)

-- ---- the trees before a place have types

module _ (es : List Expression) (s : LogicalType) where
  -- a place from that index on is one of all the trees
  abbrev pub Passed : ℕ → Type 0
  Passed i = (k : ℕ) (rest : List ℕ) (r : VortexError) → IsFirstRefusalIn s (trees_of (drop i es)) k rest r → IsFirstRefusalIn s (trees_of es) (i + k) rest r

  pub passed_none : Passed 0
  passed_none k rest r h = let n : k ≡ 0 + k = omega arith in subst (λ n. IsFirstRefusalIn s (trees_of es) n rest r) n h

  pub passed_one : (i : ℕ) (e : Expression) (t : LogicalType) → i < length es → e ≡ get_or es i e → typed (tree_of e) s ≡ Ok t → Passed i → Passed (i + 1)
  passed_one i e t lt is has h k rest r found =
      let there = subst (λ xs. IsFirstRefusalIn s (trees_of xs) (suc k) rest r) (sym (drop_next es i e lt is)) (later_one has found) in
      let n : i + suc k ≡ (i + 1) + k = omega arith in
      subst (λ n. IsFirstRefusalIn s (trees_of es) n rest r) n (h (suc k) rest r there)

  pub passed_to : (i : ℕ) (e : Expression) (rest : List ℕ) (r : VortexError) → i < length es → e ≡ get_or es i e → Passed i → IsFirstRefusal s (tree_of e) rest r → IsFirstRefusalIn s (trees_of es) i rest r
  passed_to i e rest r lt is h found =
      let there = subst (λ xs. IsFirstRefusalIn s (trees_of xs) 0 rest r) (sym (drop_next es i e lt is)) (this_one found) in
      let n : i + 0 ≡ i = omega arith in
      subst (λ n. IsFirstRefusalIn s (trees_of es) n rest r) n (h 0 rest r there)
