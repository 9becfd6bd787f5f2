-- What evaluation says of a tree: it faults, or it gives the column of the tree's values.
use Rattle.std.proofs.Common.{◌≡◌, ◌⊎◌, inl, inr, List, [], ◌∷◌, map, refl, sym, ap, ◌∙◌, Bool, true, false, Option, Some, None, Result, Ok, Err}
use Rattle.std.specs.Prelude.{◌↔◌, IsErr, IsSome, MatchResult}
use Rattle.std.specs.Option.{option_or}
use Rattle.vx_dtype.specs.Returns.{ReturnsOrOom}
use Rattle.vx_dtype.specs.declared.error.VortexError.{VortexError}
use Rattle.vx_dtype.specs.declared.error.VortexError.TheVariants.{OutOfMemory}
use Rattle.vx_value.specs.Columns.{Batch, batch}
use Rattle.vx_value.specs.Types.{LogicalType, Datum}
use Rattle.vx_fn.specs.Faults.{node_fault}
use Rattle.vx_fn.specs.Functions.{Function, case_when, get_item, literal, pack, select, fill_null, zip, binary, logical_not, between, like, is_null, is_not_null, mask, cast, starts_with, byte_length, list_contains, compares, and_also, or_else, computes}
use Rattle.vx_tree.specs.Faults.{HasNoFault, first_fault, each_fault}
use Rattle.vx_tree.specs.Meaning.{mean, value}
use Rattle.vx_tree.specs.Nodes.{bound_children_of, function_at}
use Rattle.vx_tree.specs.Trees.{BoundTree, scope, node, WellTyped, Over, node_type, unbound}
use Rattle.vx_tree.proofs.Meant.{mean-unbound}
use Rattle.vx_tree.proofs.Trees.{or_none}
use Rattle.vx_eval.specs.Columns.{unless_fault}
use Rattle.vx_eval.specs.Evaluation.{evaluation}
use Rattle.vx_places.specs.declared.place.Place.{Place}
use Rattle.vx_places.specs.Walked.{may_fault, own_fault, column_of, IsSeen, SaysOrFaults}

meant : (b : BoundTree) (s : LogicalType) (rows : List Datum) → WellTyped b → Over b s → map (mean (unbound b) s) rows ≡ map (value b) rows
meant b s [] typed over = refl
meant b s (v ∷ rows) typed over = rw (mean-unbound b s v typed over, meant b s rows typed over) refl

abbrev no_place : Option Place
no_place = None

module _ (b : BoundTree) (c : Batch) where
  evaluated : (out : Batch) → WellTyped b → Over b c.type → evaluation b c ≡ Ok out → IsSeen c.rows b (Some out)
  evaluated out typed over e = go (first_fault b c.rows) refl e
    where
      go : (o : Option VortexError) → first_fault b c.rows ≡ o → unless_fault o (batch (node_type b) (map (mean (unbound b) c.type) c.rows)) ≡ Ok out → IsSeen c.rows b (Some out)
      go None q e =
          let same : out ≡ batch (node_type b) (map (mean (unbound b) c.type) c.rows) = cc in
          (q, same ∙ ap (batch (node_type b)) (meant b c.type c.rows typed over))
      go (Some fault) q e = cc

  pub fails : (r : VortexError) → evaluation b c ≡ Err r → first_fault b c.rows ≡ Some r
  fails r e = go (first_fault b c.rows) refl e
    where
      go : (o : Option VortexError) → first_fault b c.rows ≡ o → unless_fault o (batch (node_type b) (map (mean (unbound b) c.type) c.rows)) ≡ Err r → first_fault b c.rows ≡ Some r
      go None q e = cc
      go (Some fault) q e = cc

  pub fails_so : (r : VortexError) → first_fault b c.rows ≡ Some r → evaluation b c ≡ Err r
  fails_so r q = rw q refl

  -- where there is no fault evaluation isn't refused
  pub never_fails : first_fault b c.rows ≡ None → IsSome no_place ↔ IsErr (evaluation b c)
  never_fails q = (λ h. cc, λ h. cc (rw q at h))

-- ---- a tree's fault is its children's, or its first node's

pub fault_parts : (b : BoundTree) (rows : List Datum) → first_fault b rows ≡ option_or (each_fault (bound_children_of b) rows) (own_fault b rows)
fault_parts (scope t) rows = refl
fault_parts (node t f bs) rows = refl

own_is_first : (b : BoundTree) (rows : List Datum) (o : Option VortexError) → each_fault (bound_children_of b) rows ≡ None → first_fault b rows ≡ o → own_fault b rows ≡ o
own_is_first b rows o quiet first =
    let parts : first_fault b rows ≡ own_fault b rows = fault_parts b rows ∙ ap (λ p. option_or p (own_fault b rows)) quiet in
    sym parts ∙ first

-- what is evaluated over quiet children is seen, or the node faults
pub applied : (b : BoundTree) (c : Batch) (r : Result Batch VortexError) → WellTyped b → Over b c.type → each_fault (bound_children_of b) c.rows ≡ None → ReturnsOrOom (λ x. x) r (evaluation b c) → SaysOrFaults (λ x. IsSeen c.rows b (Some x)) c.rows b r
applied b c (Ok out) typed over quiet says = evaluated b c out typed over says
applied b c (Err e) typed over quiet (inl m) = inl m
applied b c (Err e) typed over quiet (inr q) = inr (own_is_first b c.rows (Some e) quiet (fails b c e q))

-- where nothing faults evaluation gives the column, unless memory runs out
pub applied_quiet : (b : BoundTree) (c : Batch) (r : Result Batch VortexError) → WellTyped b → Over b c.type → HasNoFault b c.rows → ReturnsOrOom (λ x. x) r (evaluation b c) → MatchResult r (λ x. x ≡ column_of b c.rows) (λ e. e ≡ OutOfMemory)
applied_quiet b c (Ok out) typed over quiet says = (evaluated b c out typed over says).1
applied_quiet b c (Err e) typed over quiet (inl m) = m
applied_quiet b c (Err e) typed over quiet (inr q) = let f = fails b c e q in cc

-- ---- nodes that never fault

never_faults : (f : Function) (ts : List LogicalType) (rows : List (List Datum)) → may_fault f ≡ false → node_fault f ts rows ≡ None
never_faults (case_when pairs has_else) ts rows h = refl
never_faults (get_item a) ts rows h = refl
never_faults (literal t v) ts rows h = refl
never_faults (pack names n) ts rows h = refl
never_faults (select selection) ts rows h = refl
never_faults fill_null ts rows h = cc
never_faults zip ts rows h = refl
never_faults (binary (compares c)) ts rows h = refl
never_faults (binary and_also) ts rows h = refl
never_faults (binary or_else) ts rows h = refl
never_faults (binary (computes a)) ts rows h = cc
never_faults logical_not ts rows h = refl
never_faults (between ls us) ts rows h = refl
never_faults (like negated case_insensitive) ts rows h = refl
never_faults is_null ts rows h = refl
never_faults is_not_null ts rows h = refl
never_faults starts_with ts rows h = refl
never_faults byte_length ts rows h = refl
never_faults list_contains ts rows h = refl
never_faults mask ts rows h = refl
never_faults (cast t) ts rows h = cc

pub quiet_node : (b : BoundTree) (f : Function) (rows : List Datum) → Some f ≡ function_at (unbound b) → may_fault f ≡ false → each_fault (bound_children_of b) rows ≡ None → HasNoFault b rows
quiet_node (scope t) f rows is h quiet = cc
quiet_node (node t g bs) f rows is h quiet =
    let same : f ≡ g = cc in
    let own : own_fault (node t g bs) rows ≡ None = never_faults g _ _ (ap may_fault (sym same) ∙ h) in
    rw (quiet, own) refl

pub quiet_root : (b : BoundTree) (rows : List Datum) → None ≡ function_at (unbound b) → HasNoFault b rows
quiet_root (scope t) rows is = refl
quiet_root (node t g bs) rows is = cc
