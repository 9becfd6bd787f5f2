-- The first node without a text among children, one after another.
use Rattle.std.proofs.Common.{◌≡◌, ℕ, ◌+◌, ◌<◌, ◌≤◌, List, [], ◌∷◌, ◌++◌, length, get_or, drop, Option, Some, None, refl, sym, ap, ◌∙◌, append_assoc, append-nil}
use Rattle.std.specs.Prelude.{false, if◌then◌else◌}
use Rattle.std.proofs.lemmas.Bool.{cond-false}
use Rattle.std.specs.Option.{option_map, option_or}
use Rattle.vx_value.specs.Types.{LogicalType}
use Rattle.vx_fn.specs.Functions.{Function, list_contains}
use Rattle.vx_tree.specs.declared.bound.BoundExpression.{BoundExpression}
use Rattle.vx_tree.specs.Trees.{BoundTree, node, BoundTrees}
use Rattle.vx_tree.specs.Views.{bound_of, bounds_of}
use Rattle.vx_tree.proofs.Children.{bounds_next, bounds_end}
use Rattle.vx_sql.specs.declared.dialect.Dialect.{Dialect}
use Rattle.vx_sql.specs.declared.unsupported.Reason.{Reason}
use Rattle.vx_sql.specs.Reasons.{own_reason}
use Rattle.vx_sql.specs.Unsupported.{below, is_column, first_asked, first_unsupported, first_unsupported_past, first_unsupported_from, Refused, LeadsToUnsupported}

-- ---- the node itself

pub own_told : (d : Dialect) (b : BoundTree) (t : LogicalType) (f : Function) (bs : BoundTrees) (r : Reason) (old new : List ℕ) → b ≡ node t f bs → Some r ≡ own_reason d t f bs → new ≡ old
    → LeadsToUnsupported old (first_unsupported d b) new (Some r)
own_told d b t f bs r old new is own same = (
  [],
  same ∙ sym (append-nil old),
  ap (first_unsupported d) is ∙ sym (ap (λ o. option_or (option_map (λ (reason : Reason). ([], reason)) o) (if is_column f bs then None else first_unsupported_past d (first_asked f) bs)) own),
)

-- ---- its children

from_next : (d : Dialect) (bs : List BoundExpression) (i : ℕ) (b : BoundExpression) → i < length bs → b ≡ get_or bs i b
    → first_unsupported_from d i (bounds_of (drop i bs)) ≡ option_or (option_map (below i) (first_unsupported d (bound_of b))) (first_unsupported_from d (i + 1) (bounds_of (drop (i + 1) bs)))
from_next d bs i b h is = ap (first_unsupported_from d i) (bounds_next bs i b h is)

-- the children from the first that is asked on
pub asked : (d : Dialect) (f : Function) (bs : List BoundExpression) → first_unsupported_past d (first_asked f) (bounds_of bs) ≡ first_unsupported_from d (first_asked f) (bounds_of (drop (first_asked f) bs))
asked d list_contains [] = refl
asked d list_contains (b ∷ bs) = refl
asked d _ [] = refl
asked d _ (b ∷ bs) = refl

pub below_told : (d : Dialect) (b : BoundTree) (t : LogicalType) (f : Function) (bs : List BoundExpression) (first : ℕ) → b ≡ node t f (bounds_of bs) → own_reason d t f (bounds_of bs) ≡ None
    → is_column f (bounds_of bs) ≡ false → first ≡ first_asked f → first_unsupported_from d first (bounds_of (drop first bs)) ≡ first_unsupported d b
below_told d b t f bs first is own column at =
    let past = first_unsupported_past d (first_asked f) (bounds_of bs) in
    ap (λ i. first_unsupported_from d i (bounds_of (drop i bs))) at ∙ sym (asked d f bs) ∙ sym (cond-false (is_column f (bounds_of bs)) None past column)
    ∙ ap (λ o. option_or (option_map (λ (reason : Reason). ([], reason)) o) (if is_column f (bounds_of bs) then None else past)) (sym own) ∙ sym (ap (first_unsupported d) is)

-- a child's node is one of the children's
pub child_told : (d : Dialect) (bs : List BoundExpression) (i : ℕ) (b : BoundExpression) (r : Reason) (old pushed new : List ℕ) (whole : Option Refused) → i < length bs → b ≡ get_or bs i b
    → pushed ≡ old ++ i ∷ [] → first_unsupported_from d i (bounds_of (drop i bs)) ≡ whole
    → LeadsToUnsupported pushed (first_unsupported d (bound_of b)) new (Some r) → LeadsToUnsupported old (whole) new (Some r)
child_told d bs i b r old pushed new whole h is at left (path, goes, said) = (
  i ∷ path,
  goes ∙ ap (λ x. x ++ path) at ∙ append_assoc old (i ∷ []) path,
  sym left ∙ from_next d bs i b h is ∙ ap (λ o. option_or (option_map (below i) o) (first_unsupported_from d (i + 1) (bounds_of (drop (i + 1) bs)))) said,
)

-- a child whose nodes all have texts is passed
pub child_passed : (d : Dialect) (bs : List BoundExpression) (i : ℕ) (b : BoundExpression) (whole : Option Refused) → i < length bs → b ≡ get_or bs i b
    → first_unsupported_from d i (bounds_of (drop i bs)) ≡ whole → first_unsupported d (bound_of b) ≡ None
    → first_unsupported_from d (i + 1) (bounds_of (drop (i + 1) bs)) ≡ whole
child_passed d bs i b whole h is left none =
    sym (ap (λ o. option_or (option_map (below i) o) (first_unsupported_from d (i + 1) (bounds_of (drop (i + 1) bs)))) none) ∙ sym (from_next d bs i b h is) ∙ left

-- no child is left
pub no_child_told : (d : Dialect) (bs : List BoundExpression) (i : ℕ) (whole : Option Refused) → length bs ≤ i → first_unsupported_from d i (bounds_of (drop i bs)) ≡ whole
    → whole ≡ None
no_child_told d bs i whole h left = sym left ∙ ap (first_unsupported_from d i) (bounds_end bs i h)
