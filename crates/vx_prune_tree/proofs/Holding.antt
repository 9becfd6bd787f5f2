-- A tree's values are within its bounds in a chunk, where what is known of the chunk is true of its rows.
use Rattle.std.proofs.Common.{◌≡◌, List, [], ◌∷◌, refl, sym, subst, ap, Option, Some, None}
use Rattle.vx_value.specs.Fits.{Fits}
use Rattle.vx_value.specs.Paths.{Path}
use Rattle.vx_value.specs.Types.{LogicalType, Datum, Data, list_of}
use Rattle.vx_dtype.specs.Lists.{Forall2, forall2_nil, forall2_cons, IsIn}
use Rattle.vx_fn.proofs.Rows.{fn_type-found}
use Rattle.vx_fn.specs.Functions.{Function, literal, list_contains}
use Rattle.vx_tree.proofs.Meant.{mean-unbound}
use Rattle.vx_tree.proofs.Trees.{each_passes, or_none, value-fits, values-fit}
use Rattle.vx_tree.specs.Faults.{each_fault, HasNoFault}
use Rattle.vx_tree.specs.Meaning.{value, values}
use Rattle.vx_tree.specs.Trees.{BoundTree, scope, node, BoundTrees, no_bound, bound, node_types, WellTyped, EachWellTyped, Over, EachOver}
use Rattle.vx_prune_bounds.proofs.Contained.{fits-any_of}
use Rattle.vx_prune_bounds.proofs.Lattice.{contains-meet}
use Rattle.vx_prune_bounds.specs.Bounds.{Bounds, Contains, any_of}
use Rattle.vx_prune_tree.proofs.StatisticsBounding.{bounds_hold}
use Rattle.vx_prune_tree.specs.Stats.{Facts, Describes, at_path}
use Rattle.vx_prune_tree.proofs.Giving.{Searches, a_search, in-unknown, given_bounds-sound}
use Rattle.vx_prune_tree.proofs.Along.{path_to-value}
use Rattle.vx_prune_tree.specs.Bounding.{item_path, path_to_only, unknown, elements_of, literal_elements, searched_in, searched, given_bounds, at_path_or, bounds_in, each_bounds_in}
use Rattle.vx_prune_tree.specs.Verdicts.{BoundsHold}

-- the row's value along the path, if there is one, or else what is within the other bounds
at_path_or-holds : (facts : Facts) (s : LogicalType) (rows : List Datum) (v w : Datum) (o : Option Path) (otherwise : Bounds) →
    Describes facts s rows → IsIn v rows → ((path : Path) → o ≡ Some path → at_path s path v ≡ w) → Contains otherwise w → Contains (at_path_or facts o otherwise) w
at_path_or-holds facts s rows v w None otherwise d i along h = h
at_path_or-holds facts s rows v w (Some path) otherwise d i along h = subst (Contains (at_path_or facts (Some path) otherwise)) (along path refl) (bounds_hold facts s rows d v i path)

elements-own : (w : Datum) (ws : Data) → elements_of w ≡ Some ws → w ≡ list_of ws
elements-own (list_of us) ws e = let same : us ≡ ws = cc in ap list_of same
elements-own _ ws e = cc

literal-own : (b : BoundTree) (ws : Data) (v : Datum) → literal_elements b ≡ Some ws → value b v ≡ list_of ws
literal-own (node t (literal u w) cs) ws v e = elements-own w ws e
literal-own _ ws v e = cc

-- where the elements that are searched are known, they are those of the list in each row
searches-in : (f : Function) (b : BoundTree) (w : Datum) (ws : Data) (v : Datum) → searched_in f b ≡ Some ws → Searches f ws (value b v ∷ w ∷ [])
searches-in list_contains b w ws v e = subst (λ l. Searches list_contains ws (l ∷ w ∷ [])) (sym (literal-own b ws v e)) a_search
searches-in _ b w ws v e = cc

searches : (f : Function) (bs : BoundTrees) (ws : Data) (v : Datum) → searched f bs ≡ Some ws → Searches f ws (values bs v)
searches f (bound b (bound c no_bound)) ws v e = searches-in f b (value c v) ws v e
searches f _ ws v e = cc

mutual
  pub bounds_in-hold : (facts : Facts) (b : BoundTree) (s : LogicalType) (rows : List Datum) (v : Datum) →
      Describes facts s rows → WellTyped b → Over b s → HasNoFault b rows → IsIn v rows → Fits v s → Contains (bounds_in facts b) (value b v)
  bounds_in-hold facts (scope t) s rows v d w o n i e =
      contains-meet (any_of t) (at_path_or facts (Some []) unknown) v (fits-any_of v t (value-fits (scope t) s rows v w o n i e))
      (at_path_or-holds facts s rows v v (Some []) unknown d i (λ path q. path_to-value (scope t) s v path w o q) (in-unknown v))
  bounds_in-hold facts (node t f bs) s rows v d w o n i e =
      let q = or_none _ _ n in
      let fit = value-fits (node t f bs) s rows v w o n i e in
      let given = given_bounds f (searched f bs) (each_bounds_in facts bs) in
      contains-meet (any_of t) (at_path_or facts (item_path f (path_to_only bs)) given) (value (node t f bs) v) (fits-any_of (value (node t f bs) v) t fit)
      (at_path_or-holds facts s rows v (value (node t f bs) v) (item_path f (path_to_only bs)) given d i (λ path p. path_to-value (node t f bs) s v path w o p)
      (given_bounds-sound (searched f bs) (fn_type-found f (node_types bs) t w.0) (values-fit bs s rows v w.2 o q.0 i e) (each_bounds_in-hold facts bs s rows v d w.2 o q.0 i e) (λ ws. searches f bs ws v)))

  each_bounds_in-hold : (facts : Facts) (bs : BoundTrees) (s : LogicalType) (rows : List Datum) (v : Datum) →
      Describes facts s rows → EachWellTyped bs → EachOver bs s → each_fault bs rows ≡ None → IsIn v rows → Fits v s → Forall2 Contains (each_bounds_in facts bs) (values bs v)
  each_bounds_in-hold facts no_bound s rows v d w o n i e = forall2_nil
  each_bounds_in-hold facts (bound b bs) s rows v d w o n i e =
      let q = or_none _ _ n in
      forall2_cons (bounds_in-hold facts b s rows v d w.0 o.0 q.0 i e) (each_bounds_in-hold facts bs s rows v d w.1 o.1 q.1 i e)

pub bounds-hold : (facts : Facts) (b : BoundTree) → WellTyped b → BoundsHold facts b
bounds-hold facts b w = λ s rows o batch d n v i.
    subst (Contains (bounds_in facts b)) (sym (mean-unbound b s v w o)) (bounds_in-hold facts b s rows v d w o n i (each_passes _ rows v batch i))
