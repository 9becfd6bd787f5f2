-- The tree of the row `scan`, bound, which no rule changes, and what a scan of it gives.
use Rattle.std.specs.Prelude.{◌≡◌, ℕ, false, List, Result, Ok, Err, IfOk, map, codes}
use Rattle.std.proofs.Common.{refl, sym, ap, inl, inr, subst, ◌∙◌, rules}
use Rattle.vx_dtype.specs.Returns.{ReturnsOrOom}
use Rattle.vx_dtype.specs.declared.error.VortexError.{VortexError}
use Rattle.vx_value.specs.Columns.{Batch, batch}
use Rattle.vx_value.specs.Types.{Name, LogicalType, Datum}
use Rattle.vx_fn.specs.Functions.{Operation, get_item, binary, and_also, compares, greater_or_equal, less, truth_type}
use Rattle.vx_tree.specs.Binding.{binding}
use Rattle.vx_tree.specs.Examples.{i32, i32_or_null, bool_or_null, number_of}
use Rattle.vx_tree.specs.Faults.{HasNoFault}
use Rattle.vx_tree.specs.Meaning.{mean}
use Rattle.vx_value.specs.Views.{type_of}
use Rattle.vx_tree.specs.Views.{bound_of}
use Rattle.vx_tree.specs.Trees.{Tree, BoundTree, scope, node, BoundTrees, unbound, node_type, WellTyped, Over}
use Rattle.vx_rewrite_core.proofs.Keeping.{keeps_refl}
use Rattle.vx_rewrite_core.proofs.Stepping.{no_step_left}
use Rattle.vx_rewrite_core.specs.Steps.{Steps, no_step, one_more, GivesNothing, Normal}
use Rattle.vx_eval.specs.Evaluation.{evaluation}
use Rattle.vx_rewrite_core.specs.FromSubterms.{is_literal}
use Rattle.vx_rewrite_core.specs.Nodes.{one_bound, two_bounds, literal_node}
use Rattle.vx_rewrite_rule_laws.specs.Rules.{coalesce_to_null, coalesce}
use Rattle.vx_rewrite_rule_laws.specs.Branches.{BranchRuleAt}
use Rattle.vx_scan.specs.Plans.{IsPlanFor}
use Rattle.vx_scan.specs.declared.planned.ScanPlan.{ScanPlan}
use Rattle.vx_scan.specs.Scans.{KeepsMeaning, HasTypeOf}
use Rattle.vx_query_split.specs.Sources.{IsBound}
use Rattle.vx_run.specs.Quiet.{IsQuiet}
use Rattle.vx_run.specs.Scan.{scan, scanned_type, pair_or_null}
use Rattle.vx_run.proofs.Branching.{nothing_at_scope, nothing_at_item, literal_normal}
use Rattle.vx_run.proofs.Made.{bound_source}
use Rattle.vx_run.proofs.Quiet.{never_faults}

abbrev row : BoundTree
row = scope scanned_type

abbrev a : BoundTree
a = node pair_or_null (get_item (codes "a")) (one_bound row)

abbrev x_of_a : BoundTree
x_of_a = node i32_or_null (get_item (codes "x")) (one_bound a)

abbrev b : BoundTree
b = node i32 (get_item (codes "b")) (one_bound row)

abbrev small : ℕ → BoundTree
small n = literal_node i32 (number_of n)

abbrev from_one : BoundTree
from_one = node bool_or_null (binary (compares greater_or_equal)) (two_bounds x_of_a (small 1))

abbrev below_five : BoundTree
below_five = node (truth_type false) (binary (compares less)) (two_bounds b (small 5))

-- the tree of `scan`
abbrev pub both : BoundTree
both = node bool_or_null (binary and_also) (two_bounds from_one below_five)

-- ---- where no rule fits

nothing_at_operator : (t : LogicalType) (op : Operation) (bs : BoundTrees) → GivesNothing BranchRuleAt (node t (binary op) bs)
nothing_at_operator t op bs u (inl (coalesce_to_null i)) = elim i [ ]
nothing_at_operator t op bs u (inl (coalesce i e p)) = elim i [ ]
nothing_at_operator t op bs u (inr r) = elim r [ ]

nothing_at_item_of : (t s : LogicalType) (c d : Name) (bs : BoundTrees) → GivesNothing BranchRuleAt (node t (get_item c) (one_bound (node s (get_item d) bs)))
nothing_at_item_of t s c d bs u (inl (coalesce_to_null i)) = elim i [ ]
nothing_at_item_of t s c d bs u (inl (coalesce i e p)) = elim i [ ]
nothing_at_item_of t s c d bs u (inr r) = elim r [ ]

column_normal : (t : LogicalType) (c : Name) → Normal BranchRuleAt (node t (get_item c) (one_bound row))
column_normal t c = (nothing_at_item t c scanned_type, (nothing_at_scope scanned_type, tt))

both_normal : Normal BranchRuleAt both
both_normal = (
  nothing_at_operator _ _ _,
  (
    (nothing_at_operator _ _ _, ((nothing_at_item_of _ _ _ _ _, (column_normal _ _, tt)), (literal_normal (small 1) is_literal, tt))),
    ((nothing_at_operator _ _ _, (column_normal _ _, (literal_normal (small 5) is_literal, tt))), tt),
  ),
)

-- ---- what is planned

a_typed : WellTyped a
a_typed = (refl, tt, (tt, tt))

both_typed : WellTyped both
both_typed = (refl, tt, ((refl, tt, ((refl, tt, (a_typed, tt)), ((refl, refl, tt), tt))), ((refl, tt, ((refl, tt, (tt, tt)), ((refl, refl, tt), tt))), tt)))

both_over : Over both scan.batch.type
both_over = ((((refl, tt), tt), (tt, tt)), (((refl, tt), (tt, tt)), tt))

scan_quiet : IsQuiet scan.source
scan_quiet = search rules

stays : (c u : BoundTree) (n : ℕ) → Normal BranchRuleAt c → Steps BranchRuleAt c n u → c ≡ u
stays c u n normal no_step = refl
stays c u n normal (one_more s more) = absurd (no_step_left BranchRuleAt s normal)

pub bound_both : (c : BoundTree) → binding scan.source scan.batch.type ≡ Ok c → both ≡ c
bound_both c e = cc

-- the source's tree, bound, is what steps of the rules lead to
pub planned_both : (c u : BoundTree) (n : ℕ) → binding scan.source scan.batch.type ≡ Ok c → Steps BranchRuleAt c n u → binding scan.source scan.batch.type ≡ Ok u
planned_both c u n e s =
    let is = bound_both c e in
    ap Ok (stays both u n both_normal (subst (λ t. Steps BranchRuleAt t n u) (sym is) s))

-- so a plan of the source has its tree, bound
pub planned_tree : (e : Tree) (s : LogicalType) (r : Result ScanPlan VortexError) → scan.source ≡ e → s ≡ scan.batch.type → IfOk r (λ p. IsPlanFor BranchRuleAt e s (type_of p.scope) (bound_of p.tree)) → IfOk r (λ p. binding scan.source scan.batch.type ≡ Ok (bound_of p.tree))
planned_tree e s (Err y) is over h = tt
planned_tree e s (Ok p) is over h =
    let c = h.1.0 in
    let bound = h.1.1 in
    planned_both c (bound_of p.tree) h.1.2.count (bound_source scan.source scan.batch.type c e s bound.well_typed bound.over bound.source is over) h.1.2.steps

bound_scan : (u : BoundTree) → binding scan.source scan.batch.type ≡ Ok u → IsBound scan.source scan.batch.type u
bound_scan u e = subst (IsBound scan.source scan.batch.type) (bound_both u e) (record { source = refl; well_typed = both_typed; over = both_over })

-- ---- what a scan gives

same_batch : (x : Batch) (t : LogicalType) (rows : List Datum) → x.type ≡ t → x.rows ≡ rows → batch t rows ≡ x
same_batch x t rows is are = ap (λ s. batch s rows) (sym is) ∙ ap (batch x.type) (sym are)

-- a scan of a tree that never faults gives what the tree gives
pub scan_gives : (e : Tree) (c : Batch) (u : BoundTree) (r : Result Batch VortexError) → IsQuiet e → IsBound e c.type u → KeepsMeaning u c r → HasTypeOf u r → ReturnsOrOom (λ x. x) r (evaluation u c)
scan_gives e c u (Ok x) quiet is means typed =
    let none : HasNoFault u c.rows = never_faults u c.rows (subst IsQuiet (sym is.source) quiet) in
    let rows : x.rows ≡ map (mean (unbound u) c.type) c.rows = means e u is (keeps_refl u is.well_typed) none ∙ ap (λ t. map (mean t c.type) c.rows) (sym is.source) in
    let all : batch (node_type u) (map (mean (unbound u) c.type) c.rows) ≡ x = same_batch x (node_type u) (map (mean (unbound u) c.type) c.rows) typed rows in
    rw none (ap Ok all)
scan_gives e c u (Err y) quiet is means typed = inl (means e u is (keeps_refl u is.well_typed) (never_faults u c.rows (subst IsQuiet (sym is.source) quiet)))

-- so of the tree of `scan`
pub both_scanned : (c read : Batch) (u : BoundTree) (r : Result Batch VortexError) → read ≡ c → c.type ≡ scan.batch.type → binding scan.source scan.batch.type ≡ Ok u → KeepsMeaning u read r → HasTypeOf u r → ReturnsOrOom (λ x. x) r (evaluation u c)
both_scanned c read u r same type e means typed =
    scan_gives scan.source c u r scan_quiet (subst (λ t. IsBound scan.source t u) (sym type) (bound_scan u e)) (subst (λ b. KeepsMeaning u b r) same means) typed
