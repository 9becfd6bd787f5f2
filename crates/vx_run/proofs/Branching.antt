-- The CASE of the row `branches`, bound, and what the branch rules leave of it.
use Rattle.std.specs.Prelude.{◌≡◌, ℕ, true, false, Ok, Err, Result, IfOk, IfErr, codes}
use Rattle.std.proofs.Common.{refl, sym, ap, inl, inr, subst, arith}
use Rattle.vx_dtype.specs.Returns.{ReturnsOrOom}
use Rattle.vx_dtype.specs.declared.error.VortexError.{VortexError}
use Rattle.vx_dtype.specs.declared.error.VortexError.TheVariants.{OutOfMemory}
use Rattle.vx_value.specs.Types.{Name, LogicalType, bool}
use Rattle.vx_fn.specs.Functions.{case_when, get_item, fill_null, is_null, truth_type}
use Rattle.vx_tree.specs.Binding.{binding}
use Rattle.vx_tree.specs.Examples.{i32, i32_or_null, with_x, number_of}
use Rattle.vx_tree.specs.Trees.{BoundTree, scope, node, bound, WellTyped, Over}
use Rattle.vx_tree.specs.Views.{bound_of}
use Rattle.vx_tree.specs.declared.bound.BoundExpression.{BoundExpression}
use Rattle.vx_rewrite_core.specs.Steps.{here, Steps, no_step, one_more, GivesNothing, Normal, NormalBelow}
use Rattle.vx_rewrite_core.specs.NormalForms.{NormalForm}
use Rattle.vx_rewrite_core.specs.FromSubterms.{IsLiteral, is_literal}
use Rattle.vx_rewrite_rule_laws.specs.Rules.{RuleAt, fill_of_not_null, coalesce_to_null, coalesce, null_first}
use Rattle.vx_rewrite_core.specs.Nodes.{one_bound, two_bounds, three_bounds, literal_node}
use Rattle.vx_rewrite_rule_laws.specs.Branches.{BranchRuleAt, other_pairs, is_false}
use Rattle.vx_rewrite_rule_laws.proofs.BranchLawfulness.{branch_rules_modest, branch_form_is_one}
use Rattle.vx_run.specs.Branches.{BranchesIsNormalForm, branches, never_then_zero}

-- `$.x`, whether it is null, false and 0, bound to the rows' type
abbrev item : BoundTree
item = node i32_or_null (get_item (codes "x")) (one_bound (scope (with_x i32_or_null)))

abbrev test : BoundTree
test = node (truth_type false) is_null (one_bound item)

abbrev never : BoundTree
never = literal_node (truth_type false) (bool false)

abbrev zero : BoundTree
zero = literal_node i32 (number_of 0)

-- the CASE, and the tree of `branches`
abbrev pub unfilled : BoundTree
unfilled = node i32_or_null (case_when 2 true) (bound never (bound item (three_bounds test zero item)))

abbrev pub filled : BoundTree
filled = node i32 fill_null (two_bounds item zero)

item_typed : WellTyped item
item_typed = (refl, tt, (tt, tt))

test_typed : WellTyped test
test_typed = (refl, tt, (item_typed, tt))

never_typed : WellTyped never
never_typed = (refl, refl, tt)

zero_typed : WellTyped zero
zero_typed = (refl, refl, tt)

pub unfilled_typed : WellTyped unfilled
unfilled_typed = (refl, tt, (never_typed, (item_typed, (test_typed, (zero_typed, (item_typed, tt))))))

pub unfilled_over : Over unfilled branches.batch.type
unfilled_over = (tt, ((refl, tt), (((refl, tt), tt), (tt, ((refl, tt), tt)))))

-- ---- where no rule fits

pub nothing_at_scope : (t : LogicalType) → GivesNothing BranchRuleAt (scope t)
nothing_at_scope t u (inl (coalesce_to_null i)) = elim i [ ]
nothing_at_scope t u (inl (coalesce i e p)) = elim i [ ]
nothing_at_scope t u (inr r) = elim r [ ]

pub nothing_at_item : (t : LogicalType) (a : Name) (s : LogicalType) → GivesNothing BranchRuleAt (node t (get_item a) (one_bound (scope s)))
nothing_at_item t a s u (inl (coalesce_to_null i)) = elim i [ ]
nothing_at_item t a s u (inl (coalesce i e p)) = elim i [ ]
nothing_at_item t a s u (inr r) = elim r [ ]

nothing_at_test : GivesNothing BranchRuleAt test
nothing_at_test u (inl (coalesce_to_null i)) = elim i [ ]
nothing_at_test u (inl (coalesce i e p)) = elim i [ ]
nothing_at_test u (inr r) = elim r [ ]

-- (x may be null)
not_filled : {u : BoundTree} → RuleAt filled u → ⊥
not_filled (fill_of_not_null e) = cc
not_filled (coalesce_to_null i) = elim i [ ]
not_filled (coalesce i e p) = elim i [ ]

nothing_at_filled : GivesNothing BranchRuleAt filled
nothing_at_filled u (inl r) = not_filled r
nothing_at_filled u (inr r) = elim r [ ]

pub literal_normal : (b : BoundTree) → IsLiteral b → Normal BranchRuleAt b
literal_normal b is_literal = (branch_rules_modest.at_literals _ is_literal, tt)

item_normal : Normal BranchRuleAt item
item_normal = (nothing_at_item _ _ _, (nothing_at_scope _, tt))

below_normal : NormalBelow BranchRuleAt unfilled
below_normal = (literal_normal never is_literal, (item_normal, ((nothing_at_test, (item_normal, tt)), (literal_normal zero is_literal, (item_normal, tt)))))

filled_normal : Normal BranchRuleAt filled
filled_normal = (nothing_at_filled, (item_normal, (literal_normal zero is_literal, tt)))

-- ---- the CASE without its first pair, and then the fill

to_filled : Steps BranchRuleAt unfilled 2 filled
to_filled = one_more (here (inr (other_pairs is_false (omega arith) refl))) (one_more (here (inl (coalesce null_first refl refl))) no_step)

-- the tree of `branches` is the only normal form of the CASE
pub one_form : (u : BoundTree) (n : ℕ) → Steps BranchRuleAt unfilled n u → Normal BranchRuleAt u → filled ≡ u
one_form u n s g = branch_form_is_one unfilled filled u 2 n unfilled_typed below_normal to_filled filled_normal s g

pub branches_is_normal_form : BranchesIsNormalForm
branches_is_normal_form b u n e s g =
    let is : unfilled ≡ b = cc in
    ap Ok (one_form u n (subst (λ t. Steps BranchRuleAt t n u) (sym is) s) g)

-- ---- what the code leaves

-- what is left of the CASE is the tree of `branches`
pub left : (b : BoundTree) (r : Result BoundExpression VortexError) → binding never_then_zero branches.batch.type ≡ Ok b → IfOk r (λ u. NormalForm BranchRuleAt b (bound_of u)) → IfErr r (λ e. e ≡ OutOfMemory) →
    ReturnsOrOom bound_of r (binding branches.source branches.batch.type)
left b (Ok u) e f memory = branches_is_normal_form b (bound_of u) f.count e f.steps f.normal
left b (Err x) e f memory = inl memory
