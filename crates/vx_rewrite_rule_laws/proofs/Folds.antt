-- What folding gives, as one case for each way in which it comes about.
use Rattle.std.proofs.Common.{◌≡◌, inl, inr, ℕ, List, ◌-◌, ◌<◌, refl, subst, Bool, true, false, not, ◌&&◌, ◌||◌, ◌⊎◌}
use Rattle.std.specs.Prelude.{Option, Some, None, Result, Ok, Err, option_and_then, if◌then◌else◌, nat_lt}
use Rattle.std.specs.Option.{option_map, option_or, is_none}
use Rattle.std.specs.Result.{result_ok}
use Rattle.std.proofs.lemmas.Option.{option_and_then_some}
use Rattle.std.proofs.lemmas.Bool.{and_parts, or_cases, not-true, ltb-true}
use Rattle.vx_dtype.specs.declared.error.VortexError.{VortexError}
use Rattle.vx_floats.specs.declared.arithmetic.Arithmetic.{Arithmetic}
use Rattle.vx_value.specs.Deciding.{equal_type-Decides}
use Rattle.vx_value.specs.Equality.{equal_type}
use Rattle.vx_eval_like.specs.Beginnings.{beginning_of}
use Rattle.vx_value.specs.Types.{LogicalType, Datum, null, bool, utf8, is_nullable, is_null_datum}
use Rattle.vx_fn.specs.Functions.{Function, case_when, literal, binary, logical_not, between, like, is_null, is_not_null, mask, cast, list_contains, Operation, Comparison, compares, and_also, or_else, computes, is_symmetric, fn_type}
use Rattle.vx_fn.specs.Values.{is_true}
use Rattle.vx_tree.specs.Binding.{node_over}
use Rattle.vx_tree.specs.Equality.{equal_bound, equal_bound-Decides}
use Rattle.vx_tree.specs.Faults.{HasNoFault, first_fault}
use Rattle.vx_tree.specs.Meaning.{value}
use Rattle.vx_tree.specs.Trees.{BoundTree, scope, node, BoundTrees, no_bound, bound, node_type, node_types, on_ok}
use Rattle.vx_rewrite_core.specs.Nodes.{one_bound, two_bounds, three_bounds, only_if, literal_node, literal_value}
use Rattle.vx_rewrite_rule_laws.proofs.StandardDecisions.{under_test}
use Rattle.vx_rewrite_rule_laws.proofs.Pairs.{Without, without}
use Rattle.vx_rewrite_rule_laws.specs.Folding.{is_literal_of, are_literals, truth_literal, is_computed, one_row, constant_given, beside, logic_given, comparison_given, between_given, is_neutral, arithmetic_given, is_empty_list, contains_given, null_test, not_given, cast_given, mask_given, begins_so, like_given, test_given, idle_pairs, without_idle, case_given, known_given, fold_given}

-- And, which true leaves as it is, or Or, which false does
abbrev pub joins : Bool → Operation
joins true = and_also
joins false = or_else

pub data Folds : BoundTree → BoundTree → Type 0 where
  -- a node over literals is its value
  constant : {t : LogicalType} {f : Function} {xs : BoundTrees} → is_computed f ≡ true → are_literals xs ≡ true → HasNoFault (node t f xs) one_row → Folds (node t f xs) (literal_node t (value (node t f xs) null))
  -- And and Or are one side where the other is the truth value that leaves it as it is
  neutral_left : {t : LogicalType} {x y : BoundTree} (neutral : Bool) → literal_value x ≡ Some (bool neutral) → Folds (node t (binary (joins neutral)) (two_bounds x y)) y
  neutral_right : {t : LogicalType} {x y : BoundTree} (neutral : Bool) → literal_value y ≡ Some (bool neutral) → Folds (node t (binary (joins neutral)) (two_bounds x y)) x
  -- the truth value that decides where it stands on one side
  decided_left : {t : LogicalType} {x y : BoundTree} (neutral : Bool) → literal_value x ≡ Some (bool (not neutral)) → Folds (node t (binary (joins neutral)) (two_bounds x y)) (truth_literal (not neutral))
  decided_right : {t : LogicalType} {x y : BoundTree} (neutral : Bool) → literal_value y ≡ Some (bool (not neutral)) → Folds (node t (binary (joins neutral)) (two_bounds x y)) (truth_literal (not neutral))
  -- and one of two equal sides
  equal_sides : {t : LogicalType} {x : BoundTree} (neutral : Bool) → Folds (node t (binary (joins neutral)) (two_bounds x x)) x
  -- a number beside the literal that leaves it as it is
  unchanged_left : {t : LogicalType} {a : Arithmetic} {x y : BoundTree} → is_literal_of (is_neutral a) y ≡ true → Folds (node t (binary (computes a)) (two_bounds x y)) x
  unchanged_right : {t : LogicalType} {a : Arithmetic} {x y : BoundTree} → is_symmetric a ≡ true → is_literal_of (is_neutral a) x ≡ true → Folds (node t (binary (computes a)) (two_bounds x y)) y
  -- a comparison with a null is null
  null_left : {t : LogicalType} {c : Comparison} {x y : BoundTree} → is_literal_of is_null_datum x ≡ true → Folds (node t (binary (compares c)) (two_bounds x y)) (literal_node t null)
  null_right : {t : LogicalType} {c : Comparison} {x y : BoundTree} → is_literal_of is_null_datum y ≡ true → Folds (node t (binary (compares c)) (two_bounds x y)) (literal_node t null)
  -- so is a test of a null by two bounds, and one by two nulls
  null_within : {t : LogicalType} {ls us : Bool} {x l u : BoundTree} → is_literal_of is_null_datum x ≡ true → Folds (node t (between ls us) (three_bounds x l u)) (literal_node t null)
  null_bounds : {t : LogicalType} {ls us : Bool} {x l u : BoundTree} → is_literal_of is_null_datum l ≡ true → is_literal_of is_null_datum u ≡ true → Folds (node t (between ls us) (three_bounds x l u)) (literal_node t null)
  -- so is a search in a null list, and one of a null; in an empty list is nothing
  null_list : {t : LogicalType} {x y : BoundTree} → is_literal_of is_null_datum x ≡ true → Folds (node t list_contains (two_bounds x y)) (literal_node t null)
  null_element : {t : LogicalType} {x y : BoundTree} → is_literal_of is_null_datum y ≡ true → Folds (node t list_contains (two_bounds x y)) (literal_node t null)
  in_nothing : {t : LogicalType} {x y : BoundTree} → is_literal_of is_empty_list x ≡ true → is_nullable (node_type y) ≡ false → Folds (node t list_contains (two_bounds x y)) (truth_literal false)
  -- a negation of a negation is what is negated
  negated_twice : {t p : LogicalType} {x : BoundTree} → Folds (node t logical_not (one_bound (node p logical_not (one_bound x)))) x
  -- and that of a test for null is the other test
  null_denied : {t p : LogicalType} {x : BoundTree} → Folds (node t logical_not (one_bound (node p is_null (one_bound x)))) (null_test false x)
  value_denied : {t p : LogicalType} {x : BoundTree} → Folds (node t logical_not (one_bound (node p is_not_null (one_bound x)))) (null_test true x)
  -- a cast to the type of what is cast is that, and so is a mask that is true in every row
  own_cast : {t v : LogicalType} {x : BoundTree} → node_type x ≡ t → Folds (node t (cast v) (one_bound x)) x
  masked_nowhere : {t : LogicalType} {x m : BoundTree} → is_literal_of is_true m ≡ true → Folds (node t mask (two_bounds x m)) x
  -- a match with the pattern of a beginning is a test of that
  begun : {t u v : LogicalType} {x : BoundTree} {xs : BoundTrees} {p q : List ℕ} → beginning_of p ≡ Some q → Folds (node t (like false false) (two_bounds x (node u (literal v (utf8 p)) xs))) (begins_so t x u q)
  -- what is never null isn't null
  never_null : {t : LogicalType} {x : BoundTree} → is_nullable (node_type x) ≡ false → Folds (node t is_null (one_bound x)) (truth_literal false)
  always_there : {t : LogicalType} {x : BoundTree} → is_nullable (node_type x) ≡ false → Folds (node t is_not_null (one_bound x)) (truth_literal true)
  -- a CASE without pairs whose condition never holds
  fewer_pairs : {t u : LogicalType} {pairs n : ℕ} {has_else : Bool} {c x : BoundTree} {rest kept : BoundTrees} →
      Without rest kept n →
      0 < n →
      fn_type (case_when (pairs - n) has_else) (node_types (bound c (bound x kept))) ≡ Ok u →
      Folds (node t (case_when pairs has_else) (bound c (bound x rest))) (node u (case_when (pairs - n) has_else) (bound c (bound x kept)))

-- ---- what is given under a test, or by one of two

one_of : (o p : Option BoundTree) (u : BoundTree) → option_or o p ≡ Some u → (o ≡ Some u) ⊎ (p ≡ Some u)
one_of None p u e = inr e
one_of (Some x) p u e = inl e

not_there : {A : Type 0} (o : Option A) → is_none o ≡ true → o ≡ None
not_there None e = refl
not_there (Some x) e = cc

constant_folds : (b u : BoundTree) → constant_given b ≡ Some u → Folds b u
constant_folds (scope t) u e = cc
constant_folds (node t f xs) u e =
    under_test (Folds (node t f xs)) (is_computed f && are_literals xs && is_none (first_fault (node t f xs) one_row)) (literal_node t (value (node t f xs) null)) u
    (λ h.
    let p = and_parts _ _ h in
    let q = and_parts _ _ p.0 in
    constant q.0 q.1 (not_there _ p.1))
    e

-- ---- And and Or

-- a literal that leaves the other side as it is, or decides
abbrev Beside : Bool → BoundTree → BoundTree → BoundTree → Type 0
Beside neutral x y u = ((literal_value x ≡ Some (bool neutral)) × (y ≡ u)) ⊎ ((literal_value x ≡ Some (bool (not neutral))) × (truth_literal (not neutral) ≡ u))

beside_value : (neutral : Bool) (x y u : BoundTree) (c : Datum) → literal_value x ≡ Some c → beside neutral y c ≡ Some u → Beside neutral x y u
beside_value true x y u (bool true) h e = inl (h, cc)
beside_value true x y u (bool false) h e = inr (h, cc)
beside_value false x y u (bool true) h e = inr (h, cc)
beside_value false x y u (bool false) h e = inl (h, cc)
beside_value neutral x y u _ h e = cc

module _ (t : LogicalType) (neutral : Bool) (x y : BoundTree) where
  abbrev GivenBy : BoundTree → Type 0
  GivenBy u = Folds (node t (binary (joins neutral)) (two_bounds x y)) u

  by_left : (u : BoundTree) → Beside neutral x y u → GivenBy u
  by_left u (inl p) = subst GivenBy p.1 (neutral_left neutral p.0)
  by_left u (inr p) = subst GivenBy p.1 (decided_left neutral p.0)

  by_right : (u : BoundTree) → Beside neutral y x u → GivenBy u
  by_right u (inl p) = subst GivenBy p.1 (neutral_right neutral p.0)
  by_right u (inr p) = subst GivenBy p.1 (decided_right neutral p.0)

  by_equal : equal_bound x y ≡ true → GivenBy x
  by_equal h = subst (λ y. Folds (node t (binary (joins neutral)) (two_bounds x y)) x) ((equal_bound-Decides x y).0 h) (equal_sides neutral)

  logic_folds : (u : BoundTree) → logic_given neutral x y ≡ Some u → GivenBy u
  logic_folds u e = first (one_of _ _ u e)
    where
      second : (option_and_then (beside neutral x) (literal_value y) ≡ Some u) ⊎ (only_if (equal_bound x y) x ≡ Some u) → GivenBy u
      second (inl h) = option_and_then_some (beside neutral x) (literal_value y) u h (λ c q r. by_right u (beside_value neutral y x u c q r))
      second (inr h) = under_test GivenBy (equal_bound x y) x u by_equal h

      first : (option_and_then (beside neutral y) (literal_value x) ≡ Some u) ⊎ (option_or (option_and_then (beside neutral x) (literal_value y)) (only_if (equal_bound x y) x) ≡ Some u) → GivenBy u
      first (inl h) = option_and_then_some (beside neutral y) (literal_value x) u h (λ c q r. by_left u (beside_value neutral x y u c q r))
      first (inr h) = second (one_of _ _ u h)

-- ---- arithmetic

arithmetic_folds : (t : LogicalType) (a : Arithmetic) (x y u : BoundTree) → arithmetic_given a x y ≡ Some u → Folds (node t (binary (computes a)) (two_bounds x y)) u
arithmetic_folds t a x y u e = go (one_of _ _ u e)
  where
    go : (only_if (is_literal_of (is_neutral a) y) x ≡ Some u) ⊎ (only_if (is_symmetric a && is_literal_of (is_neutral a) x) y ≡ Some u) → Folds (node t (binary (computes a)) (two_bounds x y)) u
    go (inl h) = under_test (Folds (node t (binary (computes a)) (two_bounds x y))) (is_literal_of (is_neutral a) y) x u (λ q. unchanged_left q) h
    go (inr h) = under_test (Folds (node t (binary (computes a)) (two_bounds x y))) (is_symmetric a && is_literal_of (is_neutral a) x) y u (λ q. let p = and_parts _ _ q in unchanged_right p.0 p.1) h

-- ---- null operands

comparison_folds : (t : LogicalType) (c : Comparison) (x y u : BoundTree) → comparison_given t x y ≡ Some u → Folds (node t (binary (compares c)) (two_bounds x y)) u
comparison_folds t c x y u e =
    under_test (Folds (node t (binary (compares c)) (two_bounds x y))) (is_literal_of is_null_datum x || is_literal_of is_null_datum y) (literal_node t null) u
    (λ h. go (or_cases _ _ h))
    e
  where
    go : (is_literal_of is_null_datum x ≡ true) ⊎ (is_literal_of is_null_datum y ≡ true) → Folds (node t (binary (compares c)) (two_bounds x y)) (literal_node t null)
    go (inl h) = null_left h
    go (inr h) = null_right h

between_folds : (t : LogicalType) (ls us : Bool) (x l h u : BoundTree) → between_given t x l h ≡ Some u → Folds (node t (between ls us) (three_bounds x l h)) u
between_folds t ls us x l h u e =
    under_test (Folds (node t (between ls us) (three_bounds x l h))) (is_literal_of is_null_datum x || (is_literal_of is_null_datum l && is_literal_of is_null_datum h)) (literal_node t null) u
    (λ q. go (or_cases _ _ q))
    e
  where
    go : (is_literal_of is_null_datum x ≡ true) ⊎ ((is_literal_of is_null_datum l && is_literal_of is_null_datum h) ≡ true) → Folds (node t (between ls us) (three_bounds x l h)) (literal_node t null)
    go (inl q) = null_within q
    go (inr q) = let p = and_parts _ _ q in null_bounds p.0 p.1

-- ---- searches in lists

contains_folds : (t : LogicalType) (x y u : BoundTree) → contains_given t x y ≡ Some u → Folds (node t list_contains (two_bounds x y)) u
contains_folds t x y u e = go (one_of _ _ u e)
  where
    of_null : (is_literal_of is_null_datum x ≡ true) ⊎ (is_literal_of is_null_datum y ≡ true) → Folds (node t list_contains (two_bounds x y)) (literal_node t null)
    of_null (inl h) = null_list h
    of_null (inr h) = null_element h

    go : (comparison_given t x y ≡ Some u) ⊎ (only_if (is_literal_of is_empty_list x && not (is_nullable (node_type y))) (truth_literal false) ≡ Some u) → Folds (node t list_contains (two_bounds x y)) u
    go (inl h) = under_test (Folds (node t list_contains (two_bounds x y))) (is_literal_of is_null_datum x || is_literal_of is_null_datum y) (literal_node t null) u (λ q. of_null (or_cases _ _ q)) h
    go (inr h) = under_test (Folds (node t list_contains (two_bounds x y))) (is_literal_of is_empty_list x && not (is_nullable (node_type y))) (truth_literal false) u (λ q. let p = and_parts _ _ q in in_nothing p.0 (not-true _ p.1)) h

-- ---- functions of one child, and masks

negation_folds : (t : LogicalType) (x u : BoundTree) → not_given x ≡ Some u → Folds (node t logical_not (one_bound x)) u
negation_folds t (node p logical_not (bound x no_bound)) u e = let q : x ≡ u = cc in subst (Folds (node t logical_not (one_bound (node p logical_not (one_bound x))))) q negated_twice
negation_folds t (node p is_null (bound x no_bound)) u e = let q : null_test false x ≡ u = cc in subst (Folds (node t logical_not (one_bound (node p is_null (one_bound x))))) q null_denied
negation_folds t (node p is_not_null (bound x no_bound)) u e = let q : null_test true x ≡ u = cc in subst (Folds (node t logical_not (one_bound (node p is_not_null (one_bound x))))) q value_denied
negation_folds t (node p logical_not no_bound) u e = cc
negation_folds t (node p is_null no_bound) u e = cc
negation_folds t (node p is_null (bound x (bound y ys))) u e = cc
negation_folds t (node p is_not_null no_bound) u e = cc
negation_folds t (node p is_not_null (bound x (bound y ys))) u e = cc
negation_folds t (node p logical_not (bound x (bound y ys))) u e = cc
negation_folds t _ u e = cc

cast_folds : (t v : LogicalType) (x u : BoundTree) → cast_given t x ≡ Some u → Folds (node t (cast v) (one_bound x)) u
cast_folds t v x u e = under_test (Folds (node t (cast v) (one_bound x))) (equal_type (node_type x) t) x u (λ h. own_cast ((equal_type-Decides (node_type x) t).0 h)) e

mask_folds : (t : LogicalType) (x m u : BoundTree) → mask_given x m ≡ Some u → Folds (node t mask (two_bounds x m)) u
mask_folds t x m u e = under_test (Folds (node t mask (two_bounds x m))) (is_literal_of is_true m) x u (λ h. masked_nowhere h) e

like_folds : (t : LogicalType) (x m u : BoundTree) → like_given t x m ≡ Some u → Folds (node t (like false false) (two_bounds x m)) u
like_folds t x (node w (literal v (utf8 p)) xs) u e = go (beginning_of p) refl e
  where
    go : (o : Option (List ℕ)) → beginning_of p ≡ o → option_map (begins_so t x w) o ≡ Some u → Folds (node t (like false false) (two_bounds x (node w (literal v (utf8 p)) xs))) u
    go None h e = cc
    go (Some q) h e = let g : begins_so t x w q ≡ u = cc in subst (Folds (node t (like false false) (two_bounds x (node w (literal v (utf8 p)) xs)))) g (begun h)
like_folds t x _ u e = cc

null_folds : (t : LogicalType) (x u : BoundTree) → test_given false x ≡ Some u → Folds (node t is_null (one_bound x)) u
null_folds t x u e = under_test (Folds (node t is_null (one_bound x))) (not (is_nullable (node_type x))) (truth_literal false) u (λ h. never_null (not-true _ h)) e

not_null_folds : (t : LogicalType) (x u : BoundTree) → test_given true x ≡ Some u → Folds (node t is_not_null (one_bound x)) u
not_null_folds t x u e = under_test (Folds (node t is_not_null (one_bound x))) (not (is_nullable (node_type x))) (truth_literal true) u (λ h. always_there (not-true _ h)) e

-- ---- CASE

case_folds : (t : LogicalType) (pairs : ℕ) (has_else : Bool) (c x : BoundTree) (rest : BoundTrees) (u : BoundTree) → case_given pairs has_else c x rest ≡ Some u → Folds (node t (case_when pairs has_else) (bound c (bound x rest))) u
case_folds t pairs has_else c x rest u e = go (nat_lt 0 (idle_pairs rest)) refl e
  where
    typed : 0 < idle_pairs rest → (r : Result LogicalType VortexError) → fn_type (case_when (pairs - idle_pairs rest) has_else) (node_types (bound c (bound x (without_idle rest)))) ≡ r → result_ok (on_ok (λ v. Ok (node v (case_when (pairs - idle_pairs rest) has_else) (bound c (bound x (without_idle rest))))) r) ≡ Some u → Folds (node t (case_when pairs has_else) (bound c (bound x rest))) u
    typed h (Ok v) q e = let g : node v (case_when (pairs - idle_pairs rest) has_else) (bound c (bound x (without_idle rest))) ≡ u = cc in subst (Folds (node t (case_when pairs has_else) (bound c (bound x rest)))) g (fewer_pairs (without rest) h q)
    typed h (Err r) q e = cc

    go : (b : Bool) → nat_lt 0 (idle_pairs rest) ≡ b → (if b then result_ok (node_over (case_when (pairs - idle_pairs rest) has_else) (bound c (bound x (without_idle rest)))) else None) ≡ Some u → Folds (node t (case_when pairs has_else) (bound c (bound x rest))) u
    go true q e = typed (ltb-true 0 (idle_pairs rest) q) (fn_type (case_when (pairs - idle_pairs rest) has_else) (node_types (bound c (bound x (without_idle rest))))) refl e
    go false q e = cc

-- ---- all of them

known_folds : (b u : BoundTree) → known_given b ≡ Some u → Folds b u
known_folds (node t (binary and_also) (bound x (bound y no_bound))) u e = logic_folds t true x y u e
known_folds (node t (binary or_else) (bound x (bound y no_bound))) u e = logic_folds t false x y u e
known_folds (node t (binary (compares c)) (bound x (bound y no_bound))) u e = comparison_folds t c x y u e
known_folds (node t (binary (computes a)) (bound x (bound y no_bound))) u e = arithmetic_folds t a x y u e
known_folds (node t (between ls us) (bound x (bound l (bound h no_bound)))) u e = between_folds t ls us x l h u e
known_folds (node t logical_not (bound x no_bound)) u e = negation_folds t x u e
known_folds (node t (cast v) (bound x no_bound)) u e = cast_folds t v x u e
known_folds (node t mask (bound x (bound m no_bound))) u e = mask_folds t x m u e
known_folds (node t (like false false) (bound x (bound m no_bound))) u e = like_folds t x m u e
known_folds (node t list_contains (bound x (bound y no_bound))) u e = contains_folds t x y u e
known_folds (node t is_null (bound x no_bound)) u e = null_folds t x u e
known_folds (node t is_not_null (bound x no_bound)) u e = not_null_folds t x u e
known_folds (node t (case_when pairs has_else) (bound c (bound x rest))) u e = case_folds t pairs has_else c x rest u e
known_folds _ u e = cc

pub folds : (b u : BoundTree) → fold_given b ≡ Some u → Folds b u
folds b u e = go (one_of _ _ u e)
  where
    go : (constant_given b ≡ Some u) ⊎ (known_given b ≡ Some u) → Folds b u
    go (inl h) = constant_folds b u h
    go (inr h) = known_folds b u h
