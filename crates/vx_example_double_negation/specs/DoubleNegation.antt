-- A rule set of one rule, from its definition to its laws: a negation of a negation is what is negated.
use Rattle.std.proofs.Common.{◌≡◌, ◌<◌, [], ◌∷◌, refl, sym, subst, Bool, true, false, arith}
use Rattle.std.specs.Prelude.{Option, Some, None, option_and_then}
use Rattle.vx_value.specs.Fits.{Fits}
use Rattle.vx_value.specs.Types.{LogicalType, ty, atomic, truth, Datum, null, bool}
use Rattle.vx_dtype.specs.Joins.{Narrower}
use Rattle.vx_fn.specs.Functions.{logical_not}
use Rattle.vx_fn.specs.Rows.{FnType, of_not}
use Rattle.vx_fn.specs.Values.{kleene_not}
use Rattle.vx_tree.specs.Meaning.{value}
use Rattle.vx_rewrite_core.specs.Prelude.{BoundTree, node, no_bound, bound, node_type, WellTyped, Keeps, Lawful, weight, one_bound, only_one, in_first, at_first, IsLiteral, EachFrom, FromSubterms, DecidedBy, bound_children_of}
use Rattle.vx_rewrite_core.proofs.Prelude.{narrower_refl, fn_type-found, value-fits, each_passes, only_quiet, below_inside, modest_lawful}

-- ---- the rule

-- what is given at a node
pub data DoubleNegationAt : BoundTree → BoundTree → Type 0 where
  -- a negation of a negation is what is negated
  negated_twice : {t u : LogicalType} {x : BoundTree} → DoubleNegationAt (node t logical_not (one_bound (node u logical_not (one_bound x)))) x

-- what is negated
abbrev pub negated : BoundTree → Option BoundTree
negated (node t logical_not xs) = only_one xs
negated _ = None

-- the rule as a function
abbrev pub given : BoundTree → Option BoundTree
given b = option_and_then negated (negated b)

-- ---- the rule as a function gives what the rule gives

inner_given : (t : LogicalType) (y u : BoundTree) → negated y ≡ Some u → DoubleNegationAt (node t logical_not (one_bound y)) u
inner_given t (node p logical_not (bound x no_bound)) u e = let q : x ≡ u = cc in subst (DoubleNegationAt (node t logical_not (one_bound (node p logical_not (one_bound x))))) q negated_twice
inner_given t (node p logical_not no_bound) u e = cc
inner_given t (node p logical_not (bound x (bound y ys))) u e = cc
inner_given t _ u e = cc

is_given : (b u : BoundTree) → given b ≡ Some u → DoubleNegationAt b u
is_given (node t logical_not (bound y no_bound)) u e = inner_given t y u e
is_given (node t logical_not no_bound) u e = cc
is_given (node t logical_not (bound y (bound z zs))) u e = cc
is_given _ u e = cc

gives : (b u : BoundTree) → DoubleNegationAt b u → given b ≡ Some u
gives b u negated_twice = refl

pub double_negation_decided : DecidedBy DoubleNegationAt given
double_negation_decided b u w = (gives b u, is_given b u)

-- ---- it keeps the tree

-- a negation is of truth values, and of its operand's type
truths : {a t : LogicalType} → FnType logical_not (a ∷ []) t → (n : Bool) × (a ≡ ty (atomic truth) n) × (t ≡ ty (atomic truth) n)
truths (of_not {n = n}) = (n, refl, refl)

twice : (v : Datum) (n : Bool) → Fits v (ty (atomic truth) n) → kleene_not (kleene_not v) ≡ v
twice null n e = refl
twice (bool true) n e = refl
twice (bool false) n e = refl
twice _ n e = cc

keeps : (b u : BoundTree) → WellTyped b → DoubleNegationAt b u → Keeps b u
keeps b x w (negated_twice {t = t} {u = u}) =
    let outer = truths (fn_type-found logical_not (u ∷ []) t w.0) in
    let inner = truths (fn_type-found logical_not (node_type x ∷ []) u w.2.0.0) in
    let is : node_type x ≡ t = cc in
    record {
      typed_before = w;
      typed_after = w.2.0.2.0;
      scopes = λ s o. o.0.0;
      type = subst (Narrower (node_type x)) is (narrower_refl (node_type x));
      no_fault = λ s batch o i n. only_quiet u logical_not x batch (only_quiet t logical_not (node u logical_not (one_bound x)) batch n);
      meaning = λ s batch o i n v j.
          let quiet = only_quiet u logical_not x batch (only_quiet t logical_not (node u logical_not (one_bound x)) batch n) in
          let fits = value-fits x s batch v w.2.0.2.0 o.0.0 quiet j (each_passes _ batch v i j) in
          sym (twice (value x v) inner.0 (subst (Fits (value x v)) inner.1 fits));
    }

-- ---- it is lawful

lightens : (b u : BoundTree) → WellTyped b → DoubleNegationAt b u → weight u < weight b
lightens b u w negated_twice = omega arith

from_below : (b u : BoundTree) → DoubleNegationAt b u → EachFrom (bound_children_of b) (bound_children_of u)
from_below b x negated_twice = below_inside x _ (in_first at_first)

not_at_literals : {b u : BoundTree} → DoubleNegationAt b u → IsLiteral b → ⊥
not_at_literals negated_twice l = elim l [ ]

pub double_negation_modest : FromSubterms DoubleNegationAt
double_negation_modest = record { from = from_below; at_literals = λ b l u r. not_at_literals r l }

pub double_negation_lawful : Lawful DoubleNegationAt
double_negation_lawful = modest_lawful DoubleNegationAt double_negation_modest keeps lightens
