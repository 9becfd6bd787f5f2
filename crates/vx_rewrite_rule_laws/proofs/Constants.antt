-- Literals have one value in every row, over any scope: so has a node over them, which is kept by the literal of that value.
use Rattle.std.proofs.Common.{◌≡◌, inl, ◌∙◌, refl, sym, ap, subst, Bool, true}
use Rattle.std.proofs.lemmas.Bool.{and_parts}
use Rattle.vx_value.specs.Fits.{Fits}
use Rattle.vx_value.specs.Types.{LogicalType, Datum, null}
use Rattle.vx_fn.specs.Functions.{Function, literal, truth_type}
use Rattle.vx_fn.specs.Values.{fn_value}
use Rattle.vx_tree.specs.Faults.{HasNoFault}
use Rattle.vx_tree.specs.Meaning.{value, values}
use Rattle.vx_tree.specs.Trees.{BoundTree, node, BoundTrees, no_bound, bound, node_type, node_types, WellTyped, EachWellTyped, Over, EachOver}
use Rattle.vx_rewrite_core.specs.Keeps.{Keeps}
use Rattle.vx_rewrite_core.proofs.Prelude.{narrower_refl, value-fits, literal_shape}
use Rattle.vx_rewrite_core.specs.Nodes.{literal_node}
use Rattle.vx_rewrite_rule_laws.specs.Folding.{is_literal_of, are_literals, one_row}

-- ---- literals

-- the tree is a literal whose value passes the test
pub record LiteralOf (test : Datum → Bool) (x : BoundTree) : Type 0 where
  pub constant : Datum
  pub is : x ≡ literal_node (node_type x) constant
  pub passes : test constant ≡ true

pub literal_of : (test : Datum → Bool) (x : BoundTree) → WellTyped x → is_literal_of test x ≡ true → LiteralOf test x
literal_of test (node t (literal u c) xs) w e = record { constant = c; is = literal_shape t u c xs w; passes = e }
literal_of test _ w e = cc

-- its value is that in each row
pub constant_value : {test : Datum → Bool} {x : BoundTree} (l : LiteralOf test x) (v : Datum) → value x v ≡ l.constant
constant_value l v = ap (λ b. value b v) l.is

-- and of its type
pub constant_fits : {test : Datum → Bool} {x : BoundTree} (l : LiteralOf test x) → WellTyped x → Fits l.constant (node_type x)
constant_fits {x = x} l w = let h : WellTyped (literal_node (node_type x) l.constant) = subst WellTyped l.is w in h.1

constant_over : {test : Datum → Bool} {x : BoundTree} → LiteralOf test x → (s : LogicalType) → Over x s
constant_over l s = subst (λ b. Over b s) (sym l.is) tt

-- ---- a node over literals

pub literals_over : (xs : BoundTrees) (s : LogicalType) → EachWellTyped xs → are_literals xs ≡ true → EachOver xs s
literals_over no_bound s w e = tt
literals_over (bound x xs) s w e =
    let p = and_parts _ _ e in
    (constant_over (literal_of (λ c. true) x w.0 p.0) s, literals_over xs s w.1 p.1)

literals_alike : (xs : BoundTrees) (v r : Datum) → EachWellTyped xs → are_literals xs ≡ true → values xs v ≡ values xs r
literals_alike no_bound v r w e = refl
literals_alike (bound x xs) v r w e =
    let p = and_parts _ _ e in
    let l = literal_of (λ c. true) x w.0 p.0 in
    let h : value x v ≡ value x r = constant_value l v ∙ sym (constant_value l r) in
    rw (h, literals_alike xs v r w.1 p.1) refl

pub keeps_constant : (t : LogicalType) (f : Function) (xs : BoundTrees) → WellTyped (node t f xs) → are_literals xs ≡ true → HasNoFault (node t f xs) one_row → Keeps (node t f xs) (literal_node t (value (node t f xs) null))
keeps_constant t f xs w e n = record {
  typed_before = w;
  typed_after = (refl, value-fits (node t f xs) (truth_type true) one_row null w (literals_over xs (truth_type true) w.2 e) n (inl refl) refl, tt);
  scopes = λ s o. tt;
  type = narrower_refl t;
  no_fault = λ s batch o i n. refl;
  meaning = λ s batch o i n v j. ap (fn_value f (node_types xs)) (literals_alike xs null v w.2 e);
}
