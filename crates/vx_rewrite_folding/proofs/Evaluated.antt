-- What evaluation gives over one row of a node over literals is what folding gives at it.
use Rattle.std.proofs.Common.{◌≡◌, ◌<◌, ◌⊎◌, inl, inr, [], ◌∷◌, length, get_or, Option, Some, None, Result, Ok, Err, true, false, ◌&&◌, refl, sym, ap, subst, ◌∙◌, arith}
use Rattle.std.proofs.Math.Bool.{and-false}
use Rattle.std.proofs.lemmas.Bool.{and_parts}
use Rattle.vx_dtype.specs.Returns.{ReturnsOrOom}
use Rattle.vx_dtype.specs.declared.error.VortexError.{VortexError}
use Rattle.vx_dtype.specs.declared.error.VortexError.TheVariants.{OutOfMemory}
use Rattle.vx_value.specs.Columns.{Batch, batch}
use Rattle.vx_value.specs.Types.{null}
use Rattle.vx_fn.specs.Functions.{truth_type}
use Rattle.vx_tree.proofs.Meant.{mean-unbound}
use Rattle.vx_tree.specs.Faults.{first_fault}
use Rattle.vx_tree.specs.Meaning.{value}
use Rattle.vx_tree.specs.Trees.{BoundTree, scope, node, node_type, WellTyped, Over}
use Rattle.vx_eval.specs.Columns.{unless_fault}
use Rattle.vx_eval.specs.Evaluation.{evaluation}
use Rattle.vx_rewrite_core.specs.Nodes.{literal_node}
use Rattle.vx_rewrite_folding.specs.Constants.{is_constant}
use Rattle.vx_rewrite_rule_laws.proofs.Constants.{literals_over}
use Rattle.vx_rewrite_rule_laws.specs.Folding.{are_literals, constant_given, is_computed, one_row}

-- the batch of one row
abbrev pub row_batch : Batch
row_batch = batch (truth_type true) one_row

abbrev answer : {A : Type 0} → A → Result A VortexError
answer a = Ok a

-- the row that the code made is that one
pub the_row : (c : Batch) → answer row_batch ≡ Ok c → row_batch ≡ c
the_row c e = cc

-- what is answered of a literal
pub some_ok : {a b : BoundTree} → answer a ≡ Ok b → answer (Some a) ≡ Ok (Some b)
some_ok e = cc

-- a column, where there was no fault, and the fault where there was one
answered : (o : Option VortexError) (b c : Batch) → unless_fault o b ≡ Ok c → (o ≡ None) × (b ≡ c)
answered None b c e = (refl, cc)
answered (Some fault) b c e = cc

faulted : (o : Option VortexError) (b : Batch) (y : VortexError) → unless_fault o b ≡ Err y → o ≡ Some y
faulted None b y e = cc
faulted (Some fault) b y e = cc

pub over_row : (b : BoundTree) → WellTyped b → is_constant b ≡ true → Over b (truth_type true)
over_row (scope t) w e = cc
over_row (node t f xs) w e = literals_over xs (truth_type true) w.2 (and_parts _ _ e).1

pub row_over : (b : BoundTree) → WellTyped b → is_constant b ≡ true → (row : Batch) → row_batch ≡ row → Over b row.type
row_over b w e row is = subst (λ (r : Batch). Over b r.type) is (over_row b w e)

-- the column of the node's value in that row
abbrev whole : BoundTree → Batch
whole b = batch (node_type b) (value b null ∷ [])

meant : (b : BoundTree) → WellTyped b → is_constant b ≡ true → evaluation b row_batch ≡ unless_fault (first_fault b one_row) (whole b)
meant b w e = ap (λ d. unless_fault (first_fault b one_row) (batch (node_type b) (d ∷ []))) (mean-unbound b (truth_type true) null w (over_row b w e))

given : (b : BoundTree) → is_constant b ≡ true → first_fault b one_row ≡ None → constant_given b ≡ Some (literal_node (node_type b) (value b null))
given (scope t) e n = cc
given (node t f xs) e n = rw (e, n) refl

none_given : (b : BoundTree) (y : VortexError) → first_fault b one_row ≡ Some y → constant_given b ≡ None
none_given (scope t) y n = refl
none_given (node t f xs) y n = rw (n, and-false (is_computed f && are_literals xs)) refl

pub not_constant : (b : BoundTree) → is_constant b ≡ false → constant_given b ≡ None
not_constant (scope t) e = refl
not_constant (node t f xs) e = rw e refl

module _ (b : BoundTree) (w : WellTyped b) (e : is_constant b ≡ true) (row : Batch) (is : row_batch ≡ row) where
  at_row : (R : Batch → Type 0) → R row → R row_batch
  at_row R r = subst R (sym is) r

  column_is : (c : Batch) → ReturnsOrOom (λ x. x) (Ok c) (evaluation b row) → (first_fault b one_row ≡ None) × (whole b ≡ c)
  column_is c a = answered (first_fault b one_row) (whole b) c (sym (meant b w e) ∙ at_row (λ r. evaluation b r ≡ Ok c) a)

  pub folded : (c : Batch) → ReturnsOrOom (λ x. x) (Ok c) (evaluation b row) → constant_given b ≡ Some (literal_node c.type (get_or c.rows 0 null))
  folded c a = let k = column_is c a in subst (λ (x : Batch). constant_given b ≡ Some (literal_node x.type (get_or x.rows 0 null))) k.1 (given b e k.0)

  pub some_row : (c : Batch) → ReturnsOrOom (λ x. x) (Ok c) (evaluation b row) → 0 < length c.rows
  some_row c a = subst (λ (x : Batch). 0 < length x.rows) (column_is c a).1 (omega arith)

  pub not_folded : (y : VortexError) → ReturnsOrOom {A = Batch} (λ x. x) (Err y) (evaluation b row) → (y ≡ OutOfMemory) ⊎ (constant_given b ≡ None)
  not_folded y (inl m) = inl m
  not_folded y (inr a) = inr (none_given b y (faulted (first_fault b one_row) (whole b) y (sym (meant b w e) ∙ at_row (λ r. evaluation b r ≡ Err y) a)))
