-- And and Or with a truth value on one side, or with equal sides, are kept by what folding gives.
use Rattle.std.proofs.Common.{◌≡◌, inl, inr, ◌∙◌, refl, sym, subst, [], ◌∷◌, Bool, true, false, not, ◌||◌}
use Rattle.std.specs.Prelude.{Some}
use Rattle.std.proofs.lemmas.Bool.{or_left, or_right}
use Rattle.vx_value.specs.Fits.{Fits}
use Rattle.vx_value.specs.Types.{LogicalType, Datum, null, bool}
use Rattle.vx_dtype.specs.Joins.{Narrower, narrower, same_atomic_shape}
use Rattle.vx_fn.proofs.Swaps.{swapped_over_exchanged_operands}
use Rattle.vx_fn.specs.Functions.{literal, binary, and_also, or_else, truth_type}
use Rattle.vx_fn.specs.Rows.{FnType, of_and, of_or}
use Rattle.vx_fn.specs.Values.{binary_value}
use Rattle.vx_tree.specs.Meaning.{value}
use Rattle.vx_tree.specs.Trees.{BoundTree, node, node_type, WellTyped}
use Rattle.vx_rewrite_core.specs.Keeps.{Keeps}
use Rattle.vx_rewrite_core.proofs.Prelude.{fn_type-found, IsChild}
use Rattle.vx_rewrite_core.specs.Nodes.{two_bounds, literal_value}
use Rattle.vx_rewrite_rule_laws.proofs.Folds.{joins}
use Rattle.vx_rewrite_rule_laws.proofs.Operands.{keeps_operand}
use Rattle.vx_rewrite_rule_laws.specs.Folding.{truth_literal}

-- ---- the tables

with_neutral : (neutral : Bool) (v : Datum) (n : Bool) → Fits v (truth_type n) → binary_value (joins neutral) (bool neutral) v ≡ v
with_neutral true (bool true) n e = refl
with_neutral true (bool false) n e = refl
with_neutral true null n e = refl
with_neutral false (bool true) n e = refl
with_neutral false (bool false) n e = refl
with_neutral false null n e = refl
with_neutral neutral _ n e = cc

with_decided : (neutral : Bool) (v : Datum) → binary_value (joins neutral) (bool (not neutral)) v ≡ bool (not neutral)
with_decided true v = refl
with_decided false v = refl

with_itself : (neutral : Bool) (v : Datum) (n : Bool) → Fits v (truth_type n) → binary_value (joins neutral) v v ≡ v
with_itself true (bool true) n e = refl
with_itself true (bool false) n e = refl
with_itself true null n e = refl
with_itself false (bool true) n e = refl
with_itself false (bool false) n e = refl
with_itself false null n e = refl
with_itself neutral _ n e = cc

turned : (neutral : Bool) (v r : Datum) → binary_value (joins neutral) v r ≡ binary_value (joins neutral) r v
turned true = swapped_over_exchanged_operands and_also
turned false = swapped_over_exchanged_operands or_else

-- the value of a literal is that in each row
literal_is : (x : BoundTree) (c : Datum) → literal_value x ≡ Some c → (v : Datum) → value x v ≡ c
literal_is (node t (literal u k) xs) c e v = cc
literal_is _ c e v = cc

-- ---- what typing says of And and Or

record LogicTyped (a b t : LogicalType) : Type 0 where
  pub left : Bool
  pub right : Bool
  pub first : a ≡ truth_type left
  pub second : b ≡ truth_type right
  pub type : t ≡ truth_type (left || right)

logic_typed : (neutral : Bool) {a b t : LogicalType} → FnType (binary (joins neutral)) (a ∷ b ∷ []) t → LogicTyped a b t
logic_typed true (of_and {n = n} {m = m}) = record { left = n; right = m; first = refl; second = refl; type = refl }
logic_typed false (of_or {n = n} {m = m}) = record { left = n; right = m; first = refl; second = refl; type = refl }

left_narrower : {a b t : LogicalType} → LogicTyped a b t → Narrower a t
left_narrower l = rw (l.first, l.type) (narrower same_atomic_shape (or_left l.left l.right))

right_narrower : {a b t : LogicalType} → LogicTyped a b t → Narrower b t
right_narrower l = rw (l.second, l.type) (narrower same_atomic_shape (or_right l.left l.right))

truth_narrower : {a b t : LogicalType} → LogicTyped a b t → Narrower (truth_type false) t
truth_narrower l = rw l.type (narrower {n = false} {m = l.left || l.right} same_atomic_shape (λ e. cc))

-- ---- laws

module _ (t : LogicalType) (neutral : Bool) (x y : BoundTree) (w : WellTyped (node t (binary (joins neutral)) (two_bounds x y))) where
  typed : LogicTyped (node_type x) (node_type y) t
  typed = logic_typed neutral (fn_type-found (binary (joins neutral)) (node_type x ∷ node_type y ∷ []) t w.0)

  -- one side keeps it where it means the same of truth values
  keeps_side : (z : BoundTree) → IsChild z (two_bounds x y) → Narrower (node_type z) t → ((v : Datum) (n m : Bool) → Fits (value x v) (truth_type n) → Fits (value y v) (truth_type m) → value z v ≡ binary_value (joins neutral) (value x v) (value y v)) → Keeps (node t (binary (joins neutral)) (two_bounds x y)) z
  keeps_side z c p same = keeps_operand t (joins neutral) x y z w c p (λ v g h. same v typed.left typed.right (subst (Fits (value x v)) typed.first g) (subst (Fits (value y v)) typed.second h))

  keeps_decided : ((v : Datum) → bool (not neutral) ≡ binary_value (joins neutral) (value x v) (value y v)) → Keeps (node t (binary (joins neutral)) (two_bounds x y)) (truth_literal (not neutral))
  keeps_decided same = record {
    typed_before = w;
    typed_after = (refl, refl, tt);
    scopes = λ s o. tt;
    type = truth_narrower typed;
    no_fault = λ s batch o i n. refl;
    meaning = λ s batch o i n v j. same v;
  }

  pub keeps_neutral_left : literal_value x ≡ Some (bool neutral) → Keeps (node t (binary (joins neutral)) (two_bounds x y)) y
  keeps_neutral_left e = keeps_side y (inr (inl refl)) (right_narrower typed) (λ v n m g h. rw (literal_is x (bool neutral) e v) (sym (with_neutral neutral (value y v) m h)))

  pub keeps_neutral_right : literal_value y ≡ Some (bool neutral) → Keeps (node t (binary (joins neutral)) (two_bounds x y)) x
  keeps_neutral_right e = keeps_side x (inl refl) (left_narrower typed) (λ v n m g h. rw (literal_is y (bool neutral) e v) (sym (turned neutral (value x v) (bool neutral) ∙ with_neutral neutral (value x v) n g)))

  pub keeps_decided_left : literal_value x ≡ Some (bool (not neutral)) → Keeps (node t (binary (joins neutral)) (two_bounds x y)) (truth_literal (not neutral))
  keeps_decided_left e = keeps_decided (λ v. rw (literal_is x (bool (not neutral)) e v) (sym (with_decided neutral (value y v))))

  pub keeps_decided_right : literal_value y ≡ Some (bool (not neutral)) → Keeps (node t (binary (joins neutral)) (two_bounds x y)) (truth_literal (not neutral))
  keeps_decided_right e = keeps_decided (λ v. rw (literal_is y (bool (not neutral)) e v) (sym (turned neutral (value x v) (bool (not neutral)) ∙ with_decided neutral (value x v))))

pub keeps_equal_sides : (t : LogicalType) (neutral : Bool) (x : BoundTree) → WellTyped (node t (binary (joins neutral)) (two_bounds x x)) → Keeps (node t (binary (joins neutral)) (two_bounds x x)) x
keeps_equal_sides t neutral x w = keeps_side t neutral x x w x (inl refl) (left_narrower (typed t neutral x x w)) (λ v n m g h. sym (with_itself neutral (value x v) n g))
