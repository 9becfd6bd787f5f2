-- A number beside the literal that leaves it as it is keeps the arithmetic on both.
use Rattle.std.proofs.Common.{◌≡◌, inl, inr, ◌∙◌, suc, [], ◌∷◌, refl, sym, ap, subst, ℤ, pos, negsuc, Bool, true, ◌||◌, int_div, neg_ℤ, ◌*ℤ◌, ◌-ℤ◌}
use Rattle.std.proofs.lemmas.Bool.Decides.{Decides-int_eq}
use Rattle.std.proofs.Math.IntN.{+ℤ_idr}
use Rattle.std.proofs.Math.Nat.{mul-one, div-one}
use Rattle.std.proofs.lemmas.Bool.{or_left, or_right}
use Rattle.vx_dtype.proofs.Unions.{same_atomic-eq}
use Rattle.vx_dtype.specs.Joins.{Narrower, narrower, same_atomic_shape}
use Rattle.vx_floats.specs.declared.arithmetic.Arithmetic.{Arithmetic}
use Rattle.vx_floats.specs.declared.arithmetic.Arithmetic.TheVariants.{Sum, Difference, Product, Quotient, Remainder}
use Rattle.vx_fn.proofs.Swaps.{swapped_over_exchanged_operands}
use Rattle.vx_fn.specs.Functions.{binary, computes, is_symmetric}
use Rattle.vx_fn.specs.Rows.{FnType, of_arithmetic, of_float_arithmetic, of_decimal_arithmetic}
use Rattle.vx_fn.specs.Values.{whole_result, computed}
use Rattle.vx_tree.specs.Meaning.{value}
use Rattle.vx_tree.specs.Trees.{BoundTree, node, node_type, WellTyped}
use Rattle.vx_value.specs.Fits.{Fits}
use Rattle.vx_value.specs.Types.{Atomic, truth, number, floating, decimals, text, octets, same_atomic, LogicalType, ty, atomic, Datum, null, int}
use Rattle.vx_rewrite_core.specs.Keeps.{Keeps}
use Rattle.vx_rewrite_core.proofs.Prelude.{fn_type-found}
use Rattle.vx_rewrite_core.specs.Nodes.{two_bounds}
use Rattle.vx_rewrite_rule_laws.proofs.Constants.{literal_of, constant_value, constant_fits}
use Rattle.vx_rewrite_rule_laws.proofs.Operands.{keeps_operand}
use Rattle.vx_rewrite_rule_laws.specs.Folding.{leaves_as_is, is_neutral, is_literal_of}

-- ---- numbers

times_one : (i : ℤ) → i *ℤ pos 1 ≡ i
times_one (pos n) = ap pos (mul-one n)
times_one (negsuc n) = ap (λ k. neg_ℤ (pos k)) (mul-one (suc n))

by_one : (i : ℤ) → int_div i (pos 1) ≡ i
by_one (pos n) = ap pos (div-one n)
by_one (negsuc n) = ap (λ k. neg_ℤ (pos k)) (div-one (suc n))

less_nothing : (i : ℤ) → i -ℤ pos 0 ≡ i
less_nothing i = +ℤ_idr i

stays : (a : Arithmetic) (i j : ℤ) → leaves_as_is a j ≡ true → whole_result a i j ≡ i
stays Sum i j e = rw ((Decides-int_eq j (pos 0)).0 e) (+ℤ_idr i)
stays Difference i j e = rw ((Decides-int_eq j (pos 0)).0 e) (less_nothing i)
stays Product i j e = rw ((Decides-int_eq j (pos 1)).0 e) (times_one i)
stays Quotient i j e = rw ((Decides-int_eq j (pos 1)).0 e) (by_one i)
stays Remainder i j e = cc

-- null, or a whole number
data IsWhole : Datum → Type 0 where
  no_number : IsWhole null
  some_number : (i : ℤ) → IsWhole (int i)

beside : (a : Arithmetic) (v : Datum) (j : ℤ) → IsWhole v → leaves_as_is a j ≡ true → computed a v (int j) ≡ v
beside a v j no_number e = refl
beside a v j (some_number i) e = ap int (stays a i j e)

-- exchanged operands give the same
turned : (a : Arithmetic) (v r : Datum) → is_symmetric a ≡ true → computed a v r ≡ computed a r v
turned Sum v r e = swapped_over_exchanged_operands (computes Sum) v r
turned Product v r e = swapped_over_exchanged_operands (computes Product) v r
turned _ v r e = cc

-- ---- what typing says of arithmetic

-- both operands are of one type but for null, and so is what is computed
record ArithmeticTyped (u r t : LogicalType) : Type 0 where
  pub kind : Atomic
  pub left : Bool
  pub right : Bool
  pub first : u ≡ ty (atomic kind) left
  pub second : r ≡ ty (atomic kind) right
  pub type : t ≡ ty (atomic kind) (left || right)

of_kind : (p q : Atomic) (n m : Bool) → same_atomic p q ≡ true → ArithmeticTyped (ty (atomic p) n) (ty (atomic q) m) (ty (atomic p) (n || m))
of_kind p q n m e = record { kind = p; left = n; right = m; first = refl; second = ap (λ k. ty (atomic k) m) (sym (same_atomic-eq p q e)); type = refl }

arithmetic_typed : {a : Arithmetic} {u r t : LogicalType} → FnType (binary (computes a)) (u ∷ r ∷ []) t → ArithmeticTyped u r t
arithmetic_typed (of_arithmetic {p = p} {q = q} {n = n} {m = m} e) = of_kind (number p) (number q) n m e
arithmetic_typed (of_float_arithmetic {f = f} {g = g} {n = n} {m = m} e) = of_kind (floating f) (floating g) n m e
arithmetic_typed (of_decimal_arithmetic {p = p} {s = s} {q = q} {r = r} {n = n} {m = m} k e) = of_kind (decimals p s) (decimals q r) n m e

left_narrower : {u r t : LogicalType} → ArithmeticTyped u r t → Narrower u t
left_narrower k = rw (k.first, k.type) (narrower same_atomic_shape (or_left k.left k.right))

right_narrower : {u r t : LogicalType} → ArithmeticTyped u r t → Narrower r t
right_narrower k = rw (k.second, k.type) (narrower same_atomic_shape (or_right k.left k.right))

-- beside a whole number stands null or one
whole : (p : Atomic) (n m : Bool) (j : ℤ) (v : Datum) → Fits (int j) (ty (atomic p) m) → Fits v (ty (atomic p) n) → IsWhole v
whole truth n m j v h g = cc
whole (floating f) n m j v h g = cc
whole text n m j v h g = cc
whole octets n m j v h g = cc
whole p n m j null h g = no_number
whole p n m j (int i) h g = some_number i
whole _ n m j _ h g = cc

kept : (a : Arithmetic) (p : Atomic) (n m : Bool) (v c : Datum) → is_neutral a c ≡ true → Fits c (ty (atomic p) m) → Fits v (ty (atomic p) n) → computed a v c ≡ v
kept a p n m v (int j) e h g = beside a v j (whole p n m j v h g) e
kept a p n m v _ e h g = cc

-- ---- laws

module _ (t : LogicalType) (a : Arithmetic) (x y : BoundTree) (w : WellTyped (node t (binary (computes a)) (two_bounds x y))) where
  typed : ArithmeticTyped (node_type x) (node_type y) t
  typed = arithmetic_typed (fn_type-found (binary (computes a)) (node_type x ∷ node_type y ∷ []) t w.0)

  pub keeps_unchanged_left : is_literal_of (is_neutral a) y ≡ true → Keeps (node t (binary (computes a)) (two_bounds x y)) x
  keeps_unchanged_left e =
      let l = literal_of (is_neutral a) y w.2.1.0 e in
      keeps_operand t (computes a) x y x w (inl refl) (left_narrower typed) (λ v g h.
      let own = subst (Fits l.constant) typed.second (constant_fits l w.2.1.0) in
      rw (constant_value l v) (sym (kept a typed.kind typed.left typed.right (value x v) l.constant l.passes own (subst (Fits (value x v)) typed.first g))))

  pub keeps_unchanged_right : is_symmetric a ≡ true → is_literal_of (is_neutral a) x ≡ true → Keeps (node t (binary (computes a)) (two_bounds x y)) y
  keeps_unchanged_right s e =
      let l = literal_of (is_neutral a) x w.2.0 e in
      keeps_operand t (computes a) x y y w (inr (inl refl)) (right_narrower typed) (λ v g h.
      let own = subst (Fits l.constant) typed.first (constant_fits l w.2.0) in
      rw (constant_value l v) (sym (turned a l.constant (value y v) s ∙ kept a typed.kind typed.right typed.left (value y v) l.constant l.passes own (subst (Fits (value y v)) typed.second h))))
