-- Operations over exchanged operands.
use Rattle.std.proofs.Common.{◌≡◌, ℤ, true, false, ◌||◌, ◌&&◌, if◌then◌else◌, Some, None, refl, ap, ◌∙◌}
use Rattle.std.specs.declared.cmp.Ordering.{Ordering}
use Rattle.std.specs.declared.cmp.Ordering.TheVariants.{Less, Equal, Greater}
use Rattle.std.specs.Cmp.{bool_cmp_total}
use Rattle.std.specs.Ordering.{ordering_reverse}
use Rattle.std.proofs.lemmas.Cmp.{int_cmp_total, nat_list_cmp_total}
use Rattle.std.proofs.Math.Bool.{or_comm, and_comm}
use Rattle.std.proofs.Math.IntN.{+ℤ_comm, *ℤ_comm}
use Rattle.vx_floats.proofs.Orders.{float_order-turned}
use Rattle.vx_floats.proofs.Sums.{float_sum-turned, float_product-turned}
use Rattle.vx_floats.specs.declared.arithmetic.Arithmetic.{Arithmetic}
use Rattle.vx_floats.specs.declared.arithmetic.Arithmetic.TheVariants.{Sum, Difference, Product, Quotient, Remainder}
use Rattle.vx_floats.specs.declared.float.Float.{Float}
use Rattle.vx_floats.specs.Floats.{float_result}
use Rattle.vx_value.specs.Types.{Datum, null, bool, int, float, utf8, bytes, list_of, struct_of, is_null_datum}
use Rattle.vx_fn.specs.Functions.{Comparison, equal, not_equal, greater, greater_or_equal, less, less_or_equal, mirrored, compares, and_also, or_else, computes}
use Rattle.vx_fn.specs.Laws.{SwappedOverExchangedOperands}
use Rattle.vx_fn.specs.Values.{is_true, is_false, kleene_and, kleene_or, order, agrees, compared, whole_result, computed}

pub order-turned : (v w : Datum) → order v w ≡ ordering_reverse (order w v)
order-turned (bool a) (bool b) = bool_cmp_total.antisymm a b
order-turned (int i) (int j) = int_cmp_total.antisymm i j
order-turned (float x) (float y) = float_order-turned x y
order-turned (utf8 s) (utf8 t) = nat_list_cmp_total.antisymm s t
order-turned (bytes s) (bytes t) = nat_list_cmp_total.antisymm s t
order-turned null null = refl
order-turned (float x) null = refl
order-turned (list_of vs) null = refl
order-turned (struct_of vs) null = refl
order-turned _ _ = refl

agrees-turned : (c : Comparison) (o : Ordering) → agrees (mirrored c) (ordering_reverse o) ≡ agrees c o
agrees-turned equal Less = refl
agrees-turned equal Equal = refl
agrees-turned equal Greater = refl
agrees-turned not_equal Less = refl
agrees-turned not_equal Equal = refl
agrees-turned not_equal Greater = refl
agrees-turned greater Less = refl
agrees-turned greater Equal = refl
agrees-turned greater Greater = refl
agrees-turned greater_or_equal Less = refl
agrees-turned greater_or_equal Equal = refl
agrees-turned greater_or_equal Greater = refl
agrees-turned less Less = refl
agrees-turned less Equal = refl
agrees-turned less Greater = refl
agrees-turned less_or_equal Less = refl
agrees-turned less_or_equal Equal = refl
agrees-turned less_or_equal Greater = refl

compared-turned : (c : Comparison) (v w : Datum) → compared (mirrored c) v w ≡ compared c w v
compared-turned c v w =
    ap (λ b. if b then null else bool (agrees (mirrored c) (order v w))) (or_comm (is_null_datum v) (is_null_datum w))
    ∙ ap (λ a. if is_null_datum w || is_null_datum v then null else bool a) (ap (agrees (mirrored c)) (order-turned v w) ∙ agrees-turned c (order w v))

kleene_and-turned : (v w : Datum) → kleene_and v w ≡ kleene_and w v
kleene_and-turned v w =
    ap (λ b. if b then bool false else if is_true v && is_true w then bool true else null) (or_comm (is_false v) (is_false w))
    ∙ ap (λ b. if is_false w || is_false v then bool false else if b then bool true else null) (and_comm (is_true v) (is_true w))

kleene_or-turned : (v w : Datum) → kleene_or v w ≡ kleene_or w v
kleene_or-turned v w =
    ap (λ b. if b then bool true else if is_false v && is_false w then bool false else null) (or_comm (is_true v) (is_true w))
    ∙ ap (λ b. if is_true w || is_true v then bool true else if b then bool false else null) (and_comm (is_false v) (is_false w))

computed-turned : (a : Arithmetic) → ((i j : ℤ) → whole_result a i j ≡ whole_result a j i) → ((x y : Float) → float_result a x y ≡ float_result a y x) → (v w : Datum) → computed a v w ≡ computed a w v
computed-turned a whole floats (int i) (int j) = ap int (whole i j)
computed-turned a whole floats (float x) (float y) = ap (λ z. elim z [ Some s ↦ float s | None ↦ null ]) (floats x y)
computed-turned a whole floats (float x) null = refl
computed-turned a whole floats null null = refl
computed-turned a whole floats (bool b) null = refl
computed-turned a whole floats (utf8 s) null = refl
computed-turned a whole floats (bytes s) null = refl
computed-turned a whole floats (list_of vs) null = refl
computed-turned a whole floats (struct_of vs) null = refl
computed-turned a whole floats _ _ = refl

pub swapped_over_exchanged_operands : SwappedOverExchangedOperands
swapped_over_exchanged_operands (compares c) v w = compared-turned c v w
swapped_over_exchanged_operands and_also v w = kleene_and-turned v w
swapped_over_exchanged_operands or_else v w = kleene_or-turned v w
swapped_over_exchanged_operands (computes Sum) v w = computed-turned Sum +ℤ_comm float_sum-turned v w
swapped_over_exchanged_operands (computes Product) v w = computed-turned Product *ℤ_comm float_product-turned v w
swapped_over_exchanged_operands (computes Difference) v w = tt
swapped_over_exchanged_operands (computes Quotient) v w = tt
swapped_over_exchanged_operands (computes Remainder) v w = tt
