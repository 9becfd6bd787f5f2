-- Sums and products are the same over exchanged operands.
use mathlib.Core.Path.{◌≡◌, refl, ap, sym, ◌∙◌}
use Rattle.std.specs.Prelude.{Some}
use Rattle.std.specs.Option.{option_map}
use mathlib.Core.Bool.{Bool, true, false, cond, ◌&&◌}
use Prim.Native.Nat.{ℕ, ◌-◌, ◌*◌}
use native.Mathlib.Nat.{add_comm, mul_comm}
use native.Mathlib.Omega.{arith}
use borrow.Author.Tests.{ltb-true, ltb-false}
use lib.Dec.{ltb, eqb}
use lib.Ieee.{Format, nan, inf, fin, add, sum, mul, unlike, round, up, down, of_bits, to_bits, binary32, binary64}
use lib.Ieee as Ieee
use Rattle.vx_floats.specs.declared.arithmetic.Arithmetic.{Arithmetic}
use Rattle.vx_floats.specs.declared.arithmetic.Arithmetic.TheVariants.{Sum, Product}
use Rattle.vx_floats.specs.declared.float.Float.{Float}
use Rattle.vx_floats.specs.declared.float.Float.TheVariants.{F32, F64}
use Rattle.vx_floats.specs.Floats.{ieee_result, float_result}

-- the sum of a number and of one of the other sign, by which of them is the greater
apart-turned : (f : Format) (a b c : ℕ) (x y : Bool) → ltb a b ≡ x → ltb b a ≡ y → cond x (round f false (b - a) c) (round f (true && y) (a - b) c) ≡ cond y (round f true (a - b) c) (round f (false && x) (b - a) c)
apart-turned f a b c true true p q = absurd (omega (arith, ltb-true a b p, ltb-true b a q))
apart-turned f a b c true false p q = refl
apart-turned f a b c false true p q = refl
apart-turned f a b c false false p q = ap (λ n. round f false n c) (omega (arith, ltb-false a b p, ltb-false b a q))

sum-turned : (f : Format) (s : Bool) (a : ℕ) (t : Bool) (b c : ℕ) → sum f s a t b c ≡ sum f t b s a c
unfolding sum
sum-turned f true a true b c = ap (λ n. round f true n c) (add_comm a b)
sum-turned f false a false b c = ap (λ n. round f false n c) (add_comm a b)
sum-turned f true a false b c = apart-turned f a b c (ltb a b) (ltb b a) refl refl
sum-turned f false a true b c = sym (apart-turned f b a c (ltb b a) (ltb a b) refl refl)

add-turned : (f : Format) (x y : Ieee.Float) → add f x y ≡ add f y x
unfolding add
add-turned f nan nan = refl
add-turned f nan (inf t) = refl
add-turned f nan (fin t n d) = refl
add-turned f (inf s) nan = refl
add-turned f (inf true) (inf true) = refl
add-turned f (inf true) (inf false) = refl
add-turned f (inf false) (inf true) = refl
add-turned f (inf false) (inf false) = refl
add-turned f (inf s) (fin t n d) = refl
add-turned f (fin s m e) nan = refl
add-turned f (fin s m e) (inf t) = refl
add-turned f (fin s m e) (fin t n d) =
    sum-turned f s (m * up e * down d) t (n * up d * down e) (down e * down d) ∙ ap (λ c. sum f t (n * up d * down e) s (m * up e * down d) c) (mul_comm (down e) (down d))

-- ---- products

unlike-turned : (s t : Bool) → unlike s t ≡ unlike t s
unlike-turned true true = refl
unlike-turned true false = refl
unlike-turned false true = refl
unlike-turned false false = refl

mul-turned : (f : Format) (x y : Ieee.Float) → mul f x y ≡ mul f y x
unfolding mul
mul-turned f nan nan = refl
mul-turned f nan (inf t) = refl
mul-turned f nan (fin t n d) = refl
mul-turned f (inf s) nan = refl
mul-turned f (inf s) (inf t) = ap inf (unlike-turned s t)
mul-turned f (inf s) (fin t n d) = ap (λ r. cond (eqb n 0) nan (inf r)) (unlike-turned s t)
mul-turned f (fin s m e) nan = refl
mul-turned f (fin s m e) (inf t) = ap (λ r. cond (eqb m 0) nan (inf r)) (unlike-turned s t)
mul-turned f (fin s m e) (fin t n d) =
    ap (λ r. round f r (m * up e * (n * up d)) (down e * down d)) (unlike-turned s t)
    ∙ ap (λ k. round f (unlike t s) k (down e * down d)) (mul_comm (m * up e) (n * up d))
    ∙ ap (λ k. round f (unlike t s) (n * up d * (m * up e)) k) (mul_comm (down e) (down d))

-- ---- by their bits

turned : (a : Arithmetic) → ((f : Format) (x y : Ieee.Float) → ieee_result a f x y ≡ ieee_result a f y x) → (x y : Float) → float_result a x y ≡ float_result a y x
turned a same (F32 x) (F32 y) = ap (option_map (λ z. F32 (to_bits binary32 z))) (same binary32 (of_bits binary32 x) (of_bits binary32 y))
turned a same (F64 x) (F64 y) = ap (option_map (λ z. F64 (to_bits binary64 z))) (same binary64 (of_bits binary64 x) (of_bits binary64 y))
turned a same (F32 x) (F64 y) = refl
turned a same (F64 x) (F32 y) = refl

pub float_sum-turned : (x y : Float) → float_result Sum x y ≡ float_result Sum y x
float_sum-turned = turned Sum (λ f x y. ap Some (add-turned f x y))

pub float_product-turned : (x y : Float) → float_result Product x y ≡ float_result Product y x
float_product-turned = turned Product (λ f x y. ap Some (mul-turned f x y))
