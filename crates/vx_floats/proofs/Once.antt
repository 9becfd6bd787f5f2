-- What is canonical once stays as it is.
use Rattle.std.proofs.Common.{◌≡◌, ℕ, ap}
use Rattle.std.specs.Prelude.{IsTrue, IfSome, Option, Some, None, from_bits, to_bits, ◌==◌}
use Rattle.std.specs.Float.{binary32, binary64}
use Rattle.std.specs.Option.{option_map}
use lib.Ieee.Bits.{of_bits-to_bits, of_bits-fits}
use lib.Ieee.Fits.{add-fits, sub-fits, mul-fits, div-fits, rem-fits}
use lib.Ieee.{Format, fits}
use lib.Ieee as Ieee
use lib.Dec.{T}
use Rattle.std.proofs.lemmas.Bool.Decides.{Decides-eqb}
use Rattle.vx_floats.specs.declared.arithmetic.Arithmetic.{Arithmetic}
use Rattle.vx_floats.specs.declared.arithmetic.Arithmetic.TheVariants.{Sum, Difference, Product, Quotient, Remainder}
use Rattle.vx_floats.specs.declared.float.Float.{Float}
use Rattle.vx_floats.specs.declared.float.Float.TheVariants.{F32, F64}
use Rattle.vx_floats.specs.Floats.{canonical, is_canonical, ieee_result, float_result}

-- a number is the same as itself
same_bits : (a b : ℕ) → a ≡ b → IsTrue (a == b)
same_bits a b e = (Decides-eqb a b).1 e

-- the canonical number is one
pub canonical_once : (x : Float) → IsTrue (is_canonical (canonical x))
canonical_once (F32 b) = same_bits _ _ (ap (to_bits binary32) (of_bits-to_bits binary32 _ (of_bits-fits binary32 b)))
canonical_once (F64 b) = same_bits _ _ (ap (to_bits binary64) (of_bits-to_bits binary64 _ (of_bits-fits binary64 b)))

-- the format holds each result of a number that it holds
ieee_result-fits : (a : Arithmetic) (f : Format) (x y : Ieee.Float) → T (fits f x) → IfSome (ieee_result a f x y) (λ z. T (fits f z))
ieee_result-fits Sum f x y h = add-fits f x y
ieee_result-fits Difference f x y h = sub-fits f x y
ieee_result-fits Product f x y h = mul-fits f x y
ieee_result-fits Quotient f x y h = div-fits f x y
ieee_result-fits Remainder f x y h = rem-fits f x y h

canonical_32 : (r : Option Ieee.Float) → IfSome r (λ z. T (fits binary32 z)) → IfSome (option_map (λ z. F32 (to_bits binary32 z)) r) (λ z. IsTrue (is_canonical z))
canonical_32 None h = tt
canonical_32 (Some z) h = same_bits _ _ (ap (to_bits binary32) (of_bits-to_bits binary32 z h))

canonical_64 : (r : Option Ieee.Float) → IfSome r (λ z. T (fits binary64 z)) → IfSome (option_map (λ z. F64 (to_bits binary64 z)) r) (λ z. IsTrue (is_canonical z))
canonical_64 None h = tt
canonical_64 (Some z) h = same_bits _ _ (ap (to_bits binary64) (of_bits-to_bits binary64 z h))

-- a result is canonical
pub result_canonical : (a : Arithmetic) (x y : Float) → IfSome (float_result a x y) (λ z. IsTrue (is_canonical z))
result_canonical a (F32 x) (F32 y) = canonical_32 _ (ieee_result-fits a binary32 (from_bits binary32 x) (from_bits binary32 y) (of_bits-fits binary32 x))
result_canonical a (F64 x) (F64 y) = canonical_64 _ (ieee_result-fits a binary64 (from_bits binary64 x) (from_bits binary64 y) (of_bits-fits binary64 x))
result_canonical a (F32 x) (F64 y) = tt
result_canonical a (F64 x) (F32 y) = tt
