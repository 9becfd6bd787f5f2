-- IEEE 754's total order of floating-point numbers: it is one, and canonical numbers that tie in it are one number.
use Rattle.std.proofs.Common.{◌≡◌, ℕ, ◌<◌, ◌+◌, refl, ap, Bool, true, false, arith}
use Rattle.std.specs.Prelude.{nat_lt, from_bits}
use Rattle.std.specs.Cmp.{IsTotalOrder}
use Rattle.std.specs.Float.{binary32, binary64}
use Rattle.std.specs.declared.cmp.Ordering.TheVariants.{Less, Equal}
use Rattle.std.proofs.lemmas.Bool.{ltb-true, ltb-false}
use Rattle.std.proofs.lemmas.Cmp.{nat_cmp_total}
use Rattle.std.proofs.lemmas.Map.Lookups.{exact_unsigned}
use Rattle.std.proofs.lemmas.Map.Views.{exact_unsigned_eq}
use lib.Ieee.Bits.{of_bits-fits, to_bits-lt}
use Rattle.vx_floats.specs.Floats.{float_order, is_canonical, total_key}
use Rattle.vx_floats.specs.declared.float.Float.{Float}
use Rattle.vx_floats.specs.declared.float.Float.TheVariants.{F32, F64}
use Rattle.vx_floats.proofs.Orders.{float_order-turned}

-- ---- a total order

key_32 : ℕ → ℕ
key_32 b = total_key 0x8000_0000 b

key_64 : ℕ → ℕ
key_64 b = total_key 0x8000_0000_0000_0000 b

onwards : (x y z : Float) → float_order x y ≡ Less → float_order y z ≡ Less → float_order x z ≡ Less
unfolding key_32 key_64
onwards (F32 a) (F32 b) (F32 c) e f = nat_cmp_total.trans (key_32 a) (key_32 b) (key_32 c) e f
onwards (F64 a) (F64 b) (F64 c) e f = nat_cmp_total.trans (key_64 a) (key_64 b) (key_64 c) e f
onwards (F32 a) y (F64 c) e f = refl
onwards (F32 a) (F64 b) (F32 c) e f = cc
onwards (F64 a) (F32 b) z e f = cc
onwards (F64 a) (F64 b) (F32 c) e f = cc

alike : (x y z : Float) → float_order x y ≡ Equal → float_order x z ≡ float_order y z
unfolding key_32 key_64
alike (F32 a) (F32 b) (F32 c) e = nat_cmp_total.congr (key_32 a) (key_32 b) (key_32 c) e
alike (F64 a) (F64 b) (F64 c) e = nat_cmp_total.congr (key_64 a) (key_64 b) (key_64 c) e
alike (F32 a) (F32 b) (F64 c) e = refl
alike (F64 a) (F64 b) (F32 c) e = refl
alike (F32 a) (F64 b) z e = cc
alike (F64 a) (F32 b) z e = cc

pub float_total : IsTotalOrder float_order
float_total = record { antisymm = float_order-turned; trans = onwards; congr = alike }

-- ---- numbers that tie

-- the bits of a canonical number are as many as its format has
few_32 : (b : ℕ) → is_canonical (F32 b) ≡ true → b < 0x1_0000_0000
few_32 b e =
    let same = exact_unsigned_eq _ _ e in
    let few = to_bits-lt binary32 (from_bits binary32 b) (of_bits-fits binary32 b) in
    rw same at few

few_64 : (b : ℕ) → is_canonical (F64 b) ≡ true → b < 0x1_0000_0000_0000_0000
few_64 b e =
    let same = exact_unsigned_eq _ _ e in
    let few = to_bits-lt binary64 (from_bits binary64 b) (of_bits-fits binary64 b) in
    rw same at few

one_place : (s a b : ℕ) → a < s + s → b < s + s → total_key s a ≡ total_key s b → a ≡ b
one_place s a b h k = go (nat_lt a s) refl (nat_lt b s) refl
  where
    go : (p : Bool) → nat_lt a s ≡ p → (q : Bool) → nat_lt b s ≡ q → total_key s a ≡ total_key s b → a ≡ b
    go true p true q e = let f = rw (p, q) at e in omega arith
    go true p false q e = let f = rw (p, q) at e in let l = ltb-true a s p in let m = ltb-false b s q in omega arith
    go false p true q e = let f = rw (p, q) at e in let l = ltb-false a s p in let m = ltb-true b s q in omega arith
    go false p false q e = let f = rw (p, q) at e in let l = ltb-false a s p in let m = ltb-false b s q in omega arith

pub float_exact : (x y : Float) → is_canonical x ≡ true → is_canonical y ≡ true → float_order x y ≡ Equal → x ≡ y
float_exact (F32 a) (F32 b) c d e = ap F32 (one_place 0x8000_0000 a b (few_32 a c) (few_32 b d) (exact_unsigned _ _ e))
float_exact (F64 a) (F64 b) c d e = ap F64 (one_place 0x8000_0000_0000_0000 a b (few_64 a c) (few_64 b d) (exact_unsigned _ _ e))
float_exact (F32 a) (F64 b) c d e = cc
float_exact (F64 a) (F32 b) c d e = cc
