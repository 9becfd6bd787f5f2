-- What is known of the digits behind the point that are enough for a number.
use Rattle.std.proofs.Common.{◌≡◌, ℕ, zero, suc, ◌+◌, ◌^◌, ◌<◌, ◌≤◌, Bool, true, false, cond, Some, refl, sym, ap, ◌∙◌, arith}
use Rattle.std.specs.Prelude.{nat_lt}
use Rattle.std.specs.List.{find, range_with_len}
use Rattle.std.proofs.lemmas.Bool.{and_parts, ltb-true}
use Rattle.vx_floats.specs.declared.float.Float.{Float}
use Rattle.vx_floats.specs.Deciding.{same_float-Decides}
use Rattle.vx_floats.specs.Floats.{format_of, same_float}
use Rattle.vx_floats.specs.Texts.{is_enough, nearest, scale_of, units_of}

-- what is found passes the test, and lies in the range
found : (p : ℕ → Bool) (a n k : ℕ) → find p (range_with_len a n) ≡ Some k → (p k ≡ true) × (a ≤ k)
found p a zero k e = cc
found p a (suc n) k e = go (found p (a + 1) n k) (p a) refl e
  where
    go : (find p (range_with_len (a + 1) n) ≡ Some k → (p k ≡ true) × (a + 1 ≤ k)) → (b : Bool) → p a ≡ b → cond b (Some a) (find p (range_with_len (a + 1) n)) ≡ Some k → (p k ≡ true) × (a ≤ k)
    go later true passes here = let same : a ≡ k = cc in (ap p (sym same) ∙ passes, omega arith)
    go later false fails rest = ((later rest).0, omega (arith, (later rest).1))

-- so many digits are enough
pub record IsScaleOf (x : Float) (s : Bool) (num den k : ℕ) : Type 0 where
  pub some : 0 < k
  pub few : units_of num den k < 10 ^ 38
  pub nearest : nearest (format_of x) s (units_of num den k) (10 ^ k) ≡ x

pub scale_is : (x : Float) (s : Bool) (num den k : ℕ) → scale_of x s num den ≡ Some k → IsScaleOf x s num den k
unfolding scale_of is_enough
scale_is x s num den k e =
    let n = units_of num den k in
    let here = found (is_enough x s num den) 1 22 k e in
    let both = and_parts (nat_lt n (10 ^ 38)) (same_float (nearest (format_of x) s n (10 ^ k)) x) here.0 in
    record { some = here.1; few = ltb-true n (10 ^ 38) both.0; nearest = (same_float-Decides (nearest (format_of x) s n (10 ^ k)) x).0 both.1 }
