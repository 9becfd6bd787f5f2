-- The text of a number, by its parts.
use Rattle.std.proofs.Common.{◌≡◌, ℕ, ◌*◌, ◌^◌, ◌<◌, Bool, true, ◌&&◌, ◌++◌, Option, Some, None, pos, refl, sym, ap, ◌∙◌, pow_pos}
use Rattle.std.specs.Prelude.{codes, nat_lt}
use Rattle.std.specs.Fmt.{sign_text}
use Rattle.std.specs.List.{find, range_with_len}
use Rattle.std.specs.Option.{is_some, option_map, unwrap_or}
use lib.Ieee.{Float as Value, nan, inf, fin, up, down}
use lib.Ieee.Exact.{HasValue}
use lib.Ieee.Fits.{down_pos}
use Rattle.vx_literals.specs.Decimals.{decimal_text}
use Rattle.vx_floats.specs.declared.float.Float.{Float}
use Rattle.vx_floats.specs.declared.parts.Fraction.{Fraction}
use Rattle.vx_floats.specs.Floats.{format_of, same_float}
use Rattle.vx_floats.specs.Parts.{IsFractionOf, den_of, num_of}
use Rattle.vx_floats.specs.Texts.{bits_text, float_text, fraction_text, is_enough, nearest, scale_of, units_of, has_value_text, value_of, value_text}
use Rattle.vx_floats.proofs.Units.{units_same}

-- fractions of one size are written alike
module _ (x : Float) (s t : Bool) (a b c d : ℕ) (some : 0 < b) (more : 0 < d) (sign : s ≡ t) (size : a * d ≡ c * b) where
  abbrev units : (scale : ℕ) → units_of a b scale ≡ units_of c d scale
  units scale = units_same a b c d scale some more size

  enough_same : (scale : ℕ) → is_enough x s a b scale ≡ is_enough x t c d scale
  unfolding is_enough
  enough_same scale = λ i. nat_lt (units scale i) (10 ^ 38) && same_float (nearest (format_of x) (sign i) (units scale i) (10 ^ scale)) x

  scale_same : scale_of x s a b ≡ scale_of x t c d
  unfolding scale_of
  scale_same = λ i. find (λ scale. enough_same scale i) (range_with_len 1 22)

  text_same : option_map (fraction_text s a b) (scale_of x s a b) ≡ option_map (fraction_text t c d) (scale_of x t c d)
  text_same = λ i. option_map (λ scale. sign_text (sign i) ++ decimal_text (pos (units scale i)) scale) (scale_same i)

text_of_value : (x : Float) (v : Value) (s : Bool) (a c : ℕ) → 0 < c → HasValue v s a c → option_map (fraction_text s a c) (scale_of x s a c) ≡ value_text x v
text_of_value x nan s a c some h = absurd h
text_of_value x (inf t) s a c some h = absurd h
text_of_value x (fin t m e) s a c some h = text_same x s t a c (m * up e) (down e) some (down_pos e) (sym h.0) (sym h.1)

pub nan_text : (x : Float) → value_of x ≡ nan → codes "nan" ≡ float_text x
unfolding float_text
nan_text x e = ap (λ v. unwrap_or (value_text x v) (bits_text x)) (sym e)

pub infinity_text : (x : Float) (s : Bool) → value_of x ≡ inf s → sign_text s ++ codes "inf" ≡ float_text x
unfolding float_text
infinity_text x s e = ap (λ v. unwrap_or (value_text x v) (bits_text x)) (sym e)

pub finite_text : (x : Float) (r : Fraction) → IsFractionOf x r
    → unwrap_or (option_map (fraction_text r.negative (num_of r) (den_of r)) (scale_of x r.negative (num_of r) (den_of r))) (bits_text x) ≡ float_text x
unfolding float_text
finite_text x r is = ap (λ o. unwrap_or o (bits_text x)) (text_of_value x (value_of x) r.negative (num_of r) (den_of r) (pow_pos r.lowest) is.value)

-- ---- whether there is a text of the value

pub nan_written : (x : Float) → value_of x ≡ nan → true ≡ has_value_text x
nan_written x e = ap (λ v. is_some (value_text x v)) (sym e)

pub infinity_written : (x : Float) (s : Bool) → value_of x ≡ inf s → true ≡ has_value_text x
infinity_written x s e = ap (λ v. is_some (value_text x v)) (sym e)

some_mapped : {A B : Type 0} (f : A → B) (o : Option A) → is_some o ≡ is_some (option_map f o)
some_mapped f None = refl
some_mapped f (Some a) = refl

pub finite_written : {A : Type 0} (x : Float) (r : Fraction) (f : A → ℕ) (o : Option A) → IsFractionOf x r → option_map f o ≡ scale_of x r.negative (num_of r) (den_of r) → is_some o ≡ has_value_text x
finite_written x r f o is e =
    some_mapped f o ∙ ap is_some e ∙ some_mapped (fraction_text r.negative (num_of r) (den_of r)) (scale_of x r.negative (num_of r) (den_of r))
    ∙ ap is_some (text_of_value x (value_of x) r.negative (num_of r) (den_of r) (pow_pos r.lowest) is.value)
