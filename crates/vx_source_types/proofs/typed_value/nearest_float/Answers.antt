use Rattle.std.proofs.Common.{◌≡◌, ℕ, zero, suc, ◌<◌, ap, sym, ◌∙◌, arith}
use Rattle.std.specs.Prelude.{pos, neg_ℤ, to_bits}
use Rattle.fast_float.proofs.Patterns.{neg-round}
use lib.Ieee.{Format, binary32, binary64, neg, of_int}
use Rattle.vx_floats.specs.declared.float.Float.TheVariants.{F32, F64}
use Rattle.vx_source_types.specs.Untyped.{nearest_float}
use Rattle.vx_source_types.specs.ValueReading.{signed}
use Rattle.vx_source_types.proofs.typed_value.nearest_float.Goals as goal
use Rattle.vx_source_types.proofs.typed_value.nearest_float.Goals.{then-negative, else-negative, then-negative-2, else-negative-2}

negated : (f : Format) (n : ℕ) → 0 < n → neg (of_int f (pos n)) ≡ of_int f (neg_ℤ (pos n))
unfolding of_int
negated f zero h = absurd (omega arith)
negated f (suc n) h = neg-round f (suc n) 1

pub returns-after-negative : goal.returns-after-negative
returns-after-negative c =
    let n = c.args.size in
    let x = c.nearest_u64_to_f32-x.ensures in
    let value : c.if-negative.f32_to_bits_with_nan ≡ of_int binary32 (signed c.args.negative n) =
    elim c.if-negative.branch [
      | then-negative w ↦
          w.f32_to_bits_with_nan-is ∙ ap neg x ∙ negated binary32 n (c.requires w.if-negative.true) ∙ ap (λ b. of_int binary32 (signed b n)) (sym w.if-negative.true)
      | else-negative w ↦ w.f32_to_bits_with_nan-is ∙ x ∙ ap (λ b. of_int binary32 (signed b n)) (sym w.if-negative.false)
    ] in
    ap F32 (c.f32_to_bits_with_nan.ensures ∙ ap (to_bits binary32) value) ∙ ap (λ f. nearest_float f (signed c.args.negative n)) (sym c.in-F32.is)

pub returns-after-negative-2 : goal.returns-after-negative-2
returns-after-negative-2 c =
    let n = c.args.size in
    let x = c.nearest_u64_to_f64-x.ensures in
    let value : c.if-negative-2.f64_to_bits_with_nan ≡ of_int binary64 (signed c.args.negative n) =
    elim c.if-negative-2.branch [
      | then-negative-2 w ↦
          w.f64_to_bits_with_nan-is ∙ ap neg x ∙ negated binary64 n (c.requires w.if-negative-2.true) ∙ ap (λ b. of_int binary64 (signed b n)) (sym w.if-negative-2.true)
      | else-negative-2 w ↦ w.f64_to_bits_with_nan-is ∙ x ∙ ap (λ b. of_int binary64 (signed b n)) (sym w.if-negative-2.false)
    ] in
    ap F64 (c.f64_to_bits_with_nan.ensures ∙ ap (to_bits binary64) value) ∙ ap (λ f. nearest_float f (signed c.args.negative n)) (sym c.in-F64.is)
