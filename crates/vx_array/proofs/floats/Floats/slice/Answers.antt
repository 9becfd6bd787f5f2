use Rattle.std.proofs.Common.{sym, ap, ◌∙◌, map, take, drop}
use Rattle.vx_dtype.specs.declared.float_type.FloatType.TheVariants.{F32, F64}
use Rattle.vx_array.specs.Kinds.{float_of, floats_in}
use Rattle.vx_array.proofs.Parts.{part-map}
use Rattle.vx_array.proofs.floats.Floats.slice.Goals as goal

pub returns-in_ok-slice-in-F32 : goal.returns-in_ok-slice-in-F32
returns-in_ok-slice-in-F32 c =
    ap (map (float_of F32)) c.in_ok-slice-in-F32.ensures ∙ sym (part-map (float_of F32) c.args.from c.args.len c.in-F32.bits) ∙ ap (λ fs. take c.args.len (drop c.args.from (floats_in fs))) (sym c.in-F32.is)

pub returns-in_ok-slice-in-F64 : goal.returns-in_ok-slice-in-F64
returns-in_ok-slice-in-F64 c =
    ap (map (float_of F64)) c.in_ok-slice-in-F64.ensures ∙ sym (part-map (float_of F64) c.args.from c.args.len c.in-F64.bits) ∙ ap (λ fs. take c.args.len (drop c.args.from (floats_in fs))) (sym c.in-F64.is)
