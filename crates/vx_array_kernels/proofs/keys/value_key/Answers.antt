use Rattle.std.proofs.Common.{◌≡◌, ◌∙◌, ap, sym, subst, pos, rules, to_z, of_z}
use Rattle.std.specs.Int.{w128}
use Rattle.vx_floats.specs.Floats.{format_of}
use Rattle.vx_value.specs.declared.value.Value.{Int}
use Rattle.vx_value.specs.Types.{int}
use Rattle.vx_value.specs.Views.{value_of}
use Rattle.vx_array.proofs.Reading.{value_of-Float, value_of-Int}
use Rattle.vx_array_kernels.specs.Keys.{IsReal, float_key, key_row}
use Rattle.vx_array_kernels.proofs.keys.value_key.Goals as goal

pub returns-in-F32-F32-clause-real : goal.returns-in-F32-F32-clause-real
returns-in-F32-F32-clause-real c =
    subst (λ d. IsReal c.args.float_type d) (sym (ap value_of c.in-Float.is ∙ value_of-Float c.in-Float.float)) (ap format_of c.in-F32-F32.is-1 ∙ sym c.in-F32-F32.is-0)

pub returns-in-F32-F32-clause-key : goal.returns-in-F32-F32-clause-key
returns-in-F32-F32-clause-key c =
    let k = c.key_of_32.result in
    let same : to_z w128 (of_z w128 (pos k)) ≡ pos k = search rules in
    ap (λ z. value_of (Int z)) same ∙ value_of-Int (pos k) ∙ ap (λ n. int (pos n)) c.key_of_32.ensures
    ∙ sym (ap (λ v. key_row (value_of v)) c.in-Float.is ∙ ap key_row (value_of-Float c.in-Float.float) ∙ ap (λ x. int (pos (float_key x))) c.in-F32-F32.is-1)

pub returns-in-F64-F64-clause-real : goal.returns-in-F64-F64-clause-real
returns-in-F64-F64-clause-real c =
    subst (λ d. IsReal c.args.float_type d) (sym (ap value_of c.in-Float.is ∙ value_of-Float c.in-Float.float)) (ap format_of c.in-F64-F64.is-1 ∙ sym c.in-F64-F64.is-0)

pub returns-in-F64-F64-clause-key : goal.returns-in-F64-F64-clause-key
returns-in-F64-F64-clause-key c =
    let k = c.key_of_64.result in
    let same : to_z w128 (of_z w128 (pos k)) ≡ pos k = search rules in
    ap (λ z. value_of (Int z)) same ∙ value_of-Int (pos k) ∙ ap (λ n. int (pos n)) c.key_of_64.ensures
    ∙ sym (ap (λ v. key_row (value_of v)) c.in-Float.is ∙ ap key_row (value_of-Float c.in-Float.float) ∙ ap (λ x. int (pos (float_key x))) c.in-F64-F64.is-1)
