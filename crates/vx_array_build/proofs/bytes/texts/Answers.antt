use Rattle.std.proofs.Common.{map}
use Rattle.vx_dtype.specs.declared.dtype.DType.TheVariants as DType
use Rattle.vx_value.specs.Types.{atomic, text, utf8}
use Rattle.vx_array.specs.declared.lanes.Lanes as Kind
use Rattle.vx_array_build.proofs.Made.{made_fit, texts_fit}
use Rattle.vx_array_build.proofs.Typed.{text_typed, texts_are}
use Rattle.vx_array_build.proofs.bytes.texts.Goals as goal

pub new-requires : goal.new-requires
new-requires c =
    let v = c.args.validity in
    let ds = map (λ t. utf8 t.now) c.args.texts.now in
    made_fit (DType.Utf8 c.nullability.result) (Kind.Texts c.in_ok-spans.spans c.or_all.result) (atomic text) v ds (text_typed c.nullability.result v c.nullability.ensures) (texts_are c.in_ok-spans.spans ds c.or_all.result v c.in_ok-spans.ensures c.or_all.ensures)
    (texts_fit (λ t. t.now) c.args.texts.now)
