use Rattle.std.proofs.Common.{map}
use Rattle.vx_dtype.specs.declared.dtype.DType.TheVariants as DType
use Rattle.vx_value.specs.Types.{atomic, bytes, octets}
use Rattle.vx_array.specs.declared.lanes.Lanes as Kind
use Rattle.vx_array_build.proofs.Made.{made_fit, octets_fit}
use Rattle.vx_array_build.proofs.Typed.{octets_are, octets_typed}
use Rattle.vx_array_build.proofs.bytes.binaries.Goals as goal

pub new-requires : goal.new-requires
new-requires c =
    let v = c.args.validity in
    let ds = map (λ b. bytes b.now) c.args.rows.now in
    made_fit (DType.Binary c.nullability.result) (Kind.Octets c.in_ok-spans.spans c.or_all.result) (atomic octets) v ds (octets_typed c.nullability.result v c.nullability.ensures) (octets_are c.in_ok-spans.spans ds c.or_all.result v c.in_ok-spans.ensures c.or_all.ensures)
    (octets_fit (λ b. b.now) c.args.rows.now)
