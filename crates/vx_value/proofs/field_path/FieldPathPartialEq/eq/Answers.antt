use Rattle.std.proofs.Common.{◌∙◌, sym}
use Rattle.std.specs.Cmp.Derive.Mapped.{pointwise-map}
use Rattle.std.specs.Str.{bytes_eq}
use Rattle.vx_value.specs.Paths.{part_name}
use Rattle.vx_value.proofs.field_path.FieldPathPartialEq.eq.Goals as goal

pub returns : goal.returns
returns c =
    rw (← c.self.view_is, ← c.other.view_is)
    (c.eq.ensures ∙ sym (pointwise-map part_name bytes_eq c.self.inside.parts.items c.other.inside.parts.items))
