use Rattle.std.proofs.Common.{◌≡◌, ◌∙◌, ap, subst, sym}
use Rattle.std.specs.List.{list_any}
use Rattle.json.specs.Print.{IsNumber}
use Rattle.vx_floats.specs.Texts.{float_text}
use Rattle.vx_data.proofs.FloatNumbers.{is_point, pointed_is_number}
use Rattle.vx_data.proofs.json_lines.write.write_float.Goals as goal

pub number-requires : goal.number-requires
number-requires c =
    let text : c.as_str-text.result.now ≡ float_text c.args.float = c.as_str-text.ensures.value ∙ c.in_ok-shown.ensures in
    subst IsNumber (sym text) (pointed_is_number c.args.float (ap (list_any is_point) (sym text) ∙ sym c.has_point.ensures ∙ c.if-has_point.true))
