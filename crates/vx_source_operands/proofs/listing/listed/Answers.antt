use Rattle.std.proofs.Common.{◌∙◌, ap, map, sym}
use Rattle.std.specs.Prelude.{option_map}
use Rattle.vx_value.specs.Views.{type_of, value_of}
use Rattle.vx_source_operands.specs.ListViews.{lent_scalars}
use Rattle.vx_source_operands.proofs.Gathering.{listed_is}
use Rattle.vx_source_operands.proofs.listing.listed.Goals as goal

pub returns : goal.returns
returns c =
    let joined = ap (option_map type_of) (sym c.in-Some.is) ∙ c.in_ok-element.ensures in
    c.in_ok-made.ensures ∙ listed_is (lent_scalars c.args.scalars.now) (type_of c.in-Some.element) (map value_of c.in_ok-values.values.items) joined c.in_ok-values.ensures
