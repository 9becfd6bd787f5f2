use Rattle.std.proofs.Common.{◌≡◌, true, sym, ap}
use Rattle.std.specs.Prelude.{is_some}
use Rattle.vx_value.specs.Fields.{field_type}
use Rattle.vx_value.specs.Views.{fields_of}
use Rattle.vx_prune_tree.proofs.StatisticsPaths.{field_placed, field_unnamed}
use Rattle.vx_prune_tree.proofs.places.field_place.Goals as goal

pub returns-in_err-place : goal.returns-in_err-place
returns-in_err-place c = rw c.from_residual.ensures (field_unnamed _ _ _ c.names.ensures.fields c.in_err-place.ensures)

pub returns : goal.returns
returns c =
    let known : is_some (field_type c.args.name.now (fields_of c.args.fields.now)) ≡ true = ap is_some (sym c.in_ok-field.ensures) in
    (sym c.in_ok-field.ensures, field_placed _ _ _ _ known c.names.ensures.fields c.in_ok-place.ensures)
