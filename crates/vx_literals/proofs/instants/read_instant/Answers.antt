use Rattle.std.proofs.Common.{◌∙◌, sym, rules, arith, to_z, of_z}
use Rattle.std.specs.Int.{w128}
use Rattle.std.proofs.lemmas.Bool.{le-leb}
use Rattle.vx_dtype.specs.Timestamps.{zone_name}
use Rattle.vx_literals.proofs.Parts.{instant_is}
use Rattle.vx_literals.proofs.instants.read_instant.Goals as goal

pub returns : goal.returns
returns c =
    c.read_moment.ensures
    ∙ instant_is c.args.t.now.unit (zone_name c.args.t.now) (to_z w128 (of_z w128 c.in_ok-day.day)) c.in_ok-day.day c.in_ok-second.second c.args.text.now (search rules) (le-leb _ _ (omega (arith, c.if-text-lt19.false)))
    (sym c.is_separator.ensures ∙ c.if-not-is_separator.false) c.in_ok-day.ensures.day c.in_ok-second.ensures.second
