use Rattle.std.proofs.Common.{◌∙◌, sym, rules, to_z, of_z}
use Rattle.std.specs.Int.{w128}
use Rattle.vx_dtype.specs.Timestamps.{zone_name}
use Rattle.vx_literals.proofs.Parts.{moment_is}
use Rattle.vx_literals.proofs.instants.read_moment.Goals as goal

pub returns-then-begin_with : goal.returns-then-begin_with
returns-then-begin_with c =
    c.read_part.ensures ∙ moment_is c.args.t.now.unit (zone_name c.args.t.now) (to_z w128 (of_z w128 c.args.day)) c.args.day c.args.second c.args.rest.now (search rules) (sym c.begin_with.ensures ∙ c.if-begin_with.true)
