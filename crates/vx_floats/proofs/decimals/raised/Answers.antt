use Rattle.std.proofs.Common.{◌*◌, ◌^◌, ◌≤◌, Some, None, cond, sym, ap}
use Rattle.std.proofs.lemmas.Bool.{le-ltb}
use Rattle.vx_floats.proofs.Units.{raised_far, raised_more}
use Rattle.vx_floats.proofs.decimals.raised.Goals as goal
use Rattle.vx_floats.proofs.decimals.raised.Goals.{else-places-lt127-via-then-places-lt127+else-number-places, else-places-lt127-via-else-places-lt127}

pub returns-else-places-lt127 : goal.returns-else-places-lt127
returns-else-places-lt127 c =
    let large : 10 ^ 38 ≤ c.args.number * 2 ^ c.args.places = elim c.else-places-lt127.branch [
      | else-places-lt127-via-then-places-lt127+else-number-places w ↦ raised_more c.args.number c.args.places w.if-number-places.false
      | else-places-lt127-via-else-places-lt127 w ↦ raised_far c.args.number c.args.places c.requires w.if-places-lt127.false
    ] in
    sym (ap (λ b. cond b (Some (c.args.number * 2 ^ c.args.places)) None) (le-ltb (c.args.number * 2 ^ c.args.places) (10 ^ 38) large))
