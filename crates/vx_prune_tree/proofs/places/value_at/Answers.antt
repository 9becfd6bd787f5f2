use Rattle.std.proofs.Common.{◌+◌, drop, sym, ap, ◌∙◌}
use Rattle.vx_value.specs.Views.{value_of}
use Rattle.vx_prune_tree.specs.Lent.{at_places}
use Rattle.vx_prune_tree.specs.Reading.{unless_null}
use Rattle.vx_prune_tree.proofs.StatisticsPaths.{places_from, at_places-null}
use Rattle.vx_prune_tree.proofs.places.value_at.Goals as goal

pub returns-in-None : goal.returns-in-None
returns-in-None c =
    let rest = drop (c.loop-place.place-index + 1) c.args.places.now in
    sym (ap unless_null (
    sym c.loop-place.invariant
    ∙ places_from c.args.places.now c.loop-place.place-index (value_of c.loop-place.value.now) c.loop-place-test.true
    ∙ ap (at_places rest) (sym c.in-None.ensures)
    ∙ at_places-null rest))

pub loop-place-preserved : goal.loop-place-preserved
loop-place-preserved c =
    let rest = drop (c.loop-place.place-index + 1) c.args.places.now in
    ap (at_places rest) c.in-Some.ensures
    ∙ sym (places_from c.args.places.now c.loop-place.place-index (value_of c.loop-place.value.now) c.loop-place-test.true)
    ∙ c.loop-place.invariant
