use Rattle.std.proofs.Common.{◌≡◌, drop, fold}
use Rattle.vx_value.specs.Hashes.{data_fed}
use Rattle.vx_value.specs.Views.{data_view}
use Rattle.vx_value.proofs.value.+feed.Given as goal

abbrev pub invariant-feed_all-loop-i : goal.invariant-feed_all-loop-i
invariant-feed_all-loop-i g l =
    fold g.H.Hasher.write l.initial.state (data_fed (data_view l.values)) ≡ fold g.H.Hasher.write l.state (data_fed (data_view (drop l.i l.values)))
