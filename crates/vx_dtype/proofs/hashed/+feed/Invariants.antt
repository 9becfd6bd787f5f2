use Rattle.std.proofs.Common.{◌≡◌, drop, fold}
use Rattle.vx_dtype.specs.Hashes.{fields_fed}
use Rattle.vx_dtype.specs.Views.{fields_view}
use Rattle.vx_dtype.proofs.hashed.+feed.Given as goal

abbrev pub invariant-feed_all-loop-i : goal.invariant-feed_all-loop-i
invariant-feed_all-loop-i g l =
    fold g.H.Hasher.write l.initial.state (fields_fed (fields_view l.names l.types))
    ≡ fold g.H.Hasher.write l.state (fields_fed (fields_view (drop l.i l.names) (drop l.i l.types)))
