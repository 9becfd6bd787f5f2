use Rattle.std.proofs.Common.{◌≡◌, []}
use Rattle.std.specs.Iterator.Adapters.{zip_first, zip_second}
use Rattle.std.specs.Slice.Iter.{iter_rest}
use Rattle.vx_value.specs.Views.{data_view}
use Rattle.vx_prune_tree.specs.Stats.{facts}
use Rattle.vx_prune.specs.Records.{with_places}
use Rattle.vx_prune.specs.Views.{places_of}
use Rattle.vx_prune.proofs.chunk_records.with_places.Given as goal

-- what is known and what is left say what all say
abbrev pub invariant-loop-place : goal.invariant-loop-place
invariant-loop-place l =
    with_places l.stats (places_of (iter_rest (zip_first l.place-iterator))) (data_view (iter_rest (zip_second l.place-iterator))) ≡ with_places (facts l.rows []) (places_of l.places) (data_view l.values)
