use Rattle.std.proofs.lemmas.Slice.Zip.{Zip-more, either_empty_from_Zip}
use Rattle.vx_prune.proofs.Read.{one_more, all_read}
use Rattle.vx_prune.proofs.chunk_records.with_places.Goals as goal

pub loop-place-preserved : goal.loop-place-preserved
loop-place-preserved c =
    let l = c.loop-place in
    let m = Zip-more l.place-iterator c.next.new.self c.next.result _ c.in-Some.is c.next.ensures.steps in
    one_more l.stats c.add_place.new.stats _ _ _ _ _ _ _ m.0 m.1 l.invariant c.in_ok-add_place.ensures

pub returns : goal.returns
returns c =
    let l = c.loop-place in
    all_read l.stats _ _ _ (either_empty_from_Zip l.place-iterator c.next.new.self c.next.result c.in-None.is c.next.ensures.steps) l.invariant
