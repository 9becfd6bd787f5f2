use Rattle.std.proofs.Common.{◌≡◌, refl, sym, ◌∙◌}
use Rattle.std.specs.Prelude.{Some, None}
use Rattle.std.specs.Vec.{with_item}
use Rattle.vx_rewrite_fusing.specs.declared.places.Place.TheVariants.{Merged, Gone}
use Rattle.vx_rewrite_fusing.specs.declared.places.Places.{Places}
use Rattle.vx_rewrite_fusing.specs.Places.{turned, bounded_by}
use Rattle.vx_rewrite_fusing.proofs.Linking.{bounded_read, pair_linked, pair_read}
use Rattle.vx_rewrite_fusing.proofs.places.Places.merge.Goals as goal

pub returns-in_default-clause-merged : goal.returns-in_default-clause-merged
returns-in_default-clause-merged c =
    let p = c.requires.pair in
    let read = bounded_read c.args.self.now.list.items c.args.left c.index.result.now p.1.0 c.index.ensures in
    let none : bounded_by c.index.result.now ≡ None = c.in_default.ensures in
    let some : bounded_by c.index.result.now ≡ Some (turned p.0) = sym read ∙ p.1.1 in
    cc

pub returns-in_default-range_at-clause-merged : goal.returns-in_default-range_at-clause-merged
returns-in_default-range_at-clause-merged c =
    let p = c.requires.pair in
    let read = bounded_read c.args.self.now.list.items c.args.right c.index-2.result.now p.2.0 c.index-2.ensures in
    let none : bounded_by c.index-2.result.now ≡ None = c.in_default-range_at.ensures in
    let some : bounded_by c.index-2.result.now ≡ Some p.0 = sym read ∙ p.2.1 in
    cc

pub between_of-requires-clause-sides : goal.between_of-requires-clause-sides
between_of-requires-clause-sides c = (pair_read _ _ _ _ _ c.in-Some.c c.in-Some-range_at.d c.in-Some.c_link c.in-Some-range_at.d_link c.index.ensures c.index-2.ensures c.in-Some.ensures c.in-Some-range_at.ensures c.requires.pair).sides

pub between_of-requires-clause-item : goal.between_of-requires-clause-item
between_of-requires-clause-item c = (pair_read _ _ _ _ _ c.in-Some.c c.in-Some-range_at.d c.in-Some.c_link c.in-Some-range_at.d_link c.index.ensures c.index-2.ensures c.in-Some.ensures c.in-Some-range_at.ensures c.requires.pair).item

pub returns-clause-linked : goal.returns-clause-linked
returns-clause-linked c =
    let r = pair_read _ _ _ _ _ c.in-Some.c c.in-Some-range_at.d c.in-Some.c_link c.in-Some-range_at.d_link c.index.ensures c.index-2.ensures c.in-Some.ensures c.in-Some-range_at.ensures c.requires.pair in
    let middle : Places = record { list = with_item c.args.self.now.list c.args.left (Merged c.in_ok-merged.merged); heads = c.set.new.self } in
    let new : Places = record { list = with_item middle.list c.args.right Gone; heads = c.set-2.new.self } in
    pair_linked c.args.self.now middle new c.args.left c.args.right c.in-Some.c c.in-Some-range_at.d c.in-Some.c_link c.in-Some-range_at.d_link c.in_ok-merged.merged c.requires.linked c.requires.pair r.on_left r.on_right refl c.set.ensures.numbers c.set.ensures.sets refl c.set-2.ensures.numbers c.set-2.ensures.sets

pub returns-clause-merged : goal.returns-clause-merged
returns-clause-merged c =
    let r = pair_read _ _ _ _ _ c.in-Some.c c.in-Some-range_at.d c.in-Some.c_link c.in-Some-range_at.d_link c.index.ensures c.index-2.ensures c.in-Some.ensures c.in-Some-range_at.ensures c.requires.pair in (
      c.in_ok-merged.merged,
      refl,
      λ l m after next x y f g h i.
          let on_left = r.on_left in
          let on_right = r.on_right in
          let left : c.in-Some.c ≡ l = cc in
          let right : c.in-Some-range_at.d ≡ m = cc in
          c.in_ok-merged.ensures.merged x y (rw left h) (rw right i),
    )
