use Rattle.std.proofs.Common.{◌<◌, length, refl, arith}
use Rattle.std.specs.Prelude.{vec_len}
use Rattle.std.proofs.lemmas.Option.{slice_get_read}
use Rattle.vx_rewrite_fusing.specs.declared.heads.Firsts.{Firsts}
use Rattle.vx_rewrite_fusing.specs.declared.ranges.Side.TheVariants.{Below, Above}
use Rattle.vx_rewrite_fusing.proofs.Heading.{above_stays, below_stays, sets_at}
use Rattle.vx_rewrite_fusing.proofs.heads.Heads.set.Goals as goal

pub returns-in-Below-clause-sets : goal.returns-in-Below-clause-sets
returns-in-Below-clause-sets c =
    let fs = c.args.self.now.firsts.items in
    let old = c.in-Some.firsts.now in
    let inside : c.args.number < vec_len c.args.self.now.firsts = c.in-Some.ensures.variant.0 refl in
    let there = slice_get_read fs (length fs) c.args.number old refl (omega (arith, inside, c.args.self.now.firsts.ok.0)) c.in-Some.ensures.value in
    let new : Firsts = record { below = c.args.place; above = c.in-Some.firsts.now.above } in
    rw c.in-Below.is (sets_at fs Below c.args.number c.args.place old new there refl (above_stays old new refl))

pub returns-in-Above-clause-sets : goal.returns-in-Above-clause-sets
returns-in-Above-clause-sets c =
    let fs = c.args.self.now.firsts.items in
    let old = c.in-Some.firsts.now in
    let inside : c.args.number < vec_len c.args.self.now.firsts = c.in-Some.ensures.variant.0 refl in
    let there = slice_get_read fs (length fs) c.args.number old refl (omega (arith, inside, c.args.self.now.firsts.ok.0)) c.in-Some.ensures.value in
    let new : Firsts = record { below = c.in-Some.firsts.now.below; above = c.args.place } in
    rw c.in-Above.is (sets_at fs Above c.args.number c.args.place old new there refl (below_stays old new refl))
