use Rattle.std.proofs.Common.{◌≡◌, ◌+◌, sym, ◌∙◌, arith, subst, rules}
use Rattle.std.specs.Prelude.{None}
use Rattle.std.proofs.lemmas.List.Elements.{All-more}
use Rattle.vx_value.specs.Columns.{Batch, first_misfit}
use Rattle.vx_value.specs.Views.{value_of}
use Rattle.vx_array_build.proofs.Concatenated.{same_added}
use Rattle.vx_array_build.proofs.same.count_of.Goals as goal

pub loop-i-preserved : goal.loop-i-preserved
loop-i-preserved c =
    let x = c.index-parts-i.result in
    let sum : c.in-Some-checked_add.sum ≡ c.in-Some.more + c.loop-i.count = search rules in
    record {
      same = same_added c.args.parts.now c.loop-i.i x (value_of c.args.value.now) c.loop-i.count c.in-Some.more c.in-Some-checked_add.sum (omega arith) c.index-parts-i.is c.loop-i.invariant.same (sym c.lanes.ensures.rows ∙ c.in-Some.ensures) sum;
      fit = All-more (λ (b : Batch). first_misfit b.type b.rows ≡ None) c.args.parts.now c.loop-i.i x (omega arith) c.loop-i.invariant.fit (subst (λ (b : Batch). first_misfit b.type b.rows ≡ None) c.index-parts-i.is c.lanes.ensures.fit);
    }
