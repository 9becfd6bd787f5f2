use Rattle.std.proofs.Common.{◌≡◌, ◌++◌, ap, ◌∙◌, arith, map, subst}
use Rattle.std.specs.Prelude.{None}
use Rattle.std.proofs.lemmas.List.Elements.{All-more}
use Rattle.vx_value.specs.Columns.{Batch, first_misfit}
use Rattle.vx_value.specs.Views.{value_of}
use Rattle.vx_array_build.proofs.Concatenated.{part_added}
use Rattle.vx_array_build.proofs.parts.values_of.Goals as goal

pub loop-i-preserved : goal.loop-i-preserved
loop-i-preserved c =
    let x = c.index-parts-i.result in
    let before = map value_of c.loop-i.values.items in
    record {
      joined = part_added c.args.parts.now c.loop-i.i x before (map value_of c.in_ok-values.values.items) (omega arith) c.index-parts-i.is c.loop-i.invariant.joined (c.in_ok-values.ensures ∙ ap (λ l. before ++ l) c.lanes.ensures.rows);
      fit = All-more (λ (b : Batch). first_misfit b.type b.rows ≡ None) c.args.parts.now c.loop-i.i x (omega arith) c.loop-i.invariant.fit (subst (λ (b : Batch). first_misfit b.type b.rows ≡ None) c.index-parts-i.is c.lanes.ensures.fit);
    }
