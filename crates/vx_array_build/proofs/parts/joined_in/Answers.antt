use Rattle.std.proofs.Common.{◌≡◌, ◌++◌, ap, ◌∙◌, arith, subst, rules}
use Rattle.std.specs.Prelude.{None}
use Rattle.std.proofs.lemmas.List.Elements.{All-more}
use Rattle.vx_value.specs.Columns.{Batch, first_misfit}
use Rattle.vx_array.specs.Rows.{lanes_rows}
use Rattle.vx_array_build.proofs.Concatenated.{part_added}
use Rattle.vx_array_build.proofs.parts.joined_in.Goals as goal

pub loop-i-preserved : goal.loop-i-preserved
loop-i-preserved g c =
    let x = c.index-parts-i.result in
    let rows = g.B.RowsBuilder.rows in
    let pushed : rows c.in-Some.more ≡ rows c.loop-i.rows ++ lanes_rows c.lanes.result.now = search rules in
    record {
      joined = part_added c.args.parts.now c.loop-i.i x (rows c.loop-i.rows) _ (omega arith) c.index-parts-i.is c.loop-i.invariant.joined (pushed ∙ ap (λ l. rows c.loop-i.rows ++ l) c.lanes.ensures.rows);
      fit = All-more (λ (b : Batch). first_misfit b.type b.rows ≡ None) c.args.parts.now c.loop-i.i x (omega arith) c.loop-i.invariant.fit (subst (λ (b : Batch). first_misfit b.type b.rows ≡ None) c.index-parts-i.is c.lanes.ensures.fit);
    }
