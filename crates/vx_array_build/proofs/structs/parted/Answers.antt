use Rattle.std.proofs.Common.{◌≡◌, arith, rules, subst}
use Rattle.std.specs.Prelude.{None}
use Rattle.std.proofs.lemmas.List.Elements.{All-more}
use Rattle.vx_value.specs.Columns.{Batch, first_misfit}
use Rattle.vx_value.specs.Views.{type_of}
use Rattle.vx_array.specs.Rows.{lanes_rows}
use Rattle.vx_array_build.proofs.Cutting.{row_added}
use Rattle.vx_array_build.proofs.structs.parted.Goals as goal

pub loop-i-preserved : goal.loop-i-preserved
loop-i-preserved c =
    let x = c.index-columns-i.result in
    let type_here : type_of c.in_ok-clone.field-0 ≡ x.type = search rules in
    let rows_here : lanes_rows c.in_ok-clone-2.field-0 ≡ x.rows = search rules in
    record {
      typed = row_added type_of (λ (b : Batch). b.type) c.loop-i.types.items c.push.new.self.items c.in_ok-clone.field-0 c.args.columns.now c.loop-i.i x c.loop-i.invariant.typed c.in_ok-push.ensures.items (omega arith) c.index-columns-i.is type_here;
      taken = row_added lanes_rows (λ (b : Batch). b.rows) c.loop-i.lanes.items c.push-in-loop-i.new.self.items c.in_ok-clone-2.field-0 c.args.columns.now c.loop-i.i x c.loop-i.invariant.taken c.in_ok-push-2.ensures.items (omega arith) c.index-columns-i.is rows_here;
      fit = All-more (λ (b : Batch). first_misfit b.type b.rows ≡ None) c.args.columns.now c.loop-i.i x (omega arith) c.loop-i.invariant.fit (subst (λ (b : Batch). first_misfit b.type b.rows ≡ None) c.index-columns-i.is c.lanes.ensures.fit);
    }
