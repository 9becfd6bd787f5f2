use Rattle.std.proofs.Common.{◌≡◌, ◌∙◌, arith, ap, length, rules}
use Rattle.std.proofs.lemmas.List.{length-append}
use Rattle.vx_array.specs.Rows.{lanes_each}
use Rattle.vx_array_kernels.specs.ByteRows.{shown_row}
use Rattle.vx_array_kernels.proofs.Picking.{picked, row_more}
use Rattle.vx_array_kernels.proofs.picked.gathered.Goals as goal

pub loop-k-preserved : goal.loop-k-preserved
loop-k-preserved g c =
    let before = c.loop-k.invariant in
    let here : shown_row g.K.ByteKind.datum c.in-Some.is_valid c.in-Some.bytes.now ≡ picked (lanes_each c.args.columns.now) c.args.choices.now c.loop-k.k = search rules in (
      row_more g.K.ByteKind.datum (picked (lanes_each c.args.columns.now) c.args.choices.now) c.loop-k.k c.loop-k.valid.items c.push-in-loop-k.new.self.items c.loop-k.spans c.in_ok-spans-2.spans c.in-Some.is_valid c.in-Some.bytes.now (omega (arith, before.1, before.2)) before.0 c.in_ok-push.ensures.items c.in_ok-spans-2.ensures here,
      ap length c.in_ok-push.ensures.items ∙ length-append c.loop-k.valid.items _ ∙ omega (arith, before.1),
      ap length c.in_ok-spans-2.ensures ∙ length-append c.loop-k.spans _ ∙ omega (arith, before.2),
    )
