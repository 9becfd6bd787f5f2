use Rattle.std.proofs.Common.{arith, ◌++◌, ◌∙◌, ap, append-nil}
use Rattle.std.proofs.KnownBytes.{Appends-trans}
use Rattle.vx_data.proofs.Lined.{line_behind}
use Rattle.vx_data.proofs.json_lines.write.write_json_lines.Goals as goal
use Rattle.vx_data.proofs.json_lines.write.write_json_lines.Goals.{then-len-ge-BLOCK+in_ok-write_all, else-len-ge-BLOCK}

pub loop-row-preserved : goal.loop-row-preserved
loop-row-preserved g c =
    let (done, wrote, so_far) = c.loop-row.invariant in
    let more = line_behind c.args.column.now.type _ c.rows-value-items.result.now c.loop-row.row _ done c.loop-row.lines.items c.in-Ok.lines.items c.dtype-in-loop-row.ensures (omega arith) c.value-item.is c.in-Ok.ensures so_far in
    elim c.if-len-ge-BLOCK.branch [
      | then-len-ge-BLOCK+in_ok-write_all w ↦ rw (w.writer-is, w.lines-is, w.clear.ensures.items) (
        done ++ w.as_slice.result.now,
        Appends-trans _ _ _ done _ wrote w.in_ok-write_all.ensures.bytes,
        append-nil _ ∙ ap (λ ls. done ++ ls) w.as_slice.ensures.value ∙ more,
      )
      | else-len-ge-BLOCK w ↦ rw (w.writer-is, w.lines-is) (done, wrote, more)
    ]
