use Rattle.std.proofs.Common.{◌≤◌, length}
use Rattle.vx_prune_bounds.proofs.BegunTexts.{compared-longer, compared-shorter}
use Rattle.vx_prune_bounds.proofs.begun.compare_beginning.Goals as goal

pub returns-then-wanted-found : goal.returns-then-wanted-found
returns-then-wanted-found c =
    compared-longer c.args.prefix.now c.args.text.now _ c.utf8.prefix (rw (c.as_bytes-wanted.ensures.value, c.as_bytes-found.ensures.value) at c.cmp.ensures)

pub returns-else-wanted-found : goal.returns-else-wanted-found
returns-else-wanted-found c =
    let short : length c.args.text.now ≤ length c.args.prefix.now = rw (c.as_bytes-wanted.ensures.value, c.as_bytes-found.ensures.value) at c.if-wanted-found.false in
    compared-shorter c.args.prefix.now c.args.text.now _ c.utf8.prefix short
    (rw (c.as_bytes-wanted.ensures.value, c.as_bytes-found.ensures.value) at c.cmp-else-wanted-found.ensures)
