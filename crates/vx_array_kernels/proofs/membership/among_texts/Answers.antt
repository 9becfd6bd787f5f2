use Rattle.vx_value.specs.Views.{data_view}
use Rattle.vx_array.specs.Kinds.{spans_in}
use Rattle.vx_array_kernels.specs.Likeness.{text_rows}
use Rattle.vx_array_kernels.proofs.Among.{texts_members, told_there}
use Rattle.vx_array_kernels.proofs.membership.among_texts.Goals as goal

pub told_lanes-requires : goal.told_lanes-requires
told_lanes-requires c =
    let ws = data_view c.args.items.now in
    let t = c.args.texts in
    let are = rw c.in-Some.is at c.in_ok-told.ensures in
    told_there ws c.in_ok-validity.validity c.in-Some.told (text_rows t) c.in_ok-validity.ensures (texts_members ws t.validity.now (spans_in t.spans.now) t.count c.in-Some.told c.requires.long are)

pub returns : goal.returns
returns c =
    let ws = data_view c.args.items.now in
    let t = c.args.texts in
    let are = rw c.in-Some.is at c.in_ok-told.ensures in
    c.in_ok-told_lanes.ensures (text_rows t) c.in_ok-validity.ensures (texts_members ws t.validity.now (spans_in t.spans.now) t.count c.in-Some.told c.requires.long are)
