use Rattle.std.proofs.Common.{ap, sym, ◌∙◌}
use Rattle.std.specs.List.{range_with_len}
use Rattle.std.proofs.lemmas.List.FromFn.{length-range_with_len}
use Rattle.vx_value.specs.StructColumns.{struct_at}
use Rattle.vx_value.specs.Types.{bool, int, float, bytes}
use Rattle.vx_array.specs.Kinds.{floats_in, numbers_in, spans_in, text_row}
use Rattle.vx_array.specs.Rows.{lanes_rows, lanes_each}
use Rattle.vx_array.proofs.Held.{rows-Bools, rows-Numbers, rows-Floats, rows-Texts, rows-Octets, rows-Structs}
use Rattle.vx_array.proofs.Masked.{len_is}
use Rattle.vx_array.proofs.lanes.Lanes.len.Goals as goal

pub returns-in-Bools : goal.returns-in-Bools
returns-in-Bools c = len_is bool c.in-Bools.validity c.in-Bools.values (lanes_rows c.args.self.now) c.count.result c.len-in-Bools.result c.count.ensures c.len-in-Bools.ensures (ap lanes_rows c.in-Bools.is ∙ rows-Bools c.in-Bools.values c.in-Bools.validity)

pub returns-in-Numbers : goal.returns-in-Numbers
returns-in-Numbers c = len_is int c.in-Numbers.validity (numbers_in c.in-Numbers.values) (lanes_rows c.args.self.now) c.count-in-Numbers.result c.len-in-Numbers.result c.count-in-Numbers.ensures c.len-in-Numbers.ensures (ap lanes_rows c.in-Numbers.is ∙ rows-Numbers c.in-Numbers.values c.in-Numbers.validity)

pub returns-in-Floats : goal.returns-in-Floats
returns-in-Floats c = len_is float c.in-Floats.validity (floats_in c.in-Floats.values) (lanes_rows c.args.self.now) c.count-in-Floats.result c.len-in-Floats.result c.count-in-Floats.ensures c.len-in-Floats.ensures (ap lanes_rows c.in-Floats.is ∙ rows-Floats c.in-Floats.values c.in-Floats.validity)

pub returns-in-Texts : goal.returns-in-Texts
returns-in-Texts c = len_is text_row c.in-Texts.validity (spans_in c.in-Texts.values) (lanes_rows c.args.self.now) c.count-in-Texts.result c.len-in-Texts.result c.count-in-Texts.ensures c.len-in-Texts.ensures (ap lanes_rows c.in-Texts.is ∙ rows-Texts c.in-Texts.values c.in-Texts.validity)

pub returns-in-Octets : goal.returns-in-Octets
returns-in-Octets c = len_is bytes c.in-Octets.validity (spans_in c.in-Octets.values) (lanes_rows c.args.self.now) c.count-in-Octets.result c.len-in-Octets.result c.count-in-Octets.ensures c.len-in-Octets.ensures (ap lanes_rows c.in-Octets.is ∙ rows-Octets c.in-Octets.values c.in-Octets.validity)

pub returns-in-Structs : goal.returns-in-Structs
returns-in-Structs c =
    let s = c.in-Structs in
    len_is (struct_at (lanes_each s.field-0.value.items)) s.validity (range_with_len s.stretch.from s.stretch.len) (lanes_rows c.args.self.now) c.count-in-Structs.result s.stretch.len c.count-in-Structs.ensures (sym (length-range_with_len s.stretch.from s.stretch.len)) (ap lanes_rows s.is ∙ rows-Structs s.field-0 s.stretch s.validity)
