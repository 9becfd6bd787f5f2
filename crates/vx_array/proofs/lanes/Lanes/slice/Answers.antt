use Rattle.std.proofs.Common.{◌+◌, ap, sym, ◌∙◌, arith, length, map, take, drop}
use Rattle.std.proofs.Math.ListN.{replicate}
use Rattle.std.specs.List.{range_with_len}
use Rattle.std.proofs.lemmas.Simd.{length-replicate}
use Rattle.std.proofs.lemmas.List.FromFn.{length-range_with_len}
use Rattle.vx_value.specs.StructColumns.{struct_at}
use Rattle.vx_value.specs.Types.{bool, int, float, bytes}
use Rattle.vx_value.specs.Views.{value_of}
use Rattle.vx_array.specs.Kinds.{floats_in, numbers_in, spans_in, text_row}
use Rattle.vx_array.specs.Rows.{lanes_rows, lanes_each, structs_from}
use Rattle.vx_array.specs.Shown.{shown}
use Rattle.vx_array.proofs.Held.{rows-Same, rows-Values, rows-Bools, rows-Numbers, rows-Floats, rows-Texts, rows-Octets, rows-Structs}
use Rattle.vx_array.proofs.Masked.{rows_within, part-shown}
use Rattle.vx_array.proofs.Parts.{part-map, part-replicate}
use Rattle.vx_array.proofs.Reading.{range_part}
use Rattle.vx_array.proofs.lanes.Lanes.slice.Goals as goal

pub slice-requires-in-Bools : goal.slice-requires-in-Bools
slice-requires-in-Bools c = (rows_within bool c.in-Bools.validity c.in-Bools.values (lanes_rows c.args.self.now) (c.args.from + c.args.len) (ap lanes_rows c.in-Bools.is ∙ rows-Bools c.in-Bools.values c.in-Bools.validity) c.requires).0

pub slice-requires-in-Bools-2 : goal.slice-requires-in-Bools-2
slice-requires-in-Bools-2 c = (rows_within bool c.in-Bools.validity c.in-Bools.values (lanes_rows c.args.self.now) (c.args.from + c.args.len) (ap lanes_rows c.in-Bools.is ∙ rows-Bools c.in-Bools.values c.in-Bools.validity) c.requires).1

pub returns-in_ok-slice-in-Bools-2 : goal.returns-in_ok-slice-in-Bools-2
returns-in_ok-slice-in-Bools-2 c =
    let xs = c.in_ok-slice-in-Bools.field-0 in
    let v = c.in_ok-slice-in-Bools-2.field-0 in
    rows-Bools xs v ∙ part-shown bool c.in-Bools.validity v c.in-Bools.values xs (lanes_rows c.args.self.now) c.args.from c.args.len (ap lanes_rows c.in-Bools.is ∙ rows-Bools c.in-Bools.values c.in-Bools.validity) c.in_ok-slice-in-Bools.ensures c.in_ok-slice-in-Bools-2.ensures

pub slice-requires-in-Numbers : goal.slice-requires-in-Numbers
slice-requires-in-Numbers c = (rows_within int c.in-Numbers.validity (numbers_in c.in-Numbers.values) (lanes_rows c.args.self.now) (c.args.from + c.args.len) (ap lanes_rows c.in-Numbers.is ∙ rows-Numbers c.in-Numbers.values c.in-Numbers.validity) c.requires).0

pub slice-requires-in-Numbers-2 : goal.slice-requires-in-Numbers-2
slice-requires-in-Numbers-2 c = (rows_within int c.in-Numbers.validity (numbers_in c.in-Numbers.values) (lanes_rows c.args.self.now) (c.args.from + c.args.len) (ap lanes_rows c.in-Numbers.is ∙ rows-Numbers c.in-Numbers.values c.in-Numbers.validity) c.requires).1

pub returns-in_ok-slice-in-Numbers-2 : goal.returns-in_ok-slice-in-Numbers-2
returns-in_ok-slice-in-Numbers-2 c =
    let xs = c.in_ok-slice-in-Numbers.field-0 in
    let v = c.in_ok-slice-in-Numbers-2.field-0 in
    rows-Numbers xs v ∙ part-shown int c.in-Numbers.validity v (numbers_in c.in-Numbers.values) (numbers_in xs) (lanes_rows c.args.self.now) c.args.from c.args.len (ap lanes_rows c.in-Numbers.is ∙ rows-Numbers c.in-Numbers.values c.in-Numbers.validity) c.in_ok-slice-in-Numbers.ensures c.in_ok-slice-in-Numbers-2.ensures

pub slice-requires-in-Floats : goal.slice-requires-in-Floats
slice-requires-in-Floats c = (rows_within float c.in-Floats.validity (floats_in c.in-Floats.values) (lanes_rows c.args.self.now) (c.args.from + c.args.len) (ap lanes_rows c.in-Floats.is ∙ rows-Floats c.in-Floats.values c.in-Floats.validity) c.requires).0

pub slice-requires-in-Floats-2 : goal.slice-requires-in-Floats-2
slice-requires-in-Floats-2 c = (rows_within float c.in-Floats.validity (floats_in c.in-Floats.values) (lanes_rows c.args.self.now) (c.args.from + c.args.len) (ap lanes_rows c.in-Floats.is ∙ rows-Floats c.in-Floats.values c.in-Floats.validity) c.requires).1

pub returns-in_ok-slice-in-Floats-2 : goal.returns-in_ok-slice-in-Floats-2
returns-in_ok-slice-in-Floats-2 c =
    let xs = c.in_ok-slice-in-Floats.field-0 in
    let v = c.in_ok-slice-in-Floats-2.field-0 in
    rows-Floats xs v ∙ part-shown float c.in-Floats.validity v (floats_in c.in-Floats.values) (floats_in xs) (lanes_rows c.args.self.now) c.args.from c.args.len (ap lanes_rows c.in-Floats.is ∙ rows-Floats c.in-Floats.values c.in-Floats.validity) c.in_ok-slice-in-Floats.ensures c.in_ok-slice-in-Floats-2.ensures

pub slice-requires-in-Texts : goal.slice-requires-in-Texts
slice-requires-in-Texts c = (rows_within text_row c.in-Texts.validity (spans_in c.in-Texts.values) (lanes_rows c.args.self.now) (c.args.from + c.args.len) (ap lanes_rows c.in-Texts.is ∙ rows-Texts c.in-Texts.values c.in-Texts.validity) c.requires).0

pub slice-requires-in-Texts-2 : goal.slice-requires-in-Texts-2
slice-requires-in-Texts-2 c = (rows_within text_row c.in-Texts.validity (spans_in c.in-Texts.values) (lanes_rows c.args.self.now) (c.args.from + c.args.len) (ap lanes_rows c.in-Texts.is ∙ rows-Texts c.in-Texts.values c.in-Texts.validity) c.requires).1

pub returns-in_ok-slice-in-Texts-2 : goal.returns-in_ok-slice-in-Texts-2
returns-in_ok-slice-in-Texts-2 c =
    let xs = c.in_ok-slice-in-Texts.field-0 in
    let v = c.in_ok-slice-in-Texts-2.field-0 in
    rows-Texts xs v ∙ part-shown text_row c.in-Texts.validity v (spans_in c.in-Texts.values) (spans_in xs) (lanes_rows c.args.self.now) c.args.from c.args.len (ap lanes_rows c.in-Texts.is ∙ rows-Texts c.in-Texts.values c.in-Texts.validity) c.in_ok-slice-in-Texts.ensures c.in_ok-slice-in-Texts-2.ensures

pub slice-requires-in-Octets : goal.slice-requires-in-Octets
slice-requires-in-Octets c = (rows_within bytes c.in-Octets.validity (spans_in c.in-Octets.values) (lanes_rows c.args.self.now) (c.args.from + c.args.len) (ap lanes_rows c.in-Octets.is ∙ rows-Octets c.in-Octets.values c.in-Octets.validity) c.requires).0

pub slice-requires-in-Octets-2 : goal.slice-requires-in-Octets-2
slice-requires-in-Octets-2 c = (rows_within bytes c.in-Octets.validity (spans_in c.in-Octets.values) (lanes_rows c.args.self.now) (c.args.from + c.args.len) (ap lanes_rows c.in-Octets.is ∙ rows-Octets c.in-Octets.values c.in-Octets.validity) c.requires).1

pub returns-in_ok-slice-in-Octets-2 : goal.returns-in_ok-slice-in-Octets-2
returns-in_ok-slice-in-Octets-2 c =
    let xs = c.in_ok-slice-in-Octets.field-0 in
    let v = c.in_ok-slice-in-Octets-2.field-0 in
    rows-Octets xs v ∙ part-shown bytes c.in-Octets.validity v (spans_in c.in-Octets.values) (spans_in xs) (lanes_rows c.args.self.now) c.args.from c.args.len (ap lanes_rows c.in-Octets.is ∙ rows-Octets c.in-Octets.values c.in-Octets.validity) c.in_ok-slice-in-Octets.ensures c.in_ok-slice-in-Octets-2.ensures

pub returns-in_ok-clone-in-Same : goal.returns-in_ok-clone-in-Same
returns-in_ok-clone-in-Same c =
    let is = ap lanes_rows c.in-Same.is ∙ rows-Same c.in-Same.value c.in-Same.field-1 in
    let n = c.in-Same.field-1 in
    let one = value_of c.in-Same.value.value in
    rows-Same c.in_ok-clone-in-Same.field-0 c.args.len ∙ ap (λ u. replicate c.args.len (value_of u)) c.in_ok-clone-in-Same.ensures.cases
    ∙ part-replicate n c.args.from c.args.len one (omega (arith, c.requires, ap length is, length-replicate n one)) ∙ ap (λ l. take c.args.len (drop c.args.from l)) (sym is)

pub returns-in_ok-slice-in-Values : goal.returns-in_ok-slice-in-Values
returns-in_ok-slice-in-Values c =
    let is = ap lanes_rows c.in-Values.is ∙ rows-Values c.in-Values.values in
    rows-Values c.in_ok-slice-in-Values.field-0 ∙ ap (λ l. map value_of l) c.in_ok-slice-in-Values.ensures ∙ sym (part-map value_of c.args.from c.args.len c.in-Values.values) ∙ ap (λ l. take c.args.len (drop c.args.from l)) (sym is)

pub slice-rows-requires : goal.slice-rows-requires
slice-rows-requires c =
    let s = c.in-Structs in
    let room = rows_within (struct_at (lanes_each s.fields.value.items)) s.validity (range_with_len s.stretch.from s.stretch.len) (lanes_rows c.args.self.now) (c.args.from + c.args.len) (ap lanes_rows s.is ∙ rows-Structs s.fields s.stretch s.validity) c.requires in
    omega (arith, room.0, length-range_with_len s.stretch.from s.stretch.len)

pub slice-requires-in-Structs : goal.slice-requires-in-Structs
slice-requires-in-Structs c =
    let s = c.in-Structs in
    (rows_within (struct_at (lanes_each s.fields.value.items)) s.validity (range_with_len s.stretch.from s.stretch.len) (lanes_rows c.args.self.now) (c.args.from + c.args.len) (ap lanes_rows s.is ∙ rows-Structs s.fields s.stretch s.validity) c.requires).1

pub returns-in_ok-slice-in-Structs : goal.returns-in_ok-slice-in-Structs
returns-in_ok-slice-in-Structs c =
    let s = c.in-Structs in
    let cs = lanes_each s.fields.value.items in
    let fs = c.in_ok-clone-in-Structs.field-0 in
    let r = c.slice-rows.result in
    let v = c.in_ok-slice-in-Structs.field-0 in
    let first = s.stretch.from in
    let is = ap lanes_rows s.is ∙ rows-Structs s.fields s.stretch s.validity in
    let room = rows_within (struct_at cs) s.validity (range_with_len first s.stretch.len) (lanes_rows c.args.self.now) (c.args.from + c.args.len) is c.requires in
    rows-Structs fs r v ∙ ap (λ u. shown v (structs_from r.from r.len (lanes_each u.items))) c.in_ok-clone-in-Structs.ensures.cases
    ∙ ap (λ n. shown v (structs_from n r.len cs)) c.slice-rows.ensures.from ∙ ap (λ n. shown v (structs_from (first + c.args.from) n cs)) c.slice-rows.ensures.len
    ∙ part-shown (struct_at cs) s.validity v (range_with_len first s.stretch.len) (range_with_len (first + c.args.from) c.args.len) (lanes_rows c.args.self.now) c.args.from c.args.len is (range_part first s.stretch.len c.args.from c.args.len (omega (arith, room.0, length-range_with_len first s.stretch.len))) c.in_ok-slice-in-Structs.ensures
