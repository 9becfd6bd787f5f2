use Rattle.std.proofs.Common.{ap, refl, ◌∙◌}
use Rattle.std.specs.List.{range_with_len}
use Rattle.vx_value.specs.StructColumns.{struct_at}
use Rattle.vx_value.specs.Types.{bool, bytes, float, int}
use Rattle.vx_array.specs.Kinds.{floats_in, numbers_in, spans_in, text_row}
use Rattle.vx_array.specs.Rows.{lanes_each, lanes_rows, structs_from}
use Rattle.vx_array.specs.Shown.{shown}
use Rattle.vx_array.proofs.Held.{rows-Bools, rows-Numbers, rows-Floats, rows-Texts, rows-Octets, rows-Structs}
use Rattle.vx_array.proofs.Joined.{masked_is}
use Rattle.vx_array.proofs.lanes.Lanes.masked_further.Goals as goal

pub returns-in_ok-clone-in-Bools : goal.returns-in_ok-clone-in-Bools
returns-in_ok-clone-in-Bools c =
    let own = c.in-Bools.own in
    let all = c.in_ok-both-in-Bools in
    let xs = c.in-Bools.values in
    let ys = c.in_ok-clone-in-Bools.field-0 in
    masked_is bool c.args.validity.now own all.both xs ys (lanes_rows c.args.self.now) _ (ap lanes_rows c.in-Bools.is ∙ rows-Bools xs own) (rows-Bools ys all.both) c.in_ok-clone-in-Bools.ensures.cases all.ensures.each all.ensures.count

pub returns-in_ok-clone-in-Numbers : goal.returns-in_ok-clone-in-Numbers
returns-in_ok-clone-in-Numbers c =
    let own = c.in-Numbers.own in
    let all = c.in_ok-both-in-Numbers in
    let xs = c.in-Numbers.values in
    let ys = c.in_ok-clone-in-Numbers.field-0 in
    masked_is int c.args.validity.now own all.both (numbers_in xs) (numbers_in ys) (lanes_rows c.args.self.now) _ (ap lanes_rows c.in-Numbers.is ∙ rows-Numbers xs own) (rows-Numbers ys all.both) (ap numbers_in c.in_ok-clone-in-Numbers.ensures.cases) all.ensures.each all.ensures.count

pub returns-in_ok-clone-in-Floats : goal.returns-in_ok-clone-in-Floats
returns-in_ok-clone-in-Floats c =
    let own = c.in-Floats.own in
    let all = c.in_ok-both-in-Floats in
    let xs = c.in-Floats.values in
    let ys = c.in_ok-clone-in-Floats.field-0 in
    masked_is float c.args.validity.now own all.both (floats_in xs) (floats_in ys) (lanes_rows c.args.self.now) _ (ap lanes_rows c.in-Floats.is ∙ rows-Floats xs own) (rows-Floats ys all.both) (ap floats_in c.in_ok-clone-in-Floats.ensures.cases) all.ensures.each all.ensures.count

pub returns-in_ok-clone-in-Texts : goal.returns-in_ok-clone-in-Texts
returns-in_ok-clone-in-Texts c =
    let own = c.in-Texts.own in
    let all = c.in_ok-both-in-Texts in
    let xs = c.in-Texts.values in
    let ys = c.in_ok-clone-in-Texts.field-0 in
    masked_is text_row c.args.validity.now own all.both (spans_in xs) (spans_in ys) (lanes_rows c.args.self.now) _ (ap lanes_rows c.in-Texts.is ∙ rows-Texts xs own) (rows-Texts ys all.both) c.in_ok-clone-in-Texts.ensures.cases all.ensures.each all.ensures.count

pub returns-in_ok-clone-in-Octets : goal.returns-in_ok-clone-in-Octets
returns-in_ok-clone-in-Octets c =
    let own = c.in-Octets.own in
    let all = c.in_ok-both-in-Octets in
    let xs = c.in-Octets.values in
    let ys = c.in_ok-clone-in-Octets.field-0 in
    masked_is bytes c.args.validity.now own all.both (spans_in xs) (spans_in ys) (lanes_rows c.args.self.now) _ (ap lanes_rows c.in-Octets.is ∙ rows-Octets xs own) (rows-Octets ys all.both) c.in_ok-clone-in-Octets.ensures.cases all.ensures.each all.ensures.count

pub returns-in_ok-clone-in-Structs : goal.returns-in_ok-clone-in-Structs
returns-in_ok-clone-in-Structs c =
    let s = c.in-Structs in
    let all = c.in_ok-both-in-Structs in
    let fs = c.in_ok-clone-in-Structs.field-0 in
    let from = s.stretch.from in
    let len = s.stretch.len in
    let rows = range_with_len from len in
    masked_is (struct_at (lanes_each s.fields.value.items)) c.args.validity.now s.own all.both rows rows (lanes_rows c.args.self.now) _ (ap lanes_rows s.is ∙ rows-Structs s.fields s.stretch s.own)
    (rows-Structs fs s.stretch all.both ∙ ap (λ u. shown all.both (structs_from from len (lanes_each u.items))) c.in_ok-clone-in-Structs.ensures.cases) refl all.ensures.each all.ensures.count
