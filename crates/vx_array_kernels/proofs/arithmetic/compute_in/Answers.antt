use Rattle.std.proofs.Common.{◌≡◌, ◌∙◌, ap, sym}
use Rattle.std.proofs.Math.ListN.{replicate}
use Rattle.vx_value.specs.Types.{int}
use Rattle.vx_value.specs.Views.{value_of}
use Rattle.vx_array.specs.Kinds.{numbers_in}
use Rattle.vx_array.specs.Rows.{lanes_rows}
use Rattle.vx_array.proofs.Held.{rows-Same}
use Rattle.vx_array.proofs.Reading.{value_of-Int}
use Rattle.vx_array_kernels.proofs.Computed.{columns_computed, number_before, number_computed}
use Rattle.vx_array_kernels.proofs.Beside.{both_have, numbers_held, numbers_there}
use Rattle.vx_array_kernels.proofs.arithmetic.compute_in.Goals as goal

pub of_columns-requires-clause-rows : goal.of_columns-requires-clause-rows
of_columns-requires-clause-rows g c =
    let m = c.in-Numbers-Numbers in
    let n = c.args.pair.count in
    both_have m.v m.w c.in_ok-both-in-Numbers-Numbers.both n (numbers_there m.v (numbers_in m.numbers) n (numbers_held c.args.pair.lhs.now m.numbers m.v n m.is-0 c.requires.0)).1
    (numbers_there m.w (numbers_in m.others) n (numbers_held c.args.pair.rhs.now m.others m.w n m.is-1 c.requires.1)).1 c.in_ok-both-in-Numbers-Numbers.ensures.count

pub of_columns-requires-clause-numbers : goal.of_columns-requires-clause-numbers
of_columns-requires-clause-numbers g c =
    let m = c.in-Numbers-Numbers in
    (numbers_there m.v (numbers_in m.numbers) c.args.pair.count (numbers_held c.args.pair.lhs.now m.numbers m.v c.args.pair.count m.is-0 c.requires.0)).0

pub of_columns-requires-clause-others : goal.of_columns-requires-clause-others
of_columns-requires-clause-others g c =
    let m = c.in-Numbers-Numbers in
    (numbers_there m.w (numbers_in m.others) c.args.pair.count (numbers_held c.args.pair.rhs.now m.others m.w c.args.pair.count m.is-1 c.requires.1)).0

pub with_number-requires-clause-rows : goal.with_number-requires-clause-rows
with_number-requires-clause-rows g c =
    let m = c.in-Numbers-Same in
    (numbers_there m.v (numbers_in m.numbers) c.args.pair.count (numbers_held c.args.pair.lhs.now m.numbers m.v c.args.pair.count m.is-0 c.requires.0)).1

pub with_number-requires-clause-numbers : goal.with_number-requires-clause-numbers
with_number-requires-clause-numbers g c =
    let m = c.in-Numbers-Same in
    (numbers_there m.v (numbers_in m.numbers) c.args.pair.count (numbers_held c.args.pair.lhs.now m.numbers m.v c.args.pair.count m.is-0 c.requires.0)).0

pub of_number-requires-clause-rows : goal.of_number-requires-clause-rows
of_number-requires-clause-rows g c =
    let m = c.in-Same-Numbers in
    (numbers_there m.v (numbers_in m.numbers) c.args.pair.count (numbers_held c.args.pair.rhs.now m.numbers m.v c.args.pair.count m.is-1 c.requires.1)).1

pub of_number-requires-clause-numbers : goal.of_number-requires-clause-numbers
of_number-requires-clause-numbers g c =
    let m = c.in-Same-Numbers in
    (numbers_there m.v (numbers_in m.numbers) c.args.pair.count (numbers_held c.args.pair.rhs.now m.numbers m.v c.args.pair.count m.is-1 c.requires.1)).0

pub returns-in_ok-both-in-Numbers-Numbers : goal.returns-in_ok-both-in-Numbers-Numbers
returns-in_ok-both-in-Numbers-Numbers g c =
    let m = c.in-Numbers-Numbers in
    columns_computed g.T.Number.fits g.T.Native.kind c.args.computation c.args.pair m.v m.w c.in_ok-both-in-Numbers-Numbers.both m.numbers m.others c.of_columns.result g.met.T.Native.same_range m.is-0 m.is-1 c.requires c.in_ok-both-in-Numbers-Numbers.ensures.each c.of_columns.ensures

pub returns-in-Int : goal.returns-in-Int
returns-in-Int g c =
    let m = c.in-Numbers-Same in
    let held : value_of m.value.value ≡ int c.in-Int.number = ap value_of (sym c.as_ref.ensures ∙ c.in-Int.is) ∙ value_of-Int c.in-Int.number in
    number_computed g.T.Number.fits g.T.Native.kind c.args.computation c.args.pair m.v m.numbers m.field-1-1 c.in-Int.number c.with_number.result g.met.T.Native.same_range m.is-0 (ap lanes_rows m.is-1 ∙ rows-Same m.value m.field-1-1 ∙ ap (replicate m.field-1-1) held) c.requires c.with_number.ensures

pub returns-in-Int-as_ref : goal.returns-in-Int-as_ref
returns-in-Int-as_ref g c =
    let m = c.in-Same-Numbers in
    let held : value_of m.value.value ≡ int c.in-Int-as_ref.number = ap value_of (sym c.as_ref-in-Same-Numbers.ensures ∙ c.in-Int-as_ref.is) ∙ value_of-Int c.in-Int-as_ref.number in
    number_before g.T.Number.fits g.T.Native.kind c.args.computation c.args.pair m.v m.numbers m.field-1-0 c.in-Int-as_ref.number c.of_number.result g.met.T.Native.same_range (ap lanes_rows m.is-0 ∙ rows-Same m.value m.field-1-0 ∙ ap (replicate m.field-1-0) held) m.is-1 c.requires c.of_number.ensures
