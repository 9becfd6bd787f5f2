use Rattle.std.proofs.Common.{◌≡◌, ◌∙◌, ap, length, map, rules, sym}
use Rattle.vx_dtype.specs.declared.dtype.DType.{the_lemmas as the_types}
use Rattle.vx_value.specs.Types.{ty, atomic, truth, shape_of, is_nullable, bool, float, int}
use Rattle.vx_value.specs.Views.{admits_null, type_of}
use Rattle.vx_array.specs.Kinds.{floats_in, numbers_in}
use Rattle.vx_array.specs.Rows.{lanes_rows}
use Rattle.vx_array.proofs.Held.{rows-Bools, rows-Floats, rows-Numbers}
use Rattle.vx_array.specs.Shown.{shown, shown_count}
use Rattle.vx_data_buffers.specs.Laid.{lists_in}
use Rattle.vx_data_buffers.proofs.Columns.{as_shape}
use Rattle.vx_data_buffers.proofs.LaidOut.{laid_floats, laid_truths, laid_values, some_laid}
use Rattle.vx_data_buffers.proofs.laid.laid_at_once.Goals as goal

pub returns-in_ok-truths_laid-in-Bool : goal.returns-in_ok-truths_laid-in-Bool
returns-in_ok-truths_laid-in-Bool c =
    let array = c.args.array.now in
    let bits = c.in-Bools.bits in
    let v = c.in-Bools.validity in
    let n = admits_null c.in-Bool.field-0 in
    let typed : array.type ≡ ty (atomic truth) n = sym c.dtype.ensures ∙ rw c.in-Bool.is (search (rules, the_types)) in
    let rows : array.rows ≡ shown v (map bool bits) = sym c.lanes.ensures.rows ∙ ap lanes_rows c.in-Bools.is ∙ rows-Bools bits v in
    let all : shown_count v (length bits) ≡ length bits = rw (← c.len.ensures) (c.is_whole.ensures c.if-is_whole.true) in
    laid_truths array n bits v _ typed rows c.lanes.ensures.fit all c.in_ok-truths_laid-in-Bool.ensures

pub returns-in-Numbers : goal.returns-in-Numbers
returns-in-Numbers c =
    let array = c.args.array.now in
    let ns = numbers_in c.in-Numbers.numbers in
    let v = c.in-Numbers.validity in
    let t = type_of c.dtype-in-Numbers.result.now in
    let typed : array.type ≡ ty (shape_of t) (is_nullable t) = sym c.dtype-in-Numbers.ensures ∙ as_shape t in
    let rows : array.rows ≡ shown v (map int ns) = sym c.lanes.ensures.rows ∙ ap lanes_rows c.in-Numbers.is ∙ rows-Numbers c.in-Numbers.numbers v in
    let all : shown_count v (length ns) ≡ length ns = search rules in
    some_laid c.numbers_laid.result (λ buffers have. laid_values array (shape_of t) (is_nullable t) ns v (lists_in buffers.items) typed rows c.lanes.ensures.fit all have) c.numbers_laid.ensures

pub returns-in-Floats : goal.returns-in-Floats
returns-in-Floats c =
    let array = c.args.array.now in
    let fs = c.in-Floats.floats in
    let v = c.in-Floats.validity in
    let t = type_of c.dtype-in-Floats.result.now in
    let typed : array.type ≡ ty (shape_of t) (is_nullable t) = sym c.dtype-in-Floats.ensures ∙ as_shape t in
    let rows : array.rows ≡ shown v (map float (floats_in fs)) = sym c.lanes.ensures.rows ∙ ap lanes_rows c.in-Floats.is ∙ rows-Floats fs v in
    let all : shown_count v (length (floats_in fs)) ≡ length (floats_in fs) = search rules in
    some_laid c.floats_laid.result (λ buffers have. laid_floats array (shape_of t) (is_nullable t) fs v (lists_in buffers.items) typed rows c.lanes.ensures.fit all have) c.floats_laid.ensures
