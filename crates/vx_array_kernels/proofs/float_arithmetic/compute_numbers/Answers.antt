use Rattle.std.proofs.Common.{◌≡◌, ◌∙◌, ap, map, sym}
use Rattle.std.proofs.Math.ListN.{replicate}
use Rattle.vx_value.specs.Types.{float}
use Rattle.vx_value.specs.Views.{value_of}
use Rattle.vx_array.specs.Kinds.{floats_in}
use Rattle.vx_array.specs.Rows.{lanes_rows}
use Rattle.vx_array.specs.Shown.{shown}
use Rattle.vx_array.proofs.Held.{rows-Floats, rows-Same}
use Rattle.vx_array.proofs.Reading.{value_of-Float}
use Rattle.vx_array_kernels.proofs.FloatsComputed.{columns_computed, floats_there, number_before, number_computed}
use Rattle.vx_array_kernels.proofs.float_arithmetic.compute_numbers.Goals as goal

pub beside-requires-clause-floats : goal.beside-requires-clause-floats
beside-requires-clause-floats c =
    let m = c.in-Floats-Floats in
    let q = c.args.pair in
    (floats_there m.v m.floats (lanes_rows q.lhs.now) q.count (ap lanes_rows m.is-0 ∙ rows-Floats m.floats m.v) c.requires.long.0).0

pub beside-requires-clause-others : goal.beside-requires-clause-others
beside-requires-clause-others c =
    let m = c.in-Floats-Floats in
    let q = c.args.pair in
    (floats_there m.w m.others (lanes_rows q.rhs.now) q.count (ap lanes_rows m.is-1 ∙ rows-Floats m.others m.w) c.requires.long.1).0

pub with-requires : goal.with-requires
with-requires c =
    let m = c.in-Floats-Same in
    let q = c.args.pair in
    (floats_there m.v m.floats (lanes_rows q.lhs.now) q.count (ap lanes_rows m.is-0 ∙ rows-Floats m.floats m.v) c.requires.long.0).0

pub before-requires : goal.before-requires
before-requires c =
    let m = c.in-Same-Floats in
    let q = c.args.pair in
    (floats_there m.v m.floats (lanes_rows q.rhs.now) q.count (ap lanes_rows m.is-1 ∙ rows-Floats m.floats m.v) c.requires.long.1).0

pub returns-in_ok-and-in-Floats-Floats : goal.returns-in_ok-and-in-Floats-Floats
returns-in_ok-and-in-Floats-Floats c t =
    let m = c.in-Floats-Floats in
    let results = c.in_ok-results-in-Floats-Floats in
    let all = c.in_ok-and-in-Floats-Floats in
    columns_computed c.args.computation t c.args.pair m.floats m.others c.in-Some.results m.v m.w all.field-0 _ c.requires.computed m.is-0 m.is-1 c.requires.long (rw c.in-Some.is at results.ensures.format) (rw c.in-Some.is at results.ensures.results) all.ensures.each all.ensures.count (rows-Floats c.in-Some.results all.field-0)

pub returns-in_ok-clone-in-Float : goal.returns-in_ok-clone-in-Float
returns-in_ok-clone-in-Float c t =
    let m = c.in-Floats-Same in
    let x = c.in-Float.other in
    let zs = c.in-Some-2.results in
    let v = c.in_ok-clone-in-Float in
    let (b, raw, results) = rw c.in-Some-2.is at c.in_ok-results-in-Float.ensures in
    let held : value_of m.value.value ≡ float x = ap value_of (sym c.as_ref.ensures ∙ c.in-Float.is) ∙ value_of-Float x in
    number_computed c.args.computation t c.args.pair m.floats zs m.v m.field-1-1 x b _ c.requires.computed m.is-0 (ap lanes_rows m.is-1 ∙ rows-Same m.value m.field-1-1 ∙ ap (replicate m.field-1-1) held) c.requires.long raw results (rows-Floats zs v.field-0 ∙ ap (λ u. shown u (map float (floats_in zs))) v.ensures.cases)

pub returns-in_ok-clone-in-Float-as_ref : goal.returns-in_ok-clone-in-Float-as_ref
returns-in_ok-clone-in-Float-as_ref c t =
    let m = c.in-Same-Floats in
    let x = c.in-Float-as_ref.first in
    let zs = c.in-Some-3.results in
    let v = c.in_ok-clone-in-Float-as_ref in
    let (b, raw, results) = rw c.in-Some-3.is at c.in_ok-results-in-Float-as_ref.ensures in
    let held : value_of m.value.value ≡ float x = ap value_of (sym c.as_ref-in-Same-Floats.ensures ∙ c.in-Float-as_ref.is) ∙ value_of-Float x in
    number_before c.args.computation t c.args.pair m.floats zs m.v m.field-1-0 x b _ c.requires.computed (ap lanes_rows m.is-0 ∙ rows-Same m.value m.field-1-0 ∙ ap (replicate m.field-1-0) held) m.is-1 c.requires.long raw results (rows-Floats zs v.field-0 ∙ ap (λ u. shown u (map float (floats_in zs))) v.ensures.cases)
