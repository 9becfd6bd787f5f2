use Rattle.std.proofs.Common.{◌∙◌, sym, rules, FitsSigned}
use Rattle.std.specs.Int.{w128, cast_signed, cast_unsigned}
use Rattle.std.proofs.lemmas.Int.{to_z-of_z}
use Rattle.vx_value.specs.Views.{type_of}
use Rattle.vx_eval.proofs.Results.{too_long, by_zero, beyond, ranged}
use Rattle.vx_eval.proofs.arithmetic.whole_result.Goals as goal

pub returns-then-divides_by_zero : goal.returns-then-divides_by_zero
returns-then-divides_by_zero c =
    let zero = rw (to_z-of_z w128 c.args.b c.ranges.b) at (sym (c.divides_by_zero.ensures c.args.a) ∙ c.if-divides_by_zero.true) in
    by_zero c.args.arithmetic (type_of c.args.dtype.now) c.args.row c.args.a c.args.b c.args.a c.args.b zero

pub exact_result-requires : goal.exact_result-requires
exact_result-requires c = sym (c.divides_by_zero.ensures (cast_signed w128 (cast_unsigned w128 c.args.a))) ∙ c.if-divides_by_zero.false

pub returns-in-Some : goal.returns-in-Some
returns-in-Some c =
    let other = rw (to_z-of_z w128 c.args.b c.ranges.b) at (sym (c.divides_by_zero.ensures c.args.a) ∙ c.if-divides_by_zero.false) in
    let is = rw (to_z-of_z w128 c.args.a c.ranges.a, to_z-of_z w128 c.args.b c.ranges.b) at c.in-Some.ensures in
    let fits : FitsSigned w128 c.in-Some.n = rw is.1 is.0 in
    let given = rw (to_z-of_z w128 c.in-Some.n fits) at c.within.ensures in
    ranged c.args.arithmetic (type_of c.args.dtype.now) c.args.row c.args.range.lowest c.args.range.highest c.args.a c.args.b c.within.result c.in-Some.n c.requires.range other is.1 given

pub returns-in-None : goal.returns-in-None
returns-in-None c =
    let other = rw (to_z-of_z w128 c.args.b c.ranges.b) at (sym (c.divides_by_zero.ensures c.args.a) ∙ c.if-divides_by_zero.false) in
    let long = rw (to_z-of_z w128 c.args.a c.ranges.a, to_z-of_z w128 c.args.b c.ranges.b) at c.in-None.ensures in
    let low : FitsSigned w128 c.args.range.lowest = search rules in
    let high : FitsSigned w128 c.args.range.highest = search rules in
    beyond c.args.arithmetic (type_of c.args.dtype.now) c.args.row c.args.range.lowest c.args.range.highest c.args.a c.args.b c.requires.range other (too_long _ _ _ low high long)
