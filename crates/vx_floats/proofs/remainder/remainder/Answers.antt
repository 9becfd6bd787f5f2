use Rattle.std.proofs.Common.{◌+◌, ◌%◌, ◌^◌, ◌<◌, ◌≤◌, sym, ap, subst, ◌∙◌, arith}
use lib.Ieee.{ones}
use Rattle.vx_floats.specs.Floats.{format_of}
use Rattle.vx_floats.specs.Parts.{den_of, num_of}
use Rattle.vx_floats.specs.Texts.{binary, nearest, number_of, value_of}
use Rattle.vx_floats.proofs.Fields.{number_is}
use Rattle.vx_floats.proofs.Remainders.{by_infinite, by_none, exponent_below, finite_rest, infinite_by, none_by, none_by_zero, smaller_kept}
use Rattle.vx_floats.proofs.remainder.remainder.Goals as goal

pub rest_of-requires-clause-range : goal.rest_of-requires-clause-range
rest_of-requires-clause-range c =
    let right = c.in-Finite-parts_of.right in
    subst (λ t. right.exponent + 2 ≤ ones (binary t)) (c.requires ∙ sym c.float_type-format.ensures) (exponent_below c.args.divisor right c.in-Finite-parts_of.ensures)

pub returns-in-Nan : goal.returns-in-Nan
returns-in-Nan c =
    let x = c.args.number in
    let is = sym (none_by (binary (format_of x)) (value_of x) (value_of c.args.divisor) c.in-Nan.ensures) in
    c.no_number.ensures ∙ (λ i. number_of (c.float_type-format.ensures i) (is i))

pub returns-in-Infinite : goal.returns-in-Infinite
returns-in-Infinite c =
    let x = c.args.number in
    let is = sym (infinite_by (binary (format_of x)) (value_of x) (value_of c.args.divisor) c.in-Infinite.field-0 c.in-Infinite.ensures) in
    c.no_number-in-Infinite.ensures ∙ (λ i. number_of (c.float_type-format.ensures i) (is i))

pub returns-in-Nan-parts_of : goal.returns-in-Nan-parts_of
returns-in-Nan-parts_of c =
    let x = c.args.number in
    let is = sym (by_none (binary (format_of x)) (value_of x) (value_of c.args.divisor) c.in-Nan-parts_of.ensures) in
    c.no_number-in-Nan-parts_of.ensures ∙ (λ i. number_of (c.float_type-format.ensures i) (is i))

pub returns-in-Infinite-parts_of : goal.returns-in-Infinite-parts_of
returns-in-Infinite-parts_of c =
    let x = c.args.number in
    let left = c.in-Finite.left in
    let is = by_infinite (binary (format_of x)) (value_of x) (value_of c.args.divisor) left.negative c.in-Infinite-parts_of.field-0 (num_of left) (den_of left) c.in-Finite.ensures.value c.in-Infinite-parts_of.ensures in
    sym (ap (number_of (format_of x)) is ∙ number_is x ∙ c.in-Finite.ensures.same)

pub returns-then-right-eq0 : goal.returns-then-right-eq0
returns-then-right-eq0 c =
    let is = sym (none_by_zero c.args.number c.args.divisor c.in-Finite.left c.in-Finite-parts_of.right c.requires c.in-Finite.ensures c.in-Finite-parts_of.ensures c.if-right-eq0.true) in
    c.no_number-then-right-eq0.ensures ∙ (λ i. number_of (c.float_type-format.ensures i) (is i))

pub returns-then-left-right : goal.returns-then-left-right
returns-then-left-right c =
    let some : 0 < c.in-Finite-parts_of.right.significand = omega (arith, c.if-right-eq0.false) in
    smaller_kept c.args.number c.args.divisor c.in-Finite.left c.in-Finite-parts_of.right c.requires c.in-Finite.ensures c.in-Finite-parts_of.ensures some c.if-left-right.true

pub returns-else-left-right : goal.returns-else-left-right
returns-else-left-right c =
    let x = c.args.number in
    let left = c.in-Finite.left in
    let right = c.in-Finite-parts_of.right in
    let some : 0 < right.significand = omega (arith, c.if-right-eq0.false) in
    let lowest = c.in-Finite.ensures.lowest in
    let is = sym (finite_rest x c.args.divisor left right c.requires c.in-Finite.ensures c.in-Finite-parts_of.ensures some) in
    c.rest_of.ensures ∙ (λ i. nearest (c.float_type-format.ensures i) left.negative (num_of left % num_of right) (2 ^ lowest i)) ∙ ap (number_of (format_of x)) is
