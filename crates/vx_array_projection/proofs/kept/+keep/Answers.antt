use Rattle.std.proofs.Common.{◌≡◌, ◌+◌, ◌∙◌, [], Some, None, IfSome, true, false, arith, ap, length, replicate, ◌==◌, subst, sym}
use Rattle.vx_value.specs.Fields.{field_count}
use Rattle.vx_value.specs.Paths.{is_member}
use Rattle.vx_value.specs.Types.{struct_fields}
use Rattle.vx_value.specs.Views.{fields_of, names_of, type_of}
use Rattle.vx_array.specs.Rows.{lanes_each, lanes_rows, structs_from}
use Rattle.vx_array.specs.Shown.{shown}
use Rattle.vx_array.proofs.Held.{rows-Structs}
use Rattle.vx_projection.specs.Defaults.{default_of}
use Rattle.vx_projection.specs.Wanted.{lent_paths}
use Rattle.vx_projection.proofs.Sizes.{fields_size, smaller_at}
use Rattle.vx_array_projection.specs.Columns.{are_long, columns_kept}
use Rattle.vx_array_projection.proofs.Keeping.{all_kept, columns_end, kept_in_columns, no_paths, no_struct_kept, none_kept, some_paths}
use Rattle.vx_array_projection.proofs.kept.+keep.Goals as goal

pub kept_along-returns-then-has_root : goal.kept_along-returns-then-has_root
kept_along-returns-then-has_root t c =
    let paths = lent_paths c.args.paths.items in
    let root : is_member paths [] ≡ true = ap (λ ps. is_member (lent_paths ps) []) (sym c.as_slice.ensures.value) ∙ sym c.has_root.ensures ∙ c.if-has_root.true in
    c.in_ok-clone.ensures.cases ∙ all_kept paths (type_of c.args.dtype.now) (lanes_rows c.args.lanes.now) root

pub kept_along-returns-then-is_empty : goal.kept_along-returns-then-is_empty
kept_along-returns-then-is_empty t c =
    let dtype = type_of c.args.dtype.now in
    let long : c.args.paths.len ≡ length c.args.paths.items = omega (arith, c.args.paths.ok.0) in
    let none = no_paths c.args.paths.items c.is_empty.result (c.is_empty.ensures ∙ ap (λ n. n == 0) long) c.if-is_empty.true in
    c.in_ok-defaults.ensures ∙ ap (λ n. replicate n (default_of dtype)) c.len.ensures ∙ none_kept (lent_paths c.args.paths.items) dtype (lanes_rows c.args.lanes.now) none

pub kept_along-returns-in_default : goal.kept_along-returns-in_default
kept_along-returns-in_default t c =
    let paths = lent_paths c.args.paths.items in
    let dtype = type_of c.args.dtype.now in
    let below : is_member paths [] ≡ false = ap (λ ps. is_member (lent_paths ps) []) (sym c.as_slice.ensures.value) ∙ sym c.has_root.ensures ∙ c.if-has_root.false in
    let none : struct_fields dtype ≡ None = sym c.in_default.ensures in
    c.in_ok-defaults-2.ensures ∙ ap (λ n. replicate n (default_of dtype)) c.len-in_default.ensures ∙ no_struct_kept paths dtype (lanes_rows c.args.lanes.now) none below

pub kept_along-returns-in_ok-clone-in-Some-2 : goal.kept_along-returns-in_ok-clone-in-Some-2
kept_along-returns-in_ok-clone-in-Some-2 t c =
    let paths = lent_paths c.args.paths.items in
    let dtype = type_of c.args.dtype.now in
    let s = c.in-Structs in
    let ls = s.columns.value.items in
    let fs = fields_of c.in-Some.fields.now in
    let v = c.in_ok-clone-in-Some-2.field-0 in
    let columns = c.in_ok-columns-in-Some-2.columns in
    let below : is_member paths [] ≡ false = ap (λ ps. is_member (lent_paths ps) []) (sym c.as_slice.ensures.value) ∙ sym c.has_root.ensures ∙ c.if-has_root.false in
    let long : c.args.paths.len ≡ length c.args.paths.items = omega (arith, c.args.paths.ok.0) in
    let some = some_paths c.args.paths.items c.is_empty.result (c.is_empty.ensures ∙ ap (λ n. n == 0) long) c.if-is_empty.false in
    let held : struct_fields dtype ≡ Some fs = sym c.in-Some.ensures in
    let all : are_long (s.stretch.from + s.stretch.len) ls ≡ true =
    ap (λ n. are_long n ls) (sym c.end.ensures) ∙ ap (are_long c.end.result) (sym (c.as_slice-2.ensures.value ∙ ap (λ u. u.items) c.deref.ensures)) ∙ sym c.are_long.ensures ∙ c.if-not-are_long.false in
    let made : lanes_each c.in-Some-2.kept.items ≡ columns_kept paths fs (lanes_each c.as_slice-3.result.now) = subst (λ o. IfSome o (λ k. lanes_each k.items ≡ columns_kept paths fs (lanes_each c.as_slice-3.result.now))) c.in-Some-2.is c.in_ok-kept.ensures in
    let are : lanes_each columns.value.items ≡ columns_kept paths fs (lanes_each ls) =
    ap (λ u. lanes_each u.items) c.in_ok-columns-in-Some-2.ensures.ok ∙ made ∙ ap (λ l. columns_kept paths fs (lanes_each l)) (c.as_slice-3.ensures.value ∙ ap (λ u. u.items) c.deref-2.ensures) in
    kept_in_columns paths dtype fs some below held s.stretch.from s.stretch.len s.validity ls (lanes_each columns.value.items) (lanes_rows c.args.lanes.now) _ all are
    (ap lanes_rows s.is ∙ rows-Structs s.columns s.stretch s.validity)
    (rows-Structs columns s.stretch v ∙ ap (λ w. shown w (structs_from s.stretch.from s.stretch.len (lanes_each columns.value.items))) c.in_ok-clone-in-Some-2.ensures.cases)

pub kept_of_each-kept_along-requires : goal.kept_of_each-kept_along-requires
kept_of_each-kept_along-requires t c =
    let names = names_of c.args.fields.now in
    let types = c.types-types.result.now in
    let count = ap field_count c.types-types.ensures.fields in
    let size = ap fields_size c.types-types.ensures.fields in
    let less = smaller_at names types c.loop-i.i c.index-types-i.result (omega arith) c.index-types-i.is in
    (omega (arith, less, size, c.decreases), tt)

pub kept_of_each-returns : goal.kept_of_each-returns
kept_of_each-returns t c =
    let names = names_of c.args.fields.now in
    let types = c.types-types.result.now in
    let count = ap field_count c.types-types.ensures.fields in
    columns_end names types c.args.columns.now c.loop-i.made.items _ c.loop-i.i _ (omega arith) c.loop-i.invariant
