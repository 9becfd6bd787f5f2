use Rattle.std.proofs.Common.{◌≡◌, IfOk, ap, sym, subst, ◌∙◌, map, refl, length, false, replicate}
use Rattle.std.specs.List.{range_with_len}
use Rattle.vx_value.specs.StructColumns.{struct_at}
use Rattle.vx_value.specs.Types.{bytes, float, int}
use Rattle.vx_value.specs.Views.{value_of}
use Rattle.vx_fn.specs.Values.{is_true}
use Rattle.vx_array.specs.Kinds.{floats_in, numbers_in, spans_in, text_row}
use Rattle.vx_array.specs.Rows.{lanes_each, lanes_rows}
use Rattle.vx_array.proofs.Held.{rows-Bools, rows-Floats, rows-Numbers, rows-Octets, rows-Same, rows-Structs, rows-Texts, rows-Values}
use Rattle.vx_array_scan.proofs.TrueRows.{none_shown, text_false, true_same}
use Rattle.vx_array_scan.proofs.truths.true_rows.Goals as goal

pub returns-in-Same : goal.returns-in-Same
returns-in-Same c =
    let s = c.in-Same in
    let is = ap lanes_rows s.is ∙ rows-Same s.value s.count in
    subst (λ want. IfOk c.repeated.result (λ rows. rows ≡ want)) (ap (replicate s.count) (c.is_true.ensures ∙ ap (λ v. is_true (value_of v)) c.deref.ensures) ∙ sym (true_same s.count (value_of s.value.value)) ∙ ap (map is_true) (sym is)) c.repeated.ensures

pub returns-in-Values : goal.returns-in-Values
returns-in-Values c =
    let s = c.in-Values in
    let is = ap lanes_rows s.is ∙ rows-Values s.values in
    subst (λ want. IfOk c.truths_of.result (λ rows. rows ≡ want)) (ap (λ l. map is_true (map value_of l)) c.as_slice.ensures ∙ ap (map is_true) (sym is)) c.truths_of.ensures

pub returns-in-Bools : goal.returns-in-Bools
returns-in-Bools c =
    let s = c.in-Bools in
    let is = ap lanes_rows s.is ∙ rows-Bools s.truths s.validity in
    subst (λ want. IfOk c.valid_truths.result (λ rows. rows ≡ want)) (ap (map is_true) (sym is)) c.valid_truths.ensures

pub returns-in-Numbers : goal.returns-in-Numbers
returns-in-Numbers c =
    let s = c.in-Numbers in
    let is = ap lanes_rows s.is ∙ rows-Numbers s.field-0 s.field-1 in
    subst (λ want. IfOk c.zeros.result (λ rows. rows ≡ want)) (ap (λ n. replicate n false) (c.len.ensures ∙ ap length is) ∙ none_shown int s.field-1 (numbers_in s.field-0) (λ x. refl) ∙ ap (map is_true) (sym is)) c.zeros.ensures

pub returns-in-Floats : goal.returns-in-Floats
returns-in-Floats c =
    let s = c.in-Floats in
    let is = ap lanes_rows s.is ∙ rows-Floats s.field-0 s.field-1 in
    subst (λ want. IfOk c.zeros-in-Floats.result (λ rows. rows ≡ want)) (ap (λ n. replicate n false) (c.len-in-Floats.ensures ∙ ap length is) ∙ none_shown float s.field-1 (floats_in s.field-0) (λ x. refl) ∙ ap (map is_true) (sym is)) c.zeros-in-Floats.ensures

pub returns-in-Texts : goal.returns-in-Texts
returns-in-Texts c =
    let s = c.in-Texts in
    let is = ap lanes_rows s.is ∙ rows-Texts s.field-0 s.field-1 in
    subst (λ want. IfOk c.zeros-in-Texts.result (λ rows. rows ≡ want)) (ap (λ n. replicate n false) (c.len-in-Texts.ensures ∙ ap length is) ∙ none_shown text_row s.field-1 (spans_in s.field-0) text_false ∙ ap (map is_true) (sym is)) c.zeros-in-Texts.ensures

pub returns-in-Octets : goal.returns-in-Octets
returns-in-Octets c =
    let s = c.in-Octets in
    let is = ap lanes_rows s.is ∙ rows-Octets s.field-0 s.field-1 in
    subst (λ want. IfOk c.zeros-in-Octets.result (λ rows. rows ≡ want)) (ap (λ n. replicate n false) (c.len-in-Octets.ensures ∙ ap length is) ∙ none_shown bytes s.field-1 (spans_in s.field-0) (λ x. refl) ∙ ap (map is_true) (sym is)) c.zeros-in-Octets.ensures

pub returns-in-Structs : goal.returns-in-Structs
returns-in-Structs c =
    let s = c.in-Structs in
    let columns = lanes_each s.field-0.value.items in
    let is = ap lanes_rows s.is ∙ rows-Structs s.field-0 s.field-1 s.field-2 in
    subst (λ want. IfOk c.zeros-in-Structs.result (λ rows. rows ≡ want)) (ap (λ n. replicate n false) (c.len-in-Structs.ensures ∙ ap length is) ∙ none_shown (struct_at columns) s.field-2 (range_with_len s.field-1.from s.field-1.len) (λ x. refl) ∙ ap (map is_true) (sym is)) c.zeros-in-Structs.ensures
