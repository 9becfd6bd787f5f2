use Rattle.std.proofs.Common.{◌≡◌, rules, refl, sym, ap, ◌∙◌, ◌∷◌, [], get_or}
use Rattle.std.specs.Prelude.{if◌then◌else◌}
use Rattle.vx_dtype.specs.declared.error.VortexError.TheVariants.{BadFill}
use Rattle.vx_value.specs.Types.{null, is_null_datum}
use Rattle.vx_value.specs.Views.{type_of, value_of}
use Rattle.vx_fn.specs.Functions.{fill_null}
use Rattle.vx_eval.specs.Columns.{rows_view}
use Rattle.vx_eval.proofs.Filled.{evaluated, evaluated_in_place, refused}
use Rattle.vx_eval.proofs.FirstRows.{fill_fault, fill_quiet}
use Rattle.vx_eval.proofs.nulls.fill_null.Goals as goal

pub returns-then-is_bad_fill : goal.returns-then-is_bad_fill
returns-then-is_bad_fill c = λ ts.
    refused fill_null (type_of c.args.dtype.now ∷ ts) c.args.count (rows_view c.args.input ∷ rows_view c.args.fill.now ∷ []) BadFill
    (fill_fault (type_of c.args.dtype.now ∷ ts) c.args.count (rows_view c.args.input) (rows_view c.args.fill.now) c.requires.fill (sym (c.if-is_bad_fill.ensures ts)))

pub returns-in-Owned : goal.returns-in-Owned
returns-in-Owned c = λ ts.
    evaluated_in_place fill_null (type_of c.args.dtype.now ∷ ts) c.args.count (rows_view c.args.input ∷ rows_view c.args.fill.now ∷ []) c.args.input c.in-Owned.values
    (λ k d. if is_null_datum d then get_or (rows_view c.args.fill.now) k null else d) _ (fill_quiet (type_of c.args.dtype.now ∷ ts) c.args.count (rows_view c.args.input) (rows_view c.args.fill.now) c.requires.fill (sym (c.if-is_bad_fill.ensures ts))) c.in-Owned.is c.requires.input refl
    (c.overwritten.ensures.rows (λ k d. if is_null_datum d then get_or (rows_view c.args.fill.now) k null else d) (λ i x v lt p. search rules))
    c.overwritten.ensures.memory

pub returns-in_default : goal.returns-in_default
returns-in_default c = λ ts.
    evaluated fill_null (type_of c.args.dtype.now ∷ ts) c.args.count (rows_view c.args.input ∷ rows_view c.args.fill.now ∷ []) _ (fill_quiet (type_of c.args.dtype.now ∷ ts) c.args.count (rows_view c.args.input) (rows_view c.args.fill.now) c.requires.fill (sym (c.if-is_bad_fill.ensures ts)))
    (c.tabulated-filled.ensures.rows _ (λ i v lt p.
    let filled : value_of v ≡ (if is_null_datum (get_or (rows_view c.in_default.lent) i null) then get_or (rows_view c.args.fill.now) i null else get_or (rows_view c.in_default.lent) i null) = search rules in
    filled ∙ ap (λ r. if is_null_datum (get_or (rows_view r) i null) then get_or (rows_view c.args.fill.now) i null else get_or (rows_view r) i null) (sym c.in_default.lent-is)))
    c.tabulated-filled.ensures.memory
