use Rattle.std.proofs.Common.{◌≡◌, ◌∙◌, ap, rules, sym, subst, List, Ok, Err, Result, IfOk}
use Rattle.vx_dtype.specs.Returns.{ReturnsOrOom}
use Rattle.vx_dtype.specs.declared.error.VortexError.{VortexError}
use Rattle.vx_value.specs.Fits.{IsBatch}
use Rattle.vx_value.specs.Types.{LogicalType, Datum}
use Rattle.vx_tree.specs.Views.{bound_of}
use Rattle.vx_eval.specs.Columns.{values_of}
use Rattle.vx_eval.specs.Evaluation.{tree_answer}
use Rattle.vx_eval.proofs.Fitting.{answer_fits}
use Rattle.vx_eval.proofs.Transposed.{root_given}
use Rattle.vx_eval.proofs.blocks.evaluate_over.Goals as goal

-- what is answered of rows that fit does
fits_if_answered : {A : Type 0} (view : A → List Datum) (r : Result A VortexError) (rows : List Datum) (t : LogicalType) → ReturnsOrOom view r (Ok rows) → IsBatch t rows → IfOk r (λ x. IsBatch t (view x))
fits_if_answered view (Ok x) rows t said fit = let same : rows ≡ view x = cc in subst (IsBatch t) same fit
fits_if_answered view (Err e) rows t said fit = tt

pub returns-in-Root-clause-answer : goal.returns-in-Root-clause-answer
returns-in-Root-clause-answer c =
    let root : tree_answer (bound_of c.args.b.now) c.args.batch.now.rows ≡ Ok c.args.batch.now.rows = root_given _ _ _ c.in-Root.is in
    subst (λ said. ReturnsOrOom (λ values. values_of values.value.items) c.into_shared.result said) (ap Ok c.of.ensures ∙ sym root) c.into_shared.ensures

pub returns-in-Root-clause-fit : goal.returns-in-Root-clause-fit
returns-in-Root-clause-fit c =
    let fit = answer_fits _ _ _ _ c.requires.typed c.requires.over c.rows-rows.ensures.fit (root_given _ _ _ c.in-Root.is) in
    fits_if_answered (λ values. values_of values.value.items) c.into_shared.result _ _ c.into_shared.ensures (subst (IsBatch _) (sym c.of.ensures) fit)

pub returns-in_ok-new-in-Scalar-clause-fit : goal.returns-in_ok-new-in-Scalar-clause-fit
returns-in_ok-new-in-Scalar-clause-fit c =
    let answer : tree_answer (bound_of c.args.b.now) c.args.batch.now.rows ≡ Ok (values_of c.in_ok-new-in-Scalar.field-0.value.items) = search rules in
    answer_fits _ _ _ _ c.requires.typed c.requires.over c.rows-rows.ensures.fit answer
