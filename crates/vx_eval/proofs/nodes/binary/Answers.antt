use Rattle.std.proofs.Common.{◌∙◌, ap, refl, sym, subst, ◌∷◌}
use Rattle.vx_value.specs.Views.{type_of}
use Rattle.vx_fn.specs.Functions as functions
use Rattle.vx_fn.specs.Views.{operation_of}
use Rattle.vx_eval.specs.Columns.{rows_views, Evaluates}
use Rattle.vx_eval.proofs.Transposed.{at_node}
use Rattle.vx_eval.proofs.nodes.binary.Goals as goal

pub returns-in-And : goal.returns-in-And
returns-in-And c = λ ts. at_node _ _ _ _ _ _ _ _ (ap (λ o. functions.binary (operation_of o)) c.in-And.is) refl (ap rows_views c.two-lhs.ensures) (c.and.ensures (type_of c.args.dtype.now ∷ ts))

pub returns-in-Or : goal.returns-in-Or
returns-in-Or c = λ ts.
    at_node _ _ _ _ _ _ _ _ (ap (λ o. functions.binary (operation_of o)) c.in-Or.is) refl (ap rows_views (sym c.as_slice.ensures.value ∙ c.pair.ensures)) (c.or.ensures (type_of c.args.dtype.now ∷ ts))

pub returns-in-Add : goal.returns-in-Add
returns-in-Add c = λ ts. at_node _ _ _ _ _ _ _ _ (ap (λ o. functions.binary (operation_of o)) c.in-Add.is) refl refl (c.computed.ensures ts)

pub returns-in-Sub : goal.returns-in-Sub
returns-in-Sub c = λ ts. at_node _ _ _ _ _ _ _ _ (ap (λ o. functions.binary (operation_of o)) c.in-Sub.is) refl refl (c.computed-in-Sub.ensures ts)

pub returns-in-Mul : goal.returns-in-Mul
returns-in-Mul c = λ ts. at_node _ _ _ _ _ _ _ _ (ap (λ o. functions.binary (operation_of o)) c.in-Mul.is) refl refl (c.computed-in-Mul.ensures ts)

pub returns-in-Div : goal.returns-in-Div
returns-in-Div c = λ ts. at_node _ _ _ _ _ _ _ _ (ap (λ o. functions.binary (operation_of o)) c.in-Div.is) refl refl (c.computed-in-Div.ensures ts)

pub returns-in-Rem : goal.returns-in-Rem
returns-in-Rem c = λ ts. at_node _ _ _ _ _ _ _ _ (ap (λ o. functions.binary (operation_of o)) c.in-Rem.is) refl refl (c.computed-in-Rem.ensures ts)

pub returns : goal.returns
returns c = λ ts.
    let all = type_of c.args.dtype.now ∷ ts in
    let op = functions.binary (operation_of c.args.operator) in
    subst (λ cs. Evaluates op all c.args.count cs c.compare.result) (sym (ap rows_views (sym c.as_slice-in-Eq.ensures.value ∙ c.pair-in-Eq.ensures))) (c.compare.ensures all)
