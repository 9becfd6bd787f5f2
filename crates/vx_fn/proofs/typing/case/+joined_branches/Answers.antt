use Rattle.std.proofs.Common.{◌≡◌, refl, sym, ap, ◌∙◌, Some, None, Ok, Result, map, option_map}
use Rattle.vx_dtype.specs.declared.error.VortexError.{VortexError}
use Rattle.vx_value.specs.Joins.{union, union_all}
use Rattle.vx_value.specs.Views.{type_of}
use Rattle.vx_fn.specs.Functions.{branches}
use Rattle.vx_fn.proofs.Cases.{later, branches_step, union_all_some, union_all_none}
use Rattle.vx_fn.proofs.typing.case.+joined_branches.Goals as goal

-- what was answered is what the answer holds
answered : {A : Type 0} (x y : A) (r s : Result A VortexError) → r ≡ Ok x → s ≡ Ok y → r ≡ s → x ≡ y
answered x y r s p q e = cc

pub returns-in-Some : goal.returns-in-Some
returns-in-Some g t c =
    let step = branches_step g.T.Typed.dtype_of c.args.children.now c.value-item-2.result c.in-len2-up.len_at_least c.value-item-2.is in
    let joined : Some (type_of c.in-Some.joined) ≡ union (type_of c.args.t) (g.T.Typed.dtype_of c.value-item-2.result) =
    sym (ap (option_map type_of) c.in-Some.is) ∙ sym (answered _ _ _ _ refl refl c.in_ok-joined-in-len2-up.ensures.union) ∙ ap (union (type_of c.args.t)) c.as_dtype-in-len2-up.ensures in
    rw (step, ← union_all_some _ _ _ (branches (map g.T.Typed.dtype_of (later c.args.children.now))) joined) c.joined_branches.ensures

pub returns : goal.returns
returns g t c =
    let step = branches_step g.T.Typed.dtype_of c.args.children.now c.value-item-2.result c.in-len2-up.len_at_least c.value-item-2.is in
    let none : None ≡ union (type_of c.args.t) (g.T.Typed.dtype_of c.value-item-2.result) =
    sym (ap (option_map type_of) c.in-None.is) ∙ sym (answered _ _ _ _ refl refl c.in_ok-joined-in-len2-up.ensures.union) ∙ ap (union (type_of c.args.t)) c.as_dtype-in-len2-up.ensures in
    sym (ap Ok (union_all_none (type_of c.args.t) (g.T.Typed.dtype_of c.value-item-2.result) (branches (map g.T.Typed.dtype_of (later c.args.children.now))) none ∙ ap (union_all (type_of c.args.t)) (sym step)))
