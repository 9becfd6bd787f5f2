use Rattle.std.specs.Prelude.{IfOk}
use Rattle.std.proofs.Common.{[], ◌∷◌, ◌++◌, refl, sym, ap, subst, ◌∙◌}
use Rattle.vx_tree.specs.Views.{bound_of}
use Rattle.vx_sql.specs.Unsupported.{first_unsupported, LeadsToUnsupported}
use Rattle.vx_sql.proofs.Seen.{bound_node}
use Rattle.vx_sql.proofs.Walked.{own_told, below_told, child_told}
use Rattle.vx_sql.proofs.walk.+unsupported.Goals as goal

pub look-returns-in-Some : goal.look-returns-in-Some
look-returns-in-Some t c =
    let seen = bound_node c.args.b.now _ _ _ c.as_slice-children.result.now c.in-Scalar.is (c.as_slice-children.ensures.value ∙ ap (λ v. v.items) c.deref.ensures) in
    own_told c.args.dialect (bound_of c.args.b.now) _ _ _ c.in-Some.reason _ _ seen (sym c.in-Some.is ∙ c.own_reason.ensures) refl

pub look-returns : goal.look-returns
look-returns t c =
    let seen = bound_node c.args.b.now _ _ _ c.as_slice-children.result.now c.in-Scalar.is (c.as_slice-children.ensures.value ∙ ap (λ v. v.items) c.deref.ensures) in
    let own = sym c.own_reason.ensures ∙ c.in_default-own_reason.is in
    let said = below_told c.args.dialect (bound_of c.args.b.now) _ _ c.as_slice-children.result.now c.first_asked.result seen own (sym c.is_column.ensures ∙ c.if-is_column.false) c.first_asked.ensures in
    subst (λ said. IfOk c.look_below.result (LeadsToUnsupported c.args.path.now.items said c.look_below.new.path.items)) said c.look_below.ensures

pub look_below-returns-in-Some : goal.look_below-returns-in-Some
look_below-returns-in-Some t c =
    let i = c.loop-i.i in
    let b = c.index-children-i.result in
    let pushed = c.in_ok-push.ensures.items ∙ ap (λ x. x ++ i ∷ []) c.loop-i.invariant.path in
    let told = subst (LeadsToUnsupported c.push.new.self.items (first_unsupported c.args.dialect (bound_of b)) c.look.new.path.items) c.in-Some.is c.in_ok-reason.ensures in
    child_told c.args.dialect c.args.children.now i b c.in-Some.reason c.args.path.now.items c.push.new.self.items _ _ c.loop-i-test.true c.index-children-i.is pushed c.loop-i.invariant.left told
