use Rattle.std.proofs.Common.{rules, ◌≡◌, ◌⊎◌, inl, inr, ap, Err}
use Rattle.vx_dtype.specs.declared.error.VortexError.TheVariants.{OutOfMemory}
use Rattle.vx_walk.specs.Shapes.{Shape, shape_seen}
use Rattle.vx_walk.specs.Containers.{within, cloned, not_begun, not_held}
use Rattle.vx_walk.proofs.containers.RcNodeContainer.map_with.Goals as goal

-- what is taken out of an `Rc`, itself or a clone, has elements that are seen alike
Alike-held : {C E M : Type 0} (f : E → M) (shape : C → Shape E) (R : C → C → Type 0) → ((c d : C) → R c d → shape_seen f (shape d) ≡ shape_seen f (shape c)) → (c x : C) → (x ≡ c) ⊎ R c x → shape_seen f (shape x) ≡ shape_seen f (shape c)
Alike-held f shape R k c x (inl e) = ap (λ y. shape_seen f (shape y)) e
Alike-held f shape R k c x (inr r) = k c x r

pub returns-in_err-held-clause-mapped : goal.returns-in_err-held-clause-mapped
returns-in_err-held-clause-mapped g c =
    let e : c.from_residual.result ≡ Err OutOfMemory = search rules in
    rw e (not_begun tt)

pub returns-in_err-value-clause-mapped : goal.returns-in_err-value-clause-mapped
returns-in_err-value-clause-mapped g c =
    let e : c.from_residual-in_err-value.result ≡ Err c.in_err-value.field-0.0 = search rules in
    let a = Alike-held g.C.NodeContainer.mirror g.C.NodeContainer.shape g.C.Clone.is_clone g.met.C.CloneContainer.clones_are_alike _ _ c.in_ok-held.ensures.ok in
    rw e (cloned _ a (within (Err c.in_err-value.field-0.0) c.in_err-value.ensures.mapped))

pub returns-in_err-new-clause-mapped : goal.returns-in_err-new-clause-mapped
returns-in_err-new-clause-mapped g c =
    let e : c.from_residual-in_err-new.result ≡ Err OutOfMemory = search rules in
    let a = Alike-held g.C.NodeContainer.mirror g.C.NodeContainer.shape g.C.Clone.is_clone g.met.C.CloneContainer.clones_are_alike _ _ c.in_ok-held.ensures.ok in
    rw e (cloned _ a (not_held tt c.in_ok-value.ensures.mapped))

pub returns-clause-mapped : goal.returns-clause-mapped
returns-clause-mapped g c =
    let a = Alike-held g.C.NodeContainer.mirror g.C.NodeContainer.shape g.C.Clone.is_clone g.met.C.CloneContainer.clones_are_alike _ _ c.in_ok-held.ensures.ok in
    rw c.in_ok-new.ensures.ok (cloned _ a (within _ c.in_ok-value.ensures.mapped))
