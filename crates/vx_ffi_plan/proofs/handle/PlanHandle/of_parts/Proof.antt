-- `of_parts` moves the two fields, and what the parts own the handle owns.
use Rattle.std.proofs.Common.{refl, List, [], ◌∷◌}
use mir.Val.{Val}
use base.Logic.{SProp, emp, id⊢}
use base.Fml.{ftrue, fsep}
use prog.Wp.{WpFn}
use types.Kit.{‵, raw, ◌⊛◌, ◌$◌, ◌∵◌, !, qed, move, drop, use1, join, split, fsplit, fjoin, suffices, done}
use types.Part.{whole, sub, agg}
use types.Run.{stop, fld, no_more, and_then, of_opd, returns, enter}
use types.ByLocal.{alloc_all, pass_all, free_all, look_at, get, get_in, sets}
use contract.Running.{tables}
use denote.Exit.{yes}
use denote.Signature.{Slot, type_at, plain}
use denote.Steps.{nothing}
use denote.Triple.Walked.{says, Stays, stay_dropped, walk_of, ends_at, Goes-dropped}
use Rattle.std.proofs.BoxSteps.Form.{D, B, word, box_typed}
use Rattle.std.proofs.BoxSteps.Steps.{box_out, box_in}
use Rattle.std.proofs.raw_atomic.Walks.{proved_at}
use Rattle.std.specs.Prelude.{Some}
use Rattle.std.specs.contracts.alloc.Global as Global
use Rattle.std.specs.contracts.impls.GlobalAllocator.TheImpl.{ghosts}
use Rattle.vx_ffi_plan.specs.contracts.shared.SharedPlan as SharedPlan
use Rattle.vx_ffi_plan.proofs.AsBox.{E, runs_at}
use Rattle.vx_ffi_plan.specs.contracts.handle.parts.Parts as Parts
use Rattle.vx_ffi_plan.specs.contracts.handle.PlanHandle.of_parts as f
use Rattle.vx_ffi_plan.proofs.handle.PlanHandle.of_parts.Statement.{statement}
use Rattle.vx_ffi_plan.proofs.handle.PlanHandle.of_parts.Code as code

abbrev From : Slot 0
From = plain (λ _. Parts.the_row SharedPlan.the_row Global.the_row ghosts)

abbrev stayed : Stays f.ended.signature.params f.ended.kept
stayed = (stay_dropped From yes, tt)

pub of_parts_spec : {M : Type 1} → statement M
of_parts_spec 𝓤 𝓛 𝓜 𝓡 wired =
    let 𝓣 = tables 𝓤 𝓛.H 𝓜 𝓡 𝓡.env in let c = f.clauses 𝓛 𝓜.mem 𝓡.returns in
    proved_at 𝓛 f.ended stayed c 𝓜 𝓡 (Goes-dropped 𝓛 0 From yes (λ κs x w. refl), tt)
    f.Key.name code.function (code.unfolded 𝓤 𝓛.H 𝓜 𝓡 wired) (λ z are.
    let v : D E = record { ptr = z.0.3.0.ptr; alloc = z.0.3.0.alloc; value = z.0.3.0.value } in
    let To = type_at f.signature.result tt in let made : To.Denot = record { at = v.ptr; alloc = v.alloc; plan = Some v.value } in
    let Post : Val → SProp 𝓤 = (walk_of 𝓛 f.ended stayed c).post z in let Run : List Val → SProp 𝓤 = λ us. WpFn 𝓤 𝓛.H 𝓣.C 𝓣.Λ code.function us Post in
    qed 𝓛 ((‵ ftrue ⊛ ‵ (fsep ((B E).own_val v z.0.4.0) ftrue)) ∷ raw (emp 𝓤) ∷ []) ∵ split ! $ drop ! $ fsplit ! $
    box_out E ! v z.0.4.0 (λ b o hv e ws fa. box_in E ! v b o v.value e refl $ let w = word E hv b o in
    use1 𝓛 (‵ (To.own_val made (w ∷ []))) (id⊢ 𝓤 _) $ move ! (1 ∷ 2 ∷ []) $ drop ! $ drop ! $
    -- [what the handle owns]
    suffices ! (Run (w ∷ [])) (runs_at 𝓤 Run ws) $ enter ! 𝓣.C 𝓣.Λ code.function (w ∷ []) Post $ alloc_all ! (λ l. pass_all ! refl (box_typed E hv b o fa, tt) $
    sets ! (of_opd ! (get_in ! (fld ! refl (stop !)) (sub ! 0 refl (whole !)))) refl (tt, tt) $ sets ! (of_opd ! (get_in ! (fld ! refl (stop !)) (sub ! 1 refl (whole !)))) refl fa $
    sets ! (of_opd ! (get ! refl)) refl (tt, tt) $ sets ! (agg ! (and_then ! (get ! refl) (and_then ! (get ! refl) (no_more !)))) refl (box_typed E hv b o fa) $
    returns ! (look_at ! 0 refl) $ free_all ! refl $
    suffices ! _ (ends_at 𝓛 f.ended stayed c z w made (tt, tt) (tt, tt)) $ says ! refl $
    nothing ! $ nothing ! $ fjoin ! $ join ! $ nothing ! $ join ! $ done !)))
