-- `none` makes a handle with a null pointer, which owns no more than its allocator.
use Rattle.std.proofs.Common.{refl, List, [], ◌∷◌, lit<}
use mir.Val.{Val, vnull, vstruct, of_list, has_ty}
use base.Logic.{SProp, emp, id⊢}
use base.Fml.{ftrue, fsep}
use prog.Wp.{WpFn}
use types.Kit.{‵, raw, ◌⊛◌, ◌$◌, ◌∵◌, !, qed, move, drop, use1, join, split, fsplit, fjoin, fpack, feq_i, suffices, done}
use types.Part.{agg}
use types.Run.{lit, no_more, and_then, returns, enter}
use types.ByLocal.{alloc_all, pass_all, free_all, look_at, get, sets}
use contract.Running.{tables}
use denote.Exit.{yes}
use denote.Param.{layout}
use denote.RattleType.{Valss}
use denote.RawPtr.{Ptr, RawPtr, null_ptr}
use denote.Signature.{type_at, plain}
use denote.Steps.{nothing}
use denote.Struct.Owning.{shape, to}
use denote.Struct.Struct.{within}
use denote.Triple.Walked.{says, Stays, stay_dropped, walk_of, ends_at, Goes-dropped}
use Rattle.std.proofs.alloc.Calls.{handle_tells}
use Rattle.std.proofs.raw_atomic.Walks.{proved_at}
use Rattle.std.proofs.ResultValues.{and_tt}
use Rattle.std.specs.Prelude.{None}
use Rattle.std.specs.contracts.alloc.Global as Global
use Rattle.vx_ffi_plan.proofs.AsBox.{E, runs_at}
use Rattle.vx_ffi_plan.specs.contracts.handle.PlanHandle as PlanHandle
use Rattle.vx_ffi_plan.specs.contracts.handle.PlanHandle.none as f
use Rattle.vx_ffi_plan.proofs.handle.PlanHandle.none.Statement.{statement}
use Rattle.vx_ffi_plan.proofs.handle.PlanHandle.none.Code as code

abbrev stayed : Stays f.ended.signature.params f.ended.kept
stayed = (stay_dropped (plain (λ _. Global.the_row)) yes, tt)

pub none_spec : {M : Type 1} → statement M
none_spec 𝓤 𝓛 𝓜 𝓡 wired =
    let 𝓣 = tables 𝓤 𝓛.H 𝓜 𝓡 𝓡.env in let c = f.clauses 𝓛 𝓜.mem 𝓡.returns in
    proved_at 𝓛 f.ended stayed c 𝓜 𝓡 (Goes-dropped 𝓛 0 (plain (λ _. Global.the_row)) yes (λ κs x w. refl), tt)
    f.Key.name code.function (code.unfolded 𝓤 𝓛.H 𝓜 𝓡 wired) (λ z are.
    let a = z.0.3.0 in let To = type_at f.signature.result tt in let made : To.Denot = record { at = null_ptr; alloc = a; plan = None } in
    let Post : Val → SProp 𝓤 = (walk_of 𝓛 f.ended stayed c).post z in let Run : List Val → SProp 𝓤 = λ us. WpFn 𝓤 𝓛.H 𝓣.C 𝓣.Λ code.function us Post in
    qed 𝓛 ((‵ ftrue ⊛ ‵ (fsep (E.al.row.own_val a z.0.4.0) ftrue)) ∷ raw (emp 𝓤) ∷ []) ∵ split ! $ drop ! $ fsplit ! $
    handle_tells E.al ! a z.0.4.0 (λ hv eh fa. move ! (1 ∷ 2 ∷ []) $ drop ! $ drop ! $ let w : Val = vstruct (of_list (vnull ∷ hv ∷ [])) in
    suffices ! (Run (hv ∷ [])) (runs_at 𝓤 Run eh) $ enter ! 𝓣.C 𝓣.Λ code.function (hv ∷ []) Post $ alloc_all ! (λ l. pass_all ! refl (fa, tt) $
    sets ! (agg ! (and_then ! (lit ! tt) (and_then ! (get ! refl) (no_more !)))) refl (and_tt (has_ty (layout E.al.row) hv) fa.0, (record { fits = lit< tt }, (fa.1, tt))) $
    returns ! (look_at ! 0 refl) $ free_all ! refl $
    -- [what the allocator owns]
    nothing ! $ move ! (1 ∷ []) $ fjoin ! $ feq_i ! (List Val) (vnull ∷ []) (vnull ∷ []) refl $ fjoin ! $ feq_i ! (List Val) (w ∷ []) (w ∷ []) refl $ fjoin ! $
    fpack ! (Valss (RawPtr ∷ E.al.row ∷ [])) (within (shape PlanHandle.the_type) (to PlanHandle.the_type made) (w ∷ [])) (vnull ∷ [], (hv ∷ [], tt)) $
    feq_i ! Ptr null_ptr null_ptr refl $ move ! (1 ∷ []) $ fjoin ! $ use1 𝓛 (‵ (To.own_val made (w ∷ []))) (id⊢ 𝓤 _) $
    suffices ! _ (ends_at 𝓛 f.ended stayed c z w made (tt, tt) (tt, tt)) $ says ! refl $
    nothing ! $ nothing ! $ fjoin ! $ join ! $ nothing ! $ join ! $ done !)))
