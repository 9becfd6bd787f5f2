-- `into_option` compares the pointer with null: at null there is no plan, and elsewhere `from_raw` takes what the handle owns.
use Rattle.std.proofs.Common.{◌≡◌, refl, sym, ap, ◌∙◌, subst, List, [], ◌∷◌, lit<}
use lib.Dec.{T}
use mir.Raw.{raw as bare}
use mir.Val.{Val, vnull, vptr, vstruct, of_list, vcons, vnil, has_ty, WT}
use base.Fraction.{full_share}
use base.Logic.{SProp, emp, id⊢}
use base.Fml.{ftrue, fsep, flft}
use prog.Routine.{Env}
use prog.Wired.{Wired, node, end}
use prog.Wp.{WpFn}
use types.Kit.{Item, ‵, raw, ◌⊛◌, some, given, later, at_ret, ◌$◌, ◌∵◌, !, qed, move, drop, use0, use1, learn, join, split, split3, pick, rewrite, fsplit, fjoin, feq_i, suffices, await, done}
use types.Match.{live}
use types.Part.{whole, sub, agg}
use types.Run.{stop, fld, lit, bin, no_more, and_then, of_opd, first, blocks, branches, skips, exec, returns, returns_within, enter}
use types.ByLocal.{alloc_all, pass_all, free_all, look_at, get, get_in, sets, lands_last, env}
use types.Tokens.{lft_new}
use contract.BorrowLft.{◌⊑◌, ⊑_static}
use contract.Monad.{fact, fact_i}
use contract.Running.{tables}
use denote.Exit.{yes}
use denote.Param.{layout}
use denote.Param.NoDrop.{function, glues}
use denote.RawPtr.{block_ptr, Testable, tests_null}
use denote.Signature.{Slot, type_at, plain}
use denote.Steps.{heard, nothing, only}
use denote.Triple.Call.{calls_at_last}
use denote.Triple.Spec.{triple_of}
use denote.Triple.Table.{framed}
use denote.Triple.Walked.{says, Stays, stay_dropped, walk_of, ends_at, Goes-dropped}
use Rattle.std.proofs.alloc.Calls.{token}
use Rattle.std.proofs.boxed.Box.from_raw.Met.{met}
use Rattle.std.proofs.BoxSteps.Form.{D, τ, R, B, word, box_ty, box_typed}
use Rattle.std.proofs.BoxSteps.Steps.{box_out, box_in}
use Rattle.std.proofs.impls.GlobalAllocator.TheImpl.Met.{passed}
use Rattle.std.proofs.option.Made.{Some-of, none_of}
use Rattle.std.proofs.raw_atomic.Walks.{proved_at}
use Rattle.std.proofs.ResultValues.{and_tt}
use Rattle.std.proofs.VecSteps.Shapes.{after}
use Rattle.std.specs.Box.Ownership.{box_owns}
use Rattle.std.specs.Prelude.{None, Some}
use Rattle.std.specs.contracts.boxed.Box.from_raw as g
use Rattle.vx_ffi_plan.proofs.AsBox.{E, lets_go, runs_at, by_plan, tested}
use Rattle.vx_ffi_plan.proofs.Destruct++none.drop.Code as lets_go_code
use Rattle.vx_ffi_plan.specs.contracts.handle.PlanHandle as PlanHandle
use Rattle.vx_ffi_plan.specs.contracts.handle.PlanHandle.into_option as f
use Rattle.vx_ffi_plan.proofs.handle.PlanHandle.into_option.Statement.{statement}
use Rattle.vx_ffi_plan.proofs.handle.PlanHandle.into_option.Code as code

abbrev From : Slot 0
From = plain (λ _. PlanHandle.the_row)

abbrev stayed : Stays f.ended.signature.params f.ended.kept
stayed = (stay_dropped From yes, tt)

-- the method that lets the allocator go is that of every type which needs none
goes : (γ : Env) → Wired γ code.code → Wired γ (node (("vx_ffi_plan::Destruct++none::drop", function) ∷ []) [] end)
unfolding lets_go_code.code
goes γ w = code.calls-vx_ffi_plan::Destruct++none::drop γ w

pub into_option_spec : {M : Type 1} → statement M
into_option_spec {M} 𝓤 𝓛 𝓜 𝓡 wired =
    let H = 𝓛.H in let 𝓣 = tables 𝓤 H 𝓜 𝓡 𝓡.env in let c = f.clauses 𝓛 𝓜.mem 𝓡.returns in
    let k = triple_of 𝓛 (g.signature E.row E.al.row E.al.g E.al.d lets_go) (g.spec E.row E.al.row E.al.g E.al.d lets_go 𝓛 𝓜.mem 𝓡.returns) in
    let known = met 𝓤 𝓛 𝓜 𝓡 (code.calls-std_alloc::boxed::Box::from_raw 𝓡.env wired) E.row E.al.row E.laws E.al.laws E.al.g E.al.d lets_go
    (passed 𝓡.env (code.calls-std_heap::GlobalAllocator::allocate 𝓡.env wired) (code.calls-std_heap::GlobalAllocator::deallocate 𝓡.env wired) (code.calls-std_heap::GlobalAllocator::grow 𝓡.env wired) (code.calls-std_heap::GlobalAllocator::shrink 𝓡.env wired) M 𝓤 𝓛 𝓜 𝓡)
    (glues "vx_ffi_plan::Destruct++none::drop" 𝓡.env (goes 𝓡.env wired) E.al.row E.al.laws M 𝓤 𝓛 𝓜 𝓡) in
    proved_at 𝓛 f.ended stayed c 𝓜 𝓡 (Goes-dropped 𝓛 0 From yes (λ κs x f. refl), tt) f.Key.name code.function (code.unfolded 𝓤 H 𝓜 𝓡 wired) (λ z are.
    let h = z.0.3.0 in let Out = type_at f.signature.result tt in let a = h.alloc in
    let Post : Val → SProp 𝓤 = (walk_of 𝓛 f.ended stayed c).post z in let Run : List Val → SProp 𝓤 = λ ws. WpFn 𝓤 H 𝓣.C 𝓣.Λ code.function ws Post in
    qed 𝓛 ((‵ ftrue ⊛ ‵ (fsep (PlanHandle.the_row.own_val h z.0.4.0) ftrue)) ∷ raw (emp 𝓤) ∷ []) ∵ split ! $ drop ! $ fsplit ! $
    by_plan ! h.at h.alloc h.plan z.0.4.0
    (λ is hv ws fa. let w : Val = vstruct (of_list (vnull ∷ hv ∷ [])) in drop ! $ drop ! $ drop ! $
    suffices ! (Run (w ∷ [])) (runs_at 𝓤 Run ws) $
    enter ! 𝓣.C 𝓣.Λ code.function (w ∷ []) Post $ alloc_all ! (λ l. pass_all ! refl ((and_tt (has_ty (layout E.al.row) hv) fa.0, (record { fits = lit< tt }, (fa.1, tt))), tt) $
    sets ! (of_opd ! (get_in ! (fld ! refl (stop !)) (sub ! 0 refl (whole !)))) refl (tt, record { fits = lit< tt }) $ sets ! (of_opd ! (get_in ! (fld ! refl (stop !)) (sub ! 1 refl (whole !)))) refl fa $
    sets ! (of_opd ! (get ! refl)) refl (tt, record { fits = lit< tt }) $ sets ! (bin ! (get ! refl) (lit ! tt) tt) refl (tt, tt) $
    first ! $ branches ! (get ! refl)
    (λ _. sets ! (agg ! (and_then ! (lit ! tt) (no_more !))) refl (tt, (record { fits = lit< tt }, tt)) $ returns_within ! Post refl (look_at ! 0 refl) $ free_all ! refl $
    use0 𝓛 (‵ (Out.own_val None (live 0 vnil ∷ []))) (none_of 𝓛 (B E)) $
    suffices ! _ (ends_at 𝓛 f.ended stayed c z (live 0 vnil) None (tt, tt) (tt, tt)) $ says ! (sym is) $
    nothing ! $ nothing ! $ fjoin ! $ join ! $ nothing ! $ join ! $ done !)
    (λ wrong. absurd wrong)))
    (λ x is. let v : D E = record { ptr = h.at; alloc = a; value = x } in
    box_out E ! v z.0.4.0 (λ b o hv e ws fa. let w = word E hv b o in let p = block_ptr b o in
    move ! (1 ∷ []) $ use1 𝓛 (given (Testable p) (‵ (token E.al a (bare (τ E)) p))) (tested 𝓛 a p) $ learn ! (λ may.
    move ! (1 ∷ 0 ∷ []) $ fjoin ! $ use1 𝓛 (‵ (box_owns (token E.al a) (R E) p x)) (id⊢ 𝓤 _) $ move ! (2 ∷ 3 ∷ []) $ drop ! $ drop ! $
    -- [the plan with the right to free it; the allocator]
    suffices ! (Run (w ∷ [])) (runs_at 𝓤 Run ws) $
    enter ! 𝓣.C 𝓣.Λ code.function (w ∷ []) Post $ alloc_all ! (λ l. pass_all ! refl (box_typed E hv b o fa, tt) $ let Ev = env code.function.locals l in
    sets ! (of_opd ! (get_in ! (fld ! refl (stop !)) (sub ! 0 refl (whole !)))) refl (tt, tt) $ sets ! (of_opd ! (get_in ! (fld ! refl (stop !)) (sub ! 1 refl (whole !)))) refl fa $
    sets ! (of_opd ! (get ! refl)) refl (tt, tt) $ sets ! (bin ! (get ! refl) (lit ! tt) (tests_null p may)) refl (tt, tt) $
    first ! $ branches ! (get ! refl) (λ wrong. absurd wrong) (λ _. skips ! $ exec ! 𝓣.C 𝓣.Λ Ev (after 5 code.function.body) (at_ret Ev Post) $
    first ! $ blocks ! $ sets ! (of_opd ! (get ! refl)) refl fa $ sets ! (of_opd ! (get ! refl)) refl (tt, tt) $ sets ! (of_opd ! (get ! refl)) refl (tt, tt) $
    lft_new ! tt (λ α. lft_new ! tt (λ β.
    let y : k.Ghost = (((α ∷ [], (β ∷ [], tt)), (full_share, (full_share, tt)), tt, (a, (p, tt)), (hv ∷ [], (vptr b o ∷ [], tt))), x) in
    let ts : Item 𝓤 = ‵ (flft (α ∷ []) full_share) ⊛ ‵ (flft (β ∷ []) full_share) ⊛ ‵ ftrue in
    nothing ! $ move ! (1 ∷ 0 ∷ []) $ join ! $ move ! (1 ∷ 0 ∷ []) $ join ! $ move ! (1 ∷ []) $
    use0 𝓛 (raw (fact 𝓤 ((β ∷ []) ⊑ E.al.row.lives))) (fact_i 𝓤 ((β ∷ []) ⊑ E.al.row.lives) (emp 𝓤) (⊑_static (β ∷ []))) $ join ! $
    use0 𝓛 (raw (fact 𝓤 ((α ∷ []) ⊑ E.row.lives))) (fact_i 𝓤 ((α ∷ []) ⊑ E.row.lives) (emp 𝓤) (⊑_static (α ∷ []))) $ join ! $
    -- [what `from_raw` requires; the tokens; the allocator]
    nothing ! $ feq_i ! (List Val) (vptr b o ∷ []) (vptr b o ∷ []) refl $ fjoin ! $ move ! (3 ∷ 0 ∷ []) $ fjoin ! $ move ! (2 ∷ 0 ∷ []) $ join ! $ join ! $ use1 𝓛 (raw (k.pre y)) (id⊢ 𝓤 _) $
    calls_at_last ! (framed 𝓤 H 𝓜 𝓣) k known y (and_then ! (get ! refl) (and_then ! (get ! refl) (no_more !))) (λ u.
    use1 𝓛 (later (some (λ (r : D E). (ts ⊛ ‵ ((B E).own_val r (u ∷ []))) ⊛ some (λ (_ : Unit {0} × (Unit {0} × Unit {0})). ‵ (fsep ftrue (fsep ftrue ftrue)) ⊛ (raw (fact 𝓤 (r.value ≡ x)) ⊛ raw (fact 𝓤 (r.alloc ≡ a))))))) (id⊢ 𝓤 _) $
    await ! tt $ pick ! (λ r. split ! $ move ! (1 ∷ []) $ pick ! (λ _. split3 ! $ drop ! $ heard ! (r.value ≡ x) (λ same. drop ! $ split ! $ drop ! $
    box_out E ! r (u ∷ []) (λ b' o' hw e' wu fw. box_in E ! r b' o' r.value e' refl $ rewrite ! 0 (λ (us : List Val). ‵ ((B E).own_val r us)) (sym wu) refl $
    let typed : T (has_ty (box_ty E) u) × WT u = subst (λ (s : Val). T (has_ty (box_ty E) s) × WT s) (sym (ap only wu)) (box_typed E hw b' o' fw) in
    lands_last ! refl typed $ exec ! 𝓣.C 𝓣.Λ Ev (after 6 code.function.body) (at_ret Ev Post) $
    sets ! (of_opd ! (get ! refl)) refl typed $ sets ! (agg ! (and_then ! (lit ! tt) (and_then ! (get ! refl) (no_more !)))) refl (and_tt (has_ty (box_ty E) u) typed.0, (record { fits = lit< tt }, (typed.1, tt))) $
    returns ! (look_at ! 0 refl) $ free_all ! refl $ use1 𝓛 (‵ (Out.own_val (Some r) (live 1 (vcons u vnil) ∷ []))) (Some-of 𝓛 (B E) r u) $
    suffices ! _ (ends_at 𝓛 f.ended stayed c z (live 1 (vcons u vnil)) (Some r) (tt, tt) (tt, tt)) $ says ! (ap Some same ∙ sym is) $
    nothing ! $ nothing ! $ fjoin ! $ join ! $ nothing ! $ join ! $ done !)))))))))))))
