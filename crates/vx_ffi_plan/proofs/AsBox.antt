-- A handle of a plan, and its parts, own what a box of the plan owns.
--     E, lets_go      a box of a plan, as its type is passed at a call, and the method that lets its allocator go
--     runs_at         a function is walked at the machine value that its parameter is
--     by_plan         a handle is null and of no plan, or owns what a box of its plan does
--     tested          who may free a block may compare its pointer with null
use mathlib.Core.Path.{◌≡◌, refl, sym, subst}
use mathlib.Core.List.{List, [], ◌∷◌, ◌++◌}
use seplogic.Ra.Ura.{Ura}
use mir.Raw.{raw as bare}
use mir.Syntax.{Dict, impl, tcons, tnil, dnil}
use mir.Val.{Val, vnull, vstruct, of_list}
use base.Logic.{SProp, ent, guard, guard_i, id⊢}
use types.Logic.{Logic, sem}
use types.Kit.{Item, Goal, Seq, ‵, ◌$◌, move, drop, fsplit, fpick, feq_l}
use contract.Monad.{fact_use}
use denote.Exit.{no}
use denote.Param.{layout, arg}
use denote.Param.Laws.{arg_laws}
use denote.RattleType.{RattleType}
use denote.RawPtr.{Ptr, ptr_val, Testable}
use Rattle.std.proofs.alloc.Calls.{token, Fits, handle_tells}
use Rattle.std.proofs.alloc.Global.TheLaws as memory
use Rattle.std.proofs.BoxSteps.Form.{Bx, τ, B, handle}
use Rattle.std.proofs.GlobalToken.{dealloc_token-Testable}
use Rattle.std.specs.Prelude.{Option, None, Some}
use Rattle.std.specs.contracts.alloc.Global as Global
use Rattle.std.specs.contracts.impls.GlobalAllocator.TheImpl.{ghosts, dict}
use Rattle.vx_ffi_plan.proofs.shared.SharedPlan.TheLaws as shared_plan
use Rattle.vx_ffi_plan.specs.contracts.shared.SharedPlan as SharedPlan
use Rattle.vx_ffi_plan.specs.contracts.handle.PlanHandle as PlanHandle

-- a type as it is passed to a function with type parameters
abbrev passed : RattleType → RattleType
passed R = arg (bare (layout R)) no R

abbrev pub lets_go : Dict
lets_go = impl ("vx_ffi_plan::Destruct++none::drop" ∷ []) (tcons (layout (passed Global.the_row)) tnil) dnil

abbrev pub E : Bx
E = record {
  row = passed SharedPlan.the_row;
  laws = arg_laws (bare (layout SharedPlan.the_row)) no SharedPlan.the_row shared_plan.the_row_laws refl;
  al = record {
    row = passed Global.the_row;
    laws = arg_laws (bare (layout Global.the_row)) no Global.the_row memory.the_row_laws refl;
    g = ghosts;
    d = dict;
    drops = lets_go;
  };
}

module _ {M : Type 1} (𝓤 : Ura M) where
  pub runs_at : (Run : List Val → SProp 𝓤) {us : List Val} {w : Val} → us ≡ w ∷ [] → ent 𝓤 (Run (w ∷ [])) (Run (us ++ []))
  runs_at Run {us} {w} e = subst (λ (vs : List Val). ent 𝓤 (Run (w ∷ [])) (Run (vs ++ []))) (sym e) (id⊢ 𝓤 (Run (w ∷ [])))

module _ {M : Type 1} {𝓤 : Ura M} (𝓛 : Logic 𝓤) (a : E.al.row.Denot) (p : Ptr) where
  abbrev may_free : SProp 𝓤
  may_free = sem 𝓛 (token E.al a (bare (τ E)) p)

  pub tested : ent 𝓤 may_free (guard 𝓤 (Testable p) may_free)
  tested = fact_use 𝓤 (Testable p) (dealloc_token-Testable 𝓛 a (bare (τ E)) p) (guard_i 𝓤 (Testable p) may_free)

module _ {M : Type 1} {𝓤 : Ura M} {𝓛 : Logic 𝓤} {K : Type 0} {Γ : List (Item 𝓤)} {G : Goal 𝓤 𝓛.H} where
  pub by_plan : K → (p : Ptr) (a : E.al.row.Denot) (plan : Option E.row.Denot) (vs : List Val)
      → (plan ≡ None → (hv : Val) → vs ≡ vstruct (of_list (vnull ∷ hv ∷ [])) ∷ [] → Fits E.al hv → Seq K 𝓛 (‵ (handle E a hv) ∷ Γ) G)
      → ((x : E.row.Denot) → plan ≡ Some x → Seq K 𝓛 (‵ ((B E).own_val (record { ptr = p; alloc = a; value = x }) vs) ∷ Γ) G)
      → Seq K 𝓛 (‵ (PlanHandle.the_row.own_val (record { at = p; alloc = a; plan = plan }) vs) ∷ Γ) G
  by_plan t p a (Some x) vs none some = some x refl
  by_plan t p a None vs none some =
      fsplit t $ fpick t (λ vss. fsplit t $ feq_l t (λ ev. fsplit t $ feq_l t (λ ep. fsplit t $ handle_tells E.al t a vss.1.0 (λ hv ea fa. move t (1 ∷ []) $ drop t $ move t (1 ∷ []) $
      feq_l t (λ null. none refl hv
      (subst (λ (q : Ptr). vs ≡ vstruct (of_list (ptr_val q ∷ hv ∷ [])) ∷ []) null
      (subst (λ (ws : List Val). vs ≡ vstruct (of_list (ptr_val p ∷ (ws ++ []))) ∷ []) ea
      (subst (λ (ps : List Val). vs ≡ vstruct (of_list (ps ++ (vss.1.0 ++ []))) ∷ []) ep ev))) fa)))))
