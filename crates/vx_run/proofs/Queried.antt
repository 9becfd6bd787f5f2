-- What queries that aren't split give.
use Rattle.std.specs.Prelude.{◌≡◌, List, [], ◌∷◌, false, Result, Ok, Err, IfErr}
use Rattle.std.proofs.Common.{refl, sym, ◌∙◌, subst, inl}
use Rattle.vx_dtype.specs.Returns.{ReturnsOrOom}
use Rattle.vx_dtype.specs.declared.error.VortexError.{VortexError}
use Rattle.vx_dtype.specs.declared.error.VortexError.TheVariants.{OutOfMemory}
use Rattle.vx_value.specs.Columns.{Batch}
use Rattle.vx_tree.specs.Binding.{binding}
use Rattle.vx_tree.specs.Faults.{HasNoFault}
use Rattle.vx_tree.specs.Trees.{Tree, BoundTree, Over}
use Rattle.vx_eval.specs.Evaluation.{evaluation}
use Rattle.vx_rewrite.specs.Passes.{Passed}
use Rattle.vx_rewrite.specs.declared.passes.Pass.{Pass}
use Rattle.vx_rewrite.specs.declared.passes.Pass.TheVariants.{FindBetween, Branches}
use Rattle.vx_query_split.specs.Sources.{IsBound, IsMeantBy}
use Rattle.vx_query.specs.Queries.{Runs, no_memory, whole, uncovered, parted, RunsPassed, not_passed, passed}
use Rattle.vx_run.specs.Branches.{branches, never_then_zero}
use Rattle.vx_run.specs.Fused.{fused}
use Rattle.vx_run.specs.Kleene.{kleene}
use Rattle.vx_run.specs.Quiet.{IsQuiet}
use Rattle.vx_run.proofs.Quiet.{never_faults}
use Rattle.vx_run.proofs.Branching.{one_form, unfilled, unfilled_typed, unfilled_over, filled}
use Rattle.vx_run.proofs.Fusing.{fused_is_kleene_merged, unfused, unfused_typed, unfused_over, range}

-- the tree is evaluated whole
whole_runs : (u : BoundTree) (c : Batch) (r : Result Batch VortexError) → Runs false u c r → ReturnsOrOom (λ x. x) r (evaluation u c)
whole_runs u c r (no_memory e) = rw e (inl refl)
whole_runs u c r (whole s a) = a
whole_runs u c r (uncovered s n a) = a
whole_runs u c r (parted s v i a) = cc

-- passes that lead to one tree alone give what that tree gives
one_tree : (passes : List Pass) (b u : BoundTree) (c : Batch) (r : Result Batch VortexError) → ((w : BoundTree) → Passed passes b w → w ≡ u) → RunsPassed passes false b c r → ReturnsOrOom (λ x. x) r (evaluation u c)
one_tree passes b u c r alone (not_passed e) = rw e (inl refl)
one_tree passes b u c r alone (passed {u = w} p run) = subst (λ t. ReturnsOrOom (λ x. x) r (evaluation t c)) (alone w p) (whole_runs w c r run)

-- without a pass it is the source, bound
pub unpassed : (b : BoundTree) (c : Batch) (r : Result Batch VortexError) → RunsPassed [] false b c r → ReturnsOrOom (λ x. x) r (evaluation b c)
unpassed b c r runs = one_tree [] b b c r (λ w p. p) runs

memory_alone : (e : Tree) (c : Batch) (r : Result Batch VortexError) → IsMeantBy e c r → IfErr r (λ y. y ≡ OutOfMemory)
memory_alone e c (Ok x) m = tt
memory_alone e c (Err y) m = m

-- one that never faults is refused for memory alone
pub quiet_query : (e : Tree) (c : Batch) (r : Result Batch VortexError) (b : BoundTree) → IsQuiet e → IsBound e c.type b → (HasNoFault b c.rows → IsMeantBy e c r) → IfErr r (λ y. y ≡ OutOfMemory)
quiet_query e c r b quiet is means = memory_alone e c r (means (never_faults b c.rows (subst IsQuiet (sym is.source) quiet)))

-- ---- of the rows that show what a pass leaves

the_range : (u : BoundTree) → binding fused.source fused.batch.type ≡ Ok u → range ≡ u
the_range u e = cc

fused_alone : (u w : BoundTree) → binding fused.source fused.batch.type ≡ Ok u → Passed (FindBetween ∷ []) unfused w → w ≡ u
fused_alone u w f p = p.2 ∙ sym (the_range p.0 (fused_is_kleene_merged unfused p.0 p.1.count refl p.1.merges p.1.fused)) ∙ the_range u f

-- of `kleene` by `find_between` it is the tree of `fused`
pub fused_query : (e : Tree) (c : Batch) (r : Result Batch VortexError) → kleene.source ≡ e → c.type ≡ fused.batch.type → (IsBound e c.type unfused → RunsPassed (FindBetween ∷ []) false unfused c r)
    → (u : BoundTree) → binding fused.source fused.batch.type ≡ Ok u → ReturnsOrOom (λ x. x) r (evaluation u c)
fused_query e c r is over runs u f =
    one_tree (FindBetween ∷ []) unfused u c r (λ w p. fused_alone u w f p) (runs (record { source = is; well_typed = unfused_typed; over = subst (Over unfused) (sym over) unfused_over }))

the_fill : (u : BoundTree) → binding branches.source branches.batch.type ≡ Ok u → filled ≡ u
the_fill u e = cc

filled_alone : (u w : BoundTree) → binding branches.source branches.batch.type ≡ Ok u → Passed (Branches ∷ []) unfilled w → w ≡ u
filled_alone u w f p = p.2 ∙ sym (one_form p.0 p.1.count p.1.steps p.1.normal) ∙ the_fill u f

-- of its CASE by the branch rules it is the tree of `branches`
pub branches_query : (e : Tree) (c : Batch) (r : Result Batch VortexError) → never_then_zero ≡ e → c.type ≡ branches.batch.type → (IsBound e c.type unfilled → RunsPassed (Branches ∷ []) false unfilled c r)
    → (u : BoundTree) → binding branches.source branches.batch.type ≡ Ok u → ReturnsOrOom (λ x. x) r (evaluation u c)
branches_query e c r is over runs u f =
    one_tree (Branches ∷ []) unfilled u c r (λ w p. filled_alone u w f p) (runs (record { source = is; well_typed = unfilled_typed; over = subst (Over unfilled) (sym over) unfilled_over }))
