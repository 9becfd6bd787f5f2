-- Partitions that keep the old ones.
use Rattle.std.proofs.Common.{◌≡◌, ◌⊎◌, inl, inr, suc, List, [], ◌∷◌, length, Ok, Err, refl, sym, ap, ◌∙◌}
use Rattle.vx_dtype.specs.declared.error.VortexError.{VortexError}
use Rattle.vx_dtype.specs.declared.error.VortexError.TheVariants.{OutOfMemory}
use Rattle.vx_value.specs.Types.{Name, LogicalType}
use Rattle.vx_fn.specs.Functions.{Typing}
use Rattle.vx_rewrite_core.specs.Keeps.{KeepsEach, keeps_more}
use Rattle.vx_tree.specs.declared.bound.BoundExpression.{BoundExpression}
use Rattle.vx_tree.specs.Trees.{BoundTree, BoundTrees, no_bound, bound, unbound, typed, WellTyped, Over}
use Rattle.vx_tree.specs.Views.{bounds_of}
use Rattle.vx_partition_laws.specs.Items.{struct_type}
use Rattle.vx_partition_laws.proofs.Rebound.{replaced_typed, replaced_recombine, rebound_type}
use Rattle.vx_partition.specs.Partitioned.{IsBoundAgain, StillRecombines}

-- there are as many
pub kept_count : (old new : List BoundExpression) → KeepsEach (bounds_of old) (bounds_of new) → length new ≡ length old
kept_count [] [] ks = refl
kept_count [] (y ∷ new) ks = absurd (none_kept ks)
  where
    none_kept : {b : BoundTree} {bs : BoundTrees} → KeepsEach no_bound (bound b bs) → ⊥
    none_kept ks = elim ks [ ]
kept_count (x ∷ old) [] ks = absurd (some_kept ks)
  where
    some_kept : {b : BoundTree} {bs : BoundTrees} → KeepsEach (bound b bs) no_bound → ⊥
    some_kept ks = elim ks [ ]
kept_count (x ∷ old) (y ∷ new) (keeps_more k ks) = ap suc (kept_count old new ks)

no_refusal : (t : LogicalType) (answer : Typing) (e : VortexError) → answer ≡ Ok t → answer ≡ Err e → ⊥
no_refusal t answer e p q = cc

-- binding the root over them is refused for memory alone
pub memory_alone : (names : List Name) (old new : BoundTrees) (root : BoundTree) (s : LogicalType) (e : VortexError) → KeepsEach old new → WellTyped root → Over root (struct_type names old)
    → s ≡ struct_type names new → (e ≡ OutOfMemory) ⊎ (typed (unbound root) s ≡ Err e) → e ≡ OutOfMemory
memory_alone names old new r s e ks w o is (inl m) = m
memory_alone names old new r s e ks w o is (inr q) =
    let known = replaced_typed names old new r ks w o in
    absurd (no_refusal known.0 (typed (unbound r) (struct_type names new)) e known.1 (ap (typed (unbound r)) (sym is) ∙ q))

-- and what is bound recombines
pub still : (names : List Name) (old new : BoundTrees) (root again : BoundTree) → KeepsEach old new → WellTyped root → Over root (struct_type names old)
    → IsBoundAgain root (struct_type names new) again → StillRecombines old new root again
still names old new r u ks w o b = record {
  type = rebound_type names old new r u ks w o b.source b.well_typed b.over;
  recombines = λ t rec. (replaced_recombine names old new r u t ks w o rec b.source b.well_typed b.over).1;
}
