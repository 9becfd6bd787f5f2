-- Partitions are well typed, over a scope and without a fault where their pieces are.
use Rattle.std.proofs.Common.{◌≡◌, ℕ, suc, ◌+◌, false, List, [], ◌∷◌, length, None, refl, ap}
use Rattle.std.proofs.lemmas.Bool.{eq-eqb}
use Rattle.vx_value.specs.Types.{LogicalType, Datum}
use Rattle.vx_fn.specs.Rows.{of_pack}
use Rattle.vx_tree.specs.Faults.{HasNoFault, first_fault, each_fault}
use Rattle.vx_tree.specs.Trees.{BoundTree, node_types, WellTyped, EachWellTyped, Over, EachOver}
use Rattle.vx_tree.specs.Views.{bounds_from}
use Rattle.vx_fn.proofs.Rows.{fn_type-only}
use Rattle.vx_tree.proofs.Trees.{or_none}
use Rattle.vx_partition_laws.specs.Pieces.{Group}
use Rattle.vx_partition_laws.specs.Partitions.{piece_names, partition, partitions}
use Rattle.vx_partition_laws.proofs.EachPiece.{EachOf, EachGrouped}

-- ---- the same of whole lists

bounds_typed : (bs : List BoundTree) → EachOf WellTyped bs → EachWellTyped (bounds_from bs)
bounds_typed [] p = tt
bounds_typed (b ∷ bs) p = (p.0, bounds_typed bs p.1)

bounds_over : (s : LogicalType) (bs : List BoundTree) → EachOf (λ b. Over b s) bs → EachOver (bounds_from bs) s
bounds_over s [] p = tt
bounds_over s (b ∷ bs) p = (p.0, bounds_over s bs p.1)

bounds_quiet : (batch : List Datum) (bs : List BoundTree) → EachOf (λ b. HasNoFault b batch) bs → each_fault (bounds_from bs) batch ≡ None
bounds_quiet batch [] p = refl
bounds_quiet batch (b ∷ bs) p = let x : first_fault b batch ≡ None = p.0 in rw (x, bounds_quiet batch bs p.1) refl

quiet_bounds : (batch : List Datum) (bs : List BoundTree) → each_fault (bounds_from bs) batch ≡ None → EachOf (λ b. HasNoFault b batch) bs
quiet_bounds batch [] n = tt
quiet_bounds batch (b ∷ bs) n = let q = or_none _ _ n in (q.0, quiet_bounds batch bs q.1)

types_length : (t : List ℕ) (i : ℕ) (bs : List BoundTree) → length (node_types (bounds_from bs)) ≡ length (piece_names t i bs)
types_length t i [] = refl
types_length t i (b ∷ bs) = ap suc (types_length t (i + 1) bs)

module _ {A : Type 0} (text : A → List ℕ) where
  partition_typed : (g : Group A) → EachOf WellTyped g.1 → WellTyped (partition text g)
  partition_typed g p = (fn_type-only (of_pack {names = piece_names (text g.0) 0 g.1} {n = false} (eq-eqb _ _ (types_length (text g.0) 0 g.1))), tt, bounds_typed g.1 p)

  pub all_typed : (gs : List (Group A)) → EachGrouped WellTyped gs → EachWellTyped (partitions text gs)
  all_typed [] p = tt
  all_typed (g ∷ gs) p = (partition_typed g p.0, all_typed gs p.1)

  pub all_over : (s : LogicalType) (gs : List (Group A)) → EachGrouped (λ b. Over b s) gs → EachOver (partitions text gs) s
  all_over s [] p = tt
  all_over s (g ∷ gs) p = (bounds_over s g.1 p.0, all_over s gs p.1)

  pub all_quiet : (batch : List Datum) (gs : List (Group A)) → EachGrouped (λ b. HasNoFault b batch) gs → each_fault (partitions text gs) batch ≡ None
  all_quiet batch [] p = refl
  all_quiet batch (g ∷ gs) p = rw (bounds_quiet batch g.1 p.0, all_quiet batch gs p.1) refl

  pub quiet_all : (batch : List Datum) (gs : List (Group A)) → each_fault (partitions text gs) batch ≡ None → EachGrouped (λ b. HasNoFault b batch) gs
  quiet_all batch [] n = tt
  quiet_all batch (g ∷ gs) n = let q = or_none _ _ n in let r = or_none _ _ q.0 in (quiet_bounds batch g.1 r.0, quiet_all batch gs q.1)
