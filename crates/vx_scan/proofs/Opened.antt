-- What a plan knows of its split.
use Rattle.std.specs.Prelude.{◌≡◌, Option, Some}
use Rattle.std.specs.Coded.{Coded-set, coded_ℕ, coded_option}
use Rattle.std.proofs.Common.{subst}
use mathlib.Core.Logic.{∥∥₁_elim}
use Rattle.vx_dtype.specs.Codes.{type_code}
use Rattle.vx_value.specs.Codes.{datum_code}
use Rattle.vx_value.specs.Types.{LogicalType, Datum}
use Rattle.vx_tree.specs.Trees.{BoundTree, BoundTrees, node_type}
use Rattle.vx_dtype.specs.declared.error.VortexError.{VortexError}
use Rattle.vx_partition_laws.specs.Recombining.{Recombines, NoOtherFault}
use Rattle.vx_query_split.specs.Division.{Parts, IsSplitOf, divided}
use Rattle.vx_query_split.proofs.Divided.{Sound, sound}
use Rattle.vx_scan.specs.Propositions.{refusal_code, well_typed-prop, each_well_typed-prop, over-prop, each_over-prop}

datum-set : IsSet Datum
datum-set = Coded-set datum_code

faults-set : IsSet (Option VortexError)
faults-set = Coded-set (coded_option refusal_code)

recombines-prop : (parts : BoundTrees) (root b : BoundTree) → IsProp (Recombines parts root b)
recombines-prop parts root b = hlevel (each_over-prop, faults-set, datum-set)

other_fault-prop : (parts : BoundTrees) (root b : BoundTree) → IsProp (NoOtherFault parts root b)
other_fault-prop parts root b = hlevel faults-set

sound-prop : (u : BoundTree) (p : Parts) → IsProp (Sound u p)
sound-prop u p = hlevel (Coded-set coded_ℕ, well_typed-prop, each_well_typed-prop, over-prop, recombines-prop, other_fault-prop)

-- its parts may be evaluated, and recombine the tree
pub sound_of : {s : LogicalType} {u : BoundTree} {split : Option Parts} → ∥ IsSplitOf s u split ∥₁ → (p : Parts) → split ≡ Some p → Sound u p
sound_of {s = s} {u = u} is p e = ∥∥₁_elim is (sound-prop u p) (λ split. sound (subst (IsSplitOf s u) e split))

root_typed : {s : LogicalType} {u : BoundTree} {p : Parts} → IsSplitOf s u (Some p) → node_type p.root ≡ node_type u
root_typed (divided h cov count split) = split.partitioned.same_type

-- its root has the tree's type
pub root_type_of : {s : LogicalType} {u : BoundTree} {split : Option Parts} → ∥ IsSplitOf s u split ∥₁ → (p : Parts) → split ≡ Some p → node_type p.root ≡ node_type u
root_type_of {s = s} {u = u} is p e = ∥∥₁_elim is (Coded-set type_code (node_type p.root) (node_type u)) (λ split. root_typed (subst (IsSplitOf s u) e split))
