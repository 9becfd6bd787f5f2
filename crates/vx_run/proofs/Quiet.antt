-- A tree of functions that never fault faults nowhere.
use Rattle.std.proofs.Common.{◌≡◌, List, map, refl, None, IsTrue}
use Rattle.vx_value.specs.Types.{LogicalType, Datum}
use Rattle.vx_fn.specs.Faults.{node_fault}
use Rattle.vx_fn.specs.Functions.{Function, binary, computes, cast, fill_null}
use Rattle.vx_tree.specs.Faults.{each_fault, HasNoFault}
use Rattle.vx_tree.specs.Meaning.{values}
use Rattle.vx_tree.specs.Trees.{BoundTree, scope, node, BoundTrees, no_bound, bound, node_types, unbound, unbound_each}
use Rattle.vx_run.specs.Quiet.{is_quiet, IsQuiet, EachQuiet}

node_quiet : (f : Function) (ts : List LogicalType) (rows : List (List Datum)) → IsTrue (is_quiet f) → node_fault f ts rows ≡ None
node_quiet (binary (computes a)) ts rows e = cc
node_quiet (cast t) ts rows e = cc
node_quiet fill_null ts rows e = cc
node_quiet _ ts rows e = refl

mutual
  pub never_faults : (b : BoundTree) (rows : List Datum) → IsQuiet (unbound b) → HasNoFault b rows
  never_faults (scope t) rows e = refl
  never_faults (node t f bs) rows e = rw (quiet_each bs rows e.1) (node_quiet f (node_types bs) (map (values bs) rows) e.0)

  quiet_each : (bs : BoundTrees) (rows : List Datum) → EachQuiet (unbound_each bs) → each_fault bs rows ≡ None
  quiet_each no_bound rows e = refl
  quiet_each (bound b bs) rows e = rw (never_faults b rows e.0, quiet_each bs rows e.1)
