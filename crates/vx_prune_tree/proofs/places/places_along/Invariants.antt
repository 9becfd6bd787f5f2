use Rattle.std.proofs.Common.{◌≡◌, drop}
use Rattle.vx_value.specs.Paths.{path_of}
use Rattle.vx_value.specs.Types.{Datum}
use Rattle.vx_value.specs.Views.{type_of}
use Rattle.vx_projection.specs.Lost.{lost}
use Rattle.vx_prune_tree.specs.Stats.{at_path}
use Rattle.vx_prune_tree.specs.Lent.{at_places}
use Rattle.vx_prune_tree.proofs.places.places_along.Given as goal

abbrev pub invariant-loop-part : goal.invariant-loop-part
invariant-loop-part l = record {
  leads : lost (path_of (drop l.part-index l.path)) (type_of l.inside) ≡ lost (path_of l.path) (type_of l.dtype);
  found : (v : Datum) → at_path (type_of l.inside) (path_of (drop l.part-index l.path)) (at_places l.places.items v) ≡ at_path (type_of l.dtype) (path_of l.path) v;
}
