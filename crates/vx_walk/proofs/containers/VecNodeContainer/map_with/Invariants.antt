use Rattle.std.proofs.Common.{◌+◌, ◌≤◌, length}
use Rattle.std.specs.Vec.{vec_len, vec_capacity}
use Rattle.vx_walk.specs.Shapes.{parts}
use Rattle.vx_walk.proofs.Mappings.{MapFront}
use Rattle.vx_walk.proofs.containers.VecNodeContainer.map_with.Given as goal

abbrev pub invariant-loop-container : goal.invariant-loop-container
invariant-loop-container g l = record {
  ready : g.V.ElementMapper.ready l.mapper;
  room : vec_len l.values + length l.container-iterator.rest.items ≤ vec_capacity l.values;
  front : MapFront g.C.NodeContainer.mirror g.V.ElementMapper.gives g.C.NodeContainer.shape (parts g.C.NodeContainer.shape l.fn.self.items) (parts g.C.NodeContainer.shape l.container-iterator.rest.items) l.initial.mapper l.mapper l.values.items l.order l.changed;
}
