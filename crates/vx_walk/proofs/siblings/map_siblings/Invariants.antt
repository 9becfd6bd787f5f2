use Rattle.std.proofs.Common.{◌≡◌, ◌≤◌, length, drop, map}
use Rattle.std.specs.Vec.{vec_len, vec_capacity}
use Rattle.vx_walk.specs.Mapping.{AtOwned}
use Rattle.vx_walk.proofs.Rows.{RowFront}
use Rattle.vx_walk.proofs.siblings.map_siblings.Given as goal

abbrev pub invariant-loop-sibling : goal.invariant-loop-sibling
invariant-loop-sibling g l = record {
  ready : g.V.ElementMapper.ready l.mapper;
  len : vec_len l.mapped.handed_back ≡ l.sibling-index;
  room : length l.siblings ≤ vec_capacity l.mapped.handed_back;
  front : RowFront g.N.Node.mirror (AtOwned g.N.Node.mirror g.V.ElementMapper.gives)
      (map g.N.Node.mirror l.siblings) (map g.N.Node.mirror (drop l.sibling-index l.siblings)) l.initial.mapper l.mapper l.mapped.handed_back.items l.mapped.order l.mapped.changed;
}
