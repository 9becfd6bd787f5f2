use Rattle.std.proofs.Common.{drop}
use Rattle.vx_value.specs.Views.{data_view, fields_of, fields_view, names_of, type_of}
use Rattle.vx_source_types.specs.Untyped.{typed_items, typed_row}
use Rattle.vx_source_types.proofs.Typing.{IsMade}
use Rattle.vx_source_types.proofs.typed_value.+typed.Given as goal

abbrev pub invariant-type_items-loop-i : goal.invariant-type_items-loop-i
invariant-type_items-loop-i l = record {
  left : goal.unvisited-type_items-loop-i l;
  made : IsMade (typed_items (data_view l.fn.items) (type_of l.t)) l.items l.i (typed_items (data_view (drop l.i l.items)) (type_of l.t));
}

abbrev pub invariant-type_row-loop-i : goal.invariant-type_row-loop-i
invariant-type_row-loop-i l = record {
  left : goal.unvisited-type_row-loop-i l;
  made : IsMade (typed_row (data_view l.fn.items) (fields_of l.fields)) l.items l.i (typed_row (data_view (drop l.i l.items)) (fields_view (drop l.i (names_of l.fields)) (drop l.i l.types)));
}
