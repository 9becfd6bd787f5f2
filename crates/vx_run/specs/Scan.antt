-- What the row `scan` shows: conditions on two fields, over what a plan of them reads.
use Rattle.std.specs.Prelude.{ℕ, List, true, [], ◌∷◌, codes}
use Rattle.vx_value.specs.Columns.{batch}
use Rattle.vx_value.specs.Types.{LogicalType, ty, struct, no_field, field, Datum, null, utf8, struct_of, no_datum, datum}
use Rattle.vx_fn.specs.Functions.{get_item, and_also, compares, greater_or_equal, less}
use Rattle.vx_tree.specs.Examples.{i32, utf8_type, struct_type, row_of_two, number_of, one, col, lit_i32, operated}
use Rattle.vx_tree.specs.Trees.{Tree, call}
use Rattle.vx_run.specs.Samples.{Sample}

-- `{x=i32, y=i32}?`
abbrev pub pair_or_null : LogicalType
pair_or_null = ty (struct (field (codes "x") i32 (field (codes "y") i32 no_field))) true

-- `{a={x=i32, y=i32}?, b=i32, c=utf8}`
abbrev pub scanned_type : LogicalType
scanned_type = struct_type (field (codes "a") pair_or_null (field (codes "b") i32 (field (codes "c") utf8_type no_field)))

-- a row of it
abbrev pub scanned_row : Datum → Datum → List ℕ → Datum
scanned_row a b c = struct_of (datum a (datum b (datum (utf8 c) no_datum)))

-- the field x of the field a
abbrev pub x_of_a : Tree
x_of_a = call (get_item (codes "x")) (one (col (codes "a")))

-- `$.a.x >= 1 and $.b < 5` over the rows `{a: {x: 1, y: 7}, b: 4, c: "q"}` and `{a: null, b: 9, c: "r"}`
abbrev pub scan : Sample
scan = record {
  source = operated and_also (operated (compares greater_or_equal) x_of_a (lit_i32 1)) (operated (compares less) (col (codes "b")) (lit_i32 5));
  batch = batch scanned_type (scanned_row (row_of_two (number_of 1) (number_of 7)) (number_of 4) (codes "q") ∷ scanned_row null (number_of 9) (codes "r") ∷ []);
}
