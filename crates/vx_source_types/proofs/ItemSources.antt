-- Values as source text: one value after another, and source text as a notation.
use Rattle.std.proofs.Common.{◌≡◌, ◌++◌, true, false, codes, refl, ap}
use Rattle.vx_value.specs.Notations.{value_in, items_in, row_in}
use Rattle.vx_value.specs.Texts.{with_commas}
use Rattle.vx_value.specs.Types.{LogicalType, ty, list, fixed, struct, Fields, field, Datum, bool, list_of, struct_of, Data, no_datum, datum}
use Rattle.vx_source_types.specs.Names.{name_source}
use Rattle.vx_source_types.specs.Notations.{source_words}
use Rattle.vx_source_types.specs.ScalarTexts.{value_source, item_sources, row_sources}
pub use Rattle.vx_value.proofs.ValuesWritten.{data_next}

mutual
  pub value_as_source : (v : Datum) (t : LogicalType) → value_in name_source source_words v t ≡ value_source v t
  value_as_source (bool true) t = refl
  value_as_source (bool false) t = refl
  value_as_source (list_of vs) (ty (list t) n) = ap (λ cs. codes "[" ++ (with_commas cs ++ codes "]")) (items_as_sources vs t)
  value_as_source (list_of vs) (ty (fixed t k) n) = ap (λ cs. codes "[" ++ (with_commas cs ++ codes "]")) (items_as_sources vs t)
  value_as_source (struct_of vs) (ty (struct fs) n) = ap (λ cs. codes "{" ++ (with_commas cs ++ codes "}")) (row_as_sources vs fs)
  value_as_source v t = refl

  items_as_sources : (vs : Data) (t : LogicalType) → items_in name_source source_words vs t ≡ item_sources vs t
  items_as_sources no_datum t = refl
  items_as_sources (datum v vs) t = rw (value_as_source v t, items_as_sources vs t) refl

  row_as_sources : (vs : Data) (fs : Fields) → row_in name_source source_words vs fs ≡ row_sources vs fs
  row_as_sources (datum v vs) (field a t fs) = rw (value_as_source v t, row_as_sources vs fs) refl
  row_as_sources vs fs = refl
