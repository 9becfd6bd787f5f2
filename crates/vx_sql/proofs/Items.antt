-- Values of a type, one after another.
use Rattle.std.proofs.Common.{◌≡◌, ℕ, ◌+◌, ◌<◌, ◌≤◌, List, [], ◌∷◌, ◌++◌, length, get_or, drop, drop_of_length-le, codes, refl, sym, ap, ◌∙◌}
use Rattle.std.specs.Prelude.{not, ◌==◌, if◌then◌else◌}
use Rattle.std.proofs.Math.Dec.{eqb-suc-zero}
use Rattle.vx_dtype.proofs.Commas.{behind, written_next, written_all}
use Rattle.vx_value.specs.declared.value.Value.{Value}
use Rattle.vx_value.specs.Types.{LogicalType}
use Rattle.vx_value.specs.Views.{value_of, data_view}
use Rattle.vx_value.proofs.ValuesWritten.{data_next}
use Rattle.vx_sql.specs.declared.dialect.Dialect.{Dialect}
use Rattle.vx_sql.specs.Lists.{has_items}
use Rattle.vx_sql.specs.Literals.{literal_sql, items_sql}

pub items_next : (d : Dialect) (values : List Value) (t : LogicalType) (i : ℕ) (v : Value) (done separator all : List ℕ) → i < length values → v ≡ get_or values i v
    → separator ≡ (if i == 0 then [] else codes ", ")
    → done ++ behind i (items_sql d (data_view (drop i values)) t) ≡ all
    → ((done ++ separator) ++ literal_sql d (value_of v) t) ++ behind (i + 1) (items_sql d (data_view (drop (i + 1) values)) t) ≡ all
items_next d values t i v done separator all h p s e =
    written_next i done separator _ all _ s (ap (λ vs. done ++ behind i (items_sql d vs t)) (sym (data_next values i v h p)) ∙ e)

pub items_all : (d : Dialect) (values : List Value) (t : LogicalType) (i : ℕ) (done all : List ℕ) → length values ≤ i
    → done ++ behind i (items_sql d (data_view (drop i values)) t) ≡ all → done ≡ all
items_all d values t i done all h e =
    written_all i done all (ap (λ vs. done ++ behind i (items_sql d (data_view vs) t)) (sym (drop_of_length-le values h)) ∙ e)

pub has_items-given : (vs : List Value) → not (length vs == 0) ≡ has_items (data_view vs)
has_items-given [] = refl
has_items-given (v ∷ vs) = ap not (eqb-suc-zero (length vs))
