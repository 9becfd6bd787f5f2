-- Items of structs, by their places.
use Rattle.std.specs.Prelude.{ℕ, zero, suc, List, map}
use Rattle.vx_value.specs.Fields.{data_of}
use Rattle.vx_value.specs.Types.{Datum, null, struct_of, Data, no_datum, datum}

-- the value at that place, null where there is none
abbrev pub datum_at : ℕ → Data → Datum
datum_at k no_datum = null
datum_at zero (datum v vs) = v
datum_at (suc k) (datum v vs) = datum_at k vs

-- the item at that place of a struct, null of what is none
abbrev pub item_at : ℕ → Datum → Datum
item_at k (struct_of vs) = datum_at k vs
item_at k _ = null

-- the struct of the items at those places of a struct, null of what is none
abbrev pub items_at : List ℕ → Datum → Datum
items_at ks (struct_of vs) = struct_of (data_of (map (λ k. datum_at k vs) ks))
items_at ks _ = null
