-- Items that are copied out of structs.
use Rattle.std.proofs.Common.{◌≡◌, ℕ, zero, suc, ◌+◌, ◌<◌, ◌≤◌, List, [], ◌∷◌, map, length, get_or, refl, sym, ap, ◌∙◌, arith, Vec, true}
use Rattle.std.specs.Prelude.{◌&&◌, nat_lt}
use Rattle.std.specs.List.{range_with_len}
use Rattle.std.specs.declared.alloc.Global.{Global}
use Rattle.std.proofs.Math.ListN.{replicate}
use Rattle.std.proofs.lemmas.List.{get_or-map, get_or_past, length-map}
use Rattle.vx_value.specs.declared.value.Value.{Value, Struct}
use Rattle.vx_value.specs.Items.{item_at}
use Rattle.vx_value.specs.Types.{Datum, null}
use Rattle.vx_value.specs.Views.{value_of}
use Rattle.vx_array.specs.declared.lanes.Lanes.{Lanes}
use Rattle.vx_array.specs.declared.validity.Validity.{Validity}
use Rattle.vx_array.specs.Rows.{lanes_each, lanes_rows, structs_from}
use Rattle.vx_array.specs.Shown.{is_valid, shown}
use Rattle.vx_array.proofs.Mapped.{map_map}
use Rattle.vx_array.proofs.Picked.{datum_at-data, item_row}
use Rattle.vx_array.proofs.Reading.{all_rows, struct_there, value_of-Struct}

-- an item that is there, and one that isn't
pub item_there : (v : Vec Value Global) (k : ℕ) (x : Value) → k < length v.items → x ≡ get_or v.items k x → value_of x ≡ item_at k (value_of (Struct v))
item_there v k x lt is = sym (ap (item_at k) (value_of-Struct v) ∙ datum_at-data (map value_of v.items) k ∙ get_or-map value_of v.items k x null lt ∙ ap value_of (sym is))

pub item_missing : (v : Vec Value Global) (k : ℕ) → length v.items ≤ k → null ≡ item_at k (value_of (Struct v))
item_missing v k past = sym (ap (item_at k) (value_of-Struct v) ∙ datum_at-data (map value_of v.items) k ∙ get_or_past (map value_of v.items) k null (omega (arith, length-map v.items value_of)))

-- the items of all rows
pub all_items : (k : ℕ) (rows : List Datum) (n : ℕ) → n ≡ length rows → map (λ i. item_at k (get_or rows i null)) (range_with_len 0 n) ≡ map (item_at k) rows
all_items k rows n long = sym (map_map (item_at k) (λ i. get_or rows i null) (range_with_len 0 n)) ∙ ap (map (item_at k)) (all_rows rows n long)

-- the items of one value in all rows
pub same_items : (k n : ℕ) (d : Datum) → replicate n (item_at k d) ≡ map (item_at k) (replicate n d)
same_items k zero d = refl
same_items k (suc n) d = ap (λ l. item_at k d ∷ l) (same_items k n d)

-- the item of a struct that is there
pub item_behind : (p from n i : ℕ) (v : Validity) (cs : List (List Datum)) (column rows : List Datum) → rows ≡ shown v (structs_from from n cs) → get_or cs p [] ≡ column → (nat_lt i n && is_valid v i) ≡ true → get_or column (from + i) null ≡ item_at p (get_or rows i null)
item_behind p from n i v cs column rows is at there =
    ap (λ c. get_or c (from + i) null) (sym at) ∙ sym (item_row cs p (from + i)) ∙ ap (item_at p) (struct_there v from n cs i there ∙ ap (λ l. get_or l i null) (sym is))

-- and of one without such a field
pub no_item_behind : (p from n i : ℕ) (v : Validity) (fs : List Lanes) (rows : List Datum) → rows ≡ shown v (structs_from from n (lanes_each fs)) → length fs ≤ p → (nat_lt i n && is_valid v i) ≡ true → null ≡ item_at p (get_or rows i null)
no_item_behind p from n i v fs rows is past there =
    item_behind p from n i v (lanes_each fs) [] rows is (get_or_past (lanes_each fs) p [] (omega (arith, length-map fs lanes_rows))) there
