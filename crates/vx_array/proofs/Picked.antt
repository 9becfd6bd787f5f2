-- Items of structs are the rows of their fields.
use Rattle.std.proofs.Common.{◌≡◌, ℕ, ◌+◌, ◌<◌, ◌≤◌, zero, suc, List, [], ◌∷◌, ◌++◌, map, length, get_or, take, drop, length-take, length-drop, refl, sym, ap, ◌∙◌, arith}
use Rattle.std.specs.List.{range_with_len}
use Rattle.std.proofs.lemmas.List.{ext_get_or, length-map, get_or-map, get_or-take, get_or-drop, map-append, map_more}
use Rattle.std.proofs.lemmas.List.FromFn.{length-map-range_with_len, get_or-map-range_with_len}
use Rattle.vx_value.specs.Fields.{data_of}
use Rattle.vx_value.specs.StructColumns.{row_at, struct_at}
use Rattle.vx_value.specs.Types.{Datum, null, struct_of}
use Rattle.vx_array.specs.declared.lanes.Lanes.{Lanes}
use Rattle.vx_array.specs.declared.validity.Validity.{Validity}
use Rattle.vx_value.specs.Items.{datum_at, item_at, items_at}
use Rattle.vx_array.specs.Rows.{lanes_each, lanes_rows, structs_from}
use Rattle.vx_array.specs.Shown.{shown}
use Rattle.vx_array.proofs.Mapped.{map_map, map_same, map-shown}

-- the value at a place of values one after another
pub datum_at-data : (ds : List Datum) (p : ℕ) → datum_at p (data_of ds) ≡ get_or ds p null
datum_at-data [] zero = refl
datum_at-data [] (suc p) = refl
datum_at-data (d ∷ ds) zero = refl
datum_at-data (d ∷ ds) (suc p) = datum_at-data ds p

-- an item of the struct of one row of columns
pub item_row : (cs : List (List Datum)) (p k : ℕ) → item_at p (struct_at cs k) ≡ get_or (get_or cs p []) k null
item_row cs p k = datum_at-data (row_at k cs) p ∙ at_column cs p
  where
    at_column : (cs : List (List Datum)) (p : ℕ) → get_or (row_at k cs) p null ≡ get_or (get_or cs p []) k null
    at_column [] p = refl
    at_column (c ∷ cs) zero = refl
    at_column (c ∷ cs) (suc p) = at_column cs p

-- the items of a stretch of structs are that stretch of the field's rows
pub items_of_structs : (from n p : ℕ) (cs : List (List Datum)) → from + n ≤ length (get_or cs p []) → map (item_at p) (structs_from from n cs) ≡ take n (drop from (get_or cs p []))
items_of_structs from n p cs room =
    ext_get_or null (map (item_at p) (structs_from from n cs)) (take n (drop from (get_or cs p []))) (many ∙ sym (simp (length-take, length-drop) (omega arith)))
    (λ k lt.
    let low : k < n = omega (arith, many) in
    get_or-map (item_at p) (structs_from from n cs) k null null (omega (arith, length-map-range_with_len (struct_at cs) from n))
    ∙ ap (item_at p) (get_or-map-range_with_len (struct_at cs) from n k (from + k) null low refl) ∙ item_row cs p (from + k)
    ∙ sym (get_or-take n (drop from (get_or cs p [])) k null low ∙ get_or-drop from (get_or cs p []) k null))
  where
    many : length (map (item_at p) (structs_from from n cs)) ≡ n
    many = length-map (structs_from from n cs) (item_at p) ∙ length-map-range_with_len (struct_at cs) from n

-- the field's rows where the structs are valid are the items
pub item_shown : (p from n : ℕ) (v : Validity) (cs : List (List Datum)) (column rows out : List Datum) → rows ≡ shown v (structs_from from n cs) → get_or cs p [] ≡ column → (from + n ≤ length column) × (out ≡ shown v (take n (drop from column))) → out ≡ map (item_at p) rows
item_shown p from n v cs column rows out is at found =
    let room : from + n ≤ length (get_or cs p []) = omega (arith, ap length at, found.0) in
    found.1 ∙ ap (λ c. shown v (take n (drop from c))) (sym at) ∙ ap (shown v) (sym (items_of_structs from n p cs room)) ∙ sym (map-shown (item_at p) v (structs_from from n cs) refl) ∙ ap (map (item_at p)) (sym is)

-- the structs of some of the fields
items_row : (cs : List (List Datum)) (ps : List ℕ) (k : ℕ) → items_at ps (struct_at cs k) ≡ struct_at (map (λ p. get_or cs p []) ps) k
items_row cs ps k =
    ap (λ l. struct_of (data_of l)) (map_same (λ p. item_at p (struct_at cs k)) (λ p. get_or (get_or cs p []) k null) ps (λ p. item_row cs p k) ∙ sym (map_map (λ rows. get_or rows k null) (λ p. get_or cs p []) ps))

pub items_shown : (ps : List ℕ) (from n : ℕ) (v : Validity) (cs some : List (List Datum)) (rows out : List Datum) → rows ≡ shown v (structs_from from n cs) → out ≡ shown v (structs_from from n some) → some ≡ map (λ p. get_or cs p []) ps → out ≡ map (items_at ps) rows
items_shown ps from n v cs some rows out is shows are =
    shows ∙ ap (λ c. shown v (structs_from from n c)) are
    ∙ ap (shown v) (map_same (struct_at (map (λ p. get_or cs p []) ps)) (λ k. items_at ps (struct_at cs k)) (range_with_len from n) (λ k. sym (items_row cs ps k)) ∙ sym (map_map (items_at ps) (struct_at cs) (range_with_len from n)))
    ∙ sym (map-shown (items_at ps) v (structs_from from n cs) refl) ∙ ap (map (items_at ps)) (sym is)

-- the rows of the field at a place
pub field_rows : (fs : List Lanes) (p : ℕ) (f : Lanes) → p < length fs → f ≡ get_or fs p f → get_or (lanes_each fs) p [] ≡ lanes_rows f
field_rows fs p f lt is = get_or-map lanes_rows fs p f [] lt ∙ ap lanes_rows (sym is)

-- one more field
pub field_more : (cs : List (List Datum)) (ps : List ℕ) (out new : List Lanes) (i : ℕ) (l : Lanes) → lanes_each out ≡ map (λ p. get_or cs p []) (take i ps) → new ≡ out ++ l ∷ [] → i < length ps → lanes_rows l ≡ get_or cs (get_or ps i 0) [] →
    lanes_each new ≡ map (λ p. get_or cs p []) (take (i + 1) ps)
field_more cs ps out new i l so_far pushed lt here =
    ap lanes_each pushed ∙ map-append lanes_rows out (l ∷ []) ∙ ap (λ ls. ls ++ lanes_rows l ∷ []) so_far ∙ ap (λ c. map (λ p. get_or cs p []) (take i ps) ++ c ∷ []) here ∙ sym (map_more (λ p. get_or cs p []) ps i 0 lt)
