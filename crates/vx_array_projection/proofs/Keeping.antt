-- What is kept of rows in columns along paths.
use Rattle.std.proofs.Common.{◌≡◌, ◌≢◌, ℕ, ◌+◌, ◌<◌, ◌≤◌, List, [], ◌∷◌, ◌++◌, append-nil, length, get_or, drop, drop-cons, drop_of_length-le, add-one, min, map, replicate, refl, sym, subst, ap, ◌∙◌, Bool, true, false, Some, None, ◌==◌, arith}
use Rattle.std.specs.Prelude.{nat_le}
use Rattle.std.specs.Borrow.{Bor}
use Rattle.std.proofs.lemmas.Bool.{and_parts, eqb-true}
use Rattle.std.proofs.lemmas.Bool.Decides.{nat_tests}
use Rattle.std.proofs.lemmas.List.{ext_get_or, get_or-map, length-map}
use Rattle.std.proofs.lemmas.List.FromFn.{length-map-range_with_len, get_or-map-range_with_len}
use Rattle.vx_dtype.specs.declared.dtype.DType.{DType}
use Rattle.vx_dtype.proofs.Pairs.{fields_next, fields_end}
use Rattle.vx_value.specs.Fields.{data_of, field_count}
use Rattle.vx_value.specs.Paths.{Path, is_member}
use Rattle.vx_value.specs.StructColumns.{row_at, struct_at}
use Rattle.vx_value.specs.Types.{Name, LogicalType, ty, struct, struct_fields, Fields, no_field, field, Datum, null, struct_of, Data}
use Rattle.vx_value.specs.Views.{type_of, fields_view}
use Rattle.vx_value.specs.declared.field_path.Field.{Field}
use Rattle.vx_array.specs.declared.lanes.Lanes.{Lanes}
use Rattle.vx_array.specs.declared.validity.Validity.{Validity}
use Rattle.vx_array.specs.Rows.{lanes_each, lanes_rows, structs_from}
use Rattle.vx_array.specs.Shown.{shown}
use Rattle.vx_array.proofs.Mapped.{map-shown}
use Rattle.vx_projection.specs.Defaults.{default_of}
use Rattle.vx_projection.specs.Kept.{at_paths, fields_kept, kept, others, rests}
use Rattle.vx_projection.specs.Wanted.{lent_paths}
use Rattle.vx_array_projection.specs.Columns.{are_long, columns_kept}

-- ---- all of it, or nothing

at_root : (paths : List Path) (all inside default : Datum) → is_member paths [] ≡ true → at_paths paths all inside default ≡ all
at_root [] all inside default e = cc
at_root (p ∷ paths) all inside default e = rw e refl

kept-root : (paths : List Path) (t : LogicalType) (v : Datum) → is_member paths [] ≡ true → kept paths t v ≡ v
kept-root paths (ty (struct fs) n) null e = at_root paths null null (default_of (ty (struct fs) n)) e
kept-root paths (ty (struct fs) n) (struct_of vs) e = at_root paths (struct_of vs) (struct_of (fields_kept paths fs vs)) (default_of (ty (struct fs) n)) e
kept-root paths t v e = at_root paths v (default_of t) (default_of t) e

-- along the root path all rows are kept
pub all_kept : (paths : List Path) (t : LogicalType) (rows : List Datum) → is_member paths [] ≡ true → rows ≡ map (kept paths t) rows
all_kept paths t [] e = refl
all_kept paths t (v ∷ rows) e = rw (kept-root paths t v e, ← all_kept paths t rows e) refl

-- rows of which each is kept as the default
same_rows : (paths : List Path) (t : LogicalType) (rows : List Datum) → ((v : Datum) → kept paths t v ≡ default_of t) → replicate (length rows) (default_of t) ≡ map (kept paths t) rows
same_rows paths t [] h = refl
same_rows paths t (v ∷ rows) h = rw (h v, ← same_rows paths t rows h) refl

kept-nothing : (t : LogicalType) (v : Datum) → kept [] t v ≡ default_of t
kept-nothing (ty (struct fs) n) null = refl
kept-nothing (ty (struct fs) n) (struct_of vs) = refl
kept-nothing t v = refl

-- along no path they are defaults
pub none_kept : (paths : List Path) (t : LogicalType) (rows : List Datum) → paths ≡ [] → replicate (length rows) (default_of t) ≡ map (kept paths t) rows
none_kept paths t rows e = rw e (same_rows [] t rows (kept-nothing t))

at_inside : (paths : List Path) (all default : Datum) → is_member paths [] ≡ false → at_paths paths all default default ≡ default
at_inside [] all default e = refl
at_inside (p ∷ paths) all default e = rw e refl

kept-no_struct : (paths : List Path) (t : LogicalType) (v : Datum) → struct_fields t ≡ None → is_member paths [] ≡ false → kept paths t v ≡ default_of t
kept-no_struct paths (ty (struct fs) n) v none e = cc
kept-no_struct paths t v none e = at_inside paths v (default_of t) e

-- nor is anything kept inside of what is no struct
pub no_struct_kept : (paths : List Path) (t : LogicalType) (rows : List Datum) → struct_fields t ≡ None → is_member paths [] ≡ false → replicate (length rows) (default_of t) ≡ map (kept paths t) rows
no_struct_kept paths t rows none e = same_rows paths t rows (λ v. kept-no_struct paths t v none e)

-- ---- structs in columns

module _ (paths : List Path) (fs : Fields) (n : Bool) (some : paths ≢ []) (below : is_member paths [] ≡ false) where
  within : (ps : List Path) → ps ≢ [] → is_member ps [] ≡ false → (all inside default : Datum) → at_paths ps all inside default ≡ inside
  within [] some e all inside default = absurd (some refl)
  within (p ∷ ps) some e all inside default = rw e refl

  kept-null : kept paths (ty (struct fs) n) null ≡ null
  kept-null = within paths some below null null (default_of (ty (struct fs) n))

  kept-struct : (vs : Data) → kept paths (ty (struct fs) n) (struct_of vs) ≡ struct_of (fields_kept paths fs vs)
  kept-struct vs = within paths some below (struct_of vs) (struct_of (fields_kept paths fs vs)) (default_of (ty (struct fs) n))

  -- what is kept of the structs of a stretch is the structs of what is kept of the columns
  pub structs_kept : (from len : ℕ) (v : Validity) (ls : List Lanes) (columns : List (List Datum)) (rows out : List Datum) → are_long (from + len) ls ≡ true → columns ≡ columns_kept paths fs (lanes_each ls)
      → rows ≡ shown v (structs_from from len (lanes_each ls)) → out ≡ shown v (structs_from from len columns) → out ≡ map (kept paths (ty (struct fs) n)) rows
  structs_kept from len v ls columns rows out long are is shows =
      shows ∙ ap (λ cs. shown v (structs_from from len cs)) are ∙ ap (shown v) (sym in_each)
      ∙ sym (map-shown (kept paths (ty (struct fs) n)) v (structs_from from len (lanes_each ls)) kept-null) ∙ ap (map (kept paths (ty (struct fs) n))) (sym is)
    where
      within_of : (a b : ℕ) → nat_le a b ≡ true → a ≤ b
      within_of a b h = grind (arith, nat_tests)

      each_kept : (ps : List Path) (gs : Fields) (ms : List Lanes) (k end : ℕ) → are_long end ms ≡ true → k < end → fields_kept ps gs (data_of (row_at k (lanes_each ms))) ≡ data_of (row_at k (columns_kept ps gs (lanes_each ms)))
      each_kept ps no_field ms k end long lt = refl
      each_kept ps (field a t gs) [] k end long lt = refl
      each_kept ps (field a t gs) (m ∷ ms) k end long lt =
          let parts = and_parts _ _ long in
          let there : end ≤ length (lanes_rows m) = within_of end (length (lanes_rows m)) parts.0 in
          rw (get_or-map (kept (rests a ps) t) (lanes_rows m) k null null (omega arith), each_kept (others a ps) gs ms k end parts.1 lt) refl

      in_row : (k : ℕ) → k < from + len → kept paths (ty (struct fs) n) (struct_at (lanes_each ls) k) ≡ struct_at (columns_kept paths fs (lanes_each ls)) k
      in_row k lt = kept-struct (data_of (row_at k (lanes_each ls))) ∙ ap struct_of (each_kept paths fs ls k (from + len) long lt)

      in_each : map (kept paths (ty (struct fs) n)) (structs_from from len (lanes_each ls)) ≡ structs_from from len (columns_kept paths fs (lanes_each ls))
      in_each =
          let cs = lanes_each ls in
          let ds = columns_kept paths fs cs in
          let f = kept paths (ty (struct fs) n) in
          let many : length (structs_from from len cs) ≡ len = length-map-range_with_len (struct_at cs) from len in
          let few : length (structs_from from len ds) ≡ len = length-map-range_with_len (struct_at ds) from len in
          ext_get_or null (map f (structs_from from len cs)) (structs_from from len ds) (length-map (structs_from from len cs) f ∙ many ∙ sym few)
          (λ k lt.
          let low : k < len = omega (arith, length-map (structs_from from len cs) f, many) in
          get_or-map f (structs_from from len cs) k null null (omega (arith, many))
          ∙ ap f (get_or-map-range_with_len (struct_at cs) from len k (from + k) null low refl)
          ∙ in_row (from + k) (omega arith)
          ∙ sym (get_or-map-range_with_len (struct_at ds) from len k (from + k) null low refl))

-- so of rows of a type with these fields
pub kept_in_columns : (paths : List Path) (t : LogicalType) (fs : Fields) → paths ≢ [] → is_member paths [] ≡ false → struct_fields t ≡ Some fs → (from len : ℕ) (v : Validity) (ls : List Lanes) (columns : List (List Datum)) (rows out : List Datum)
    → are_long (from + len) ls ≡ true → columns ≡ columns_kept paths fs (lanes_each ls) → rows ≡ shown v (structs_from from len (lanes_each ls)) → out ≡ shown v (structs_from from len columns) → out ≡ map (kept paths t) rows
kept_in_columns paths (ty (struct gs) n) fs some below e from len v ls columns rows out long are is shows =
    let same : fs ≡ gs = cc in
    subst (λ hs. out ≡ map (kept paths (ty (struct hs) n)) rows) same (structs_kept paths fs n some below from len v ls columns rows out long are is shows)
kept_in_columns paths _ fs some below e from len v ls columns rows out long are is shows = cc

-- ---- whether there are paths

pub no_paths : (ps : List (Bor (List Field))) (b : Bool) → b ≡ (length ps == 0) → b ≡ true → lent_paths ps ≡ []
no_paths [] b e t = refl
no_paths (p ∷ ps) b e t = let none : length (p ∷ ps) ≡ 0 = eqb-true (length (p ∷ ps)) 0 (sym e ∙ t) in absurd (omega arith)

pub some_paths : (ps : List (Bor (List Field))) (b : Bool) → b ≡ (length ps == 0) → b ≡ false → lent_paths ps ≢ []
some_paths [] b e f none = let x : true ≡ false = sym e ∙ f in cc
some_paths (p ∷ ps) b e f none = cc

-- ---- the loop over the columns

pub columns_next : (names : List Name) (types : List DType) (ls made new : List Lanes) (left after : List Path) (i : ℕ) (a : Name) (t : DType) (m l : Lanes) (all : List (List Datum)) → i < length names → i < length types → i < length ls
    → a ≡ get_or names i a → t ≡ get_or types i t → m ≡ get_or ls i m → new ≡ made ++ l ∷ [] → lanes_rows l ≡ map (kept (rests a left) (type_of t)) (lanes_rows m) → after ≡ others a left
    → all ≡ lanes_each made ++ columns_kept left (fields_view (drop i names) (drop i types)) (lanes_each (drop i ls))
    → all ≡ lanes_each new ++ columns_kept after (fields_view (drop (i + 1) names) (drop (i + 1) types)) (lanes_each (drop (i + 1) ls))
columns_next names types ls made new left after i a t m l all h k j p q r pushed is others_are so_far =
    let fs = fields_view (drop (i + 1) names) (drop (i + 1) types) in
    let rest = columns_kept (others a left) fs (lanes_each (drop (i + 1) ls)) in
    let one : drop i ls ≡ m ∷ drop (i + 1) ls = rw (add-one, drop-cons ls i m j, ← r) refl in
    so_far ∙ ap (λ gs. lanes_each made ++ columns_kept left gs (lanes_each (drop i ls))) (fields_next names types i a t h k p q)
    ∙ ap (λ ms. lanes_each made ++ columns_kept left (field a (type_of t) fs) (lanes_each ms)) one
    ∙ ap (λ c. lanes_each made ++ (c ∷ rest)) (sym is)
    ∙ sym (pushing made l rest) ∙ ap (λ ms. lanes_each ms ++ rest) (sym pushed)
    ∙ ap (λ ps. lanes_each new ++ columns_kept ps fs (lanes_each (drop (i + 1) ls))) (sym others_are)
  where
    pushing : (ms : List Lanes) (l : Lanes) (rest : List (List Datum)) → lanes_each (ms ++ l ∷ []) ++ rest ≡ lanes_each ms ++ (lanes_rows l ∷ rest)
    pushing [] l rest = refl
    pushing (m ∷ ms) l rest = ap (λ cs. lanes_rows m ∷ cs) (pushing ms l rest)

no_column : (ps : List Path) (fs : Fields) → columns_kept ps fs [] ≡ []
no_column ps no_field = refl
no_column ps (field a t fs) = refl

pub columns_end : (names : List Name) (types : List DType) (ls made : List Lanes) (left : List Path) (i : ℕ) (all : List (List Datum)) → min (field_count (fields_view names types)) (length ls) ≤ i
    → all ≡ lanes_each made ++ columns_kept left (fields_view (drop i names) (drop i types)) (lanes_each (drop i ls)) → lanes_each made ≡ all
columns_end names types ls made left i all h so_far = sym (so_far ∙ ap (λ cs. lanes_each made ++ cs) (ends h) ∙ append-nil (lanes_each made))
  where
    ends : min (field_count (fields_view names types)) (length ls) ≤ i → columns_kept left (fields_view (drop i names) (drop i types)) (lanes_each (drop i ls)) ≡ []
    ends h = go (nat_le (length ls) i) refl
      where
        past : (a b : ℕ) → nat_le a b ≡ true → a ≤ b
        past a b e = grind (arith, nat_tests)

        few : (a b : ℕ) → nat_le a b ≡ false → b < a
        few a b e = grind (arith, nat_tests)

        go : (b : Bool) → nat_le (length ls) i ≡ b → columns_kept left (fields_view (drop i names) (drop i types)) (lanes_each (drop i ls)) ≡ []
        go true e = rw (drop_of_length-le ls (past (length ls) i e)) (no_column left (fields_view (drop i names) (drop i types)))
        go false e = let more = few (length ls) i e in rw (fields_end names types i (omega arith)) refl
