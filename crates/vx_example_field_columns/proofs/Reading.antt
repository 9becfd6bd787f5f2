-- What is kept of rows along paths is what is kept of the rows that were read.
use Rattle.std.proofs.Common.{◌≡◌, ℕ, ◌+◌, ◌<◌, List, [], ◌∷◌, ◌++◌, append_assoc, length, get_or, drop, drop-cons, add-one, map, refl, sym, ap, ◌∙◌, Bool, true, false, ◌||◌, Some, None, Option, Result, Ok, Err, suc, ◌⊎◌, inl, inr}
use Rattle.std.specs.Prelude.{is_some, if◌then◌else◌}
use Rattle.std.specs.List.{range_with_len}
use Rattle.std.specs.Str.{bytes_eq}
use Rattle.std.proofs.lemmas.Bool.{or_parts}
use Rattle.std.proofs.lemmas.List.{length-map}
use Rattle.vx_dtype.specs.declared.error.VortexError.{VortexError}
use Rattle.vx_dtype.specs.declared.error.VortexError.TheVariants.{OutOfMemory}
use Rattle.vx_value.specs.Columns.{Batch}
use Rattle.vx_value.specs.Fields.{data_of, fields_named}
use Rattle.vx_value.specs.Paths.{Path, is_member}
use Rattle.vx_value.specs.StructColumns.{all_long, row_at, rows_in, struct_at, struct_type, types_in}
use Rattle.vx_value.specs.Types.{Name, LogicalType, ty, struct, Datum, null, struct_of}
use Rattle.vx_array_build.specs.Built.{structs_by}
use Rattle.vx_projection.specs.Defaults.{default_of}
use Rattle.vx_projection.specs.Kept.{rest_behind, rests, others, at_paths, kept, fields_kept, kept_batch}
use Rattle.vx_example_field_columns.specs.FieldColumns.{is_asked, read_column, read_columns, joined}

abbrev answer : {A : Type 0} → A → Result A VortexError
answer x = Ok x

-- what a call gave is what it says
pub told : {A : Type 0} (said given : A) → answer said ≡ Ok given → said ≡ given
told said given e = cc

-- ---- a field that no path asks for

-- no path begins with its name
none_begins : (paths : List Path) (a : Name) → is_asked paths a ≡ false → rests a paths ≡ []
none_begins [] a e = refl
none_begins ([] ∷ paths) a e = cc
none_begins ((b ∷ path) ∷ paths) a e = let parts = or_parts (bytes_eq a b) (is_asked paths a) e in rw parts.0 (none_begins paths a parts.1)

-- nor where some are left out
still_none : (paths : List Path) (a b : Name) → rests a paths ≡ [] → rests a (others b paths) ≡ []
still_none [] a b e = refl
still_none (path ∷ paths) a b e = go (rest_behind a path) refl (is_some (rest_behind b path)) refl (λ more. still_none paths a b more)
  where
    go : (o : Option Path) → rest_behind a path ≡ o → (left : Bool) → is_some (rest_behind b path) ≡ left → (rests a paths ≡ [] → rests a (others b paths) ≡ []) → rests a (others b (path ∷ paths)) ≡ []
    go (Some rest) q left p next = let begun : rests a (path ∷ paths) ≡ rest ∷ rests a paths = rw q refl in cc
    go None q true p next = let same : rests a (path ∷ paths) ≡ rests a paths = rw q refl in rw p (next (sym same ∙ e))
    go None q false p next = let same : rests a (path ∷ paths) ≡ rests a paths = rw q refl in rw (p, q) (next (sym same ∙ e))

-- and a default is kept
default_kept : (t : LogicalType) (v : Datum) → kept [] t v ≡ default_of t
default_kept (ty (struct fs) n) null = refl
default_kept (ty (struct fs) n) (struct_of vs) = refl
default_kept t v = refl

-- the root path asks for each field
root_asks : (paths : List Path) (a : Name) → is_member paths [] ≡ true → is_asked paths a ≡ true
root_asks [] a e = cc
root_asks ([] ∷ paths) a e = refl
root_asks ((b ∷ path) ∷ paths) a e = go (bytes_eq a b) (root_asks paths a e)
  where
    go : (c : Bool) → is_asked paths a ≡ true → (c || is_asked paths a) ≡ true
    go true rest = refl
    go false rest = rest

-- ---- what is kept of a struct that was read

same_at : {A : Type 0} (paths : List Path) (all every inside within default : A) → (is_member paths [] ≡ true → all ≡ every) → inside ≡ within → at_paths paths all inside default ≡ at_paths paths every within default
same_at [] all every inside within default a i = refl
same_at (path ∷ paths) all every inside within default a i = go (is_member (path ∷ paths) []) refl
  where
    go : (b : Bool) → is_member (path ∷ paths) [] ≡ b → (if b then all else inside) ≡ (if b then every else within)
    go true e = a e
    go false e = i

module _ (asked : List Path) where
  -- in a column that was read
  one_kept : (paths : List Path) (a : Name) (c : Batch) (k : ℕ) → (is_asked asked a ≡ false → rests a paths ≡ [])
      → kept (rests a paths) c.type (get_or (read_column asked a c).rows k null) ≡ kept (rests a paths) c.type (get_or c.rows k null)
  one_kept paths a c k none = go (is_asked asked a) refl
    where
      go : (b : Bool) → is_asked asked a ≡ b → kept (rests a paths) c.type (get_or (if b then c else kept_batch [] c).rows k null) ≡ kept (rests a paths) c.type (get_or c.rows k null)
      go true e = refl
      go false e = rw (none e) (default_kept c.type (get_or (kept_batch [] c).rows k null) ∙ sym (default_kept c.type (get_or c.rows k null)))

  -- in each of the columns, at row k
  each_kept : (paths : List Path) (names : List Name) (cs : List Batch) (k : ℕ) → ((a : Name) → is_asked asked a ≡ false → rests a paths ≡ [])
      → fields_kept paths (fields_named names (types_in cs)) (data_of (row_at k (rows_in (read_columns asked names cs)))) ≡ fields_kept paths (fields_named names (types_in cs)) (data_of (row_at k (rows_in cs)))
  each_kept paths [] cs k none = refl
  each_kept paths (a ∷ names) [] k none = refl
  each_kept paths (a ∷ names) (c ∷ cs) k none = rw (one_kept paths a c k (none a), each_kept (others a paths) names cs k (λ b e. still_none paths b a (none b e))) refl

  -- where each is asked, all are read
  all_read : (names : List Name) (cs : List Batch) → ((a : Name) → is_asked asked a ≡ true) → read_columns asked names cs ≡ cs
  all_read [] cs all = refl
  all_read (a ∷ names) [] all = refl
  all_read (a ∷ names) (c ∷ cs) all = rw (all a, all_read names cs all) refl

  -- in each row as much is kept of the columns that were read as of all
  struct_kept : (names : List Name) (cs : List Batch) (k : ℕ) → kept asked (struct_type names cs false) (struct_at (rows_in (read_columns asked names cs)) k) ≡ kept asked (struct_type names cs false) (struct_at (rows_in cs) k)
  struct_kept names cs k =
      same_at asked _ _ _ _ _ (λ e. ap (λ read. struct_at (rows_in read) k) (all_read names cs (λ a. root_asks asked a e)))
      (ap (λ vs. struct_of vs) (each_kept asked names cs k (λ a none. none_begins asked a none)))

  rows_kept : (names : List Name) (cs : List Batch) (ks : List ℕ) → map (kept asked (struct_type names cs false)) (map (struct_at (rows_in (read_columns asked names cs))) ks) ≡ map (kept asked (struct_type names cs false)) (map (struct_at (rows_in cs)) ks)
  rows_kept names cs [] = refl
  rows_kept names cs (k ∷ ks) = rw (struct_kept names cs k, rows_kept names cs ks) refl

  -- their types and lengths are those of all
  types_stay : (names : List Name) (cs : List Batch) → types_in (read_columns asked names cs) ≡ types_in cs
  types_stay [] cs = refl
  types_stay (a ∷ names) [] = refl
  types_stay (a ∷ names) (c ∷ cs) = go (is_asked asked a) (types_stay names cs)
    where
      go : (b : Bool) → types_in (read_columns asked names cs) ≡ types_in cs → types_in ((if b then c else kept_batch [] c) ∷ read_columns asked names cs) ≡ types_in (c ∷ cs)
      go true rest = ap (λ ts. c.type ∷ ts) rest
      go false rest = ap (λ ts. c.type ∷ ts) rest

  -- so of the batch that they make
  read_kept : (names : List Name) (cs : List Batch) (n : ℕ) → kept_batch asked (joined names (read_columns asked names cs) n) ≡ kept_batch asked (joined names cs n)
  read_kept names cs n = rw (types_stay names cs, rows_kept names cs (range_with_len 0 n)) refl

  long_stay : (names : List Name) (cs : List Batch) (n : ℕ) → all_long n (read_columns asked names cs) ≡ all_long n cs
  long_stay [] cs n = refl
  long_stay (a ∷ names) [] n = refl
  long_stay (a ∷ names) (c ∷ cs) n = go (is_asked asked a) (long_stay names cs n)
    where
      go : (b : Bool) → all_long n (read_columns asked names cs) ≡ all_long n cs → all_long n ((if b then c else kept_batch [] c) ∷ read_columns asked names cs) ≡ all_long n (c ∷ cs)
      go true rest = rw rest refl
      go false rest = rw (length-map c.rows (kept [] c.type), rest) refl

  as_many : (names : List Name) (cs : List Batch) → length (read_columns asked names cs) ≡ length cs
  as_many [] cs = refl
  as_many (a ∷ names) [] = refl
  as_many (a ∷ names) (c ∷ cs) = ap suc (as_many names cs)

  -- ---- the loop over the columns

  pub next_read : (names : List Name) (cs made new : List Batch) (i : ℕ) (a : Name) (c x : Batch) (all : List Batch) → i < length names → i < length cs → a ≡ get_or names i a → c ≡ get_or cs i c → new ≡ made ++ x ∷ [] → read_column asked a c ≡ x
      → all ≡ made ++ read_columns asked (drop i names) (drop i cs) → all ≡ new ++ read_columns asked (drop (i + 1) names) (drop (i + 1) cs)
  next_read names cs made new i a c x all h k p q pushed is so_far =
      let rest = read_columns asked (drop (i + 1) names) (drop (i + 1) cs) in
      let ns : drop i names ≡ a ∷ drop (i + 1) names = rw (add-one, drop-cons names i a h, ← p) refl in
      let one : drop i cs ≡ c ∷ drop (i + 1) cs = rw (add-one, drop-cons cs i c k, ← q) refl in
      so_far ∙ rw (ns, one, is) (sym (rw pushed (append_assoc made (x ∷ []) rest)))

  -- ---- the columns that were read, joined

  module _ (names : List Name) (cs : List Batch) (n : ℕ) (named : List Name) (read : List Batch) (same : named ≡ names) (said : answer (read_columns asked names cs) ≡ Ok read) where
    pub each_named : length names ≡ length cs → length named ≡ length read
    each_named e = ap length same ∙ e ∙ sym (as_many names cs) ∙ ap length (told _ read said)

    module _ (long : all_long n cs ≡ true) where
      joined_so : structs_by named read n None ≡ Ok (joined names (read_columns asked names cs) n)
      joined_so = rw (same, ← told _ read said, long_stay names cs n, long) refl

      -- joining them is refused for memory alone
      pub joins : (e : VortexError) → (e ≡ OutOfMemory) ⊎ (structs_by named read n None ≡ Err e) → e ≡ OutOfMemory
      joins e (inl m) = m
      joins e (inr q) = let p = joined_so in cc

      -- and what is kept of them is what is kept of all
      pub joined_kept : (j : Batch) → structs_by named read n None ≡ Ok j → kept_batch asked j ≡ kept_batch asked (joined names cs n)
      joined_kept j q = let p = joined_so in let is : j ≡ joined names (read_columns asked names cs) n = cc in rw is (read_kept names cs n)
