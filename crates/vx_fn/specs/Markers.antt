-- What each marker takes out of a `ScalarFnRef`, and which function it stands for. Beside it stands, as scaffolding, that it does so
-- exactly, which the laws of `ScalarFnVTable` cite.
use Rattle.std.specs.Prelude.{◌≡◌, ◌↔◌, Bool, true, false, Option, Some, None, is_some, refl}
use Rattle.vx_dtype.specs.declared.dtype.DType.{DType}
use Rattle.vx_dtype.specs.declared.names.FieldName.{FieldName}
use Rattle.vx_value.specs.declared.scalar.Scalar.{Scalar}
use Rattle.vx_fn.specs.declared.options.CaseWhenOptions.{CaseWhenOptions}
use Rattle.vx_fn.specs.declared.options.PackOptions.{PackOptions}
use Rattle.vx_fn.specs.declared.options.FieldSelection.{FieldSelection}
use Rattle.vx_fn.specs.declared.options.EmptyOptions.{EmptyOptions}
use Rattle.vx_fn.specs.declared.options.Operator.{Operator}
use Rattle.vx_fn.specs.declared.options.BetweenOptions.{BetweenOptions}
use Rattle.vx_fn.specs.declared.options.LikeOptions.{LikeOptions}
use Rattle.vx_fn.specs.declared.function.ScalarFnRef.{ScalarFnRef}
use Rattle.vx_fn.specs.declared.function.ScalarFnRef.TheVariants.{CaseWhen, GetItem, Literal, Pack, Select, FillNull, Zip, Binary, Not, Between, Like, IsNull, IsNotNull, Mask, Cast, StartsWith, ByteLength, ListContains}
use Rattle.vx_fn.specs.Functions.{Function, case_when, get_item, literal, pack, select, fill_null, zip, binary, logical_not, between, like, is_null, is_not_null, mask, cast, starts_with, byte_length, list_contains}
use Rattle.vx_fn.specs.Views.{function_of}

-- the options of a CASE
abbrev pub case_when_options : ScalarFnRef → Option CaseWhenOptions
case_when_options (CaseWhen o) = Some o
case_when_options _ = None

-- whether the function is a CASE
abbrev pub is_case_when : Function → Bool
is_case_when (case_when k e) = true
is_case_when _ = false

-- the options are `o` exactly where it is a CASE with them
pub case_when_exactly : (f : ScalarFnRef) (o : CaseWhenOptions) → (case_when_options f ≡ Some o) ↔ (f ≡ CaseWhen o)
case_when_exactly (CaseWhen p) o = (λ e. cc, λ e. cc)
case_when_exactly _ o = (λ e. cc, λ e. cc)

-- there are options exactly where it is a CASE
pub case_when_told : (f : ScalarFnRef) → is_some (case_when_options f) ≡ is_case_when (function_of f)
case_when_told (CaseWhen p) = refl
case_when_told _ = refl

-- the options of a field of a struct
abbrev pub get_item_options : ScalarFnRef → Option FieldName
get_item_options (GetItem o) = Some o
get_item_options _ = None

-- whether the function is a field of a struct
abbrev pub is_get_item : Function → Bool
is_get_item (get_item a) = true
is_get_item _ = false

-- the options are `o` exactly where it is a field of a struct with them
pub get_item_exactly : (f : ScalarFnRef) (o : FieldName) → (get_item_options f ≡ Some o) ↔ (f ≡ GetItem o)
get_item_exactly (GetItem p) o = (λ e. cc, λ e. cc)
get_item_exactly _ o = (λ e. cc, λ e. cc)

-- there are options exactly where it is a field of a struct
pub get_item_told : (f : ScalarFnRef) → is_some (get_item_options f) ≡ is_get_item (function_of f)
get_item_told (GetItem p) = refl
get_item_told _ = refl

-- the options of a literal
abbrev pub literal_options : ScalarFnRef → Option Scalar
literal_options (Literal o) = Some o
literal_options _ = None

-- whether the function is a literal
abbrev pub is_literal : Function → Bool
is_literal (literal t v) = true
is_literal _ = false

-- the options are `o` exactly where it is a literal with them
pub literal_exactly : (f : ScalarFnRef) (o : Scalar) → (literal_options f ≡ Some o) ↔ (f ≡ Literal o)
literal_exactly (Literal p) o = (λ e. cc, λ e. cc)
literal_exactly _ o = (λ e. cc, λ e. cc)

-- there are options exactly where it is a literal
pub literal_told : (f : ScalarFnRef) → is_some (literal_options f) ≡ is_literal (function_of f)
literal_told (Literal p) = refl
literal_told _ = refl

-- the options of a pack
abbrev pub pack_options : ScalarFnRef → Option PackOptions
pack_options (Pack o) = Some o
pack_options _ = None

-- whether the function is a pack
abbrev pub is_pack : Function → Bool
is_pack (pack names n) = true
is_pack _ = false

-- the options are `o` exactly where it is a pack with them
pub pack_exactly : (f : ScalarFnRef) (o : PackOptions) → (pack_options f ≡ Some o) ↔ (f ≡ Pack o)
pack_exactly (Pack p) o = (λ e. cc, λ e. cc)
pack_exactly _ o = (λ e. cc, λ e. cc)

-- there are options exactly where it is a pack
pub pack_told : (f : ScalarFnRef) → is_some (pack_options f) ≡ is_pack (function_of f)
pack_told (Pack p) = refl
pack_told _ = refl

-- the options of a selection of fields
abbrev pub select_options : ScalarFnRef → Option FieldSelection
select_options (Select o) = Some o
select_options _ = None

-- whether the function is a selection of fields
abbrev pub is_select : Function → Bool
is_select (select s) = true
is_select _ = false

-- the options are `o` exactly where it is a selection of fields with them
pub select_exactly : (f : ScalarFnRef) (o : FieldSelection) → (select_options f ≡ Some o) ↔ (f ≡ Select o)
select_exactly (Select p) o = (λ e. cc, λ e. cc)
select_exactly _ o = (λ e. cc, λ e. cc)

-- there are options exactly where it is a selection of fields
pub select_told : (f : ScalarFnRef) → is_some (select_options f) ≡ is_select (function_of f)
select_told (Select p) = refl
select_told _ = refl

-- the options of a fill
abbrev pub fill_null_options : ScalarFnRef → Option EmptyOptions
fill_null_options (FillNull o) = Some o
fill_null_options _ = None

-- whether the function is a fill
abbrev pub is_fill_null : Function → Bool
is_fill_null fill_null = true
is_fill_null _ = false

-- the options are `o` exactly where it is a fill with them
pub fill_null_exactly : (f : ScalarFnRef) (o : EmptyOptions) → (fill_null_options f ≡ Some o) ↔ (f ≡ FillNull o)
fill_null_exactly (FillNull p) o = (λ e. cc, λ e. cc)
fill_null_exactly _ o = (λ e. cc, λ e. cc)

-- there are options exactly where it is a fill
pub fill_null_told : (f : ScalarFnRef) → is_some (fill_null_options f) ≡ is_fill_null (function_of f)
fill_null_told (FillNull p) = refl
fill_null_told _ = refl

-- the options of a zip
abbrev pub zip_options : ScalarFnRef → Option EmptyOptions
zip_options (Zip o) = Some o
zip_options _ = None

-- whether the function is a zip
abbrev pub is_zip : Function → Bool
is_zip zip = true
is_zip _ = false

-- the options are `o` exactly where it is a zip with them
pub zip_exactly : (f : ScalarFnRef) (o : EmptyOptions) → (zip_options f ≡ Some o) ↔ (f ≡ Zip o)
zip_exactly (Zip p) o = (λ e. cc, λ e. cc)
zip_exactly _ o = (λ e. cc, λ e. cc)

-- there are options exactly where it is a zip
pub zip_told : (f : ScalarFnRef) → is_some (zip_options f) ≡ is_zip (function_of f)
zip_told (Zip p) = refl
zip_told _ = refl

-- the options of a binary function
abbrev pub binary_options : ScalarFnRef → Option Operator
binary_options (Binary o) = Some o
binary_options _ = None

-- whether the function is a binary function
abbrev pub is_binary : Function → Bool
is_binary (binary op) = true
is_binary _ = false

-- the options are `o` exactly where it is a binary function with them
pub binary_exactly : (f : ScalarFnRef) (o : Operator) → (binary_options f ≡ Some o) ↔ (f ≡ Binary o)
binary_exactly (Binary p) o = (λ e. cc, λ e. cc)
binary_exactly _ o = (λ e. cc, λ e. cc)

-- there are options exactly where it is a binary function
pub binary_told : (f : ScalarFnRef) → is_some (binary_options f) ≡ is_binary (function_of f)
binary_told (Binary p) = refl
binary_told _ = refl

-- the options of a negation
abbrev pub not_options : ScalarFnRef → Option EmptyOptions
not_options (Not o) = Some o
not_options _ = None

-- whether the function is a negation
abbrev pub is_not : Function → Bool
is_not logical_not = true
is_not _ = false

-- the options are `o` exactly where it is a negation with them
pub not_exactly : (f : ScalarFnRef) (o : EmptyOptions) → (not_options f ≡ Some o) ↔ (f ≡ Not o)
not_exactly (Not p) o = (λ e. cc, λ e. cc)
not_exactly _ o = (λ e. cc, λ e. cc)

-- there are options exactly where it is a negation
pub not_told : (f : ScalarFnRef) → is_some (not_options f) ≡ is_not (function_of f)
not_told (Not p) = refl
not_told _ = refl

-- the options of a test by two bounds
abbrev pub between_options : ScalarFnRef → Option BetweenOptions
between_options (Between o) = Some o
between_options _ = None

-- whether the function is a test by two bounds
abbrev pub is_between : Function → Bool
is_between (between l u) = true
is_between _ = false

-- the options are `o` exactly where it is a test by two bounds with them
pub between_exactly : (f : ScalarFnRef) (o : BetweenOptions) → (between_options f ≡ Some o) ↔ (f ≡ Between o)
between_exactly (Between p) o = (λ e. cc, λ e. cc)
between_exactly _ o = (λ e. cc, λ e. cc)

-- there are options exactly where it is a test by two bounds
pub between_told : (f : ScalarFnRef) → is_some (between_options f) ≡ is_between (function_of f)
between_told (Between p) = refl
between_told _ = refl

-- the options of a match of a pattern
abbrev pub like_options : ScalarFnRef → Option LikeOptions
like_options (Like o) = Some o
like_options _ = None

-- whether the function is a match of a pattern
abbrev pub is_like : Function → Bool
is_like (like n c) = true
is_like _ = false

-- the options are `o` exactly where it is a match of a pattern with them
pub like_exactly : (f : ScalarFnRef) (o : LikeOptions) → (like_options f ≡ Some o) ↔ (f ≡ Like o)
like_exactly (Like p) o = (λ e. cc, λ e. cc)
like_exactly _ o = (λ e. cc, λ e. cc)

-- there are options exactly where it is a match of a pattern
pub like_told : (f : ScalarFnRef) → is_some (like_options f) ≡ is_like (function_of f)
like_told (Like p) = refl
like_told _ = refl

-- the options of a test for null
abbrev pub is_null_options : ScalarFnRef → Option EmptyOptions
is_null_options (IsNull o) = Some o
is_null_options _ = None

-- whether the function is a test for null
abbrev pub is_is_null : Function → Bool
is_is_null is_null = true
is_is_null _ = false

-- the options are `o` exactly where it is a test for null with them
pub is_null_exactly : (f : ScalarFnRef) (o : EmptyOptions) → (is_null_options f ≡ Some o) ↔ (f ≡ IsNull o)
is_null_exactly (IsNull p) o = (λ e. cc, λ e. cc)
is_null_exactly _ o = (λ e. cc, λ e. cc)

-- there are options exactly where it is a test for null
pub is_null_told : (f : ScalarFnRef) → is_some (is_null_options f) ≡ is_is_null (function_of f)
is_null_told (IsNull p) = refl
is_null_told _ = refl

-- the options of a test for a value
abbrev pub is_not_null_options : ScalarFnRef → Option EmptyOptions
is_not_null_options (IsNotNull o) = Some o
is_not_null_options _ = None

-- whether the function is a test for a value
abbrev pub is_is_not_null : Function → Bool
is_is_not_null is_not_null = true
is_is_not_null _ = false

-- the options are `o` exactly where it is a test for a value with them
pub is_not_null_exactly : (f : ScalarFnRef) (o : EmptyOptions) → (is_not_null_options f ≡ Some o) ↔ (f ≡ IsNotNull o)
is_not_null_exactly (IsNotNull p) o = (λ e. cc, λ e. cc)
is_not_null_exactly _ o = (λ e. cc, λ e. cc)

-- there are options exactly where it is a test for a value
pub is_not_null_told : (f : ScalarFnRef) → is_some (is_not_null_options f) ≡ is_is_not_null (function_of f)
is_not_null_told (IsNotNull p) = refl
is_not_null_told _ = refl

-- the options of a mask
abbrev pub mask_options : ScalarFnRef → Option EmptyOptions
mask_options (Mask o) = Some o
mask_options _ = None

-- whether the function is a mask
abbrev pub is_mask : Function → Bool
is_mask mask = true
is_mask _ = false

-- the options are `o` exactly where it is a mask with them
pub mask_exactly : (f : ScalarFnRef) (o : EmptyOptions) → (mask_options f ≡ Some o) ↔ (f ≡ Mask o)
mask_exactly (Mask p) o = (λ e. cc, λ e. cc)
mask_exactly _ o = (λ e. cc, λ e. cc)

-- there are options exactly where it is a mask
pub mask_told : (f : ScalarFnRef) → is_some (mask_options f) ≡ is_mask (function_of f)
mask_told (Mask p) = refl
mask_told _ = refl

-- the options of a cast
abbrev pub cast_options : ScalarFnRef → Option DType
cast_options (Cast o) = Some o
cast_options _ = None

-- whether the function is a cast
abbrev pub is_cast : Function → Bool
is_cast (cast t) = true
is_cast _ = false

-- the options are `o` exactly where it is a cast with them
pub cast_exactly : (f : ScalarFnRef) (o : DType) → (cast_options f ≡ Some o) ↔ (f ≡ Cast o)
cast_exactly (Cast p) o = (λ e. cc, λ e. cc)
cast_exactly _ o = (λ e. cc, λ e. cc)

-- there are options exactly where it is a cast
pub cast_told : (f : ScalarFnRef) → is_some (cast_options f) ≡ is_cast (function_of f)
cast_told (Cast p) = refl
cast_told _ = refl

-- the options of a test of a beginning
abbrev pub starts_with_options : ScalarFnRef → Option EmptyOptions
starts_with_options (StartsWith o) = Some o
starts_with_options _ = None

-- whether the function is a test of a beginning
abbrev pub is_starts_with : Function → Bool
is_starts_with starts_with = true
is_starts_with _ = false

-- the options are `o` exactly where it is a test of a beginning with them
pub starts_with_exactly : (f : ScalarFnRef) (o : EmptyOptions) → (starts_with_options f ≡ Some o) ↔ (f ≡ StartsWith o)
starts_with_exactly (StartsWith p) o = (λ e. cc, λ e. cc)
starts_with_exactly _ o = (λ e. cc, λ e. cc)

-- there are options exactly where it is a test of a beginning
pub starts_with_told : (f : ScalarFnRef) → is_some (starts_with_options f) ≡ is_starts_with (function_of f)
starts_with_told (StartsWith p) = refl
starts_with_told _ = refl

-- the options of a length
abbrev pub byte_length_options : ScalarFnRef → Option EmptyOptions
byte_length_options (ByteLength o) = Some o
byte_length_options _ = None

-- whether the function is a length
abbrev pub is_byte_length : Function → Bool
is_byte_length byte_length = true
is_byte_length _ = false

-- the options are `o` exactly where it is a length with them
pub byte_length_exactly : (f : ScalarFnRef) (o : EmptyOptions) → (byte_length_options f ≡ Some o) ↔ (f ≡ ByteLength o)
byte_length_exactly (ByteLength p) o = (λ e. cc, λ e. cc)
byte_length_exactly _ o = (λ e. cc, λ e. cc)

-- there are options exactly where it is a length
pub byte_length_told : (f : ScalarFnRef) → is_some (byte_length_options f) ≡ is_byte_length (function_of f)
byte_length_told (ByteLength p) = refl
byte_length_told _ = refl

-- the options of a search in a list
abbrev pub list_contains_options : ScalarFnRef → Option EmptyOptions
list_contains_options (ListContains o) = Some o
list_contains_options _ = None

-- whether the function is a search in a list
abbrev pub is_list_contains : Function → Bool
is_list_contains list_contains = true
is_list_contains _ = false

-- the options are `o` exactly where it is a search in a list with them
pub list_contains_exactly : (f : ScalarFnRef) (o : EmptyOptions) → (list_contains_options f ≡ Some o) ↔ (f ≡ ListContains o)
list_contains_exactly (ListContains p) o = (λ e. cc, λ e. cc)
list_contains_exactly _ o = (λ e. cc, λ e. cc)

-- there are options exactly where it is a search in a list
pub list_contains_told : (f : ScalarFnRef) → is_some (list_contains_options f) ≡ is_list_contains (function_of f)
list_contains_told (ListContains p) = refl
list_contains_told _ = refl
