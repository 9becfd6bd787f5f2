-- Which types of nodes are found without taking memory, and what a call says that takes none.
use Rattle.std.specs.Prelude.{Bool, true, false, Result, Ok, Err, IsTrue}
use Rattle.vx_dtype.specs.declared.error.VortexError.{VortexError}
use Rattle.vx_dtype.specs.declared.error.VortexError.TheVariants.{NoSuchField, BaseTypesDiffer}
use Rattle.vx_value.specs.Returns.{Returns}
use Rattle.vx_value.specs.Types.{LogicalType}
use Rattle.vx_fn.specs.Functions.{Function, case_when, binary, logical_not, between, like, is_null, is_not_null, starts_with, byte_length, list_contains, Typing}

-- whether a node's type is a truth type or a number type, which is made without a copy
abbrev pub is_typed_in_place : Function → Bool
is_typed_in_place (binary op) = true
is_typed_in_place logical_not = true
is_typed_in_place (between lower_strict upper_strict) = true
is_typed_in_place (like negated case_insensitive) = true
is_typed_in_place is_null = true
is_typed_in_place is_not_null = true
is_typed_in_place starts_with = true
is_typed_in_place byte_length = true
is_typed_in_place list_contains = true
is_typed_in_place _ = false

-- whether the function refuses so before anything is copied: not where the refusal carries a copy of a name, nor
-- where a CASE finds a branch of another type, since the branches before it are joined by then
abbrev pub is_early : Function → VortexError → Bool
is_early f (NoSuchField a) = false
is_early (case_when pairs has_else) BaseTypesDiffer = false
is_early f e = true

-- whether the function's answer is such a refusal
abbrev pub is_early_refusal : Function → Typing → Bool
is_early_refusal f (Ok t) = false
is_early_refusal f (Err e) = is_early f e

-- such a refusal is answered whatever the memory
abbrev pub RefusesEarly : {A : Type 0} → Function → (A → LogicalType) → Result A VortexError → Typing → Type 0
RefusesEarly f view result said = IsTrue (is_early_refusal f said) → Returns view result said
