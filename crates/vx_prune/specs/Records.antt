-- What records of statistics say of chunks.
use Rattle.std.specs.Prelude.{◌≡◌, ◌⊎◌, ℕ, List, [], ◌∷◌, Option, Some, None, Result, Ok, Err, MatchResult, refl, unsigned_abs, if◌then◌else◌}
use Rattle.std.specs.Coded.{Coded, code_by, coded_list, coded×}
use Rattle.vx_dtype.specs.declared.dtype.PType.TheVariants.{U64}
use Rattle.vx_value.specs.Codes.{name_code, type_code}
use Rattle.vx_value.specs.Fits.{fits, fits_ptype}
use Rattle.vx_value.specs.Items.{datum_at, item_at}
use Rattle.vx_value.specs.Paths.{Path}
use Rattle.vx_value.specs.Types.{Name, LogicalType, Datum, int, struct_of, Data, datum}
use Rattle.vx_prune_tree.specs.Consistent.{inconsistency_of}
use Rattle.vx_prune_tree.specs.Reading.{unless_null}
use Rattle.vx_prune_tree.specs.Stats.{FieldFacts, field_facts, Facts, facts, put_facts}
use Rattle.vx_prune_tree.specs.declared.field_stats.Inconsistency.{Inconsistency}
use Rattle.vx_prune_tree.specs.declared.field_stats.Inconsistency.TheVariants.{MoreNullsThanRows, LeastAboveGreatest}
pub use Rattle.vx_prune.specs.declared.stats_error.StatsError.{StatsError}
use Rattle.vx_prune.specs.declared.stats_error.StatsError.TheVariants.{OutOfMemory, Misfit, MoreNullsThanRows as TooManyNulls, LeastAboveGreatest as UnorderedEnds}

-- a place in rows, of which a record may say something: what it is called there, and the path that leads to it
abbrev pub Place : Type 0
Place = Name × Path

-- how records of statistics are read: their type, and the places in their order
pub record Form : Type 0 where
  pub type : LogicalType
  pub places : List Place

-- these together
abbrev pub form : LogicalType → List Place → Form
form t ps = record { type = t; places = ps }

-- (a code of them, so that they may be what a `Model` shows)
abbrev pub form_code : Coded Form
form_code = code_by (LogicalType × List (Name × List Name)) (coded× type_code (coded_list (coded× name_code (coded_list name_code)))) (λ f. (f.type, f.places)) (λ p. form p.0 p.1) (λ _. refl)

-- how many there are, if the value is a number of rows or of nulls
abbrev pub count_in : Datum → Option ℕ
count_in (int i) = if fits_ptype i U64 then Some (unsigned_abs i) else None
count_in _ = None

-- what is said of values: how many are null, and the least and the greatest of the others; null says nothing
abbrev pub field_said : Data → FieldFacts
field_said vs = field_facts (count_in (datum_at 0 vs)) (unless_null (datum_at 1 vs)) (unless_null (datum_at 2 vs))

-- the refusal of what can't be so of the place, or what is given
abbrev pub unless_inconsistent : Option Inconsistency → Place → Facts → Result Facts StatsError
unless_inconsistent None p known = Ok known
unless_inconsistent (Some MoreNullsThanRows) p known = Err (TooManyNulls p.0)
unless_inconsistent (Some LeastAboveGreatest) p known = Err (UnorderedEnds p.0)

-- what is known, with what the value says of the place
abbrev pub with_place : Facts → Place → Datum → Result Facts StatsError
with_place known p (struct_of vs) = unless_inconsistent (inconsistency_of known.rows (field_said vs)) p (facts known.rows (put_facts known.fields p.1 (field_said vs)))
with_place known p _ = Ok known

-- what f gives of what was read, or the refusal
abbrev pub and_then : Result Facts StatsError → (Facts → Result Facts StatsError) → Result Facts StatsError
and_then (Ok known) f = f known
and_then (Err e) f = Err e

-- what is known, with what the values say of the places beside them
abbrev pub with_places : Facts → List Place → Data → Result Facts StatsError
with_places known (p ∷ ps) (datum v vs) = and_then (with_place known p v) (λ more. with_places more ps vs)
with_places known _ _ = Ok known

-- what is known of so many rows, with what the value says of the places; null says nothing
abbrev pub in_rows : List Place → Option ℕ → Datum → Result Facts StatsError
in_rows ps None v = Err Misfit
in_rows ps (Some n) (struct_of vs) = with_places (facts n []) ps vs
in_rows ps (Some n) _ = Ok (facts n [])

-- what a record says that is of the type of the records: of the number of rows first, then of the places
abbrev pub stats_in : Form → Datum → Result Facts StatsError
stats_in r v = if fits v r.type then in_rows r.places (count_in (item_at 0 v)) (item_at 1 v) else Err Misfit

-- the call gave what is said, seen by view, or its refusal, unless memory ran out
abbrev pub GivesOrOom : {A B : Type 0} → (A → B) → Result A StatsError → Result B StatsError → Type 0
GivesOrOom view result said = MatchResult result (λ x. said ≡ Ok (view x)) (λ e. (e ≡ OutOfMemory) ⊎ (said ≡ Err e))
