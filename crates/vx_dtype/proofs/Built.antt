-- Loops that build the types of fields, one field at a time.
use Rattle.std.proofs.Common.{◌≡◌, ℕ, ◌+◌, ◌<◌, ◌≤◌, List, [], ◌∷◌, ◌++◌, length, get_or, drop, drop-cons, drop_of_length-le, add-one, Option, Some, None, Result, Ok, Err, refl, sym, ap, ◌∙◌, arith}
use Rattle.vx_dtype.specs.declared.dtype.DType.{DType}
use Rattle.vx_dtype.specs.declared.error.VortexError.{VortexError}
use Rattle.vx_dtype.specs.declared.error.VortexError.TheVariants.{NoSuchField}
use Rattle.vx_dtype.specs.Types.{Name, LogicalType, Fields, no_field, field}
use Rattle.vx_dtype.specs.Joins.{join, join_fields}
use Rattle.vx_dtype.specs.Fields.{field_count, field_type, put_field, first_unknown, project}
use Rattle.std.specs.Prelude.{not, is_some, true, false}
use Rattle.vx_dtype.specs.Fields.{is_among, names_without, field_names}
use Rattle.vx_dtype.proofs.Known.{known_by_type, first_unknown-filter, first_unknown-own}
use Rattle.vx_dtype.specs.Returns.{known_or, projected, projected_without}
use Rattle.vx_dtype.specs.Views.{type_of, fields_view}
use Rattle.vx_dtype.proofs.Pairs.{fields_step, fields_end}

-- the fields made so far, and then the rest
abbrev pub before : List Name → List DType → Fields → Fields
before (a ∷ names) (t ∷ ts) fs = field a (type_of t) (before names ts fs)
before _ _ fs = fs

pub before_none : (names : List Name) (fs : Fields) → before names [] fs ≡ fs
before_none [] fs = refl
before_none (a ∷ names) fs = refl

before_push : (names : List Name) (ts : List DType) (t : DType) (a : Name) (fs : Fields) → length ts < length names
    → before names (ts ++ t ∷ []) fs ≡ before names ts (field (get_or names (length ts) a) (type_of t) fs)
before_push [] ts t a fs h = absurd (omega arith)
before_push (b ∷ names) [] t a fs h = ap (field b (type_of t)) (before_none names fs)
before_push (b ∷ names) (u ∷ ts) t a fs h = ap (field b (type_of u)) (before_push names ts t a fs (omega arith))

before_nothing : (names : List Name) (ts : List DType) → before names ts no_field ≡ fields_view names ts
before_nothing [] ts = refl
before_nothing (a ∷ names) [] = refl
before_nothing (a ∷ names) (t ∷ ts) = ap (field a (type_of t)) (before_nothing names ts)

push_next : (names : List Name) (made new : List DType) (t : DType) (i : ℕ) (fs gs all : Fields) → length made ≡ i → i < length names → new ≡ made ++ t ∷ []
    → gs ≡ field (get_or names i []) (type_of t) fs → before names made gs ≡ all → before names new fs ≡ all
push_next names made new t i fs gs all h k pushed e so_far =
    let p = before_push names made t [] fs (omega arith) in
    let q : field (get_or names (length made) []) (type_of t) fs ≡ field (get_or names i []) (type_of t) fs = ap (λ j. field (get_or names j []) (type_of t) fs) h in
    ap (λ ts. before names ts fs) pushed ∙ p ∙ ap (before names made) q ∙ ap (before names made) (sym e) ∙ so_far

join_fields_nothing : (fs : Fields) → join_fields fs no_field ≡ fs
join_fields_nothing no_field = refl
join_fields_nothing (field a t fs) = refl

pub join_fields_next : (names others : List Name) (types kinds made new : List DType) (i : ℕ) (t u w : DType) (all : Fields)
    → length made ≡ i → i < length names → i < length types → i < length others → i < length kinds → new ≡ made ++ w ∷ []
    → t ≡ get_or types i t → u ≡ get_or kinds i u → type_of w ≡ join (type_of t) (type_of u)
    → before names made (join_fields (fields_view (drop i names) (drop i types)) (fields_view (drop i others) (drop i kinds))) ≡ all
    → before names new (join_fields (fields_view (drop (i + 1) names) (drop (i + 1) types)) (fields_view (drop (i + 1) others) (drop (i + 1) kinds))) ≡ all
join_fields_next names others types kinds made new i t u w all n h k l m pushed p q is so_far =
    push_next names made new w i _ _ all n h pushed (rw (fields_step names types i [] t h k p, fields_step others kinds i [] u l m q, is)) so_far

pub join_fields_kept : (names others : List Name) (types kinds made new : List DType) (i : ℕ) (t w : DType) (all : Fields)
    → length made ≡ i → i < length names → i < length types → field_count (fields_view others kinds) ≤ i → new ≡ made ++ w ∷ []
    → t ≡ get_or types i t → type_of w ≡ type_of t
    → before names made (join_fields (fields_view (drop i names) (drop i types)) (fields_view (drop i others) (drop i kinds))) ≡ all
    → before names new (join_fields (fields_view (drop (i + 1) names) (drop (i + 1) types)) (fields_view (drop (i + 1) others) (drop (i + 1) kinds))) ≡ all
join_fields_kept names others types kinds made new i t w all n h k l pushed p is so_far =
    push_next names made new w i _ _ all n h pushed
    (rw (fields_end others kinds i l, fields_end others kinds (i + 1) (omega arith), join_fields_nothing, fields_step names types i [] t h k p, is) (ap (field (get_or names i []) (type_of t)) (sym (join_fields_nothing _)))) so_far

pub join_fields_end : (names others : List Name) (types kinds made : List DType) (i : ℕ) (all : Fields) → field_count (fields_view names types) ≤ i
    → before names made (join_fields (fields_view (drop i names) (drop i types)) (fields_view (drop i others) (drop i kinds))) ≡ all
    → fields_view names made ≡ all
join_fields_end names others types kinds made i all h so_far =
    sym (before_nothing names made) ∙ ap (λ fs. before names made (join_fields fs (fields_view (drop i others) (drop i kinds)))) (sym (fields_end names types i h)) ∙ so_far

-- ---- projections

abbrev pub add_field : Name → LogicalType → Result Fields VortexError → Result Fields VortexError
add_field a t (Ok fs) = Ok (field a t fs)
add_field a t (Err e) = Err e

known : (names : List Name) (fs : Fields) (a : Name) (t : LogicalType) (u : Option Name) (gs : Fields) → known_or u (Ok (put_field a (Some t) gs)) ≡ add_field a t (known_or u (Ok gs))
known names fs a t None gs = refl
known names fs a t (Some b) gs = refl

pub projected_known : (a : Name) (names : List Name) (fs : Fields) (t : LogicalType) → Some t ≡ field_type a fs → projected (a ∷ names) fs ≡ add_field a t (projected names fs)
projected_known a names fs t e =
    let there : is_among (field_names fs) a ≡ true = known_by_type a fs ∙ ap is_some (sym e) in
    rw (there, ← e) (known names fs a t (first_unknown names fs) (project names fs))

pub projected_unknown : (a : Name) (names : List Name) (fs : Fields) → None ≡ field_type a fs → projected (a ∷ names) fs ≡ Err (NoSuchField a)
projected_unknown a names fs e = let missing : is_among (field_names fs) a ≡ false = known_by_type a fs ∙ ap is_some (sym e) in rw missing

-- the fields found so far, and then the rest
abbrev pub after : List Name → List DType → Result Fields VortexError → Result Fields VortexError
after names ts (Ok fs) = Ok (before names ts fs)
after names ts (Err e) = Err e

pub after_none : (names : List Name) (r : Result Fields VortexError) → after names [] r ≡ r
after_none names (Ok fs) = ap Ok (before_none names fs)
after_none names (Err e) = refl

after_push : (names : List Name) (ts : List DType) (t : DType) (a : Name) (r : Result Fields VortexError) → length ts < length names
    → after names (ts ++ t ∷ []) r ≡ after names ts (add_field (get_or names (length ts) a) (type_of t) r)
after_push names ts t a (Ok fs) h = ap Ok (before_push names ts t a fs h)
after_push names ts t a (Err e) h = refl

pub projected_next : (wanted : List Name) (fs : Fields) (found new : List DType) (i : ℕ) (w : Name) (t : LogicalType) (x : DType) (all : Result Fields VortexError)
    → length found ≡ i → i < length wanted → w ≡ get_or wanted i w → Some t ≡ field_type w fs → type_of x ≡ t → new ≡ found ++ x ∷ []
    → all ≡ after wanted found (projected (drop i wanted) fs)
    → all ≡ after wanted new (projected (drop (i + 1) wanted) fs)
projected_next wanted fs found new i w t x all n h is here same pushed so_far =
    let step : projected (drop i wanted) fs ≡ add_field w t (projected (drop (i + 1) wanted) fs) = rw (add-one, drop-cons wanted i w h, ← is) (projected_known w _ fs t here) in
    let rest = projected (drop (i + 1) wanted) fs in
    let push = after_push wanted found x w rest (omega arith) in
    let at : get_or wanted (length found) w ≡ w = rw n (sym is) in
    let a : add_field (get_or wanted (length found) w) (type_of x) rest ≡ add_field w t rest = rw (at, same) in
    so_far ∙ ap (after wanted found) step ∙ ap (after wanted found) (sym a) ∙ sym push ∙ ap (λ ts. after wanted ts rest) (sym pushed)

pub projected_stops : (wanted : List Name) (fs : Fields) (found : List DType) (i : ℕ) (w : Name) (all : Result Fields VortexError)
    → i < length wanted → w ≡ get_or wanted i w → None ≡ field_type w fs → all ≡ after wanted found (projected (drop i wanted) fs) → all ≡ Err (NoSuchField w)
projected_stops wanted fs found i w all h is here so_far =
    let step : projected (drop i wanted) fs ≡ Err (NoSuchField w) = rw (drop-cons wanted i w h, ← is) (projected_unknown w _ fs here) in
    so_far ∙ ap (after wanted found) step

pub projected_end : (wanted : List Name) (fs : Fields) (found : List DType) (i : ℕ) (all : Result Fields VortexError) → length wanted ≤ i
    → all ≡ after wanted found (projected (drop i wanted) fs) → all ≡ Ok (fields_view wanted found)
projected_end wanted fs found i all h so_far = so_far ∙ rw (drop_of_length-le wanted h) (ap Ok (before_nothing wanted found))

-- ---- names left out

pub projected_kept : (names : List Name) (fs : Fields) → None ≡ first_unknown names fs → projected (names_without names (field_names fs)) fs ≡ projected_without names fs
projected_kept names fs e =
    let known = first_unknown-filter (λ a. not (is_among names a)) (field_names fs) fs (first_unknown-own fs) in
    ap (λ u. known_or u (Ok (project (names_without names (field_names fs)) fs))) (known ∙ e)
