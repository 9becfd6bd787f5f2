-- Rows that fit.
use Rattle.std.proofs.Common.{◌≡◌, suc, List, [], ◌∷◌, ◌++◌, map, length, true, arith, rules, sym, ◌∙◌, subst, ap}
use Rattle.std.specs.Prelude.{None}
use Rattle.std.proofs.lemmas.List.{map-append, length-map}
use Rattle.std.proofs.lemmas.List.Folds.{list_all-append}
use Rattle.vx_dtype.specs.Lists.{forall2_nil, forall2_cons}
use Rattle.vx_dtype.specs.declared.dtype.DType.{DType, the_lemmas as the_types}
use Rattle.vx_dtype.specs.declared.dtype.DType.TheVariants as DType
use Rattle.vx_dtype.specs.declared.dtype.Nullability.TheVariants.{NonNullable}
use Rattle.vx_dtype.specs.declared.dtype.StructFields.{StructFields}
use Rattle.vx_value.specs.Columns.{Constant, first_misfit, struct_value}
use Rattle.vx_value.specs.Fields.{fields_named}
use Rattle.vx_value.specs.Fits.{Fits, EachFits, fits}
use Rattle.vx_value.specs.Types.{Name, LogicalType, ty, struct, Datum}
use Rattle.vx_value.specs.Views.{admits_null, fields_of, type_of, value_of}
use Rattle.vx_value.specs.declared.value.Value.{Value}
use Rattle.vx_value.proofs.Fitting.{pack-fits}
use Rattle.vx_value.proofs.Misfits.{no_misfit}
use Rattle.vx_forms.specs.Named.{beside, named}
use Rattle.vx_forms.specs.Rows.{AreConstants, constant_types, row_type}

-- lists that are seen alike still are with one more of each
pub seen_next : {A B C : Type 0} (f : A → C) (g : B → C) (xs new : List A) (x : A) (ys : List B) (y : B) → map f xs ≡ map g ys → new ≡ xs ++ x ∷ [] → f x ≡ g y → map f new ≡ map g (ys ++ y ∷ [])
seen_next f g xs new x ys y so_far pushed here =
    ap (map f) pushed ∙ map-append f xs (x ∷ []) ∙ ap (λ zs. zs ++ f x ∷ []) so_far ∙ ap (λ z. map g ys ++ z ∷ []) here ∙ sym (map-append g ys (y ∷ []))

-- with one more row that fits there is still no misfit
pub no_misfit_next : (t : LogicalType) (rows : List Datum) (v : Datum) → first_misfit t rows ≡ None → Fits v t → first_misfit t (rows ++ v ∷ []) ≡ None
no_misfit_next t rows v e f =
    let each = (no_misfit t rows).0 e in
    let here : fits v t ≡ true = f in
    (no_misfit t (rows ++ v ∷ [])).1 (rw (list_all-append (λ v. fits v t) rows (v ∷ []), each, here))

each_fits : (cs : List Constant) → AreConstants cs → EachFits (map (λ (c : Constant). c.value) cs) (constant_types cs)
each_fits [] h = forall2_nil
each_fits (c ∷ cs) h = forall2_cons (h 0 c (omega arith)) (each_fits cs (λ k d lt. h (suc k) d (omega arith)))

-- scalars side by side are a value of the type of their types
pub row_fits : (names : List Name) (cs : List Constant) → length names ≡ length cs → AreConstants cs → Fits (struct_value cs) (row_type names cs)
row_fits names cs e h = pack-fits names (length-map cs (λ (c : Constant). c.type) ∙ sym e) (each_fits cs h)

-- with one more value of a column there is still no misfit
pub fit_next : (t : LogicalType) (rows new : List Value) (v : Value) (said : Datum) → first_misfit t (map value_of rows) ≡ None → new ≡ rows ++ v ∷ []
    → said ≡ value_of v → Fits said t → first_misfit t (map value_of new) ≡ None
fit_next t rows new v said e pushed same f =
    let one_more : map value_of new ≡ map value_of rows ++ value_of v ∷ [] = ap (map value_of) pushed ∙ map-append value_of rows (v ∷ []) in
    subst (λ ds. first_misfit t ds ≡ None) (sym one_more) (no_misfit_next t (map value_of rows) (value_of v) e (subst (λ d. Fits d t) same f))

-- there are as many names as things beside them
pub both_long : {N A : Type 0} (view : N → Name) (entries : List (N × A)) (names all : List Name) (others : List A) → all ≡ names → names ≡ named view entries → others ≡ beside entries → length all ≡ length others
both_long view entries names all others e n o = ap length (e ∙ n) ∙ length-map entries (λ x. view x.0) ∙ sym (ap length o ∙ length-map entries (λ x. x.1))

-- the scalars are a value of the struct type that was made
pub made_fits : (fields : StructFields) (names : List Name) (types : List DType) (cs ds : List Constant) → length names ≡ length cs → AreConstants cs
    → map type_of types ≡ constant_types cs → ds ≡ cs → fields_of fields ≡ fields_named names (map type_of types) → Fits (struct_value ds) (type_of (DType.Struct fields NonNullable))
made_fits fields names types cs ds named fit typed same made =
    let t : type_of (DType.Struct fields NonNullable) ≡ ty (struct (fields_of fields)) (admits_null NonNullable) = search (rules, the_types) in
    rw (t, made, typed, same) (row_fits names cs named fit)
