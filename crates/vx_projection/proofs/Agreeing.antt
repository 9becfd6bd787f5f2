-- What is kept of a batch agrees with it along the paths.
use Rattle.std.proofs.Common.{◌≡◌, inl, inr, List, [], ◌∷◌, refl, sym, ap, ◌∙◌, subst, Bool, true, false, map, Option, Some, None}
use Rattle.std.specs.Prelude.{if◌then◌else◌}
use Rattle.std.specs.List.{list_any, filter_map, AllZip}
use Rattle.std.specs.Option.{IsSomeAnd}
use Rattle.std.specs.Str.{bytes_eq}
use Rattle.std.proofs.lemmas.Bool.{and_parts, or_right}
use Rattle.vx_value.proofs.Fitting.{field_value-fits}
use Rattle.vx_value.specs.Fields.{field_type, field_value}
use Rattle.vx_value.specs.Fits.{Fits, fields_fit, IsBatch}
use Rattle.vx_value.specs.Paths.{Path, is_member, equal_path}
use Rattle.vx_value.specs.Types.{Name, LogicalType, ty, struct, Fields, no_field, field, Datum, null, struct_of, Data, no_datum, datum}
use Rattle.vx_dtype.specs.Lists.{IsIn}
use Rattle.vx_dtype.proofs.NameTests.{same_name, own_name}
use Rattle.vx_rewrite_paths.specs.Agreement.{Agree, AgreeAlong, RowsAgree}
use Rattle.vx_rewrite_paths.specs.Leading.{Leads, EachLeads}
use Rattle.vx_rewrite_paths.proofs.Leading.{agree-refl}
use Rattle.vx_projection.specs.Defaults.{default_of}
use Rattle.vx_projection.specs.Kept.{rest_behind, rests, others, at_paths, kept, fields_kept}

-- ---- paths behind a name

in_rests : (a : Name) (p : Path) (paths : List Path) → IsIn (a ∷ p) paths → IsIn p (rests a paths)
in_rests a p [] i = elim i [ ]
in_rests a p (q ∷ paths) (inl e) =
    let here : rest_behind a q ≡ Some p = ap (rest_behind a) (sym e) ∙ rw (own_name a) refl in
    rw here (inl refl)
in_rests a p (q ∷ paths) (inr i) = go (rest_behind a q) (in_rests a p paths i)
  where
    go : (o : Option Path) → IsIn p (rests a paths) → IsIn p (Rattle.std.specs.List.cons_option o (rests a paths))
    go None j = j
    go (Some r) j = inr j

rests-others : (a b : Name) (paths : List Path) → bytes_eq a b ≡ false → rests a (others b paths) ≡ rests a paths
rests-others a b [] e = refl
rests-others a b ([] ∷ paths) e = rests-others a b paths e
rests-others a b ((c ∷ p) ∷ paths) e = go (bytes_eq b c) refl (rests-others a b paths e)
  where
    go : (d : Bool) → bytes_eq b c ≡ d → rests a (others b paths) ≡ rests a paths → rests a (others b ((c ∷ p) ∷ paths)) ≡ rests a ((c ∷ p) ∷ paths)
    go true f k =
        let same : bytes_eq a c ≡ false = ap (bytes_eq a) (sym (same_name b c f)) ∙ e in
        rw (f, same) k
    go false f k = rw f (rw k refl)

-- ---- a field of what is kept

field-kept : (a : Name) (paths : List Path) (fs : Fields) (vs : Data) (t : LogicalType) → field_type a fs ≡ Some t → fields_fit vs fs ≡ true → field_value a fs (fields_kept paths fs vs) ≡ kept (rests a paths) t (field_value a fs vs)
field-kept a paths no_field vs t e f = cc
field-kept a paths (field b u fs) no_datum t e f = cc
field-kept a paths (field b u fs) (datum v vs) t e f =
    let p = and_parts _ _ f in
    go (bytes_eq a b) refl e (λ q. field-kept a (others b paths) fs vs t q p.1)
  where
    go : (c : Bool) → bytes_eq a b ≡ c → (if c then Some u else field_type a fs) ≡ Some t → (field_type a fs ≡ Some t → field_value a fs (fields_kept (others b paths) fs vs) ≡ kept (rests a (others b paths)) t (field_value a fs vs))
        → (if c then kept (rests b paths) u v else field_value a fs (fields_kept (others b paths) fs vs)) ≡ kept (rests a paths) t (if c then v else field_value a fs vs)
    go true h q k = let r : u ≡ t = cc in rw (same_name a b h, r) refl
    go false h q k = k q ∙ ap (λ ps. kept ps t (field_value a fs vs)) (rests-others a b paths h)

-- ---- the whole

root_in : (paths : List Path) → IsIn [] paths → is_member paths [] ≡ true
root_in [] i = elim i [ ]
root_in (p ∷ paths) (inl e) = let here : equal_path [] p ≡ true = ap (equal_path []) (sym e) in rw here refl
root_in (p ∷ paths) (inr i) = or_right (equal_path [] p) _ (root_in paths i)

at_whole : (paths : List Path) (all inside default : Datum) → is_member paths [] ≡ true → at_paths paths all inside default ≡ all
at_whole [] all inside default e = cc
at_whole (p ∷ paths) all inside default e = rw e refl

kept-whole : (paths : List Path) (t : LogicalType) (v : Datum) → is_member paths [] ≡ true → kept paths t v ≡ v
kept-whole paths (ty (struct fs) n) null e = at_whole paths null null (default_of (ty (struct fs) n)) e
kept-whole paths (ty (struct fs) n) (struct_of vs) e = at_whole paths (struct_of vs) (struct_of (fields_kept paths fs vs)) (default_of (ty (struct fs) n)) e
kept-whole paths t v e = at_whole paths v (default_of t) (default_of t) e

at_some_path : (P : Datum → Type 0) (p : Path) (paths : List Path) (all inside default : Datum) → IsIn p paths → (is_member paths [] ≡ true → P all) → P inside → P (at_paths paths all inside default)
at_some_path P p [] all inside default i a b = elim i [ ]
at_some_path P p (q ∷ paths) all inside default i a b = go (is_member (q ∷ paths) []) refl
  where
    go : (c : Bool) → is_member (q ∷ paths) [] ≡ c → P (if c then all else inside)
    go true e = a e
    go false e = b

-- ---- agreement

pub kept-agrees : (p : Path) (paths : List Path) (t : LogicalType) (v : Datum) → IsIn p paths → Leads p t → Fits v t → Agree p t v (kept paths t v)
kept-agrees [] paths t v i l e = sym (kept-whole paths t v (root_in paths i))
kept-agrees (a ∷ p) paths (ty (struct fs) n) null i l e = at_some_path (λ w. Agree (a ∷ p) (ty (struct fs) n) null w) (a ∷ p) paths null null (default_of (ty (struct fs) n)) i (λ m. tt) tt
kept-agrees (a ∷ p) paths (ty (struct fs) n) (struct_of vs) i l e =
    at_some_path (λ w. Agree (a ∷ p) (ty (struct fs) n) (struct_of vs) w) (a ∷ p) paths (struct_of vs) (struct_of (fields_kept paths fs vs)) (default_of (ty (struct fs) n)) i
    (λ m. agree-refl (a ∷ p) (ty (struct fs) n) (struct_of vs) l e)
    (go (field_type a fs) refl l (λ t k f. kept-agrees p (rests a paths) t (field_value a fs vs) (in_rests a p paths i) k f))
  where
    go : (o : Option LogicalType) → field_type a fs ≡ o → IsSomeAnd o (λ t. Leads p t) → ((t : LogicalType) → Leads p t → Fits (field_value a fs vs) t → Agree p t (field_value a fs vs) (kept (rests a paths) t (field_value a fs vs)))
        → IsSomeAnd o (λ t. Agree p t (field_value a fs vs) (field_value a fs (fields_kept paths fs vs)))
    go None q l k = l
    go (Some t) q l k = subst (λ w. Agree p t (field_value a fs vs) w) (sym (field-kept a paths fs vs t q e)) (k t l (field_value-fits a fs vs t q e))
kept-agrees (a ∷ p) paths (ty (struct fs) n) _ i l e = let x : false ≡ true = e in absurd cc
kept-agrees (a ∷ p) paths _ v i l e = elim l [ ]

-- along each of some of the paths
along : (some paths : List Path) (t : LogicalType) (v : Datum) → ((p : Path) → IsIn p some → IsIn p paths) → EachLeads some t → Fits v t → AgreeAlong some t v (kept paths t v)
along [] paths t v within l e = tt
along (p ∷ some) paths t v within l e = (kept-agrees p paths t v (within p (inl refl)) l.0 e, along some paths t v (λ q i. within q (inr i)) l.1 e)

pub kept-along : (paths : List Path) (t : LogicalType) (v : Datum) → EachLeads paths t → Fits v t → AgreeAlong paths t v (kept paths t v)
kept-along paths t v l e = along paths paths t v (λ p i. i) l e

-- in each row
pub kept_rows-agree : (paths : List Path) (t : LogicalType) (rows : List Datum) → EachLeads paths t → IsBatch t rows → RowsAgree paths t rows (map (kept paths t) rows)
kept_rows-agree paths t [] l e = tt
kept_rows-agree paths t (v ∷ rows) l e = let p = and_parts _ _ e in (kept-along paths t v l p.0, kept_rows-agree paths t rows l p.1)
