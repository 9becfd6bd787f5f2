-- What is known of rows along paths is known of what is kept of them along these.
use Rattle.std.proofs.Common.{◌≡◌, suc, List, [], ◌∷◌, length, map, Option, Some, None, Result, Ok, Err, IfOk, inl, inr, refl, sym, ap, ◌∙◌, subst}
use Rattle.std.specs.Option.{IsSomeAnd}
use Rattle.vx_dtype.proofs.Lists.{map_same}
use Rattle.vx_dtype.specs.Lists.{IsIn}
use Rattle.vx_dtype.specs.Returns.{ReturnsOrOom}
use Rattle.vx_dtype.specs.declared.error.VortexError.{VortexError}
use Rattle.vx_value.specs.Columns.{Batch}
use Rattle.vx_value.specs.Fields.{field_type, field_value}
use Rattle.vx_value.specs.Fits.{IsBatch}
use Rattle.vx_value.specs.Paths.{Path}
use Rattle.vx_value.specs.Types.{LogicalType, ty, struct, Datum, null, struct_of}
use Rattle.vx_rewrite_paths.specs.Agreement.{Agree, AgreeAlong, RowsAgree}
use Rattle.vx_projection.proofs.Agreeing.{kept_rows-agree}
use Rattle.vx_projection.proofs.Finding.{all_found-lead}
use Rattle.vx_projection.specs.Kept.{kept, kept_batch}
use Rattle.vx_projection.specs.Lost.{first_lost, unless_lost}
use Rattle.vx_prune_tree.proofs.Truth.{read_is_true}
use Rattle.vx_prune_tree.specs.Reading.{entry_along, facts_along, facts_of}
use Rattle.vx_prune_tree.specs.Stats.{Describes, Facts, along, at_path, facts, in_known}

-- values that agree along a path have the same value there
same_at : (p : Path) (t : LogicalType) (v w : Datum) → Agree p t v w → at_path t p v ≡ at_path t p w
same_at [] t v w e = e
same_at (a ∷ p) t null null e = refl
same_at (a ∷ p) (ty (struct fs) n) (struct_of vs) (struct_of ws) e = go (field_type a fs) e (λ t. same_at p t (field_value a fs vs) (field_value a fs ws))
  where
    go : (o : Option LogicalType) → IsSomeAnd o (λ t. Agree p t (field_value a fs vs) (field_value a fs ws)) → ((t : LogicalType) → Agree p t (field_value a fs vs) (field_value a fs ws) → at_path t p (field_value a fs vs) ≡ at_path t p (field_value a fs ws))
        → in_known o (λ t. at_path t p (field_value a fs vs)) ≡ in_known o (λ t. at_path t p (field_value a fs ws))
    go None h k = refl
    go (Some t) h k = k t h
same_at (a ∷ p) _ _ _ e = elim e [ ]

of_one : (paths : List Path) (t : LogicalType) (v w : Datum) (p : Path) → AgreeAlong paths t v w → IsIn p paths → Agree p t v w
of_one [] t v w p all i = elim i [ ]
of_one (q ∷ paths) t v w p all (inl e) = subst (λ r. Agree r t v w) (sym e) all.0
of_one (q ∷ paths) t v w p all (inr i) = of_one paths t v w p all.1 i

-- so do rows
same_along : (paths : List Path) (t : LogicalType) (rows others : List Datum) (p : Path) → RowsAgree paths t rows others → IsIn p paths → along t p rows ≡ along t p others
same_along paths t [] [] p all i = refl
same_along paths t [] (w ∷ others) p all i = elim all [ ]
same_along paths t (v ∷ rows) [] p all i = elim all [ ]
same_along paths t (v ∷ rows) (w ∷ others) p all i =
    ap (λ d. d ∷ along t p rows) (same_at p t v w (of_one paths t v w p all.0 i)) ∙ ap (λ ds. at_path t p w ∷ ds) (same_along paths t rows others p all.1 i)

as_long : (paths : List Path) (t : LogicalType) (rows others : List Datum) → RowsAgree paths t rows others → length rows ≡ length others
as_long paths t [] [] all = refl
as_long paths t [] (w ∷ others) all = elim all [ ]
as_long paths t (v ∷ rows) [] all = elim all [ ]
as_long paths t (v ∷ rows) (w ∷ others) all = ap suc (as_long paths t rows others all.1)

same_facts : (paths : List Path) (t : LogicalType) (rows others : List Datum) → RowsAgree paths t rows others → facts_along t paths rows ≡ facts_along t paths others
same_facts paths t rows others all =
    ap (λ n. facts n (map (entry_along t rows) paths)) (as_long paths t rows others all)
    ∙ ap (facts (length others)) (map_same (entry_along t rows) (entry_along t others) paths (λ p i. ap (λ ds. (p, facts_of ds)) (same_along paths t rows others p all i)))

abbrev ok_facts : Facts → Result Facts VortexError
ok_facts f = Ok f

-- what is read of what is kept is what is read of all
same_read : (paths : List Path) (t : LogicalType) (rows : List Datum) → IsBatch t rows → unless_lost (first_lost paths t) (facts_along t paths (map (kept paths t) rows)) ≡ unless_lost (first_lost paths t) (facts_along t paths rows)
same_read paths t rows fit = go (first_lost paths t) refl
  where
    go : (o : Option VortexError) → first_lost paths t ≡ o → unless_lost o (facts_along t paths (map (kept paths t) rows)) ≡ unless_lost o (facts_along t paths rows)
    go None e = ap ok_facts (sym (same_facts paths t rows (map (kept paths t) rows) (kept_rows-agree paths t rows (all_found-lead paths t e) fit)))
    go (Some refusal) e = refl

pub read_of_kept : (paths : List Path) (c d : Batch) (r : Result Facts VortexError) → IsBatch c.type c.rows → kept_batch paths c ≡ d
    → ReturnsOrOom (λ x. x) r (unless_lost (first_lost paths d.type) (facts_along d.type paths d.rows)) → ReturnsOrOom (λ x. x) r (unless_lost (first_lost paths c.type) (facts_along c.type paths c.rows))
read_of_kept paths c d r fit is told =
    subst (ReturnsOrOom (λ x. x) r) (same_read paths c.type c.rows fit)
    (subst (λ (b : Batch). ReturnsOrOom (λ x. x) r (unless_lost (first_lost paths b.type) (facts_along b.type paths b.rows))) (sym is) told)

-- and it is true
pub read_describes : (paths : List Path) (c : Batch) (r : Result Facts VortexError) → ReturnsOrOom (λ x. x) r (unless_lost (first_lost paths c.type) (facts_along c.type paths c.rows)) → IfOk r (λ stats. Describes stats c.type c.rows)
read_describes paths c (Err y) told = tt
read_describes paths c (Ok f) told = go (first_lost paths c.type) told
  where
    go : (o : Option VortexError) → ReturnsOrOom (λ x. x) (Ok f) (unless_lost o (facts_along c.type paths c.rows)) → Describes f c.type c.rows
    go None e = let is : facts_along c.type paths c.rows ≡ f = cc in subst (λ g. Describes g c.type c.rows) is (read_is_true c.type paths c.rows)
    go (Some refusal) e = cc
