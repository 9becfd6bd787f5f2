-- The referenced paths of a tree lead somewhere in its scope's type, so what is read along them agrees with the batch.
use Rattle.std.proofs.Common.{◌≡◌, List, [], ◌∷◌, ◌++◌, sym, subst, filter, map, Bool, true, false}
use Rattle.std.specs.Prelude.{cond, if◌then◌else◌, not}
use Rattle.vx_value.specs.Fits.{IsBatch}
use Rattle.vx_value.specs.Paths.{Path, is_member, add_path, add_paths, has_proper_prefix, minimal_paths}
use Rattle.vx_value.specs.Types.{LogicalType, Datum}
use Rattle.vx_tree.specs.Trees.{BoundTree, WellTyped, Over}
use Rattle.vx_rewrite_paths.specs.Agreement.{RowsAgree}
use Rattle.vx_rewrite_paths.specs.Asked.{whole, asked, referenced}
use Rattle.vx_rewrite_paths.proofs.Interference.{asked-lead}
use Rattle.vx_rewrite_paths.specs.Leading.{Leads, EachLeads}
use Rattle.vx_rewrite_paths.proofs.Leading.{leads-append}
use Rattle.vx_projection.specs.Kept.{kept}
use Rattle.vx_projection.proofs.Agreeing.{kept_rows-agree}

filter-leads : (test : Path → Bool) (ps : List Path) (t : LogicalType) → EachLeads ps t → EachLeads (filter test ps) t
filter-leads test [] t l = tt
filter-leads test (p ∷ ps) t l = go (test p) (filter-leads test ps t l.1)
  where
    go : (b : Bool) → EachLeads (filter test ps) t → EachLeads (cond b (p ∷ filter test ps) (filter test ps)) t
    go true k = (l.0, k)
    go false k = k

add-leads : (ps : List Path) (p : Path) (t : LogicalType) → EachLeads ps t → Leads p t → EachLeads (add_path ps p) t
add-leads ps p t l k = go (is_member ps p)
  where
    go : (b : Bool) → EachLeads (if b then ps else ps ++ p ∷ []) t
    go true = l
    go false = leads-append ps (p ∷ []) t l (k, tt)

adds-lead : (ps xs : List Path) (t : LogicalType) → EachLeads ps t → EachLeads xs t → EachLeads (add_paths ps xs) t
adds-lead ps [] t l k = l
adds-lead ps (x ∷ xs) t l k = adds-lead (add_path ps x) xs t (add-leads ps x t l k.0) k.1

pub minimal-lead : (u : BoundTree) (s : LogicalType) → WellTyped u → Over u s → EachLeads (minimal_paths (referenced u)) s
minimal-lead u s w o =
    let ps = referenced u in
    filter-leads (λ p. not (has_proper_prefix ps p)) ps s (adds-lead [] (asked u whole) s tt (asked-lead u s whole w o (tt, tt)))

pub read-agrees : (u : BoundTree) (ps : List Path) (s : LogicalType) (rows : List Datum) → ps ≡ referenced u → WellTyped u → Over u s → IsBatch s rows → RowsAgree (minimal_paths (referenced u)) s rows (map (kept (minimal_paths ps) s) rows)
read-agrees u ps s rows is w o fit = subst (λ qs. RowsAgree (minimal_paths (referenced u)) s rows (map (kept (minimal_paths qs) s) rows)) (sym is) (kept_rows-agree (minimal_paths (referenced u)) s rows (minimal-lead u s w o) fit)
