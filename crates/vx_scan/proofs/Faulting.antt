-- Batches that agree along what a normal tree asks for make it fault alike.
use Rattle.std.proofs.Common.{◌≡◌, ◌≢◌, inl, inr, List, [], ◌∷◌, ◌++◌, refl, sym, ap, ◌∙◌, subst, map, Option, Some, None}
use Rattle.std.specs.List.{AllZip}
use Rattle.std.specs.Option.{option_or}
use Rattle.std.proofs.lemmas.Bool.{and_parts}
use Rattle.vx_dtype.specs.declared.error.VortexError.{VortexError}
use Rattle.vx_value.specs.Fits.{Fits, IsBatch}
use Rattle.vx_value.specs.Paths.{Path, minimal_paths}
use Rattle.vx_value.specs.Types.{LogicalType, Datum}
use Rattle.vx_fn.proofs.Rows.{fn_type-found}
use Rattle.vx_fn.specs.Faults.{node_fault}
use Rattle.vx_dtype.specs.Lists.{IsIn}
use Rattle.vx_fn.specs.Functions.{Function, binary, computes, cast, fill_null}
use Rattle.vx_tree.proofs.Trees.{each_passes, or_none}
use Rattle.vx_tree.specs.Faults.{first_fault, each_fault}
use Rattle.vx_tree.specs.Meaning.{value, values}
use Rattle.vx_tree.specs.Trees.{BoundTree, scope, node, BoundTrees, no_bound, bound, node_type, node_types, WellTyped, EachWellTyped, Over, EachOver}
use Rattle.vx_rewrite_core.specs.Steps.{Normal, EachNormal}
use Rattle.vx_rewrite_paths.specs.Agreement.{AgreeAlong, RowsAgree}
use Rattle.vx_rewrite_paths.specs.Asked.{whole, child_paths, asked, each_asked, referenced}
use Rattle.vx_rewrite_paths.proofs.Interference.{LeadEverywhere, paths-agree, asked-lead, node_leads}
use Rattle.vx_rewrite_paths.specs.Leading.{EachLeads}
use Rattle.vx_rewrite_paths.proofs.Leading.{along-left, along-right}
use Rattle.vx_rewrite_paths.proofs.Prefixes.{along_minimal}
use Rattle.vx_rewrite_rule_laws.specs.Rules.{RuleAt}
use Rattle.vx_scan.specs.Alike.{NormalTreesFaultAlike}
use Rattle.vx_scan.proofs.Pruned.{nothing_given, child_asked, some_asked}

-- ---- lists side by side

-- lists that are related place by place are so by what follows for their items
zip_more : (P Q : Datum → Datum → Type 0) (vs ws : List Datum) → AllZip P vs ws → ((v w : Datum) → IsIn v vs → P v w → Q v w) → AllZip Q vs ws
zip_more P Q [] [] z h = tt
zip_more P Q [] (w ∷ ws) z h = elim z [ ]
zip_more P Q (v ∷ vs) [] z h = elim z [ ]
zip_more P Q (v ∷ vs) (w ∷ ws) z h = (h v w (inl refl) z.0, zip_more P Q vs ws z.1 (λ x y i. h x y (inr i)))

-- and are mapped alike where related items are
zip_alike : {A : Type 0} (P : Datum → Datum → Type 0) (f : Datum → A) (vs ws : List Datum) → AllZip P vs ws → ((v w : Datum) → IsIn v vs → IsIn w ws → P v w → f v ≡ f w) → map f vs ≡ map f ws
zip_alike P f [] [] z h = refl
zip_alike P f [] (w ∷ ws) z h = elim z [ ]
zip_alike P f (v ∷ vs) [] z h = elim z [ ]
zip_alike P f (v ∷ vs) (w ∷ ws) z h =
    let first : f v ≡ f w = h v w (inl refl) (inl refl) z.0 in
    let rest : map f vs ≡ map f ws = zip_alike P f vs ws z.1 (λ x y i j. h x y (inr i) (inr j)) in
    cc

-- ---- one node

-- a node that may fault asks its children for all that they have
node_alike : (f : Function) (ts : List LogicalType) (rows others : List (List Datum)) (paths : List Path) → paths ≢ [] → (child_paths f ts paths ≡ whole → rows ≡ others) → node_fault f ts rows ≡ node_fault f ts others
node_alike f ts rows others [] k e = absurd (k refl)
node_alike (binary (computes a)) ts rows others (path ∷ paths) k e = ap (node_fault (binary (computes a)) ts) (e refl)
node_alike (cast u) ts rows others (path ∷ paths) k e = ap (node_fault (cast u) ts) (e refl)
node_alike fill_null ts rows others (path ∷ paths) k e = ap (node_fault fill_null ts) (e refl)
node_alike _ ts rows others (path ∷ paths) k e = refl

-- ---- trees

module _ (s : LogicalType) (first second : List Datum) (fit : IsBatch s first) (fits_too : IsBatch s second) where
  -- where none of the trees faults and each is asked for the whole, two rows give them the same values
  equal_values : (bs : BoundTrees) (v u : Datum) → EachWellTyped bs → EachOver bs s → each_fault bs first ≡ None → each_fault bs second ≡ None → IsIn v first → IsIn u second → AgreeAlong (each_asked bs whole) s v u → values bs v ≡ values bs u
  equal_values no_bound v u w o m n i j a = refl
  equal_values (bound b bs) v u w o m n i j a =
      let p = or_none _ _ m in
      let q = or_none _ _ n in
      let here : value b v ≡ value b u = (paths-agree b s first second v u whole w.0 o.0 p.0 q.0 i j (each_passes _ first v fit i) (each_passes _ second u fits_too j) (tt, tt) (along-left (asked b whole) (each_asked bs whole) s v u a)).0 in
      let there : values bs v ≡ values bs u = equal_values bs v u w.1 o.1 p.1 q.1 i j (along-right (asked b whole) (each_asked bs whole) s v u a) in
      rw (here, there) refl

  equal_rows : (bs : BoundTrees) → EachWellTyped bs → EachOver bs s → each_fault bs first ≡ None → each_fault bs second ≡ None → RowsAgree (each_asked bs whole) s first second → map (values bs) first ≡ map (values bs) second
  equal_rows bs w o m n rows = zip_alike (AgreeAlong (each_asked bs whole) s) (values bs) first second rows (λ v u i j a. equal_values bs v u w o m n i j a)

  -- the children fault alike, and where none does so does the node
  join : (x y p q : Option VortexError) → x ≡ y → (x ≡ None → y ≡ None → p ≡ q) → option_or x p ≡ option_or y q
  join None None p q e h = h refl refl
  join (Some a) (Some b) p q e h = e
  join None (Some b) p q e h = cc
  join (Some a) None p q e h = cc

  mutual
    tree_alike : (b : BoundTree) (paths : List Path) → WellTyped b → Over b s → Normal RuleAt b → EachLeads paths (node_type b) → paths ≢ [] → RowsAgree (asked b paths) s first second → first_fault b first ≡ first_fault b second
    tree_alike (scope t) paths w o n l k rows = refl
    tree_alike (node t f bs) paths w o n l k rows =
        let d = fn_type-found f (node_types bs) t w.0 in
        let ls = node_leads paths d l in
        let p = nothing_given t f bs w n.0 in
        join (each_fault bs first) (each_fault bs second) _ _
        (each_alike bs (child_paths f (node_types bs) paths) w.2 o n.1 ls (child_asked paths d p l k) rows)
        (λ quiet too. node_alike f (node_types bs) (map (values bs) first) (map (values bs) second) paths k
        (λ q. equal_rows bs w.2 o quiet too (subst (λ ps. RowsAgree (each_asked bs ps) s first second) q rows)))

    each_alike : (bs : BoundTrees) (paths : List Path) → EachWellTyped bs → EachOver bs s → EachNormal RuleAt bs → LeadEverywhere paths (node_types bs) → paths ≢ [] → RowsAgree (each_asked bs paths) s first second → each_fault bs first ≡ each_fault bs second
    each_alike no_bound paths w o n l k rows = refl
    each_alike (bound b bs) paths w o n l k rows =
        let left = zip_more _ (AgreeAlong (asked b paths) s) first second rows (λ v u i a. along-left (asked b paths) (each_asked bs paths) s v u a) in
        let right = zip_more _ (AgreeAlong (each_asked bs paths) s) first second rows (λ v u i a. along-right (asked b paths) (each_asked bs paths) s v u a) in
        let here : first_fault b first ≡ first_fault b second = tree_alike b paths w.0 o.0 n.0 l.0 k left in
        let there : each_fault bs first ≡ each_fault bs second = each_alike bs paths w.1 o.1 n.1 l.1 k right in
        rw (here, there) refl

pub normal_trees-alike : NormalTreesFaultAlike
normal_trees-alike = λ b w n s first second o fit fits_too rows.
    let leads = asked-lead b s whole w o (tt, tt) in
    let along = zip_more _ (AgreeAlong (asked b whole) s) first second rows (λ v u i a. along_minimal (asked b whole) s v u leads (each_passes _ first v fit i) a) in
    tree_alike s first second fit fits_too b whole w o n (tt, tt) (some_asked [] []) along
