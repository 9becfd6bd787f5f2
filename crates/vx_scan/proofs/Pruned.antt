-- A node at which no rule fits asks its children for something where it is asked for something.
use Rattle.std.proofs.Common.{◌≡◌, ◌≢◌, List, [], ◌∷◌, ◌++◌, refl, subst, Bool, true, false}
use Rattle.std.specs.Prelude.{if◌then◌else◌}
use Rattle.std.specs.List.{flat_map}
use Rattle.std.specs.Option.{IsSomeAnd}
use Rattle.vx_value.specs.Fields.{is_among, project}
use Rattle.vx_value.specs.Paths.{Path}
use Rattle.vx_value.specs.Types.{Name, LogicalType, ty, struct, Fields}
use Rattle.vx_fn.specs.Functions.{Function, select, included}
use Rattle.vx_fn.specs.Rows.{FnType, of_get_item, of_select}
use Rattle.vx_fn.specs.declared.options.FieldSelection.{FieldSelection}
use Rattle.vx_tree.specs.Trees.{BoundTree, node, BoundTrees, no_bound, bound, node_type, node_types, WellTyped}
use Rattle.vx_rewrite_core.specs.Steps.{GivesNothing}
use Rattle.vx_rewrite_paths.specs.Asked.{selected_path, selected_paths, child_paths}
use Rattle.vx_rewrite_paths.specs.Leading.{Leads, EachLeads}
use Rattle.vx_rewrite_paths.proofs.Projections.{project-missing}
use Rattle.vx_rewrite_rule_laws.specs.Rules.{RuleAt, select_none}

-- a selection of what is never null keeps some field
abbrev pub IsPruned : Function → List LogicalType → Type 0
IsPruned (select selection) (ty (struct fs) false ∷ []) = included selection fs ≢ []
IsPruned _ _ = Unit {0}

-- so it is where no rule fits
pub nothing_given : (t : LogicalType) (f : Function) (bs : BoundTrees) → WellTyped (node t f bs) → GivesNothing RuleAt (node t f bs) → IsPruned f (node_types bs)
nothing_given t (select selection) no_bound w n = tt
nothing_given t (select selection) (bound x no_bound) w n = go (node_type x) refl
  where
    go : (s : LogicalType) → node_type x ≡ s → IsPruned (select selection) (s ∷ [])
    go (ty (struct fs) false) q = λ e. n _ (select_none q e)
    go _ q = tt
nothing_given t (select selection) (bound x (bound y ys)) w n = absurd (let e = w.0 in cc)
nothing_given t _ bs w n = tt

pruned_select : (selection : FieldSelection) (fs : Fields) (n : Bool) → IsPruned (select selection) (ty (struct fs) n ∷ []) → n ≡ false → included selection fs ≢ []
pruned_select selection fs false p e = p
pruned_select selection fs true p e = cc

pub some_asked : (p : Path) (ps : List Path) → (p ∷ ps) ≢ []
some_asked p ps e = cc

names_asked : (a : Name) (names : List Name) (path : Path) (paths : List Path) (fs : Fields) (n : Bool) → Leads path (ty (struct (project (a ∷ names) fs)) n) → flat_map (selected_path (a ∷ names)) (path ∷ paths) ≢ []
names_asked a names [] paths fs n l = some_asked _ _
names_asked a names (b ∷ path) paths fs n l = go (is_among (a ∷ names) b) refl
  where
    go : (c : Bool) → is_among (a ∷ names) b ≡ c → ((if c then (b ∷ path) ∷ [] else []) ++ flat_map (selected_path (a ∷ names)) paths) ≢ []
    go true m = some_asked _ _
    go false m = absurd (subst (λ o. IsSomeAnd o (λ t. Leads path t)) (project-missing b (a ∷ names) fs m) l)

select_asked : (names : List Name) (fs : Fields) (n : Bool) (path : Path) (paths : List Path) → (n ≡ false → names ≢ []) → Leads path (ty (struct (project names fs)) n) → selected_paths names n (path ∷ paths) ≢ []
select_asked [] fs false path paths p l = absurd (p refl refl)
select_asked [] fs true path paths p l = some_asked _ _
select_asked (a ∷ names) fs n path paths p l = names_asked a names path paths fs n l

pub child_asked : {f : Function} {ts : List LogicalType} {t : LogicalType} (paths : List Path) → FnType f ts t → IsPruned f ts → EachLeads paths t → paths ≢ [] → child_paths f ts paths ≢ []
child_asked [] d p l k = absurd (k refl)
child_asked (path ∷ paths) (of_get_item e) p l k = some_asked _ _
child_asked (path ∷ paths) (of_select {sel = sel} {fs = fs} {n = n} e) p l k = select_asked (included sel fs) fs n path paths (pruned_select sel fs n p) l.0
child_asked (path ∷ paths) _ p l k = some_asked _ _
