-- What nodes ask their children for, and what requests on the stack stand for.
use Rattle.std.proofs.Common.{◌≡◌, ◌≢◌, ℕ, ◌+◌, ◌<◌, ◌≤◌, ◌==◌, List, [], ◌∷◌, ◌++◌, length, get_or, drop, append_assoc, filter, map, refl, sym, ap, ◌∙◌, Bool, true, false, arith}
use Rattle.std.specs.Prelude.{if◌then◌else◌, cond}
use Rattle.std.specs.List.{flat_map}
use Rattle.std.proofs.lemmas.Bool.{eqb-true}
use Rattle.std.proofs.lemmas.List.{append-nil, at_drop_more, at_drop_all}
use Rattle.vx_value.specs.Fields.{is_among}
use Rattle.vx_value.specs.Paths.{Path}
use Rattle.vx_value.specs.Types.{Name, LogicalType, ty, struct, Fields}
use Rattle.vx_fn.specs.Functions.{Function, get_item, select, included}
use Rattle.vx_fn.specs.declared.options.FieldSelection.{FieldSelection}
use Rattle.vx_tree.specs.Trees.{BoundTree, scope, node, BoundTrees, no_bound, bound, node_type, node_types}
use Rattle.vx_tree.specs.Views.{bound_of, bounds_of}
use Rattle.vx_tree.specs.declared.bound.BoundExpression.{BoundExpression}
use Rattle.vx_rewrite_paths.specs.Asked.{whole, each_alone, selected_path, selected_paths, select_paths, child_paths, asked, each_asked}

-- a list of no length has no item
pub nothing : {A : Type 0} (xs : List A) → (length xs == 0) ≡ true → xs ≡ []
nothing [] e = refl
nothing (x ∷ xs) e = let none : length (x ∷ xs) ≡ 0 = eqb-true (length (x ∷ xs)) 0 e in absurd (omega arith)

pub something : {A : Type 0} (xs : List A) → (length xs == 0) ≡ false → xs ≢ []
something [] e = absurd cc
something (x ∷ xs) e = λ q. cc

-- a tree that is asked for nothing asks for nothing
mutual
  pub asked-nothing : (b : BoundTree) → asked b [] ≡ []
  asked-nothing (scope t) = refl
  asked-nothing (node t f bs) = each_asked-nothing bs

  pub each_asked-nothing : (bs : BoundTrees) → each_asked bs [] ≡ []
  each_asked-nothing no_bound = refl
  each_asked-nothing (bound b bs) = rw (asked-nothing b, each_asked-nothing bs) refl

-- what an item asks for
pub item_asks : (a : Name) (ts : List LogicalType) (front : Path) (ends : List Path) → child_paths (get_item a) ts (map (λ end. front ++ end) ends) ≡ map (λ end. (a ∷ front) ++ end) ends
item_asks a ts front [] = refl
item_asks a ts front (end ∷ ends) = ap (λ ps. (a ∷ (front ++ end)) ∷ ps) (mapped ends)
  where
    mapped : (es : List Path) → map (λ p. a ∷ p) (map (λ end. front ++ end) es) ≡ map (λ end. (a ∷ front) ++ end) es
    mapped [] = refl
    mapped (e ∷ es) = ap (λ ps. (a ∷ (front ++ e)) ∷ ps) (mapped es)

-- what a selection asks for, where it is asked for something
pub selection_asks : (selection : FieldSelection) (t : LogicalType) (ts : List LogicalType) (paths : List Path) → paths ≢ [] → child_paths (select selection) (t ∷ ts) paths ≡ select_paths selection t paths
selection_asks selection t ts [] h = absurd (h refl)
selection_asks selection t ts (path ∷ paths) h = refl

-- where no field is included
pub none_included : (names : List Name) (nullable : Bool) (paths : List Path) → (length names == 0) ≡ true → selected_paths names nullable paths ≡ (if nullable then whole else [])
none_included names nullable paths e = rw (nothing names e) refl

pub some_included : (names : List Name) (nullable : Bool) (paths : List Path) → (length names == 0) ≡ false → selected_paths names nullable paths ≡ flat_map (selected_path names) paths
some_included [] nullable paths e = cc
some_included (a ∷ names) nullable paths e = refl

-- paths that begin with an included name are asked for as they are
pub item_included : (names : List Name) (a : Name) (front : Path) (ends : List Path) → is_among names a ≡ true → flat_map (selected_path names) (map (λ end. (a ∷ front) ++ end) ends) ≡ map (λ end. (a ∷ front) ++ end) ends
item_included names a front [] m = refl
item_included names a front (end ∷ ends) m = rw m (ap (λ ps. (a ∷ (front ++ end)) ∷ ps) (item_included names a front ends m))

-- paths that begin with another name are not
pub item_left_out : (names : List Name) (a : Name) (front : Path) (ends : List Path) → is_among names a ≡ false → flat_map (selected_path names) (map (λ end. (a ∷ front) ++ end) ends) ≡ []
item_left_out names a front [] m = refl
item_left_out names a front (end ∷ ends) m = rw m (item_left_out names a front ends m)

-- an empty front
pub behind_nothing : (paths : List Path) → map (λ end. [] ++ end) paths ≡ paths
behind_nothing [] = refl
behind_nothing (path ∷ paths) = ap (λ ps. path ∷ ps) (behind_nothing paths)

-- of names alone those are asked for that are included
pub names_included : (names ends : List Name) → flat_map (selected_path names) (each_alone ends) ≡ each_alone (filter (is_among names) ends)
names_included names [] = refl
names_included names (a ∷ ends) = go (is_among names a) (names_included names ends)
  where
    go : (b : Bool) → flat_map (selected_path names) (each_alone ends) ≡ each_alone (filter (is_among names) ends) → (if b then (a ∷ []) ∷ [] else []) ++ flat_map (selected_path names) (each_alone ends) ≡ each_alone (cond b (a ∷ filter (is_among names) ends) (filter (is_among names) ends))
    go true r = ap (λ ps. (a ∷ []) ∷ ps) r
    go false r = r

-- for the whole each of the names is asked for
pub whole_included : (names : List Name) → flat_map (selected_path names) whole ≡ each_alone names
whole_included names = append-nil (each_alone names)

-- a node asks its children by its function
pub asks_children : (b : BoundTree) (t : LogicalType) (f g : Function) (bs : BoundTrees) (paths : List Path) → b ≡ node t f bs → f ≡ g → asked b paths ≡ each_asked bs (child_paths g (node_types bs) paths)
asks_children b t f g bs paths is fn = rw (is, fn) refl

-- where a selection is asked for something, its children are asked for what it selects
pub asks_selection : (selection : FieldSelection) (u : LogicalType) (bs : BoundTrees) (us : List LogicalType) (paths below : List Path) → node_types bs ≡ u ∷ us → paths ≢ [] → select_paths selection u paths ≡ below → each_asked bs (child_paths (select selection) (node_types bs) paths) ≡ each_asked bs below
asks_selection selection u bs us paths below types h e = rw types (ap (each_asked bs) (selection_asks selection u us paths h ∙ e))

-- no tree asks for nothing
pub asks_none : (cs : List BoundExpression) (paths : List Path) → length cs ≡ 0 → each_asked (bounds_of cs) paths ≡ []
asks_none [] paths h = refl
asks_none (c ∷ cs) paths h = absurd (omega arith)

-- the type of the first child
pub first_type : (cs : List BoundExpression) (c : BoundExpression) → 0 < length cs → c ≡ get_or cs 0 c → (us : List LogicalType) × (node_types (bounds_of cs) ≡ node_type (bound_of c) ∷ us)
first_type [] c h e = absurd (omega arith)
first_type (d ∷ cs) c h e = (node_types (bounds_of cs), ap (λ x. node_type (bound_of x) ∷ node_types (bounds_of cs)) (sym e))

-- what a selection answers, by what it includes and what it is asked for
pub selects_none : (selection : FieldSelection) (fs : Fields) (nullable : Bool) (names : List Name) (paths : List Path) → included selection fs ≡ names → (length names == 0) ≡ true → select_paths selection (ty (struct fs) nullable) paths ≡ (if nullable then whole else [])
selects_none selection fs nullable names paths e h = rw e (none_included names nullable paths h)

pub selects_item : (selection : FieldSelection) (fs : Fields) (nullable : Bool) (names : List Name) (a : Name) (front : Path) (ends : List Path) → included selection fs ≡ names → (length names == 0) ≡ false → is_among names a ≡ true → select_paths selection (ty (struct fs) nullable) (map (λ end. (a ∷ front) ++ end) ends) ≡ map (λ end. (a ∷ front) ++ end) ends
selects_item selection fs nullable names a front ends e h m =
    rw e (some_included names nullable (map (λ end. (a ∷ front) ++ end) ends) h ∙ item_included names a front ends m)

pub selects_no_item : (selection : FieldSelection) (fs : Fields) (nullable : Bool) (names : List Name) (a : Name) (front : Path) (ends : List Path) → included selection fs ≡ names → (length names == 0) ≡ false → is_among names a ≡ false → select_paths selection (ty (struct fs) nullable) (map (λ end. (a ∷ front) ++ end) ends) ≡ []
selects_no_item selection fs nullable names a front ends e h m =
    rw e (some_included names nullable (map (λ end. (a ∷ front) ++ end) ends) h ∙ item_left_out names a front ends m)

pub selects_names : (selection : FieldSelection) (fs : Fields) (nullable : Bool) (names ends : List Name) → included selection fs ≡ names → (length names == 0) ≡ false → select_paths selection (ty (struct fs) nullable) (map (λ end. [] ++ end) (each_alone ends)) ≡ each_alone (filter (is_among names) ends)
selects_names selection fs nullable names ends e h =
    rw (e, behind_nothing (each_alone ends)) (some_included names nullable (each_alone ends) h ∙ names_included names ends)

-- one tree further
pub asked_step : (bs : List BoundExpression) (i : ℕ) (b : BoundExpression) (paths done new all : List Path) → i < length bs → b ≡ get_or bs i b → new ≡ done ++ asked (bound_of b) paths → done ++ each_asked (bounds_of (drop i bs)) paths ≡ all → new ++ each_asked (bounds_of (drop (i + 1) bs)) paths ≡ all
asked_step bs i b paths done new all h is e so_far =
    let step : each_asked (bounds_of (drop i bs)) paths ≡ asked (bound_of b) paths ++ each_asked (bounds_of (drop (i + 1) bs)) paths =
    at_drop_more (λ xs. each_asked (bounds_of xs) paths) bs i b h ∙ ap (λ x. asked (bound_of x) paths ++ each_asked (bounds_of (drop (i + 1) bs)) paths) (sym is) in
    ap (λ ps. ps ++ each_asked (bounds_of (drop (i + 1) bs)) paths) e ∙ append_assoc done (asked (bound_of b) paths) (each_asked (bounds_of (drop (i + 1) bs)) paths) ∙ ap (λ ps. done ++ ps) (sym step) ∙ so_far

-- no tree is left
pub asked_end : (bs : List BoundExpression) (i : ℕ) (paths done all : List Path) → length bs ≤ i → done ++ each_asked (bounds_of (drop i bs)) paths ≡ all → done ≡ all
asked_end bs i paths done all h so_far =
    sym (append-nil done) ∙ ap (λ ps. done ++ ps) (sym (at_drop_all (λ xs. each_asked (bounds_of xs) paths) bs i h)) ∙ so_far
