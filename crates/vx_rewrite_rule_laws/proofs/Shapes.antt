-- What typing says of the shape of a node.
use Rattle.std.proofs.Common.{◌≡◌, ◌≢◌, List, [], ◌∷◌, refl, sym, ap, Bool, ◌∙◌, length, arith}
use Rattle.std.specs.Prelude.{None}
use Rattle.vx_fn.proofs.Rows.{fn_type-found}
use Rattle.vx_fn.proofs.Sound.{included-known}
use Rattle.vx_fn.specs.Functions.{pack, select, selection_names, included}
use Rattle.vx_fn.specs.Rows.{FnType, of_pack, of_select}
use Rattle.vx_fn.specs.Selections.{kept_names}
use Rattle.vx_fn.specs.declared.options.FieldSelection.{FieldSelection}
use Rattle.vx_rewrite_rule_laws.proofs.PackLaws.{pack_type}
use Rattle.vx_rewrite_rule_laws.proofs.SelectLaws.{project-count}
use Rattle.vx_rewrite_core.specs.Nodes.{one_bound}
use Rattle.vx_tree.specs.Trees.{BoundTree, node, BoundTrees, node_type, node_types, WellTyped}
use Rattle.vx_value.specs.Fields.{field_names, field_count, fields_named, first_unknown, project}
use Rattle.vx_value.specs.Types.{Name, LogicalType, ty, struct, Fields, no_field}

-- ---- packs

names_of_fields : (names : List Name) (ts : List LogicalType) → length ts ≡ length names → field_names (fields_named names ts) ≡ names
names_of_fields [] ts e = refl
names_of_fields (a ∷ names) [] e = absurd (omega arith)
names_of_fields (a ∷ names) (t ∷ ts) e = ap (λ rest. a ∷ rest) (names_of_fields names ts (omega arith))

-- a pack's type has its names
pub pack_names : (p : LogicalType) (fs : Fields) (m : Bool) (names : List Name) (n : Bool) (xs : BoundTrees) → WellTyped (node p (pack names n) xs) → p ≡ ty (struct fs) m → field_names fs ≡ names
pack_names p fs m names n xs w e = named (fn_type-found (pack names n) (node_types xs) p w.0) e
  where
    named : {q : LogicalType} → FnType (pack names n) (node_types xs) q → q ≡ ty (struct fs) m → field_names fs ≡ names
    named (of_pack {ts = ts} l) h =
        let g : fs ≡ fields_named names (node_types xs) = cc in
        ap field_names g ∙ names_of_fields names (node_types xs) (Rattle.std.proofs.lemmas.Bool.eqb-true _ _ l)

-- and its nullability
pub pack_nullable : (p : LogicalType) (fs : Fields) (m : Bool) (names : List Name) (n : Bool) (xs : BoundTrees) → WellTyped (node p (pack names n) xs) → p ≡ ty (struct fs) m → n ≡ m
pack_nullable p fs m names n xs w e = let q = pack_type (fn_type-found (pack names n) (node_types xs) p w.0) in cc

-- so a selection of it keeps what it keeps of those names
pub kept_of_pack : (selection : FieldSelection) (p : LogicalType) (fs : Fields) (m : Bool) (names : List Name) (n : Bool) (xs : BoundTrees) → WellTyped (node p (pack names n) xs) → p ≡ ty (struct fs) m → kept_names selection names ≡ included selection fs
kept_of_pack selection p fs m names n xs w e = ap (kept_names selection) (sym (pack_names p fs m names n xs w e))

-- ---- selections

-- the type of what is selected from, and of what is selected
pub record Selected (selection : FieldSelection) (u t : LogicalType) : Type 0 where
  pub fields : Fields
  pub nullable : Bool
  pub from : u ≡ ty (struct fields) nullable
  pub known : first_unknown (selection_names selection) fields ≡ None
  pub to : t ≡ ty (struct (project (included selection fields) fields)) nullable

select_types : {selection : FieldSelection} {u t : LogicalType} → FnType (select selection) (u ∷ []) t → Selected selection u t
select_types (of_select {fs = fs} {n = n} k) = record { fields = fs; nullable = n; from = refl; known = k; to = refl }

pub selected : (selection : FieldSelection) (t : LogicalType) (x : BoundTree) → WellTyped (node t (select selection) (one_bound x)) → Selected selection (node_type x) t
selected selection t x w = select_types (fn_type-found (select selection) (node_type x ∷ []) t w.0)

-- nothing is included where the type has no field
none_counted : (names : List Name) (fs : Fields) → first_unknown names fs ≡ None → project names fs ≡ no_field → names ≡ []
none_counted [] fs k e = refl
none_counted (a ∷ names) fs k e =
    let c : field_count (project (a ∷ names) fs) ≡ length (a ∷ names) = project-count (a ∷ names) fs k in
    let z : field_count (project (a ∷ names) fs) ≡ 0 = ap field_count e in
    absurd (omega arith)

pub none_included : {selection : FieldSelection} {u t : LogicalType} (s : Selected selection u t) (n : Bool) → t ≡ ty (struct no_field) n → included selection s.fields ≡ []
none_included {selection = selection} s n e =
    let q = s.to in
    let g : project (included selection s.fields) s.fields ≡ no_field = cc in
    none_counted (included selection s.fields) s.fields (included-known selection s.fields s.known) g

-- and something where it has some
pub some_included : {selection : FieldSelection} {u t : LogicalType} (s : Selected selection u t) (gs : Fields) (n : Bool) → t ≡ ty (struct gs) n → gs ≢ no_field → included selection s.fields ≢ []
some_included {selection = selection} s gs n e some none =
    let q = s.to in
    let g : gs ≡ project (included selection s.fields) s.fields = cc in
    some (g ∙ ap (λ names. project names s.fields) none)
