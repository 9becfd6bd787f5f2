-- The rules of Select keep the tree at which they apply.
use Rattle.std.proofs.Common.{◌≡◌, suc, List, [], ◌∷◌, refl, sym, ap, subst, Bool, true, false, length, ◌∙◌, arith}
use Rattle.std.specs.Prelude.{Option, Some, None, if◌then◌else◌, Ok, is_some}
use Rattle.std.specs.Str.{bytes_eq}
use Rattle.vx_fn.proofs.Rows.{fn_type-found, fn_type-only}
use Rattle.vx_fn.proofs.Monotone.{narrower_refl}
use Rattle.vx_dtype.proofs.Known.{known_first}
use Rattle.vx_fn.proofs.Sound.{included-known}
use Rattle.vx_tree.proofs.Children.{first_quiet, children_quiet}
use Rattle.vx_rewrite_core.proofs.Children.{child-well_typed, child-over, child-quiet}
use Rattle.vx_rewrite_rule_laws.proofs.Named.{named-child, named-type, named-value}
use Rattle.vx_rewrite_rule_laws.proofs.PackLaws.{pack_type}
use Rattle.vx_tree.proofs.Trees.{value-fits, each_passes}
use Rattle.vx_value.specs.Types.{Name, LogicalType, ty, struct, Fields, no_field, Datum, struct_of, Data, null}
use Rattle.vx_value.specs.Fields.{field_type, fields_named, data_of, project, field_count, project_values, put_field, first_unknown}
use Rattle.vx_value.specs.Fits.{Fits}
use Rattle.vx_fn.specs.Functions.{selection_names, pack, select, fn_type, included}
use Rattle.vx_dtype.specs.Joins.{Narrower}
use Rattle.vx_fn.specs.Rows.{FnType, of_pack, of_select}
use Rattle.vx_tree.specs.Meaning.{value, values}
use Rattle.vx_tree.specs.Faults.{first_fault, each_fault}
use Rattle.vx_tree.specs.Trees.{BoundTree, node, BoundTrees, no_bound, bound, node_type, node_types, WellTyped, EachWellTyped, EachOver}
use Rattle.vx_rewrite_core.specs.Keeps.{Keeps}
use Rattle.vx_rewrite_core.specs.Nodes.{one_bound}
use Rattle.vx_rewrite_rule_laws.specs.Rules.{child_named, put_child, children_named, empty_pack}
use Rattle.vx_fn.specs.declared.options.FieldSelection.{FieldSelection}

-- ---- no field of what is never null

pub select_type_is : {sel : FieldSelection} {fs : Fields} {n : Bool} {t : LogicalType} → FnType (select sel) (ty (struct fs) n ∷ []) t → (first_unknown (selection_names sel) fs ≡ None) × (t ≡ ty (struct (project (included sel fs) fs)) n)
select_type_is (of_select e) = (e, refl)

is_struct : (fs : Fields) (v : Datum) → Fits v (ty (struct fs) false) → (vs : Data) × (v ≡ struct_of vs)
is_struct fs null e = cc
is_struct fs (struct_of vs) e = (vs, refl)
is_struct fs _ e = cc

pub keeps_select_none : (t : LogicalType) (sel : FieldSelection) (x : BoundTree) (fs : Fields) → WellTyped (node t (select sel) (one_bound x)) → node_type x ≡ ty (struct fs) false → included sel fs ≡ [] → Keeps (node t (select sel) (one_bound x)) (empty_pack false)
keeps_select_none t sel x fs w q e =
    let d : FnType (select sel) (ty (struct fs) false ∷ []) t = subst (λ u. FnType (select sel) (u ∷ []) t) q (fn_type-found (select sel) (node_type x ∷ []) t w.0) in
    let k = select_type_is d in
    let k' : t ≡ ty (struct no_field) false = k.1 ∙ ap (λ names. ty (struct (project names fs)) false) e in
    record {
      typed_before = w;
      typed_after = (refl, tt, tt);
      scopes = λ s o. tt;
      type = subst (Narrower (ty (struct no_field) false)) (sym k') (narrower_refl _);
      no_fault = λ s batch o i n. refl;
      meaning = λ s batch o i n v j.
          let h = value-fits x s batch v w.2.0 o.0 (first_quiet x no_bound batch (children_quiet t (select sel) (one_bound x) batch n)) j (each_passes _ batch v i j) in
          let r = is_struct fs (value x v) (subst (Fits (value x v)) q h) in
          let r' : value x v ≡ struct_of r.0 = r.1 in
          rw (q, r', e) refl;
    }

-- ---- some fields of a pack

named-is_some : (a : Name) (names : List Name) (xs : BoundTrees) → is_some (child_named a names xs) ≡ is_some (field_type a (fields_named names (node_types xs)))
named-is_some a [] no_bound = refl
named-is_some a [] (bound y ys) = refl
named-is_some a (b ∷ names) no_bound = refl
named-is_some a (b ∷ names) (bound y ys) = go (bytes_eq a b) (named-is_some a names ys)
  where
    go : (c : Bool) → is_some (child_named a names ys) ≡ is_some (field_type a (fields_named names (node_types ys))) → is_some (if c then Some y else child_named a names ys) ≡ is_some (if c then Some (node_type y) else field_type a (fields_named names (node_types ys)))
    go true e = refl
    go false e = e

module _ (names : List Name) (xs : BoundTrees) where
  all_fields : Fields
  all_fields = fields_named names (node_types xs)

  -- what is to be shown of the first of the wanted names, given the child that it names
  by_child : (P : Option BoundTree → Type 0) (a : Name) (wanted : List Name) → first_unknown (a ∷ wanted) (fields_named names (node_types xs)) ≡ None → ((x : BoundTree) → child_named a names xs ≡ Some x → P (Some x)) → P (child_named a names xs)
  by_child P a wanted k f =
      let q = known_first a wanted (fields_named names (node_types xs)) k in
      go (child_named a names xs) refl (named-is_some a names xs ∙ q.0)
    where
      go : (o : Option BoundTree) → child_named a names xs ≡ o → is_some o ≡ true → P o
      go None e h = cc
      go (Some x) e h = f x e

  rest_known : (a : Name) (wanted : List Name) → first_unknown (a ∷ wanted) (fields_named names (node_types xs)) ≡ None → first_unknown wanted (fields_named names (node_types xs)) ≡ None
  rest_known a wanted k = (known_first a wanted (fields_named names (node_types xs)) k).1

  picked-types : (wanted : List Name) → first_unknown wanted (fields_named names (node_types xs)) ≡ None → fields_named wanted (node_types (children_named wanted names xs)) ≡ project wanted (fields_named names (node_types xs))
  picked-types [] k = refl
  picked-types (a ∷ wanted) k =
      let r = picked-types wanted (rest_known a wanted k) in
      by_child (λ o. fields_named (a ∷ wanted) (node_types (put_child o (children_named wanted names xs))) ≡ project (a ∷ wanted) (fields_named names (node_types xs))) a wanted k
      (λ x e. let h = named-type a names xs x e in rw (h, r) refl)

  picked-length : (wanted : List Name) → first_unknown wanted (fields_named names (node_types xs)) ≡ None → length (node_types (children_named wanted names xs)) ≡ length wanted
  picked-length [] k = refl
  picked-length (a ∷ wanted) k =
      let r = picked-length wanted (rest_known a wanted k) in
      by_child (λ o. length (node_types (put_child o (children_named wanted names xs))) ≡ length (a ∷ wanted)) a wanted k (λ x e. ap suc r)

  picked-well_typed : (wanted : List Name) → first_unknown wanted (fields_named names (node_types xs)) ≡ None → EachWellTyped xs → EachWellTyped (children_named wanted names xs)
  picked-well_typed [] k w = tt
  picked-well_typed (a ∷ wanted) k w =
      let r = picked-well_typed wanted (rest_known a wanted k) w in
      by_child (λ o. EachWellTyped (put_child o (children_named wanted names xs))) a wanted k (λ x e. (child-well_typed x xs (named-child a names xs x e) w, r))

  picked-over : (wanted : List Name) (s : LogicalType) → first_unknown wanted (fields_named names (node_types xs)) ≡ None → EachOver xs s → EachOver (children_named wanted names xs) s
  picked-over [] s k o = tt
  picked-over (a ∷ wanted) s k o =
      let r = picked-over wanted s (rest_known a wanted k) o in
      by_child (λ p. EachOver (put_child p (children_named wanted names xs)) s) a wanted k (λ x e. (child-over x xs s (named-child a names xs x e) o, r))

  picked-quiet : (wanted : List Name) (batch : List Datum) → first_unknown wanted (fields_named names (node_types xs)) ≡ None → each_fault xs batch ≡ None → each_fault (children_named wanted names xs) batch ≡ None
  picked-quiet [] batch k n = refl
  picked-quiet (a ∷ wanted) batch k n =
      let r : each_fault (children_named wanted names xs) batch ≡ None = picked-quiet wanted batch (rest_known a wanted k) n in
      by_child (λ o. each_fault (put_child o (children_named wanted names xs)) batch ≡ None) a wanted k
      (λ x e. let h : first_fault x batch ≡ None = child-quiet x xs batch (named-child a names xs x e) n in rw (h, r) refl)

  picked-values : (wanted : List Name) (v : Datum) → first_unknown wanted (fields_named names (node_types xs)) ≡ None → data_of (values (children_named wanted names xs) v) ≡ project_values wanted (fields_named names (node_types xs)) (data_of (values xs v))
  picked-values [] v k = refl
  picked-values (a ∷ wanted) v k =
      let r = picked-values wanted v (rest_known a wanted k) in
      by_child (λ o. data_of (values (put_child o (children_named wanted names xs)) v) ≡ project_values (a ∷ wanted) (fields_named names (node_types xs)) (data_of (values xs v))) a wanted k
      (λ x e. let h = named-value a names xs x v e in rw (h, r) refl)

pub project-count : (wanted : List Name) (fs : Fields) → first_unknown wanted fs ≡ None → field_count (project wanted fs) ≡ length wanted
project-count [] fs k = refl
project-count (a ∷ wanted) fs k =
    let q = known_first a wanted fs k in
    go (field_type a fs) q.0 (project-count wanted fs q.1)
  where
    go : (o : Option LogicalType) → is_some o ≡ true → field_count (project wanted fs) ≡ length wanted → field_count (put_field a o (project wanted fs)) ≡ length (a ∷ wanted)
    go None e h = cc
    go (Some t) e h = omega arith

pub keeps_select_none_of_pack : (t : LogicalType) (sel : FieldSelection) (fs : Fields) (n : Bool) (names : List Name) (xs : BoundTrees) → WellTyped (node t (select sel) (one_bound (node (ty (struct fs) n) (pack names n) xs))) → included sel fs ≡ [] → Keeps (node t (select sel) (one_bound (node (ty (struct fs) n) (pack names n) xs))) (empty_pack n)
keeps_select_none_of_pack t sel fs n names xs w e =
    let k = select_type_is (fn_type-found (select sel) (ty (struct fs) n ∷ []) t w.0) in
    let k' : t ≡ ty (struct no_field) n = k.1 ∙ ap (λ names. ty (struct (project names fs)) n) e in
    record {
      typed_before = w;
      typed_after = (refl, tt, tt);
      scopes = λ s o. tt;
      type = subst (Narrower (ty (struct no_field) n)) (sym k') (narrower_refl _);
      no_fault = λ s batch o i q. refl;
      meaning = λ s batch o i q v j. rw e refl;
    }

pub struct_fields_equal : {fs gs : Fields} {n m : Bool} → ty (struct fs) n ≡ ty (struct gs) m → fs ≡ gs
struct_fields_equal e = cc

pub keeps_select_of_pack : (gs : Fields) (sel : FieldSelection) (fs : Fields) (n : Bool) (names : List Name) (xs : BoundTrees) → WellTyped (node (ty (struct gs) n) (select sel) (one_bound (node (ty (struct fs) n) (pack names n) xs))) → Keeps (node (ty (struct gs) n) (select sel) (one_bound (node (ty (struct fs) n) (pack names n) xs))) (node (ty (struct gs) n) (pack (included sel fs) n) (children_named (included sel fs) names xs))
keeps_select_of_pack gs sel fs n names xs w =
    let k = select_type_is (fn_type-found (select sel) (ty (struct fs) n ∷ []) (ty (struct gs) n) w.0) in
    let p : fs ≡ fields_named names (node_types xs) = struct_fields_equal (pack_type (fn_type-found (pack names n) (node_types xs) (ty (struct fs) n) w.2.0.0)) in
    let g : gs ≡ project (included sel fs) fs = struct_fields_equal k.1 in
    let inc = included sel fs in
    let known : first_unknown inc (fields_named names (node_types xs)) ≡ None = subst (λ z. first_unknown inc z ≡ None) p (included-known sel fs k.0) in
    let types : gs ≡ fields_named inc (node_types (children_named inc names xs)) = g ∙ (ap (project inc) p ∙ sym (picked-types names xs inc known)) in
    let typed : FnType (pack inc n) (node_types (children_named inc names xs)) (ty (struct (fields_named inc (node_types (children_named inc names xs)))) n) = of_pack (Rattle.std.proofs.Common.eq-eqb _ _ (picked-length names xs inc known)) in
    record {
      typed_before = w;
      typed_after = (subst (λ z. fn_type (pack inc n) (node_types (children_named inc names xs)) ≡ Ok (ty (struct z) n)) (sym types) (fn_type-only typed), tt, picked-well_typed names xs inc known w.2.0.2);
      scopes = λ s o. picked-over names xs inc s known o.0;
      type = narrower_refl _;
      no_fault = λ s batch o i q.
          let h : each_fault (children_named inc names xs) batch ≡ None = picked-quiet names xs inc batch known (children_quiet (ty (struct fs) n) (pack names n) xs batch (first_quiet (node (ty (struct fs) n) (pack names n) xs) no_bound batch (children_quiet (ty (struct gs) n) (select sel) (one_bound (node (ty (struct fs) n) (pack names n) xs)) batch q))) in
          rw h refl;
      meaning = λ s batch o i q v j. ap struct_of (picked-values names xs inc v known ∙ ap (λ z. project_values inc z (data_of (values xs v))) (sym p));
    }

-- as many fields as names are included
pub selected_is : (gs : Fields) (sel : FieldSelection) (fs : Fields) (n : Bool) (names : List Name) (xs : BoundTrees) → WellTyped (node (ty (struct gs) n) (select sel) (one_bound (node (ty (struct fs) n) (pack names n) xs))) → field_count gs ≡ length (included sel fs)
selected_is gs sel fs n names xs w =
    let k = select_type_is (fn_type-found (select sel) (ty (struct fs) n ∷ []) (ty (struct gs) n) w.0) in
    let g : gs ≡ project (included sel fs) fs = struct_fields_equal k.1 in
    ap field_count g ∙ project-count (included sel fs) fs (included-known sel fs k.0)
