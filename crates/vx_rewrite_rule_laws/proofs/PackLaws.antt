-- The rules of a field of a pack keep the tree at which they apply.
use Rattle.std.proofs.Common.{◌≡◌, List, [], ◌∷◌, refl, sym, subst, Bool, true, false, ◌||◌, ◌∙◌}
use Rattle.std.specs.Prelude.{Some, None}
use Rattle.std.proofs.lemmas.Bool.{or_left, or_right}
use Rattle.vx_fn.proofs.Rows.{fn_type-found}
use Rattle.vx_fn.proofs.Monotone.{shape_refl}
use Rattle.vx_tree.proofs.Children.{first_quiet, children_quiet}
use Rattle.vx_rewrite_core.proofs.Children.{child-well_typed, child-over, child-quiet}
use Rattle.vx_rewrite_rule_laws.proofs.Named.{named-child, named-type, named-value}
use Rattle.vx_value.specs.Types.{Name, LogicalType, ty, Shape, struct, Fields, Datum, with_nullability}
use Rattle.vx_value.specs.Fields.{field_type, fields_named}
use Rattle.vx_dtype.specs.Joins.{Narrower, narrower}
use Rattle.vx_fn.specs.Functions.{get_item, pack}
use Rattle.vx_fn.specs.Rows.{FnType, of_get_item, of_pack}
use Rattle.vx_tree.specs.Meaning.{value}
use Rattle.vx_tree.specs.Faults.{HasNoFault, first_fault}
use Rattle.vx_tree.specs.Trees.{BoundTree, node, BoundTrees, no_bound, node_type, node_types, WellTyped}
use Rattle.vx_rewrite_core.specs.Keeps.{Keeps}
use Rattle.vx_rewrite_core.specs.Nodes.{one_bound}
use Rattle.vx_rewrite_rule_laws.specs.Rules.{mask_node, child_named}

pub pack_type : {names : List Name} {n : Bool} {ts : List LogicalType} {p : LogicalType} → FnType (pack names n) ts p → p ≡ ty (struct (fields_named names ts)) n
pack_type (of_pack e) = refl

item_type_is : {a : Name} {fs : Fields} {n : Bool} {t : LogicalType} (s : Shape) (m : Bool) → field_type a fs ≡ Some (ty s m) → FnType (get_item a) (ty (struct fs) n ∷ []) t → t ≡ ty s (m || n)
item_type_is {n = n} s m e (of_get_item {s = s'} {m = m'} f) =
    let x : Some (ty s m) ≡ Some (ty s' m') = sym e ∙ f in
    let y : s' ≡ s = cc in
    let z : m' ≡ m = cc in
    cc

item_above : {a : Name} {fs : Fields} {n : Bool} {t : LogicalType} (u : LogicalType) → field_type a fs ≡ Some u → FnType (get_item a) (ty (struct fs) n ∷ []) t → Narrower u t
item_above {n = n} (ty s m) e d = subst (Narrower (ty s m)) (sym (item_type_is s m e d)) (narrower (shape_refl s) (λ h. or_left m n h))

masked_item_above : {a : Name} {fs : Fields} {t : LogicalType} (u : LogicalType) → field_type a fs ≡ Some u → FnType (get_item a) (ty (struct fs) true ∷ []) t → Narrower (with_nullability true u) t
masked_item_above (ty s m) e d = subst (Narrower (ty s true)) (sym (item_type_is s m e d)) (narrower (shape_refl s) (λ h. or_right m true h))

module _ (t p : LogicalType) (a : Name) (names : List Name) (n : Bool) (xs : BoundTrees) (x : BoundTree) (w : WellTyped (node t (get_item a) (one_bound (node p (pack names n) xs)))) (e : child_named a names xs ≡ Some x) where
  packed : p ≡ ty (struct (fields_named names (node_types xs))) n
  packed = pack_type (fn_type-found (pack names n) (node_types xs) p w.2.0.0)

  taken_type : FnType (get_item a) (ty (struct (fields_named names (node_types xs))) n ∷ []) t
  taken_type = subst (λ p. FnType (get_item a) (p ∷ []) t) packed (fn_type-found (get_item a) (p ∷ []) t w.0)

  item_value_is : (v : Datum) → value x v ≡ value (node t (get_item a) (one_bound (node p (pack names n) xs))) v
  item_value_is v = rw packed (sym (named-value a names xs x v e))

  item_quiet : (batch : List Datum) → HasNoFault (node t (get_item a) (one_bound (node p (pack names n) xs))) batch → HasNoFault x batch
  item_quiet batch q = child-quiet x xs batch (named-child a names xs x e) (children_quiet p (pack names n) xs batch (first_quiet (node p (pack names n) xs) no_bound batch (children_quiet t (get_item a) (one_bound (node p (pack names n) xs)) batch q)))

pub keeps_item_of_pack : (t p : LogicalType) (a : Name) (names : List Name) (xs : BoundTrees) (x : BoundTree) → WellTyped (node t (get_item a) (one_bound (node p (pack names false) xs))) → child_named a names xs ≡ Some x → Keeps (node t (get_item a) (one_bound (node p (pack names false) xs))) x
keeps_item_of_pack t p a names xs x w e = record {
  typed_before = w;
  typed_after = child-well_typed x xs (named-child a names xs x e) w.2.0.2;
  scopes = λ s o. child-over x xs s (named-child a names xs x e) o.0;
  type = item_above (node_type x) (named-type a names xs x e) (taken_type t p a names false xs x w e);
  no_fault = λ s batch o i q. item_quiet t p a names false xs x w e batch q;
  meaning = λ s batch o i q v j. item_value_is t p a names false xs x w e v;
}

pub keeps_item_of_nullable_pack : (t p : LogicalType) (a : Name) (names : List Name) (xs : BoundTrees) (x : BoundTree) → WellTyped (node t (get_item a) (one_bound (node p (pack names true) xs))) → child_named a names xs ≡ Some x → Keeps (node t (get_item a) (one_bound (node p (pack names true) xs))) (mask_node x)
keeps_item_of_nullable_pack t p a names xs x w e = record {
  typed_before = w;
  typed_after = (refl, tt, (child-well_typed x xs (named-child a names xs x e) w.2.0.2, ((refl, refl, tt), tt)));
  scopes = λ s o. (child-over x xs s (named-child a names xs x e) o.0, (tt, tt));
  type = masked_item_above (node_type x) (named-type a names xs x e) (taken_type t p a names true xs x w e);
  no_fault = λ s batch o i q. let h : first_fault x batch ≡ None = item_quiet t p a names true xs x w e batch q in rw h refl;
  meaning = λ s batch o i q v j. item_value_is t p a names true xs x w e v;
}
