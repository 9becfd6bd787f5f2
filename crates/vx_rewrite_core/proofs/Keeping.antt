-- A tree whose children are replaced by trees that keep them is kept.
use Rattle.std.proofs.Common.{◌≡◌, List, [], ◌∷◌, get_or, refl, sym, ap, map, ◌∙◌}
use Rattle.std.specs.Prelude.{None, if◌then◌else◌, Ok, not, ◌||◌, position}
use Rattle.std.specs.List.{list_any}
use Rattle.std.specs.Option.{option_map}
use Rattle.std.specs.Str.{bytes_eq}
use mathlib.Core.Path.{fun_ext}
use Rattle.vx_fn.proofs.Monotone.{included-mono, narrower_refl, fn_type-mono}
use Rattle.vx_fn.proofs.Rows.{fn_type-found, fn_type-only}
use Rattle.vx_tree.proofs.Trees.{or_none}
use Rattle.vx_value.specs.Types.{Name, truth, number, floating, decimals, date, timestamp, text, octets, LogicalType, Shape, Fields, Datum, Data, no_datum, datum, struct_of, int, is_null_datum}
use Rattle.vx_value.specs.Fields.{field_value, project_values}
use Rattle.vx_dtype.specs.Joins.{Narrower, narrower, NarrowerShape, same_atomic_shape, narrower_list, narrower_fixed, narrower_struct, NarrowerFields, no_fields, narrower_field, NarrowerEach}
use Rattle.vx_dtype.specs.Lists.{forall2_nil, forall2_cons, IsIn}
use Rattle.vx_fn.specs.Functions.{Function, get_item, select, fill_null, binary, computes, included, fn_type}
use Rattle.vx_fn.specs.Values.{fn_value, at_one, item_value, select_value, computed, at_two}
use Rattle.vx_tree.proofs.Meant.{mean-unbound}
use Rattle.vx_tree.specs.Meaning.{mean, values}
use Rattle.vx_fn.specs.Faults.{divides_by_zero, has_fault, row_fault, is_outside, is_fillable, fill_of, some_differ, when, node_fault}
use Rattle.vx_tree.specs.Faults.{each_fault}
use Rattle.vx_tree.specs.Trees.{BoundTree, node, BoundTrees, node_type, node_types, WellTyped, EachWellTyped, Over, EachOver, unbound}
use Rattle.vx_rewrite_core.specs.Keeps.{Keeps, KeepsEach, keeps_none, keeps_more, KeepsUnderNodes}
use Rattle.vx_tree.specs.Faults.{HasNoFault}
use Rattle.vx_value.specs.Fits.{IsBatch}
use Rattle.vx_fn.specs.declared.options.FieldSelection.{FieldSelection}
use Rattle.vx_dtype.specs.declared.error.VortexError.TheVariants.{BadFill}
use Rattle.vx_dtype.proofs.Lists.{map_same}

mutual
  pub narrower_trans : {t u w : LogicalType} → Narrower t u → Narrower u w → Narrower t w
  narrower_trans (narrower p i) (narrower q j) = narrower (shape_trans p q) (λ e. j (i e))

  shape_trans : {s r q : Shape} → NarrowerShape s r → NarrowerShape r q → NarrowerShape s q
  shape_trans same_atomic_shape same_atomic_shape = same_atomic_shape
  shape_trans (narrower_list p) (narrower_list q) = narrower_list (narrower_trans p q)
  shape_trans (narrower_fixed p) (narrower_fixed q) = narrower_fixed (narrower_trans p q)
  shape_trans (narrower_struct p) (narrower_struct q) = narrower_struct (fields_trans p q)

  fields_trans : {fs gs hs : Fields} → NarrowerFields fs gs → NarrowerFields gs hs → NarrowerFields fs hs
  fields_trans no_fields no_fields = no_fields
  fields_trans (narrower_field p q) (narrower_field r s) = narrower_field (narrower_trans p r) (fields_trans q s)

-- ---- values depend on the names of fields alone

field_value-names : {fs gs : Fields} (a : Name) (vs : Data) → NarrowerFields fs gs → field_value a fs vs ≡ field_value a gs vs
field_value-names a vs no_fields = refl
field_value-names a no_datum (narrower_field p q) = refl
field_value-names a (datum v vs) (narrower_field {a = b} p q) = ap (λ x. if bytes_eq a b then v else x) (field_value-names a vs q)

project_values-names : {fs gs : Fields} (names : List Name) (vs : Data) → NarrowerFields fs gs → project_values names fs vs ≡ project_values names gs vs
project_values-names [] vs q = refl
project_values-names (a ∷ names) vs q = rw (field_value-names a vs q, project_values-names names vs q) refl

at_one-equal : (f g : Datum → Datum) (vs : List Datum) → ((v : Datum) → f v ≡ g v) → at_one f vs ≡ at_one g vs
at_one-equal f g [] e = refl
at_one-equal f g (v ∷ []) e = e v
at_one-equal f g (v ∷ w ∷ vs) e = refl

item-names : {ts us : List LogicalType} (a : Name) (v : Datum) → NarrowerEach ts us → item_value a ts v ≡ item_value a us v
item-names a v forall2_nil = refl
item-names a (struct_of vs) (forall2_cons (narrower (narrower_struct p) i) forall2_nil) = field_value-names a vs p
item-names a v (forall2_cons (narrower same_atomic_shape i) q) = refl
item-names a v (forall2_cons (narrower (narrower_list p) i) q) = refl
item-names a v (forall2_cons (narrower (narrower_fixed p) i) q) = refl
item-names a v (forall2_cons (narrower (narrower_struct p) i) (forall2_cons q r)) = refl
item-names a _ (forall2_cons (narrower (narrower_struct p) i) forall2_nil) = refl

select-names : {ts us : List LogicalType} (sel : FieldSelection) (v : Datum) → NarrowerEach ts us → select_value sel ts v ≡ select_value sel us v
select-names sel v forall2_nil = refl
select-names sel (struct_of vs) (forall2_cons (narrower (narrower_struct {fs = fs} p) i) forall2_nil) = rw (← included-mono sel p, project_values-names (included sel fs) vs p) refl
select-names sel v (forall2_cons (narrower same_atomic_shape i) q) = refl
select-names sel v (forall2_cons (narrower (narrower_list p) i) q) = refl
select-names sel v (forall2_cons (narrower (narrower_fixed p) i) q) = refl
select-names sel v (forall2_cons (narrower (narrower_struct p) i) (forall2_cons q r)) = refl
select-names sel _ (forall2_cons (narrower (narrower_struct p) i) forall2_nil) = refl

pub fn_value-narrower : {ts us : List LogicalType} (f : Function) (vs : List Datum) → NarrowerEach ts us → fn_value f ts vs ≡ fn_value f us vs
fn_value-narrower {ts = ts} {us = us} (get_item a) vs q = at_one-equal (item_value a ts) (item_value a us) vs (λ v. item-names a v q)
fn_value-narrower {ts = ts} {us = us} (select sel) vs q = at_one-equal (select_value sel ts) (select_value sel us) vs (λ v. select-names sel v q)
fn_value-narrower _ vs q = refl

-- ---- and so do faults

outside-narrower : {ts us : List LogicalType} (v : Datum) → NarrowerEach ts us → is_outside ts v ≡ is_outside us v
outside-narrower v forall2_nil = refl
outside-narrower (int i) (forall2_cons (narrower (same_atomic_shape {p = number p}) j) q) = refl
outside-narrower (int i) (forall2_cons (narrower (same_atomic_shape {p = floating f}) j) q) = refl
outside-narrower (int i) (forall2_cons (narrower (same_atomic_shape {p = decimals p s}) j) q) = refl
outside-narrower v (forall2_cons (narrower (same_atomic_shape {p = truth}) i) q) = refl
outside-narrower v (forall2_cons (narrower (same_atomic_shape {p = date}) i) q) = refl
outside-narrower v (forall2_cons (narrower (same_atomic_shape {p = timestamp u z}) i) q) = refl
outside-narrower v (forall2_cons (narrower (same_atomic_shape {p = text}) i) q) = refl
outside-narrower v (forall2_cons (narrower (same_atomic_shape {p = octets}) i) q) = refl
outside-narrower v (forall2_cons (narrower (narrower_list p) i) q) = refl
outside-narrower v (forall2_cons (narrower (narrower_fixed p) i) q) = refl
outside-narrower v (forall2_cons (narrower (narrower_struct p) i) q) = refl
outside-narrower _ (forall2_cons (narrower (same_atomic_shape {p = number p}) i) q) = refl
outside-narrower _ (forall2_cons (narrower (same_atomic_shape {p = floating f}) i) q) = refl
outside-narrower _ (forall2_cons (narrower (same_atomic_shape {p = decimals p s}) i) q) = refl

fillable-narrower : {ts us : List LogicalType} → NarrowerEach ts us → is_fillable ts ≡ is_fillable us
fillable-narrower forall2_nil = refl
fillable-narrower (forall2_cons (narrower same_atomic_shape i) q) = refl
fillable-narrower (forall2_cons (narrower (narrower_list p) i) q) = refl
fillable-narrower (forall2_cons (narrower (narrower_fixed p) i) q) = refl
fillable-narrower (forall2_cons (narrower (narrower_struct p) i) q) = refl

pub node_fault-narrower : {ts us : List LogicalType} (f : Function) (rows : List (List Datum)) → NarrowerEach ts us → node_fault f ts rows ≡ node_fault f us rows
node_fault-narrower {ts = ts} {us = us} (binary (computes a)) rows q =
    let e : has_fault a ts ≡ has_fault a us = fun_ext (λ row. ap (λ b. divides_by_zero a row || b) (outside-narrower (at_two (computed a) row) q)) in
    ap (λ test. option_map (λ n. row_fault a (get_or rows n []) n) (position test rows)) e
node_fault-narrower fill_null rows q = ap (λ b. when (not b || list_any is_null_datum (map fill_of rows) || some_differ (map fill_of rows)) BadFill) (fillable-narrower q)
node_fault-narrower _ rows q = refl

-- ---- trees

pub types-narrower : {bs us : BoundTrees} → KeepsEach bs us → NarrowerEach (node_types us) (node_types bs)
types-narrower keeps_none = forall2_nil
types-narrower (keeps_more k ks) = forall2_cons k.type (types-narrower ks)

pub each_typed_after : {bs us : BoundTrees} → KeepsEach bs us → EachWellTyped us
each_typed_after keeps_none = tt
each_typed_after (keeps_more k ks) = (k.typed_after, each_typed_after ks)

pub each_scopes : {bs us : BoundTrees} → KeepsEach bs us → (s : LogicalType) → EachOver bs s → EachOver us s
each_scopes keeps_none s o = tt
each_scopes (keeps_more k ks) s o = (k.scopes s o.0, each_scopes ks s o.1)

pub each_no_fault : {bs us : BoundTrees} → KeepsEach bs us → (s : LogicalType) (batch : List Datum) → EachOver bs s → IsBatch s batch → each_fault bs batch ≡ None → each_fault us batch ≡ None
each_no_fault keeps_none s batch o i n = refl
each_no_fault (keeps_more k ks) s batch o i n =
    let q = or_none _ _ n in
    let x = k.no_fault s batch o.0 i q.0 in
    rw x (each_no_fault ks s batch o.1 i q.1)

pub each_meaning : {bs us : BoundTrees} → KeepsEach bs us → (s : LogicalType) (batch : List Datum) → EachOver bs s → IsBatch s batch → each_fault bs batch ≡ None → (v : Datum) → IsIn v batch → values us v ≡ values bs v
each_meaning keeps_none s batch o i n v e = refl
each_meaning (keeps_more k ks) s batch o i n v e =
    let q = or_none _ _ n in
    rw (k.meaning s batch o.0 i q.0 v e, each_meaning ks s batch o.1 i q.1 v e) refl

pub keeps_node : (t t' : LogicalType) (f : Function) (bs us : BoundTrees) → WellTyped (node t f bs) → KeepsEach bs us → fn_type f (node_types us) ≡ Ok t' → Narrower t' t → Keeps (node t f bs) (node t' f us)
keeps_node t t' f bs us w ks e p = record {
  typed_before = w;
  typed_after = (e, w.1, each_typed_after ks);
  scopes = each_scopes ks;
  type = p;
  no_fault = λ s batch o i n.
      let q = or_none _ _ n in
      let rows : map (values us) batch ≡ map (values bs) batch = map_same (values us) (values bs) batch (each_meaning ks s batch o i q.0) in
      let x : each_fault us batch ≡ None = each_no_fault ks s batch o i q.0 in
      rw (x, rows, node_fault-narrower f (map (values bs) batch) (types-narrower ks)) q.1;
  meaning = λ s batch o i n v j.
      let q = or_none _ _ n in
      rw (each_meaning ks s batch o i q.0 v j, fn_value-narrower f (values bs v) (types-narrower ks)) refl;
}

pub keeps_trans : (b u w : BoundTree) → Keeps b u → Keeps u w → Keeps b w
keeps_trans b u w k l = record {
  typed_before = k.typed_before;
  typed_after = l.typed_after;
  scopes = λ s o. l.scopes s (k.scopes s o);
  type = narrower_trans l.type k.type;
  no_fault = λ s batch o i n. l.no_fault s batch (k.scopes s o) i (k.no_fault s batch o i n);
  meaning = λ s batch o i n v j. l.meaning s batch (k.scopes s o) i (k.no_fault s batch o i n) v j ∙ k.meaning s batch o i n v j;
}

pub keeps_meaning : (b u : BoundTree) → Keeps b u → (s : LogicalType) (batch : List Datum) → Over b s → IsBatch s batch → HasNoFault b batch → (v : Datum) → IsIn v batch
    → mean (unbound u) s v ≡ mean (unbound b) s v
keeps_meaning b u k s batch o i n v j =
    mean-unbound u s v k.typed_after (k.scopes s o) ∙ k.meaning s batch o i n v j ∙ sym (mean-unbound b s v k.typed_before o)

pub keeps_refl : (b : BoundTree) → WellTyped b → Keeps b b
keeps_refl b w = record {
  typed_before = w;
  typed_after = w;
  scopes = λ s o. o;
  type = narrower_refl (node_type b);
  no_fault = λ s batch o i n. n;
  meaning = λ s batch o i n v j. refl;
}

-- a node over children that keep its own is typed anew, and keeps it
pub keeps_again : KeepsUnderNodes
keeps_again t f bs us w ks =
    let x = fn_type-mono (fn_type-found f (node_types bs) t w.0) (types-narrower ks) in
    (x.0, fn_type-only x.1, keeps_node t x.0 f bs us w ks (fn_type-only x.1) x.2)
