-- A tree that is bound again over a narrower scope has a narrower type, and the same values and faults.
use Rattle.std.proofs.Common.{◌≡◌, List, [], ◌∷◌, refl, ap, subst, map}
use Rattle.std.specs.Prelude.{Ok}
use Rattle.vx_value.specs.Types.{Name, LogicalType, Datum}
use Rattle.vx_value.specs.Joins.{Narrower, narrower, narrower_struct, NarrowerEach}
use Rattle.vx_dtype.specs.Lists.{forall2_nil, forall2_cons, IsIn}
use Rattle.vx_dtype.proofs.Lists.{map_same}
use Rattle.vx_value.specs.Fits.{IsBatch}
use Rattle.vx_fn.specs.Functions.{Function, fn_type}
use Rattle.vx_tree.specs.Meaning.{value, values}
use Rattle.vx_tree.specs.Faults.{HasNoFault, first_fault, each_fault}
use Rattle.vx_tree.specs.Trees.{BoundTree, scope, node, BoundTrees, no_bound, bound, unbound, unbound_each, node_type, node_types, typed, each_typed, WellTyped, EachWellTyped, Over, EachOver}
use Rattle.vx_rewrite_core.specs.Keeps.{KeepsEach}
use Rattle.vx_fn.proofs.Rows.{fn_type-found, fn_type-only}
use Rattle.vx_fn.proofs.Monotone.{fn_type-mono, fields_named-mono}
use Rattle.vx_rewrite_core.proofs.Keeping.{types-narrower, fn_value-narrower, node_fault-narrower, each_scopes, each_no_fault, each_meaning}
use Rattle.vx_rewrite_core.proofs.Stepping.{same_type}
use Rattle.vx_partition_laws.specs.Items.{struct_type, joined}
use Rattle.vx_partition_laws.specs.Recombining.{Recombines}

record Rebound (r r' : BoundTree) : Type 0 where
  type : Narrower (node_type r') (node_type r)
  value_is : (v : Datum) → value r' v ≡ value r v
  fault_is : (batch : List Datum) → first_fault r' batch ≡ first_fault r batch

record ReboundEach (rs rs' : BoundTrees) : Type 0 where
  types : NarrowerEach (node_types rs') (node_types rs)
  values_are : (v : Datum) → values rs' v ≡ values rs v
  faults_are : (batch : List Datum) → each_fault rs' batch ≡ each_fault rs batch

rows_are : (f g : List Datum → List Datum) (xs : List (List Datum)) → f ≡ g → map f xs ≡ map g xs
rows_are f g xs e = ap (λ h. map h xs) e

values_of : (rs rs' : BoundTrees) (batch : List Datum) → ((v : Datum) → values rs' v ≡ values rs v) → map (values rs') batch ≡ map (values rs) batch
values_of rs rs' batch e = map_same (values rs') (values rs) batch (λ v i. e v)

node_rebound : (t t' : LogicalType) (f f' : Function) (bs bs' : BoundTrees) → f' ≡ f → fn_type f (node_types bs) ≡ Ok t → fn_type f' (node_types bs') ≡ Ok t' → ReboundEach bs bs' → Rebound (node t f bs) (node t' f' bs')
node_rebound t t' f f' bs bs' q w w' k =
    let m = fn_type-mono (fn_type-found f (node_types bs) t w) k.types in
    let own : fn_type f (node_types bs') ≡ Ok t' = subst (λ g. fn_type g (node_types bs') ≡ Ok t') q w' in
    record {
      type = same_type f (node_types bs') m.0 t' t (fn_type-only m.1) own m.2;
      value_is = λ v. rw (q, k.values_are v) (fn_value-narrower f (values bs v) k.types);
      fault_is = λ batch. rw (q, k.faults_are batch, values_of bs bs' batch k.values_are, node_fault-narrower f (map (values bs) batch) k.types) refl;
    }

mutual
  rebound : (r r' : BoundTree) (s s' : LogicalType) → Narrower s' s → WellTyped r → Over r s → WellTyped r' → Over r' s' → unbound r' ≡ unbound r → Rebound r r'
  rebound (scope t) (scope t') s s' n w o w' o' e = record {
    type = rw (o, o') n;
    value_is = λ v. refl;
    fault_is = λ batch. refl;
  }
  rebound (scope t) (node t' f' bs') s s' n w o w' o' e = cc
  rebound (node t f bs) (scope t') s s' n w o w' o' e = cc
  rebound (node t f bs) (node t' f' bs') s s' n w o w' o' e =
      let q : f' ≡ f = cc in
      let es : unbound_each bs' ≡ unbound_each bs = cc in
      node_rebound t t' f f' bs bs' q w.0 w'.0 (rebound_each bs bs' s s' n w.2 o w'.2 o' es)

  rebound_each : (bs bs' : BoundTrees) (s s' : LogicalType) → Narrower s' s → EachWellTyped bs → EachOver bs s → EachWellTyped bs' → EachOver bs' s' → unbound_each bs' ≡ unbound_each bs → ReboundEach bs bs'
  rebound_each no_bound no_bound s s' n w o w' o' e = record { types = forall2_nil; values_are = λ v. refl; faults_are = λ batch. refl }
  rebound_each no_bound (bound b' bs') s s' n w o w' o' e = cc
  rebound_each (bound b bs) no_bound s s' n w o w' o' e = cc
  rebound_each (bound b bs) (bound b' bs') s s' n w o w' o' e =
      let q : unbound b' ≡ unbound b = cc in
      let qs : unbound_each bs' ≡ unbound_each bs = cc in
      let one = rebound b b' s s' n w.0 o.0 w'.0 o'.0 q in
      let more = rebound_each bs bs' s s' n w.1 o.1 w'.1 o'.1 qs in
      record {
        types = forall2_cons one.type more.types;
        values_are = λ v. rw (one.value_is v, more.values_are v) refl;
        faults_are = λ batch. rw (one.fault_is batch, more.faults_are batch) refl;
      }

-- ---- and there is such a tree's type

mutual
  typed_again : (r : BoundTree) (s s' : LogicalType) → Narrower s' s → WellTyped r → Over r s → (t : LogicalType) × (typed (unbound r) s' ≡ Ok t) × Narrower t (node_type r)
  typed_again (scope t) s s' n w o = (s', refl, rw o n)
  typed_again (node t f bs) s s' n w o =
      let k = each_typed_again bs s s' n w.2 o in
      let m = fn_type-mono (fn_type-found f (node_types bs) t w.0) k.2 in
      (m.0, rw k.1 (fn_type-only m.1), m.2)

  each_typed_again : (rs : BoundTrees) (s s' : LogicalType) → Narrower s' s → EachWellTyped rs → EachOver rs s → (ts : List LogicalType) × (each_typed (unbound_each rs) s' ≡ Ok ts) × NarrowerEach ts (node_types rs)
  each_typed_again no_bound s s' n w o = ([], refl, forall2_nil)
  each_typed_again (bound b bs) s s' n w o =
      let one = typed_again b s s' n w.0 o.0 in
      let more = each_typed_again bs s s' n w.1 o.1 in
      (one.0 ∷ more.0, rw (one.1, more.1) refl, forall2_cons one.2 more.2)

-- ---- partitions that keep the old ones

scope_narrower : (names : List Name) (ps qs : BoundTrees) → KeepsEach ps qs → Narrower (struct_type names qs) (struct_type names ps)
scope_narrower names ps qs ks = narrower (narrower_struct (fields_named-mono names (types-narrower ks))) (λ e. e)

pub replaced_typed : (names : List Name) (ps qs : BoundTrees) (root : BoundTree) → KeepsEach ps qs → WellTyped root → Over root (struct_type names ps)
    → (t : LogicalType) × (typed (unbound root) (struct_type names qs) ≡ Ok t) × Narrower t (node_type root)
replaced_typed names ps qs r ks w o = typed_again r (struct_type names ps) (struct_type names qs) (scope_narrower names ps qs ks) w o

-- the type of a root that is bound over them
pub rebound_type : (names : List Name) (ps qs : BoundTrees) (root root' : BoundTree) → KeepsEach ps qs → WellTyped root → Over root (struct_type names ps)
    → unbound root' ≡ unbound root → WellTyped root' → Over root' (struct_type names qs) → Narrower (node_type root') (node_type root)
rebound_type names ps qs r r' ks w o e w' o' = (rebound r r' (struct_type names ps) (struct_type names qs) (scope_narrower names ps qs ks) w o w' o' e).type

pub replaced_recombine : (names : List Name) (ps qs : BoundTrees) (root root' b : BoundTree) → KeepsEach ps qs → WellTyped root → Over root (struct_type names ps) → Recombines ps root b
    → unbound root' ≡ unbound root → WellTyped root' → Over root' (struct_type names qs)
    → Narrower (node_type root') (node_type root) × Recombines qs root' b
replaced_recombine names ps qs r r' b ks w o rec e w' o' =
    let again = rebound r r' (struct_type names ps) (struct_type names qs) (scope_narrower names ps qs ks) w o w' o' e in
    let same_row : (s : LogicalType) (batch : List Datum) → Over b s → IsBatch s batch → HasNoFault b batch → (v : Datum) → IsIn v batch → joined qs v ≡ joined ps v =
    λ s batch p i n v j. rw (each_meaning ks s batch (rec.scopes s p) i (rec.no_part_faults s batch p i n) v j) refl in (
      again.type,
      record {
        scopes = λ s p. each_scopes ks s (rec.scopes s p);
        no_part_faults = λ s batch p i n. each_no_fault ks s batch (rec.scopes s p) i (rec.no_part_faults s batch p i n);
        no_fault = λ s batch p i n.
            let rows : map (joined qs) batch ≡ map (joined ps) batch = map_same (joined qs) (joined ps) batch (same_row s batch p i n) in
            rw (again.fault_is (map (joined qs) batch), rows) (rec.no_fault s batch p i n);
        meaning = λ s batch p i n v j.
            rw (again.value_is (joined qs v), same_row s batch p i n v j) (rec.meaning s batch p i n v j);
      },
    )
