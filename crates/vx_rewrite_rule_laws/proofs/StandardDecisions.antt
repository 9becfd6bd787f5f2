-- The rules as a function give just what the rules give.
use Rattle.std.proofs.Common.{◌≡◌, ◌≢◌, ◌↔◌, ℕ, ◌+◌, add-one, List, [], refl, sym, ap, subst, Bool, true, false, ◌&&◌, ◌||◌, ◌==◌, ◌∙◌, not}
use Rattle.std.specs.Prelude.{Option, Some, None, option_and_then, if◌then◌else◌, IsTrue}
use Rattle.std.specs.Option.{option_map}
use Rattle.std.proofs.Math.Bool.{or-true, or-false}
use Rattle.std.proofs.Math.Dec.{eqb-suc-zero}
use Rattle.std.proofs.lemmas.Bool.{eqb-true, not-true}
use Rattle.vx_value.specs.Fields.{project, field_count}
use Rattle.vx_value.specs.Types.{Name, LogicalType, ty, struct, Fields, no_field, field, Datum, null, bool, is_nullable, is_null_datum}
use Rattle.vx_fn.specs.Functions.{case_when, get_item, literal, pack, select, fill_null, zip, is_null, is_not_null, is_atomic, included}
use Rattle.vx_fn.specs.Selections.{kept_names}
use Rattle.vx_fn.specs.declared.options.FieldSelection.{FieldSelection}
use Rattle.vx_tree.specs.Equality.{equal_bound, equal_bound-Decides}
use Rattle.vx_tree.specs.Trees.{BoundTree, node, BoundTrees, no_bound, bound, node_type, WellTyped}
use Rattle.vx_rewrite_core.proofs.Literals.{literal_shape}
use Rattle.vx_rewrite_rule_laws.proofs.Shapes.{pack_nullable, kept_of_pack, Selected, selected, none_included, some_included}
use Rattle.vx_rewrite_core.specs.Nodes.{only_if, one_bound, two_bounds, three_bounds, literal_node, AsType, as_it_is, as_cast, as_type}
use Rattle.vx_rewrite_rule_laws.specs.StandardGiven.{fill_given, null_test, replaced_null, coalesce_given, case_given, item_given, zip_given, is_pack, none_given, some_given, select_given, given_at}
use Rattle.vx_rewrite_rule_laws.specs.Rules.{fill_node, mask_node, empty_pack, child_named, children_named, are_nullable, IsCoalesce, null_first, null_last, RuleAt, fill_of_not_null, coalesce_to_null, coalesce, item_of_pack, item_of_nullable_pack, zip_chosen, zip_cast, select_none, select_none_of_pack, select_of_pack}
use Rattle.vx_rewrite_core.proofs.Casts.{as_type-is, is-as_type}
use Rattle.vx_rewrite_core.proofs.Sets.{decided_functional}
use Rattle.vx_rewrite_core.specs.Sets.{Functional}

same_bound : (x : BoundTree) → equal_bound x x ≡ true
same_bound x = (equal_bound-Decides x x).1 refl

-- ---- what a rule gives is given

given_empty : (t : LogicalType) (selection : FieldSelection) (x : BoundTree) (n : Bool) → t ≡ ty (struct no_field) n → (not (is_nullable (node_type x)) || is_pack x) ≡ true → select_given t selection x ≡ Some (empty_pack n)
given_empty t selection x n e h = rw (e, h) refl

empty_selected : (t : LogicalType) (selection : FieldSelection) (x : BoundTree) (fs : Fields) (n : Bool) → WellTyped (node t (select selection) (one_bound x)) → node_type x ≡ ty (struct fs) n → included selection fs ≡ [] → t ≡ ty (struct no_field) n
empty_selected t selection x fs n w q e =
    let s = selected selection t x w in
    let f = s.from in
    let g = s.to in
    let k : s.fields ≡ fs = cc in
    let l : included selection s.fields ≡ [] = ap (included selection) k ∙ e in
    let m : s.nullable ≡ n = cc in
    g ∙ (ap (λ names. ty (struct (project names s.fields)) s.nullable) l ∙ ap (λ b. ty (struct no_field) b) m)

-- what is selected from is the same struct
same_fields : {selection : FieldSelection} {u t : LogicalType} (s : Selected selection u t) (fs : Fields) (n : Bool) → u ≡ ty (struct fs) n → s.fields ≡ fs
same_fields s fs n e = let f = s.from in cc

not_zero : (n : ℕ) → (n + 1 == 0) ≡ false
not_zero n = rw add-one (eqb-suc-zero n)

given_picked : (gs : Fields) (selection : FieldSelection) (fs : Fields) (n : Bool) (names : List Name) (xs : BoundTrees) → WellTyped (node (ty (struct gs) n) (select selection) (one_bound (node (ty (struct fs) n) (pack names n) xs))) → included selection fs ≢ [] → IsTrue (not n || are_nullable gs) → select_given (ty (struct gs) n) selection (node (ty (struct fs) n) (pack names n) xs) ≡ Some (node (ty (struct gs) n) (pack (included selection fs) n) (children_named (included selection fs) names xs))
given_picked no_field selection fs n names xs w some h =
    let s = selected selection (ty (struct no_field) n) (node (ty (struct fs) n) (pack names n) xs) w in
    absurd (some (sym (ap (included selection) (same_fields s fs n refl)) ∙ none_included s n refl))
given_picked (field a t gs) selection fs n names xs w some h =
    rw (not_zero (field_count gs), h, kept_of_pack selection (ty (struct fs) n) fs n names n xs w.2.0 refl) refl

pub rule_given : (b u : BoundTree) → WellTyped b → RuleAt b u → given_at b ≡ Some u
rule_given b u w (fill_of_not_null e) = rw e refl
rule_given b u w (coalesce_to_null {x = x} null_first) = rw (same_bound x) refl
rule_given b u w (coalesce_to_null {x = x} null_last) = rw (same_bound x) refl
rule_given b u w (coalesce {x = x} null_first e p) = rw (same_bound x, e, p) refl
rule_given b u w (coalesce {x = x} null_last e p) = rw (same_bound x, e, p) refl
rule_given b u w (item_of_pack e) = rw e refl
rule_given b u w (item_of_nullable_pack e) = rw e refl
rule_given b u w (zip_chosen {t = t} {c = c} {x = x} {y = y} e) = rw (as_type-is {t = t} (as_it_is e)) refl
rule_given b u w (zip_cast {t = t} {c = c} {x = x} {y = y} e) = rw (as_type-is {t = t} (as_cast e)) refl
rule_given b u w (select_none {t = t} {selection = s} {x = x} {fs = fs} q e) = given_empty t s x false (empty_selected t s x fs false w q e) (rw q refl)
rule_given b u w (select_none_of_pack {t = t} {selection = s} {fs = fs} {n = n} {names = names} {xs = xs} e) =
    let x = node (ty (struct fs) n) (pack names n) xs in
    given_empty t s x n (empty_selected t s x fs n w refl e) (or-true (not n))
rule_given b u w (select_of_pack {gs = gs} {selection = s} {fs = fs} {n = n} {names = names} {xs = xs} e h) = given_picked gs s fs n names xs w e h

-- ---- what is given a rule gives

-- a tree that is given under a test
pub under_test : (P : BoundTree → Type 0) (b : Bool) (x u : BoundTree) → (b ≡ true → P x) → only_if b x ≡ Some u → P u
under_test P true x u k e = let q : x ≡ u = cc in subst P q (k refl)
under_test P false x u k e = cc

pub is_null_value : (c : Datum) → is_null_datum c ≡ true → c ≡ null
is_null_value null e = refl
is_null_value _ e = cc

fill_rule : (t : LogicalType) (x y u : BoundTree) → fill_given x ≡ Some u → RuleAt (node t fill_null (two_bounds x y)) u
fill_rule t x y u e = under_test (RuleAt (node t fill_null (two_bounds x y))) (not (is_nullable (node_type x))) x u (λ h. fill_of_not_null (not-true (is_nullable (node_type x)) h)) e

-- ---- CASE

replaced_rule : (b x u : BoundTree) (t : LogicalType) (c : Datum) → IsCoalesce x t c b → replaced_null x (literal_node t c) c ≡ Some u → RuleAt b u
replaced_rule b x u t c i e = go (is_null_datum c) refl e
  where
    go : (z : Bool) → is_null_datum c ≡ z → (if z then Some x else only_if (is_atomic (node_type x)) (fill_node x (literal_node t c))) ≡ Some u → RuleAt b u
    go true z e =
        let q : x ≡ u = cc in
        subst (RuleAt b) q (coalesce_to_null (subst (λ d. IsCoalesce x t d b) (is_null_value c z) i))
    go false z e = under_test (RuleAt b) (is_atomic (node_type x)) (fill_node x (literal_node t c)) u (λ h. coalesce i z h) e

coalesce_rule : (b x l o u : BoundTree) → WellTyped l → ((t : LogicalType) (c : Datum) → l ≡ literal_node t c → x ≡ o → IsCoalesce x t c b) → coalesce_given (record { tested = x; if_null = l; if_not = o }) ≡ Some u → RuleAt b u
coalesce_rule b x (node t (literal v c) ls) o u w i e = go (equal_bound x o) refl e
  where
    alone : node t (literal v c) ls ≡ literal_node t c
    alone = literal_shape t v c ls w

    go : (z : Bool) → equal_bound x o ≡ z → (if z then replaced_null x (node t (literal v c) ls) c else None) ≡ Some u → RuleAt b u
    go true z e = replaced_rule b x u t c (i t c alone ((equal_bound-Decides x o).0 z)) (subst (λ l. replaced_null x l c ≡ Some u) alone e)
    go false z e = cc
coalesce_rule b x _ o u w i e = cc

case_rule : (t : LogicalType) (p y z u : BoundTree) → WellTyped (node t (case_when 1 true) (three_bounds p y z)) → case_given 1 true p y z ≡ Some u → RuleAt (node t (case_when 1 true) (three_bounds p y z)) u
case_rule t (node p is_null (bound x no_bound)) y z u w e =
    coalesce_rule _ x y z u w.2.1.0 (λ v c l o. rw (l, ← o) null_first) e
case_rule t (node p is_not_null (bound x no_bound)) y z u w e =
    coalesce_rule _ x z y u w.2.1.1.0 (λ v c l o. rw (l, ← o) null_last) e
case_rule t (node p is_null no_bound) y z u w e = cc
case_rule t (node p is_null (bound x (bound x' xs))) y z u w e = cc
case_rule t (node p is_not_null no_bound) y z u w e = cc
case_rule t (node p is_not_null (bound x (bound x' xs))) y z u w e = cc
case_rule t _ y z u w e = cc

case_shape_rule : (t : LogicalType) (pairs : ℕ) (has_else : Bool) (p y z u : BoundTree) → WellTyped (node t (case_when pairs has_else) (three_bounds p y z)) → case_given pairs has_else p y z ≡ Some u → RuleAt (node t (case_when pairs has_else) (three_bounds p y z)) u
case_shape_rule t pairs has_else p y z u w e = go (pairs == 1) refl has_else w e
  where
    go : (b : Bool) → (pairs == 1) ≡ b → (has_else : Bool) → WellTyped (node t (case_when pairs has_else) (three_bounds p y z)) → (if b && has_else then option_and_then coalesce_given (null_test p y z) else None) ≡ Some u → RuleAt (node t (case_when pairs has_else) (three_bounds p y z)) u
    go true one true w e =
        let q : pairs ≡ 1 = eqb-true pairs 1 one in
        subst (λ k. RuleAt (node t (case_when k true) (three_bounds p y z)) u) (sym q) (case_rule t p y z u (subst (λ k. WellTyped (node t (case_when k true) (three_bounds p y z))) q w) e)
    go true one false w e = cc
    go false one has_else w e = cc

-- ---- a field

item_rule : (t : LogicalType) (a : Name) (x u : BoundTree) → item_given a x ≡ Some u → RuleAt (node t (get_item a) (one_bound x)) u
item_rule t a (node p (pack names n) xs) u e = go (child_named a names xs) refl n e
  where
    go : (o : Option BoundTree) → child_named a names xs ≡ o → (n : Bool) → option_map (λ x. if n then mask_node x else x) o ≡ Some u → RuleAt (node t (get_item a) (one_bound (node p (pack names n) xs))) u
    go None q n e = cc
    go (Some x) q true e = let h : mask_node x ≡ u = cc in subst (RuleAt (node t (get_item a) (one_bound (node p (pack names true) xs)))) h (item_of_nullable_pack q)
    go (Some x) q false e = let h : x ≡ u = cc in subst (RuleAt (node t (get_item a) (one_bound (node p (pack names false) xs)))) h (item_of_pack q)
item_rule t a _ u e = cc

-- ---- a choice

zip_rule : (t : LogicalType) (x y m u : BoundTree) → WellTyped m → zip_given t x y m ≡ Some u → RuleAt (node t zip (three_bounds x y m)) u
zip_rule t x y (node m (literal v (bool c)) ls) u w e =
    subst (λ l. RuleAt (node t zip (three_bounds x y l)) u) (sym (literal_shape m v (bool c) ls w))
    (let q : as_type t (if c then x else y) ≡ u = cc in go u (subst (AsType t (if c then x else y)) q (is-as_type t (if c then x else y))))
  where
    go : (u : BoundTree) → AsType t (if c then x else y) u → RuleAt (node t zip (three_bounds x y (literal_node m (bool c)))) u
    go _ (as_it_is q) = zip_chosen q
    go _ (as_cast q) = zip_cast q
zip_rule t x y _ u w e = cc

-- ---- a selection

-- nothing is included
none_rule : (n : Bool) (selection : FieldSelection) (x u : BoundTree) → WellTyped (node (ty (struct no_field) n) (select selection) (one_bound x)) → only_if (not (is_nullable (node_type x)) || is_pack x) (empty_pack n) ≡ Some u → RuleAt (node (ty (struct no_field) n) (select selection) (one_bound x)) u
none_rule n selection x u w e = under_test (RuleAt (node (ty (struct no_field) n) (select selection) (one_bound x))) (not (is_nullable (node_type x)) || is_pack x) (empty_pack n) u (λ h. go x (selected selection (ty (struct no_field) n) x w) w h) e
  where
    never : (x : BoundTree) → Selected selection (node_type x) (ty (struct no_field) n) → not (is_nullable (node_type x)) ≡ true → RuleAt (node (ty (struct no_field) n) (select selection) (one_bound x)) (empty_pack n)
    never x s h =
        let f = s.from in
        let g = s.to in
        let m : s.nullable ≡ n = cc in
        let q : n ≡ false = sym m ∙ (sym (ap is_nullable f) ∙ not-true (is_nullable (node_type x)) h) in
        rw q (select_none (f ∙ ap (ty (struct s.fields)) (m ∙ q)) (none_included s n refl))

    go : (x : BoundTree) → Selected selection (node_type x) (ty (struct no_field) n) → WellTyped (node (ty (struct no_field) n) (select selection) (one_bound x)) → (not (is_nullable (node_type x)) || is_pack x) ≡ true → RuleAt (node (ty (struct no_field) n) (select selection) (one_bound x)) (empty_pack n)
    go (node p (pack names k) xs) s w h =
        let g = s.to in
        let m : s.nullable ≡ n = cc in
        let q : k ≡ n = pack_nullable p s.fields s.nullable names k xs w.2.0 s.from ∙ m in
        let r : p ≡ ty (struct s.fields) k = s.from ∙ ap (ty (struct s.fields)) (m ∙ sym q) in
        rw (r, ← q) (select_none_of_pack (none_included s n refl))
    go x s w h = never x s (sym (or-false (not (is_nullable (node_type x)))) ∙ h)

-- something is
packed_rule : (gs fs : Fields) (n k : Bool) (selection : FieldSelection) (p : LogicalType) (names : List Name) (xs : BoundTrees) → p ≡ ty (struct fs) n → k ≡ n → kept_names selection names ≡ included selection fs → included selection fs ≢ [] → IsTrue (not k || are_nullable gs) → RuleAt (node (ty (struct gs) n) (select selection) (one_bound (node p (pack names k) xs))) (node (ty (struct gs) n) (pack (kept_names selection names) k) (children_named (kept_names selection names) names xs))
packed_rule gs fs n k selection p names xs r q c some h = rw (c, r, q) (select_of_pack some (subst (λ b. IsTrue (not b || are_nullable gs)) q h))

some_rule : (gs : Fields) (n : Bool) (selection : FieldSelection) (x u : BoundTree) → gs ≢ no_field → WellTyped (node (ty (struct gs) n) (select selection) (one_bound x)) → some_given (ty (struct gs) n) selection gs x ≡ Some u → RuleAt (node (ty (struct gs) n) (select selection) (one_bound x)) u
some_rule gs n selection (node p (pack names k) xs) u some w e =
    let s = selected selection (ty (struct gs) n) (node p (pack names k) xs) w in
    let g = s.to in
    let m : s.nullable ≡ n = cc in
    let q : k ≡ n = pack_nullable p s.fields s.nullable names k xs w.2.0 s.from ∙ m in
    let r : p ≡ ty (struct s.fields) n = s.from ∙ ap (ty (struct s.fields)) m in
    let c : kept_names selection names ≡ included selection s.fields = kept_of_pack selection p s.fields n names k xs w.2.0 r in
    under_test (RuleAt (node (ty (struct gs) n) (select selection) (one_bound (node p (pack names k) xs)))) (not k || are_nullable gs)
    (node (ty (struct gs) n) (pack (kept_names selection names) k) (children_named (kept_names selection names) names xs)) u
    (λ h. packed_rule gs s.fields n k selection p names xs r q c (some_included s gs n refl some) h)
    e
some_rule gs n selection _ u some w e = cc

select_rule : (t : LogicalType) (selection : FieldSelection) (x u : BoundTree) → WellTyped (node t (select selection) (one_bound x)) → select_given t selection x ≡ Some u → RuleAt (node t (select selection) (one_bound x)) u
select_rule (ty (struct no_field) n) selection x u w e = none_rule n selection x u w e
select_rule (ty (struct (field a t gs)) n) selection x u w e =
    some_rule (field a t gs) n selection x u (λ q. cc) w (subst (λ b. (if b then none_given (ty (struct (field a t gs)) n) x else some_given (ty (struct (field a t gs)) n) selection (field a t gs) x) ≡ Some u) (not_zero (field_count gs)) e)
select_rule _ selection x u w e = cc

given_rule : (b u : BoundTree) → WellTyped b → given_at b ≡ Some u → RuleAt b u
given_rule (node t fill_null (bound x (bound y no_bound))) u w e = fill_rule t x y u e
given_rule (node t (case_when pairs has_else) (bound p (bound y (bound z no_bound)))) u w e = case_shape_rule t pairs has_else p y z u w e
given_rule (node t (get_item a) (bound x no_bound)) u w e = item_rule t a x u e
given_rule (node t zip (bound x (bound y (bound m no_bound)))) u w e = zip_rule t x y m u w.2.1.1.0 e
given_rule (node t (select selection) (bound x no_bound)) u w e = select_rule t selection x u w e
given_rule _ u w e = cc

pub rule_decided : (b u : BoundTree) → WellTyped b → RuleAt b u ↔ (given_at b ≡ Some u)
rule_decided b u w = (rule_given b u w, given_rule b u w)

pub rule_functional : Functional RuleAt
rule_functional = decided_functional RuleAt given_at rule_decided
