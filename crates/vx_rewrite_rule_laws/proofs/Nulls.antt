-- A comparison with a null, a test by null bounds, and a test for null of what is never null are kept by literals.
use Rattle.std.proofs.Common.{◌≡◌, [], ◌∷◌, refl, sym, subst, Bool, true, false, ◌||◌}
use Rattle.std.proofs.Math.Bool.{or-true}
use Rattle.std.proofs.lemmas.Bool.{or_left, or_right}
use Rattle.vx_value.specs.Fits.{Fits}
use Rattle.vx_value.specs.Types.{LogicalType, Datum, null, bool, is_nullable, is_null_datum}
use Rattle.vx_fn.specs.Functions.{Function, binary, between, is_null, is_not_null, Comparison, compares, truth_type}
use Rattle.vx_fn.specs.Rows.{FnType, of_comparison, of_between}
use Rattle.vx_fn.specs.Values.{compared, bound_comparison, fn_value}
use Rattle.vx_tree.specs.Meaning.{value, values}
use Rattle.vx_tree.specs.Trees.{BoundTree, node, BoundTrees, node_type, node_types, WellTyped}
use Rattle.vx_rewrite_core.specs.Keeps.{Keeps}
use Rattle.vx_rewrite_core.proofs.Prelude.{narrower_refl, fn_type-found, value-fits, each_passes, only_quiet}
use Rattle.vx_rewrite_core.specs.Nodes.{one_bound, two_bounds, three_bounds, literal_node}
use Rattle.vx_rewrite_rule_laws.proofs.StandardDecisions.{is_null_value}
use Rattle.vx_rewrite_rule_laws.proofs.FillLaws.{never_null}
use Rattle.vx_rewrite_rule_laws.proofs.Constants.{literal_of, constant_value, constant_fits}
use Rattle.vx_rewrite_rule_laws.specs.Folding.{is_literal_of, truth_literal}

-- ---- null operands

-- a literal null: its type has null, and it is null in every row
pub record IsNullLiteral (x : BoundTree) : Type 0 where
  pub fits : Fits null (node_type x)
  pub is : (v : Datum) → value x v ≡ null

pub null_literal : (x : BoundTree) → WellTyped x → is_literal_of is_null_datum x ≡ true → IsNullLiteral x
null_literal x w e =
    let l = literal_of is_null_datum x w e in
    let q = is_null_value l.constant l.passes in
    record { fits = subst (λ c. Fits c (node_type x)) q (constant_fits l w); is = λ v. let h = constant_value l v in cc }

-- a node that is null in every row
pub keeps_nowhere : (t : LogicalType) (f : Function) (xs : BoundTrees) → WellTyped (node t f xs) → Fits null t → ((v : Datum) → null ≡ fn_value f (node_types xs) (values xs v)) → Keeps (node t f xs) (literal_node t null)
keeps_nowhere t f xs w h same = record {
  typed_before = w;
  typed_after = (refl, h, tt);
  scopes = λ s o. tt;
  type = narrower_refl t;
  no_fault = λ s batch o i n. refl;
  meaning = λ s batch o i n v j. same v;
}

-- ---- comparisons

compared-null : (c : Comparison) (v : Datum) → compared c v null ≡ null
compared-null c v = rw (or-true (is_null_datum v)) refl

fits_left : {c : Comparison} {a b t : LogicalType} → FnType (binary (compares c)) (a ∷ b ∷ []) t → Fits null a → Fits null t
fits_left (of_comparison {n = n} {m = m} s) e = or_left n m e

fits_right : {c : Comparison} {a b t : LogicalType} → FnType (binary (compares c)) (a ∷ b ∷ []) t → Fits null b → Fits null t
fits_right (of_comparison {n = n} {m = m} s) e = or_right n m e

pub keeps_null_left : (t : LogicalType) (c : Comparison) (x y : BoundTree) → WellTyped (node t (binary (compares c)) (two_bounds x y)) → is_literal_of is_null_datum x ≡ true → Keeps (node t (binary (compares c)) (two_bounds x y)) (literal_node t null)
keeps_null_left t c x y w e =
    let l = null_literal x w.2.0 e in
    keeps_nowhere t (binary (compares c)) (two_bounds x y) w
    (fits_left (fn_type-found (binary (compares c)) (node_type x ∷ node_type y ∷ []) t w.0) l.fits)
    (λ v. rw (l.is v) refl)

pub keeps_null_right : (t : LogicalType) (c : Comparison) (x y : BoundTree) → WellTyped (node t (binary (compares c)) (two_bounds x y)) → is_literal_of is_null_datum y ≡ true → Keeps (node t (binary (compares c)) (two_bounds x y)) (literal_node t null)
keeps_null_right t c x y w e =
    let l = null_literal y w.2.1.0 e in
    keeps_nowhere t (binary (compares c)) (two_bounds x y) w
    (fits_right (fn_type-found (binary (compares c)) (node_type x ∷ node_type y ∷ []) t w.0) l.fits)
    (λ v. rw (l.is v) (sym (compared-null c (value x v))))

-- ---- tests by two bounds

fits_within : {ls us : Bool} {a b c t : LogicalType} → FnType (between ls us) (a ∷ b ∷ c ∷ []) t → Fits null a → Fits null t
fits_within (of_between {n = n} {m = m} {k = k} p q) e = rw e refl

fits_bounds : {ls us : Bool} {a b c t : LogicalType} → FnType (between ls us) (a ∷ b ∷ c ∷ []) t → Fits null b → Fits null t
fits_bounds (of_between {n = n} {m = m} {k = k} p q) e = three n m k e
  where
    three : (n m k : Bool) → m ≡ true → (n || m || k) ≡ true
    three true m k e = refl
    three false m k e = rw e refl

pub keeps_null_within : (t : LogicalType) (ls us : Bool) (x l u : BoundTree) → WellTyped (node t (between ls us) (three_bounds x l u)) → is_literal_of is_null_datum x ≡ true → Keeps (node t (between ls us) (three_bounds x l u)) (literal_node t null)
keeps_null_within t ls us x l u w e =
    let k = null_literal x w.2.0 e in
    keeps_nowhere t (between ls us) (three_bounds x l u) w
    (fits_within (fn_type-found (between ls us) (node_type x ∷ node_type l ∷ node_type u ∷ []) t w.0) k.fits)
    (λ v. rw (k.is v, compared-null (bound_comparison ls) (value l v)) refl)

pub keeps_null_bounds : (t : LogicalType) (ls us : Bool) (x l u : BoundTree) → WellTyped (node t (between ls us) (three_bounds x l u)) → is_literal_of is_null_datum l ≡ true → is_literal_of is_null_datum u ≡ true → Keeps (node t (between ls us) (three_bounds x l u)) (literal_node t null)
keeps_null_bounds t ls us x l u w e h =
    let k = null_literal l w.2.1.0 e in
    let m = null_literal u w.2.1.1.0 h in
    keeps_nowhere t (between ls us) (three_bounds x l u) w
    (fits_bounds (fn_type-found (between ls us) (node_type x ∷ node_type l ∷ node_type u ∷ []) t w.0) k.fits)
    (λ v. rw (k.is v, m.is v, compared-null (bound_comparison us) (value x v)) refl)

-- ---- tests for null

-- a test whose answer is one for all values but null
keeps_answer : (t : LogicalType) (f : Function) (x : BoundTree) (answer : Bool) → WellTyped (node t f (one_bound x)) → truth_type false ≡ t → is_nullable (node_type x) ≡ false → ((v : Datum) → is_null_datum v ≡ false → bool answer ≡ fn_value f (node_type x ∷ []) (v ∷ [])) → Keeps (node t f (one_bound x)) (truth_literal answer)
keeps_answer t f x answer w q e same = record {
  typed_before = w;
  typed_after = (refl, refl, tt);
  scopes = λ s o. tt;
  type = rw (← q) (narrower_refl (truth_type false));
  no_fault = λ s batch o i n. refl;
  meaning = λ s batch o i n v j.
      let fits = value-fits x s batch v w.2.0 o.0 (only_quiet t f x batch n) j (each_passes _ batch v i j) in
      same (value x v) (never_null (value x v) (node_type x) e fits);
}

pub keeps_never_null : (t : LogicalType) (x : BoundTree) → WellTyped (node t is_null (one_bound x)) → is_nullable (node_type x) ≡ false → Keeps (node t is_null (one_bound x)) (truth_literal false)
keeps_never_null t x w e = keeps_answer t is_null x false w (let h = w.0 in cc) e (λ v h. rw h refl)

pub keeps_always_there : (t : LogicalType) (x : BoundTree) → WellTyped (node t is_not_null (one_bound x)) → is_nullable (node_type x) ≡ false → Keeps (node t is_not_null (one_bound x)) (truth_literal true)
keeps_always_there t x w e = keeps_answer t is_not_null x true w (let h = w.0 in cc) e (λ v h. rw h refl)
