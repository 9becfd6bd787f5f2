-- A search in a null list, of a null, or in a list without elements is kept by a literal.
use Rattle.std.proofs.Common.{◌≡◌, [], ◌∷◌, refl, sym, true, false, ◌||◌}
use Rattle.std.proofs.lemmas.Bool.{or_left, or_right}
use Rattle.vx_dtype.specs.Joins.{Narrower, narrower, same_atomic_shape}
use Rattle.vx_fn.specs.Functions.{list_contains, truth_type}
use Rattle.vx_fn.specs.Rows.{FnType, of_list_contains}
use Rattle.vx_fn.specs.Values.{contained}
use Rattle.vx_tree.specs.Meaning.{value}
use Rattle.vx_tree.specs.Trees.{BoundTree, node, no_bound, node_type, WellTyped}
use Rattle.vx_value.specs.Fits.{Fits}
use Rattle.vx_value.specs.Types.{LogicalType, Datum, null, bool, list_of, no_datum, is_nullable, is_null_datum}
use Rattle.vx_rewrite_core.specs.Keeps.{Keeps}
use Rattle.vx_rewrite_core.proofs.Prelude.{fn_type-found, value-fits, each_passes, second_quiet}
use Rattle.vx_rewrite_core.specs.Nodes.{two_bounds, literal_node}
use Rattle.vx_rewrite_rule_laws.proofs.Constants.{literal_of, constant_value}
use Rattle.vx_rewrite_rule_laws.proofs.FillLaws.{never_null}
use Rattle.vx_rewrite_rule_laws.proofs.Nulls.{null_literal, keeps_nowhere}
use Rattle.vx_rewrite_rule_laws.specs.Folding.{is_empty_list, is_literal_of, truth_literal}

contained-null : (v : Datum) → contained v null ≡ null
contained-null (list_of vs) = refl
contained-null _ = refl

in_empty : (c v : Datum) → is_empty_list c ≡ true → is_null_datum v ≡ false → contained c v ≡ bool false
in_empty (list_of no_datum) v e h = rw h refl
in_empty _ v e h = cc

fits_list : {a b t : LogicalType} → FnType list_contains (a ∷ b ∷ []) t → Fits null a → Fits null t
fits_list (of_list_contains {k = k} {n = n} {m = m} s) e = or_left (n || k) m (or_left n k e)

fits_element : {a b t : LogicalType} → FnType list_contains (a ∷ b ∷ []) t → Fits null b → Fits null t
fits_element (of_list_contains {k = k} {n = n} {m = m} s) e = or_right (n || k) m e

truth_narrower : {a b t : LogicalType} → FnType list_contains (a ∷ b ∷ []) t → Narrower (truth_type false) t
truth_narrower (of_list_contains {k = k} {n = n} {m = m} s) = narrower {n = false} {m = n || k || m} same_atomic_shape (λ e. cc)

module _ (t : LogicalType) (x y : BoundTree) (w : WellTyped (node t list_contains (two_bounds x y))) where
  typed : FnType list_contains (node_type x ∷ node_type y ∷ []) t
  typed = fn_type-found list_contains (node_type x ∷ node_type y ∷ []) t w.0

  pub keeps_null_list : is_literal_of is_null_datum x ≡ true → Keeps (node t list_contains (two_bounds x y)) (literal_node t null)
  keeps_null_list e =
      let l = null_literal x w.2.0 e in
      keeps_nowhere t list_contains (two_bounds x y) w (fits_list typed l.fits) (λ v. rw (l.is v) refl)

  pub keeps_null_element : is_literal_of is_null_datum y ≡ true → Keeps (node t list_contains (two_bounds x y)) (literal_node t null)
  keeps_null_element e =
      let l = null_literal y w.2.1.0 e in
      keeps_nowhere t list_contains (two_bounds x y) w (fits_element typed l.fits) (λ v. rw (l.is v) (sym (contained-null (value x v))))

  pub keeps_in_nothing : is_literal_of is_empty_list x ≡ true → is_nullable (node_type y) ≡ false → Keeps (node t list_contains (two_bounds x y)) (truth_literal false)
  keeps_in_nothing e h = record {
    typed_before = w;
    typed_after = (refl, refl, tt);
    scopes = λ s o. tt;
    type = truth_narrower typed;
    no_fault = λ s batch o i n. refl;
    meaning = λ s batch o i n v j.
        let l = literal_of is_empty_list x w.2.0 e in
        let fits = value-fits y s batch v w.2.1.0 o.1.0 (second_quiet t list_contains x y no_bound batch n) j (each_passes _ batch v i j) in
        rw (constant_value l v) (sym (in_empty l.constant (value y v) l.passes (never_null (value y v) (node_type y) h fits)));
  }
