-- The rule of a fill of what is never null keeps the tree at which it applies.
use Rattle.std.proofs.Common.{◌≡◌, [], ◌∷◌, refl, sym, subst, Bool, false, true}
use Rattle.vx_fn.proofs.Rows.{fn_type-found}
use Rattle.vx_fn.proofs.Monotone.{shape_refl}
use Rattle.vx_tree.proofs.Trees.{or_none, value-fits, each_passes}
use Rattle.vx_value.specs.Types.{LogicalType, ty, Datum, null, is_nullable, with_nullability, is_null_datum}
use Rattle.vx_value.specs.Fits.{Fits}
use Rattle.vx_dtype.specs.Joins.{same_base, Narrower, narrower}
use Rattle.vx_fn.specs.Functions.{fill_null}
use Rattle.vx_fn.specs.Rows.{FnType, of_fill_null}
use Rattle.vx_tree.specs.Meaning.{value}
use Rattle.vx_tree.specs.Trees.{BoundTree, node, node_type, WellTyped}
use Rattle.vx_rewrite_core.specs.Keeps.{Keeps}
use Rattle.vx_rewrite_core.specs.Nodes.{two_bounds}

pub never_null : (v : Datum) (t : LogicalType) → is_nullable t ≡ false → Fits v t → is_null_datum v ≡ false
never_null null (ty s n) e h = cc
never_null _ t e h = refl

narrower_nullable : (t : LogicalType) (m : Bool) → is_nullable t ≡ false → Narrower t (with_nullability m t)
narrower_nullable (ty s n) m e = narrower (shape_refl s) (λ h. cc)

-- the type of a fill
fill_type : {a b t : LogicalType} → FnType fill_null (a ∷ b ∷ []) t → (same_base a b ≡ true) × (t ≡ with_nullability (is_nullable b) a)
fill_type (of_fill_null s) = (s, refl)

pub keeps_fill_of_not_null : (t : LogicalType) (x y : BoundTree) → WellTyped (node t fill_null (two_bounds x y)) → is_nullable (node_type x) ≡ false → Keeps (node t fill_null (two_bounds x y)) x
keeps_fill_of_not_null t x y w e = record {
  typed_before = w;
  typed_after = w.2.0;
  scopes = λ s o. o.0;
  type =
      let k = fill_type (fn_type-found fill_null (node_type x ∷ node_type y ∷ []) t w.0) in
      subst (Narrower (node_type x)) (sym k.1) (narrower_nullable (node_type x) (is_nullable (node_type y)) e);
  no_fault = λ s batch o i n. (or_none _ _ (or_none _ _ n).0).0;
  meaning = λ s batch o i n v j.
      let h = value-fits x s batch v w.2.0 o.0 (or_none _ _ (or_none _ _ n).0).0 j (each_passes _ batch v i j) in
      let q : is_null_datum (value x v) ≡ false = never_null (value x v) (node_type x) e h in
      rw q refl;
}
