-- The texts of nodes over those of their children.
use Rattle.std.proofs.Common.{◌≡◌, ◌≢◌, ℕ, zero, suc, ◌<◌, List, [], ◌∷◌, ◌++◌, length, get_or, refl, sym, ap, ◌∙◌, arith}
use Rattle.std.specs.Prelude.{◌==◌}
use Rattle.std.proofs.lemmas.Bool.{cond-true, cond-false, eq-eqb, ne_eqb}
use Rattle.vx_value.specs.Types.{Name, LogicalType}
use Rattle.vx_fn.specs.Functions.{Function, arity_of}
use Rattle.vx_tree.specs.declared.bound.BoundExpression.{BoundExpression}
use Rattle.vx_tree.specs.Nodes.{bound_count_of}
use Rattle.vx_tree.specs.Views.{bound_of, bounds_of}
use Rattle.vx_tree.proofs.Nodes.{bound_count_of-bounds_of}
use Rattle.vx_sql.specs.declared.dialect.Dialect.{Dialect}
use Rattle.vx_sql.specs.SqlTexts.{sql, sqls_of, own_sql, node_sql, before_field, fields_sql}

pub length-sqls : (d : Dialect) (bs : List BoundExpression) → length (sqls_of d bs) ≡ length bs
length-sqls d [] = refl
length-sqls d (b ∷ bs) = omega (arith, length-sqls d bs)

pub get_or-sqls : (d : Dialect) (bs : List BoundExpression) (i : ℕ) (b : BoundExpression) → i < length bs → b ≡ get_or bs i b → sql d (bound_of b) ≡ get_or (sqls_of d bs) i []
get_or-sqls d [] i b h is = absurd (omega arith)
get_or-sqls d (x ∷ bs) zero b h is = ap (λ z. sql d (bound_of z)) is
get_or-sqls d (x ∷ bs) (suc i) b h is = get_or-sqls d bs i b (omega arith) is

-- ---- a node over its number of children, or another one

pub node_sql-fits : (d : Dialect) (t : LogicalType) (f : Function) (bs : List BoundExpression) → length bs ≡ arity_of f
    → own_sql d t f (bounds_of bs) (sqls_of d bs) ≡ node_sql d t f (bounds_of bs) (sqls_of d bs)
node_sql-fits d t f bs n = sym (cond-true (bound_count_of (bounds_of bs) == arity_of f) _ [] (eq-eqb _ _ (bound_count_of-bounds_of bs ∙ n)))

pub node_sql-other : (d : Dialect) (t : LogicalType) (f : Function) (bs : List BoundExpression) → length bs ≢ arity_of f → [] ≡ node_sql d t f (bounds_of bs) (sqls_of d bs)
node_sql-other d t f bs n = sym (cond-false (bound_count_of (bounds_of bs) == arity_of f) _ [] (ne_eqb _ _ (λ e. n (sym (bound_count_of-bounds_of bs) ∙ e))))

-- ---- fields that are made

pub length-fields_sql : (d : Dialect) (names : List Name) (cs : List (List ℕ)) → length cs ≡ length names → length (fields_sql d names cs) ≡ length cs
length-fields_sql d [] [] h = refl
length-fields_sql d [] (c ∷ cs) h = absurd (omega arith)
length-fields_sql d (a ∷ names) [] h = refl
length-fields_sql d (a ∷ names) (c ∷ cs) h = omega (arith, length-fields_sql d names cs (omega arith))

pub get_or-fields_sql : (d : Dialect) (names : List Name) (cs : List (List ℕ)) (i : ℕ) (a : Name) → i < length names → i < length cs → a ≡ get_or names i a
    → before_field d a ++ get_or cs i [] ≡ get_or (fields_sql d names cs) i []
get_or-fields_sql d [] cs i a h k is = absurd (omega arith)
get_or-fields_sql d (b ∷ names) [] i a h k is = absurd (omega arith)
get_or-fields_sql d (b ∷ names) (c ∷ cs) zero a h k is = ap (λ x. before_field d x ++ c) is
get_or-fields_sql d (b ∷ names) (c ∷ cs) (suc i) a h k is = get_or-fields_sql d names cs i a (omega arith) (omega arith) is
