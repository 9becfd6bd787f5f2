-- Why nodes and names have no text, one after another.
use Rattle.std.proofs.Common.{◌≡◌, ◌≢◌, ℕ, ◌+◌, ◌<◌, List, length, get_or, drop, Option, Some, None, sym, ap, ◌∙◌}
use Rattle.std.specs.Prelude.{◌==◌}
use Rattle.std.specs.Option.{option_or}
use Rattle.std.proofs.lemmas.Bool.{cond-true, cond-false, eq-eqb, ne_eqb}
use Rattle.std.proofs.lemmas.List.{drop_more}
use Rattle.vx_value.specs.Types.{Name, LogicalType}
use Rattle.vx_fn.specs.Functions.{Function, arity_of}
use Rattle.vx_tree.specs.declared.bound.BoundExpression.{BoundExpression}
use Rattle.vx_tree.specs.Nodes.{bound_count_of}
use Rattle.vx_tree.specs.Views.{bounds_of}
use Rattle.vx_tree.proofs.Nodes.{bound_count_of-bounds_of}
use Rattle.vx_sql.specs.declared.dialect.Dialect.{Dialect}
use Rattle.vx_sql.specs.declared.unsupported.Reason.{Reason}
use Rattle.vx_sql.specs.declared.unsupported.Reason.TheVariants.{ChildCount}
use Rattle.vx_sql.specs.Reasons.{name_reason, names_reason, function_reason, type_reason, own_reason}

-- ---- names

names_next : (d : Dialect) (all names : List Name) (i : ℕ) (a : Name) → i < length names → a ≡ get_or names i a
    → names_reason d all (drop i names) ≡ option_or (name_reason d all a) (names_reason d all (drop (i + 1) names))
names_next d all names i a h is = ap (names_reason d all) (drop_more names i a h) ∙ ap (λ x. option_or (name_reason d all x) (names_reason d all (drop (i + 1) names))) (sym is)

pub names_told : (d : Dialect) (all names : List Name) (i : ℕ) (a : Name) (r : Reason) (whole : Option Reason) → i < length names → a ≡ get_or names i a
    → name_reason d all a ≡ Some r → names_reason d all (drop i names) ≡ whole → Some r ≡ whole
names_told d all names i a r whole h is e k =
    sym (ap (λ o. option_or o (names_reason d all (drop (i + 1) names))) e) ∙ sym (names_next d all names i a h is) ∙ k

pub names_past : (d : Dialect) (all names : List Name) (i : ℕ) (a : Name) (whole : Option Reason) → i < length names → a ≡ get_or names i a
    → name_reason d all a ≡ None → names_reason d all (drop i names) ≡ whole → names_reason d all (drop (i + 1) names) ≡ whole
names_past d all names i a whole h is e k =
    sym (ap (λ o. option_or o (names_reason d all (drop (i + 1) names))) e) ∙ sym (names_next d all names i a h is) ∙ k

-- ---- nodes

pub own_reason-count : (d : Dialect) (t : LogicalType) (f : Function) (bs : List BoundExpression) → length bs ≢ arity_of f → Some ChildCount ≡ own_reason d t f (bounds_of bs)
own_reason-count d t f bs n =
    sym (cond-false (bound_count_of (bounds_of bs) == arity_of f) _ (Some ChildCount) (ne_eqb _ _ (λ e. n (sym (bound_count_of-bounds_of bs) ∙ e))))

own_reason-fits : (d : Dialect) (t : LogicalType) (f : Function) (bs : List BoundExpression) → length bs ≡ arity_of f
    → option_or (type_reason d t) (function_reason d t f (bounds_of bs)) ≡ own_reason d t f (bounds_of bs)
own_reason-fits d t f bs n = sym (cond-true (bound_count_of (bounds_of bs) == arity_of f) _ (Some ChildCount) (eq-eqb _ _ (bound_count_of-bounds_of bs ∙ n)))

pub own_reason-type : (d : Dialect) (t : LogicalType) (f : Function) (bs : List BoundExpression) (r : Reason) → length bs ≡ arity_of f → type_reason d t ≡ Some r
    → Some r ≡ own_reason d t f (bounds_of bs)
own_reason-type d t f bs r n e = sym (ap (λ o. option_or o (function_reason d t f (bounds_of bs))) e) ∙ own_reason-fits d t f bs n

pub own_reason-function : (d : Dialect) (t : LogicalType) (f : Function) (bs : List BoundExpression) (r : Option Reason) → length bs ≡ arity_of f → type_reason d t ≡ None
    → r ≡ function_reason d t f (bounds_of bs) → r ≡ own_reason d t f (bounds_of bs)
own_reason-function d t f bs r n e h = h ∙ sym (ap (λ o. option_or o (function_reason d t f (bounds_of bs))) e) ∙ own_reason-fits d t f bs n
