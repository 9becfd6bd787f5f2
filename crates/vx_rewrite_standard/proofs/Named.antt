-- Children and fields by name, as the code looks at them.
use Rattle.std.proofs.Common.{◌≡◌, ℕ, ◌+◌, ◌<◌, ◌≤◌, List, [], ◌∷◌, ◌++◌, length, drop, take, map, refl, sym, ap, ◌∙◌, zero, suc, inl, inr, get_or, add-one, drop_of_length-le, Bor, true, false, arith}
use Rattle.std.specs.Prelude.{Option, Some, None, slice_get, position, is_some, nat_lt, IfSome}
use Rattle.std.proofs.lemmas.List.{map-append}
use Rattle.std.proofs.lemmas.Bool.{ltb-true, ltb-false}
use Rattle.std.specs.List.{list_all}
use Rattle.std.specs.Option.{option_map}
use Rattle.std.specs.Str.{bytes_eq}
use Rattle.std.proofs.lemmas.List.Quantifiers.{position-Some}
use Rattle.vx_dtype.specs.Lists.{IsIn}
use Rattle.vx_dtype.proofs.Lists.{drop_next, in_front, in_front-push, in_front-all}
use Rattle.vx_tree.proofs.Trees.{none_passes}
use Rattle.vx_dtype.specs.Fields.{field_count}
use Rattle.vx_dtype.specs.Views.{type_of, fields_view}
use Rattle.vx_dtype.specs.declared.dtype.DType.{DType}
use Rattle.vx_rewrite_rule_laws.specs.Rules.{child_named, put_child, children_named, are_nullable}
use Rattle.vx_tree.specs.Trees.{BoundTree, BoundTrees, no_bound, bound}
use Rattle.vx_tree.specs.Views.{bound_of, bounds_of, bounds_from}
use Rattle.vx_tree.specs.declared.bound.BoundExpression.{BoundExpression}
use Rattle.vx_value.specs.Types.{Name, Fields, is_nullable}

-- ---- the first child of a name, by the name's place

child_is : (a : Name) (names : List Name) (xs : List BoundExpression) (i : ℕ) (d : Name) → i < length names → bytes_eq a (get_or names i d) ≡ true → ((k : ℕ) → k < i → bytes_eq a (get_or names k d) ≡ false) → child_named a names (bounds_of xs) ≡ option_map bound_of (slice_get xs i)
child_is a [] xs i d h e f = absurd (omega arith)
child_is a (b ∷ names) [] i d h e f = refl
child_is a (b ∷ names) (x ∷ xs) zero d h e f = rw e refl
child_is a (b ∷ names) (x ∷ xs) (suc i) d h e f = rw (f 0 (omega arith)) (child_is a names xs i d (omega arith) e (λ k l. f (suc k) (omega arith)))

pub child_found : (a : Name) (names : List Name) (xs : List BoundExpression) (i : ℕ) → position (bytes_eq a) names ≡ Some i → child_named a names (bounds_of xs) ≡ option_map bound_of (slice_get xs i)
child_found a names xs i e = let k = position-Some (bytes_eq a) names i [] e in child_is a names xs i [] k.0 k.1 k.2

child_none : (a : Name) (names : List Name) (xs : List BoundExpression) → ((b : Name) → IsIn b names → bytes_eq a b ≡ false) → child_named a names (bounds_of xs) ≡ None
child_none a [] xs f = refl
child_none a (b ∷ names) [] f = refl
child_none a (b ∷ names) (x ∷ xs) f = rw (f b (inl refl)) (child_none a names xs (λ c i. f c (inr i)))

pub child_missing : (a : Name) (names : List Name) (xs : List BoundExpression) → position (bytes_eq a) names ≡ None → child_named a names (bounds_of xs) ≡ None
child_missing a names xs e = child_none a names xs (λ b i. none_passes (bytes_eq a) names b e i)

read-some : (xs : List BoundExpression) (i : ℕ) (x : BoundExpression) → i < length xs → x ≡ get_or xs i x → slice_get xs i ≡ Some x
read-some [] i x h e = absurd (omega arith)
read-some (y ∷ ys) zero x h e = ap Some (sym e)
read-some (y ∷ ys) (suc i) x h e = read-some ys i x (omega arith) e

read-none : (xs : List BoundExpression) (i : ℕ) → length xs ≤ i → slice_get xs i ≡ None
read-none [] i h = refl
read-none (y ∷ ys) zero h = absurd (omega arith)
read-none (y ∷ ys) (suc i) h = read-none ys i (omega arith)

-- the tree that is read at a place
pub read_tree : (xs : List BoundExpression) (i : ℕ) (r : Option (Bor BoundExpression)) → is_some r ≡ nat_lt i (length xs) → IfSome r (λ x. x.now ≡ get_or xs i x.now) → option_map (λ b. bound_of b.now) r ≡ option_map bound_of (slice_get xs i)
read_tree xs i None h e = ap (option_map bound_of) (sym (read-none xs i (ltb-false i (length xs) (sym h))))
read_tree xs i (Some x) h e = ap (option_map bound_of) (sym (read-some xs i x.now (ltb-true i (length xs) (sym h)) e))

-- ---- the type of each field is nullable

are_nullable-each : (names : List Name) (types : List DType) → are_nullable (fields_view names types) ≡ list_all (λ t. is_nullable (type_of t)) (take (field_count (fields_view names types)) types)
are_nullable-each [] types = refl
are_nullable-each (a ∷ names) [] = refl
are_nullable-each (a ∷ names) (t ∷ types) = rw (add-one, are_nullable-each names types) refl

pub fields-nullable : (fs : Fields) (names : List Name) (types : List DType) (n : ℕ) → fields_view names types ≡ fs → n ≡ field_count fs → list_all (λ t. is_nullable (type_of t)) (take n types) ≡ are_nullable fs
fields-nullable fs names types n e k = rw (k, ← e) (sym (are_nullable-each names types))

-- ---- the children of the wanted names, one name further

-- the trees in front of others
abbrev pub before : List BoundTree → BoundTrees → BoundTrees
before = in_front bound

-- before the first name
pub start : (wanted names : List Name) (xs : BoundTrees) (kept : List BoundExpression) → kept ≡ [] → children_named wanted names xs ≡ before (map bound_of kept) (children_named (drop 0 wanted) names xs)
start wanted names xs kept e = rw e refl

-- behind the last
pub end : (wanted names : List Name) (xs : BoundTrees) (kept : List BoundExpression) (i : ℕ) → length wanted ≤ i → children_named wanted names xs ≡ before (map bound_of kept) (children_named (drop i wanted) names xs) → bounds_of kept ≡ children_named wanted names xs
end wanted names xs kept i h k = sym (k ∙ (ap (λ ws. before (map bound_of kept) (children_named ws names xs)) (drop_of_length-le wanted h) ∙ in_front-all bound no_bound bounds_from refl (λ x xs. refl) (map bound_of kept)))

-- the child of one name more
more : (wanted names : List Name) (xs : BoundTrees) (kept : List BoundTree) (i : ℕ) (a : Name) (o : Option BoundTree) (all : BoundTrees) → i < length wanted → a ≡ get_or wanted i a → child_named a names xs ≡ o
    → all ≡ before kept (children_named (drop i wanted) names xs) → all ≡ before kept (put_child o (children_named (drop (i + 1) wanted) names xs))
more wanted names xs kept i a o all h p q k =
    k ∙ (ap (λ ws. before kept (children_named ws names xs)) (drop_next wanted i a h p) ∙ ap (λ o. before kept (put_child o (children_named (drop (i + 1) wanted) names xs))) q)

pub further : (wanted names : List Name) (xs : BoundTrees) (kept new : List BoundExpression) (i : ℕ) (a : Name) (x : BoundExpression) (all : BoundTrees) → i < length wanted → a ≡ get_or wanted i a → child_named a names xs ≡ Some (bound_of x) → new ≡ kept ++ x ∷ []
    → all ≡ before (map bound_of kept) (children_named (drop i wanted) names xs) → all ≡ before (map bound_of new) (children_named (drop (i + 1) wanted) names xs)
further wanted names xs kept new i a x all h p q n k =
    let rest = children_named (drop (i + 1) wanted) names xs in
    let pushed : map bound_of new ≡ map bound_of kept ++ bound_of x ∷ [] = ap (map bound_of) n ∙ map-append bound_of kept (x ∷ []) in
    more wanted names xs (map bound_of kept) i a (Some (bound_of x)) all h p q k ∙ (sym (in_front-push bound (map bound_of kept) (bound_of x) rest) ∙ ap (λ bs. before bs rest) (sym pushed))

pub no_further : (wanted names : List Name) (xs : BoundTrees) (kept : List BoundTree) (i : ℕ) (a : Name) (all : BoundTrees) → i < length wanted → a ≡ get_or wanted i a → child_named a names xs ≡ None
    → all ≡ before kept (children_named (drop i wanted) names xs) → all ≡ before kept (children_named (drop (i + 1) wanted) names xs)
no_further wanted names xs kept i a all h p q k = more wanted names xs kept i a None all h p q k
