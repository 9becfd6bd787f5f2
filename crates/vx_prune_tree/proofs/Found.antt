-- How the entry of a tree's path is found.
use Rattle.std.proofs.Common.{◌≡◌, ◌<◌, ◌≤◌, List, [], ◌∷◌, ◌++◌, length, get_or, refl, sym, ap, ◌∙◌, Bool, true, false, ◌&&◌, Option, Some, None, arith}
use Rattle.std.specs.Cmp.Lexicographic.{pointwise}
use Rattle.std.specs.Prelude.{option_map}
use Rattle.std.specs.Str.{bytes_eq}
use Rattle.std.proofs.lemmas.List.{map_push}
use Rattle.vx_value.specs.Paths.{Path, part_name, path_of}
use Rattle.vx_value.specs.Types.{Name}
use Rattle.vx_value.specs.declared.field_path.Field.{Field}
use Rattle.vx_tree.specs.Views.{bound_of, bounds_of}
use Rattle.vx_tree.specs.declared.bound.BoundExpression.{BoundExpression}
use Rattle.vx_prune_tree.specs.Bounding.{path_to, path_to_only}
use Rattle.vx_prune_tree.specs.Cases.{is_that_path}

and-false : (a : Bool) → (a && false) ≡ false
and-false true = refl
and-false false = refl

and-swap : (a b c : Bool) → (a && (b && c)) ≡ (b && (a && c))
and-swap true b c = refl
and-swap false true c = refl
and-swap false false c = refl

-- a list and one more element against none
longer : {A : Type 0} (f : A → A → Bool) (xs : List A) (a : A) → pointwise f (xs ++ a ∷ []) [] ≡ false
longer f [] a = refl
longer f (x ∷ xs) a = refl

shorter : {A : Type 0} (f : A → A → Bool) (ys : List A) (b : A) → pointwise f [] (ys ++ b ∷ []) ≡ false
shorter f [] b = refl
shorter f (y ∷ ys) b = refl

-- lists with one more element behind them are compared by those and by the lists
pointwise-last : {A : Type 0} (f : A → A → Bool) (xs ys : List A) (a b : A) → pointwise f (xs ++ a ∷ []) (ys ++ b ∷ []) ≡ (f a b && pointwise f xs ys)
pointwise-last f [] [] a b = refl
pointwise-last f [] (y ∷ ys) a b = ap (λ c. f a y && c) (shorter f ys b) ∙ and-false (f a y) ∙ sym (and-false (f a b))
pointwise-last f (x ∷ xs) [] a b = ap (λ c. f x b && c) (longer f xs a) ∙ and-false (f x b) ∙ sym (and-false (f a b))
pointwise-last f (x ∷ xs) (y ∷ ys) a b = ap (λ c. f x y && c) (pointwise-last f xs ys a b) ∙ and-swap (f x y) (f a b) (pointwise f xs ys)

-- a path with a name behind it, against one that ends with a name
pub is_that_path-item : (o : Option Path) (a b : Name) (path : Path) → is_that_path (option_map (λ p. p ++ a ∷ []) o) (path ++ b ∷ []) ≡ (bytes_eq a b && is_that_path o path)
is_that_path-item None a b path = sym (and-false (bytes_eq a b))
is_that_path-item (Some p) a b path = pointwise-last bytes_eq p path a b

-- and against the root path
pub is_that_path-root : (o : Option Path) (a : Name) → is_that_path (option_map (λ p. p ++ a ∷ []) o) [] ≡ false
is_that_path-root None a = refl
is_that_path-root (Some p) a = longer bytes_eq p a

-- of two trees or more none is the only one
pub path_to-many : (bs : List BoundExpression) → 2 ≤ length bs → path_to_only (bounds_of bs) ≡ None
path_to-many [] h = absurd (omega arith)
path_to-many (b ∷ []) h = absurd (omega arith)
path_to-many (b ∷ d ∷ bs) h = refl

-- of one it is the first
path_to-single : (bs : List BoundExpression) (b : BoundExpression) → 1 ≤ length bs → length bs < 2 → b ≡ get_or bs 0 b → path_to_only (bounds_of bs) ≡ path_to (bound_of b)
path_to-single [] b h k e = absurd (omega arith)
path_to-single (d ∷ []) b h k e = ap (λ x. path_to (bound_of x)) (sym e)
path_to-single (d ∷ g ∷ bs) b h k e = absurd (omega arith)

-- whether the field of that name in the only tree is at a path
pub is_that_path-only : (bs : List BoundExpression) (b : BoundExpression) (parts front : List Field) (last : Field) (name other : Name) (equal : Bool) →
    1 ≤ length bs → length bs < 2 → b ≡ get_or bs 0 b → parts ≡ front ++ last ∷ [] → other ≡ part_name last → equal ≡ bytes_eq name other →
    is_that_path (option_map (λ p. p ++ name ∷ []) (path_to_only (bounds_of bs))) (path_of parts) ≡ (equal && is_that_path (path_to (bound_of b)) (path_of front))
is_that_path-only bs b parts front last name other equal h k e p q r =
    let o = path_to (bound_of b) in
    let one = path_to-single bs b h k e in
    let longer : path_of parts ≡ path_of front ++ part_name last ∷ [] = ap path_of p ∙ map_push part_name front last in
    ap (λ x. is_that_path (option_map (λ p. p ++ name ∷ []) x) (path_of parts)) one
    ∙ ap (is_that_path (option_map (λ p. p ++ name ∷ []) o)) longer
    ∙ is_that_path-item o name (part_name last) (path_of front)
    ∙ ap (λ a. a && is_that_path o (path_of front)) (ap (bytes_eq name) (sym q) ∙ sym r)
