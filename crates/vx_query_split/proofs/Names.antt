-- The only name of two lists together.
use Rattle.std.proofs.Common.{◌≡◌, ◌≢◌, Bool, true, false, List, [], ◌∷◌, ◌++◌, Some, None, refl, sym, ap, ◌∙◌, append-nil}
use Rattle.std.specs.Prelude.{◌&&◌, if◌then◌else◌}
use Rattle.std.specs.List.{list_all}
use Rattle.std.specs.Str.{bytes_eq}
use Rattle.std.proofs.lemmas.List.Folds.{list_all-append}
use Rattle.std.proofs.Math.Bool.{and-false}
use Rattle.vx_dtype.proofs.NameTests.{same_name, own_name}
use Rattle.vx_value.specs.Types.{Name}
use Rattle.vx_query_split.specs.Reading.{only_name}

so_far : (t : Bool) (x a : Name) → (if t then Some x else None) ≡ Some a → (t ≡ true) × (x ≡ a)
so_far true x a e = (refl, cc)
so_far false x a e = absurd cc

no_more : (t : Bool) (x : Name) → (if t then Some x else None) ≡ None → t ≡ false
no_more true x e = absurd cc
no_more false x e = refl

pub not_empty : (xs ys : List Name) → xs ≢ [] → (xs ++ ys) ≢ []
not_empty [] ys h = λ e. h refl
not_empty (x ∷ xs) ys h = λ e. absurd cc

pub some_name : (xs : List Name) (a : Name) → only_name xs ≡ Some a → xs ≢ []
some_name [] a e = absurd cc
some_name (x ∷ xs) a e = λ e. absurd cc

pub one_alone : (xs ys : List Name) (a : Name) → only_name xs ≡ Some a → ys ≡ [] → only_name (xs ++ ys) ≡ Some a
one_alone xs ys a e none = ap (λ l. only_name (xs ++ l)) none ∙ ap only_name (append-nil xs) ∙ e

pub one_twice : (xs ys : List Name) (a b : Name) → only_name xs ≡ Some a → only_name ys ≡ Some b → bytes_eq a b ≡ true → only_name (xs ++ ys) ≡ Some a
one_twice [] ys a b e f h = absurd cc
one_twice (x ∷ xs) [] a b e f h = absurd cc
one_twice (x ∷ xs) (y ∷ ys) a b e f h =
    let p = so_far (list_all (bytes_eq x) xs) x a e in
    let q = so_far (list_all (bytes_eq y) ys) y b f in
    let is : y ≡ x = q.1 ∙ sym (same_name a b h) ∙ sym p.1 in
    let rest : list_all (bytes_eq x) ys ≡ true = ap (λ n. list_all (bytes_eq n) ys) (sym is) ∙ q.0 in
    let here : bytes_eq x y ≡ true = ap (bytes_eq x) is ∙ own_name x in
    rw (list_all-append (bytes_eq x) xs (y ∷ ys), p.0, here, rest, p.1) refl

pub two_names : (xs ys : List Name) (a b : Name) → only_name xs ≡ Some a → only_name ys ≡ Some b → bytes_eq a b ≡ false → only_name (xs ++ ys) ≡ None
two_names [] ys a b e f h = absurd cc
two_names (x ∷ xs) [] a b e f h = absurd cc
two_names (x ∷ xs) (y ∷ ys) a b e f h =
    let p = so_far (list_all (bytes_eq x) xs) x a e in
    let q = so_far (list_all (bytes_eq y) ys) y b f in
    let here : bytes_eq x y ≡ false = ap (λ n. bytes_eq n y) p.1 ∙ ap (bytes_eq a) q.1 ∙ h in
    rw (list_all-append (bytes_eq x) xs (y ∷ ys), p.0, here) refl

pub several_first : (xs ys : List Name) → only_name xs ≡ None → xs ≢ [] → only_name (xs ++ ys) ≡ None
several_first [] ys e h = absurd (h refl)
several_first (x ∷ xs) ys e h = rw (list_all-append (bytes_eq x) xs ys, no_more (list_all (bytes_eq x) xs) x e) refl

pub several_second : (xs ys : List Name) (a : Name) → only_name xs ≡ Some a → only_name ys ≡ None → ys ≢ [] → only_name (xs ++ ys) ≡ None
several_second [] ys a e f h = absurd cc
several_second (x ∷ xs) [] a e f h = absurd (h refl)
several_second (x ∷ xs) (y ∷ ys) a e f h = rw (list_all-append (bytes_eq x) xs (y ∷ ys), go (bytes_eq x y) refl, and-false (list_all (bytes_eq x) xs)) refl
  where
    go : (t : Bool) → bytes_eq x y ≡ t → (bytes_eq x y && list_all (bytes_eq x) ys) ≡ false
    go true q = rw q (ap (λ n. list_all (bytes_eq n) ys) (same_name x y q) ∙ no_more (list_all (bytes_eq y) ys) y f)
    go false q = rw q refl
