-- Lists that are as long as one another.
use Rattle.std.proofs.Common.{◌≡◌, ℕ, ◌<◌, List, [], ◌∷◌, ◌++◌, map, length, get_or, ap, ◌∙◌, arith, zero, suc}
use Rattle.std.specs.List.{AllByRecursion}
use Rattle.vx_value.specs.Types.{Datum}
use Rattle.vx_eval.specs.Columns.{AllLong}

-- columns of the same lengths are as long
pub long_still : (n : ℕ) (cs ds : List (List Datum)) → map length ds ≡ map length cs → AllLong n cs → AllLong n ds
long_still n [] [] e l = tt
long_still n (c ∷ cs) (d ∷ ds) e l =
    let first : length d ≡ length c = cc in
    let rest : map length ds ≡ map length cs = cc in
    (first ∙ l.0, long_still n cs ds rest l.1)
long_still n [] (d ∷ ds) e l = cc
long_still n (c ∷ cs) [] e l = cc

module _ {A : Type 0} (n : ℕ) where
  abbrev Long : List (List A) → Type 0
  Long ls = AllByRecursion (λ l. length l ≡ n) ls

  pub long_at : (ls : List (List A)) (j : ℕ) (d : List A) → Long ls → j < length ls → length (get_or ls j d) ≡ n
  long_at [] j d all lt = absurd (omega arith)
  long_at (l ∷ ls) zero d all lt = all.0
  long_at (l ∷ ls) (suc j) d all lt = long_at ls j d all.1 (omega arith)

  pub long-snoc : (ls : List (List A)) (l : List A) → Long ls → length l ≡ n → Long (ls ++ l ∷ [])
  long-snoc [] l all e = (e, tt)
  long-snoc (x ∷ ls) l all e = (all.0, long-snoc ls l all.1 e)

  pub long_front : (ls : List (List A)) (l : List A) → Long (ls ++ l ∷ []) → Long ls × (length l ≡ n)
  long_front [] l all = (tt, all.0)
  long_front (x ∷ ls) l all = let rest = long_front ls l all.1 in ((all.0, rest.0), rest.1)

  -- what has one of the lists is as long
  pub long_of : {X : Type 0} (f : X → List A) (xs : List X) (j : ℕ) (x : X) → Long (map f xs) → j < length xs → x ≡ get_or xs j x → length (f x) ≡ n
  long_of f [] j x all lt is = absurd (omega arith)
  long_of f (y ∷ xs) zero x all lt is = ap (λ z. length (f z)) is ∙ all.0
  long_of f (y ∷ xs) (suc j) x all lt is = long_of f xs j x all.1 (omega arith) is
