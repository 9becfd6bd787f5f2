-- An index of first places, made from the last name to the first.
use Rattle.std.proofs.Common.{◌≡◌, ℕ, ◌+◌, ◌≤◌, List, ◌∷◌, length, subst, get_or, drop, drop-cons, add-one, cond, Some, sym, ap, ◌∙◌, arith}
use Rattle.std.specs.HashMap.{HashMap, get, Updates}
use Rattle.std.specs.List.{position_from}
use Rattle.std.specs.Str.{bytes_eq}
use Rattle.std.proofs.lemmas.Cmp.{nat_list_eq_equiv}
use Rattle.std.proofs.lemmas.Iterator.Adapters.{position_from-zero}
use Rattle.vx_dtype.specs.Names.{TellsFirstPlaces}
use Rattle.vx_dtype.specs.Types.{Name}

module _ {S : Type 0} where
  -- the index tells the first places from the i-th on
  abbrev pub TellsFrom : ℕ → HashMap Name ℕ S → List Name → Type 0
  TellsFrom i index names = (a : Name) → get bytes_eq index a ≡ position_from (bytes_eq a) i (drop i names)

  pub tells_next : (i j : ℕ) (old new : HashMap Name ℕ S) (names : List Name) (a b : Name) → i ≡ j + 1 → i ≤ length names → a ≡ get_or names j a → b ≡ a
      → Updates bytes_eq old new b (Some j) → TellsFrom i old names → TellsFrom j new names
  tells_next i j old new names a b next h at copy put told c =
      let told_next : TellsFrom (j + 1) old names = subst (λ k. TellsFrom k old names) next told in
      let names_on : drop j names ≡ a ∷ drop (j + 1) names = rw (drop-cons names j a (omega arith), ← at, add-one) in
      let put_c : get bytes_eq new c ≡ cond (bytes_eq c a) (Some j) (get bytes_eq old c) = put.0 c ∙ ap (λ same. cond same (Some j) (get bytes_eq old c)) (ap (λ k. bytes_eq k c) copy ∙ nat_list_eq_equiv.symm a c) in
      put_c ∙ ap (cond (bytes_eq c a) (Some j)) (told_next c) ∙ rw names_on

  pub tells_all : (i : ℕ) (index : HashMap Name ℕ S) (names : List Name) → i ≤ 0 → TellsFrom i index names → TellsFirstPlaces index names
  tells_all i index names h told a =
      let none : i ≡ 0 = omega arith in
      told a ∙ rw none (sym (position_from-zero (bytes_eq a) names))
