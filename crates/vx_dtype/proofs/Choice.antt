-- What a choice by a test gives.
use Rattle.std.proofs.Common.{◌≡◌, Bool, true, false, refl}

pub yes : {A : Type 0} (b : Bool) (x y : A) → b ≡ true → (elim b as (λ v. A) [ true ↦ x | false ↦ y ]) ≡ x
yes true x y e = refl
yes false x y e = cc

pub no : {A : Type 0} (b : Bool) (x y : A) → b ≡ false → (elim b as (λ v. A) [ true ↦ x | false ↦ y ]) ≡ y
no true x y e = cc
no false x y e = refl
