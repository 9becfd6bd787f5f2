-- Whether a list of annotations has none, one, or several. No public contract names this file: it is for the contracts of the steps within the crate.
use Rattle.std.specs.Prelude.{Bool, not, List, [], ◌∷◌, filter, map, Option, None, Some, if◌then◌else◌}
use Rattle.std.specs.Borrow.{Bor}
use Rattle.std.specs.HashSet.{HashSet}
use Rattle.std.specs.List.{list_all}
use Rattle.indexmap.specs.Layout.{hash_map, key_set}
use Rattle.vx_partition.specs.declared.found.Found.{Found}
use Rattle.vx_partition.specs.declared.found.Found.TheVariants.{Nothing, One, Several}

module _ {A : Type 0} where
  -- the same without the reference
  abbrev pub found_copied : Found (Bor A) → Found A
  found_copied Nothing = Nothing
  found_copied (One a) = One a.now
  found_copied Several = Several

  -- the annotation that is alone
  abbrev pub alone : Found A → Option A
  alone Nothing = None
  alone (One a) = Some a
  alone Several = None

  module _ (eq : A → A → Bool) where
    -- what a list has: the first, where all others are equal to it
    abbrev pub found_of : List A → Found A
    found_of [] = Nothing
    found_of (a ∷ rest) = if list_all (eq a) rest then One a else Several

    -- what two have together
    abbrev pub combined : Found A → Found A → Found A
    combined Nothing y = y
    combined (One a) Nothing = One a
    combined (One a) (One b) = if eq a b then One a else Several
    combined (One a) Several = Several
    combined Several y = Several

    -- the first of each that are equal
    abbrev pub distinct : List A → List A
    distinct [] = []
    distinct (a ∷ rest) = a ∷ filter (λ b. not (eq a b)) (distinct rest)

    -- the set of a list
    abbrev pub set_of : {S : Type 0} → S → List A → HashSet A S
    set_of s xs = key_set (hash_map (map (λ a. (a, tt {0})) (distinct xs)) s 0)
