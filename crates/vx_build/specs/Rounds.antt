-- Items paired with their neighbours, round after round, until one is left.
use Rattle.std.specs.Prelude.{◌≡◌, ℕ, zero, suc, ◌^◌, ◌≤◌, List, [], ◌∷◌, ◌++◌, length, slice_get, Option, MatchOption, Result, Ok, IfOk}
use Rattle.vx_dtype.specs.declared.error.VortexError.{VortexError}
use Rattle.vx_fn.specs.Functions.{Function, Operation, binary}
use Rattle.vx_tree.specs.Trees.{on_ok}

-- what two items become as a pair, or the refusal
abbrev pub Pairing : Type 0 → Type 0
Pairing X = X → X → Result X VortexError

-- what two items become under an operator, where it is known what a function gives over items
abbrev pub paired_by : {X : Type 0} → (Function → List X → Result X VortexError) → Operation → Pairing X
paired_by over op x y = over (binary op) (x ∷ y ∷ [])

-- one round: neighbours paired from left to right, and an odd last item carried on to the next round
abbrev pub round : {X : Type 0} → Pairing X → List X → Result (List X) VortexError
round join [] = Ok []
round join (x ∷ []) = Ok (x ∷ [])
round join (x ∷ y ∷ rest) = on_ok (λ z. on_ok (λ zs. Ok (z ∷ zs)) (round join rest)) (join x y)

-- that many rounds, one after another
abbrev pub rounds : {X : Type 0} → Pairing X → ℕ → List X → Result (List X) VortexError
rounds join zero xs = Ok xs
rounds join (suc n) xs = on_ok (rounds join n) (round join xs)

-- what is left of the items, none of none: as many rounds as items are enough, and a round over one item changes nothing
abbrev pub collected : {X : Type 0} → Pairing X → List X → Result (Option X) VortexError
collected join xs = on_ok (λ left. Ok (slice_get left 0)) (rounds join (length xs) xs)

-- e pairs the items in their order, with at most n pairs above each of them
pub data Pairs {X : Type 0} (join : Pairing X) : ℕ → List X → X → Type 0 where
  only : {n : ℕ} {x : X} → Pairs join n (x ∷ []) x
  paired : {n : ℕ} {xs ys : List X} {x y z : X} → Pairs join n xs x → Pairs join n ys y → join x y ≡ Ok z → Pairs join (suc n) (xs ++ ys) z

-- an answer that pairs the items in their order, with at most as many pairs above each as the rounded-up binary logarithm
-- of their number, the least k with which the number is at most 2 ^ k; it is none where there are no items, and only there
abbrev pub IsCollected : {X : Type 0} → Pairing X → List X → Option X → Type 0
IsCollected join items answer = MatchOption answer (items ≡ []) (λ e. (k : ℕ) → length items ≤ 2 ^ k → Pairs join k items e)

-- what is collected is such an answer
abbrev pub CollectsInOrder : {X : Type 0} → Pairing X → Type 0
CollectsInOrder {X} join = (items : List X) → IfOk (collected join items) (IsCollected join items)
