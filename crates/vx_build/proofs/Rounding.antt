-- Rounds of pairs: what holds of each, and how few items they leave.
use Rattle.std.proofs.Common.{◌≡◌, ℕ, zero, suc, ◌+◌, ◌*◌, ◌≤◌, List, [], ◌∷◌, length, Result, Ok, Err, refl, sym, subst, IfOk, arith}
use Rattle.vx_dtype.specs.declared.error.VortexError.{VortexError}
use Rattle.vx_tree.specs.Trees.{on_ok}
use Rattle.vx_build.specs.Rounds.{Pairing, round, rounds}

pub found : {A : Type 0} (P : A → Type 0) (r : Result A VortexError) (x : A) → r ≡ Ok x → IfOk r P → P x
found P r x h k = subst (λ s. IfOk s P) h k

pub then_ok : {A B : Type 0} (P : B → Type 0) (f : A → Result B VortexError) (r : Result A VortexError) → ((x : A) → r ≡ Ok x → IfOk (f x) P) → IfOk (on_ok f r) P
then_ok P f (Ok x) h = h x refl
then_ok P f (Err e) h = tt

-- what holds of no item, of one that is carried on, and of each two that are paired before the rest, holds of a round
pub on_round : {X : Type 0} (join : Pairing X) (R : List X → List X → Type 0) → R [] [] → ((x : X) → R (x ∷ []) (x ∷ []))
    → ((x y z : X) (rest zs : List X) → join x y ≡ Ok z → R rest zs → R (x ∷ y ∷ rest) (z ∷ zs)) → (xs : List X) → IfOk (round join xs) (R xs)
on_round join R none alone pair [] = none
on_round join R none alone pair (x ∷ []) = alone x
on_round {X} join R none alone pair (x ∷ y ∷ rest) = go (join x y) refl (round join rest) (on_round join R none alone pair rest)
  where
    go : (r : Result X VortexError) → join x y ≡ r → (q : Result (List X) VortexError) → IfOk q (R rest) → IfOk (on_ok (λ z. on_ok (λ zs. Ok (z ∷ zs)) q) r) (R (x ∷ y ∷ rest))
    go (Ok z) h (Ok zs) k = pair x y z rest zs h k
    go (Ok z) h (Err e) k = tt
    go (Err e) h q k = tt

abbrev Halves : {X : Type 0} → List X → List X → Type 0
Halves xs ys = (2 * length ys ≤ length xs + 1) × (length xs ≤ 2 * length ys)

-- a round leaves half of the items, rounded up
pub round_halves : {X : Type 0} (join : Pairing X) (xs ys : List X) → round join xs ≡ Ok ys → Halves xs ys
round_halves join xs ys h = found (Halves xs) (round join xs) ys h (on_round join Halves (omega arith, omega arith) (λ x. (omega arith, omega arith)) (λ x y z rest zs j k. (omega (arith, k.0), omega (arith, k.1))) xs)

pub rounds_one : {X : Type 0} (join : Pairing X) (n : ℕ) (x : X) → rounds join n (x ∷ []) ≡ Ok (x ∷ [])
rounds_one join zero x = refl
rounds_one join (suc n) x = rounds_one join n x

pub rounds_none : {X : Type 0} (join : Pairing X) (n : ℕ) → rounds join n [] ≡ Ok []
rounds_none join zero = refl
rounds_none join (suc n) = rounds_none join n

-- what each round keeps, all rounds keep
pub on_rounds : {X : Type 0} (join : Pairing X) (P : List X → Type 0) → ((xs ys : List X) → round join xs ≡ Ok ys → P xs → P ys) → (n : ℕ) (xs : List X) → P xs → IfOk (rounds join n xs) P
on_rounds join P keeps zero xs p = p
on_rounds join P keeps (suc n) xs p = then_ok P (rounds join n) (round join xs) (λ ys h. on_rounds join P keeps n ys (keeps xs ys h p))

-- as many rounds as items leave one
pub one_is_left : {X : Type 0} (join : Pairing X) (n : ℕ) (xs : List X) → 1 ≤ length xs → length xs ≤ n → IfOk (rounds join n xs) (λ left. length left ≡ 1)
one_is_left join zero xs some few = absurd (omega arith)
one_is_left join (suc n) [] some few = absurd (omega arith)
one_is_left join (suc n) (x ∷ []) some few = subst (λ r. IfOk r (λ left. length left ≡ 1)) (sym (rounds_one join n x)) refl
one_is_left join (suc n) (x ∷ y ∷ rest) some few =
    then_ok (λ left. length left ≡ 1) (rounds join n) (round join (x ∷ y ∷ rest)) (λ ys h.
    let k = round_halves join (x ∷ y ∷ rest) ys h in one_is_left join n ys (omega (arith, k.1)) (omega (arith, k.0)))
