-- Bound items under And or Or: what isn't of type Bool is refused.
use Rattle.std.proofs.Common.{◌≡◌, ℕ, zero, suc, ◌^◌, ◌≤◌, Bool, true, false, ◌&&◌, ◌||◌, List, [], ◌∷◌, length, Result, Ok, Err, refl, sym, ap, subst, ◌∙◌, arith}
use Rattle.std.specs.Prelude.{Option, IsOk, MatchBool, MatchResult, slice_get}
use Rattle.std.specs.List.{list_all}
use Rattle.vx_dtype.specs.declared.error.VortexError.{VortexError}
use Rattle.vx_dtype.specs.declared.error.VortexError.TheVariants.{NotBool}
use Rattle.vx_value.specs.Types.{LogicalType, is_nullable}
use Rattle.vx_fn.specs.Functions.{Operation, binary, binary_type, logic_type, needs, is_truth, truth_type}
use Rattle.vx_tree.specs.Trees.{BoundTree, node, node_type, on_ok}
use Rattle.vx_tree.specs.Views.{bounds_from}
use Rattle.vx_build.specs.Rounds.{Pairing, round, rounds, collected, Pairs, only, paired, IsCollected}
use Rattle.vx_build.specs.Collects.{paired_bounds, CollectsTruthsAlone}
use Rattle.vx_build.proofs.Rounding.{found, one_is_left}
use Rattle.vx_build.proofs.Depths.{collects_in_order}

abbrev truth_at : BoundTree → Bool
truth_at b = is_truth (node_type b)

abbrev truths : List BoundTree → Bool
truths bs = list_all (λ b. is_truth (node_type b)) bs

-- ---- a pair answers a truth type where both are such, and else refuses

abbrev PairTold : BoundTree → BoundTree → Result BoundTree VortexError → Type 0
PairTold x y r = MatchResult r (λ z. (truth_at z ≡ true) × ((truth_at x && truth_at y) ≡ true)) (λ e. (e ≡ NotBool) × ((truth_at x && truth_at y) ≡ false))

abbrev made : Operation → BoundTree → BoundTree → LogicalType → Result BoundTree VortexError
made op x y t = Ok (node t (binary op) (bounds_from (x ∷ y ∷ [])))

needs_told : (op : Operation) (x y : BoundTree) (b n : Bool) → (truth_at x && truth_at y) ≡ b → PairTold x y (on_ok (made op x y) (needs b NotBool (Ok (truth_type n))))
needs_told op x y true n h = (refl, h)
needs_told op x y false n h = (refl, h)

paired_told : (op : Operation) → binary_type op ≡ logic_type → (x y : BoundTree) → PairTold x y (paired_bounds op x y)
paired_told op logic x y =
    let told = needs_told op x y (truth_at x && truth_at y) (is_nullable (node_type x) || is_nullable (node_type y)) refl in
    subst (λ row. PairTold x y (on_ok (made op x y) (row (node_type x) (node_type y)))) (sym logic) told

-- ---- a round keeps whether all are truth types, and refuses only where not all are

abbrev RoundTold : List BoundTree → Result (List BoundTree) VortexError → Type 0
RoundTold xs r = MatchResult r (λ ys. truths ys ≡ truths xs) (λ e. (e ≡ NotBool) × (truths xs ≡ false))

all_of : (a b c d e : Bool) → a ≡ true → (b && c) ≡ true → d ≡ e → (a && d) ≡ (b && (c && e))
all_of a true true d e p q r = ap (λ x. x && d) p ∙ r
all_of a true false d e p q r = cc
all_of a false c d e p q r = cc

not_first : (b c e : Bool) → (b && c) ≡ false → (b && (c && e)) ≡ false
not_first true true e q = cc
not_first true false e q = refl
not_first false c e q = refl

not_rest : (b c e : Bool) → e ≡ false → (b && (c && e)) ≡ false
not_rest true true e q = q
not_rest true false e q = refl
not_rest false c e q = refl

pair_told : (x y : BoundTree) (rest : List BoundTree) (r : Result BoundTree VortexError) → PairTold x y r → (q : Result (List BoundTree) VortexError) → RoundTold rest q
    → RoundTold (x ∷ y ∷ rest) (on_ok (λ z. on_ok (λ zs. Ok (z ∷ zs)) q) r)
pair_told x y rest (Ok z) j (Ok zs) k = all_of (truth_at z) (truth_at x) (truth_at y) (truths zs) (truths rest) j.0 j.1 k
pair_told x y rest (Ok z) j (Err e) k = (k.0, not_rest (truth_at x) (truth_at y) (truths rest) k.1)
pair_told x y rest (Err e) j q k = (j.0, not_first (truth_at x) (truth_at y) (truths rest) j.1)

round_told : (op : Operation) → binary_type op ≡ logic_type → (xs : List BoundTree) → RoundTold xs (round (paired_bounds op) xs)
round_told op logic [] = refl
round_told op logic (x ∷ []) = refl
round_told op logic (x ∷ y ∷ rest) = pair_told x y rest (paired_bounds op x y) (paired_told op logic x y) (round (paired_bounds op) rest) (round_told op logic rest)

rounds_after : (xs : List BoundTree) (f : List BoundTree → Result (List BoundTree) VortexError) (r : Result (List BoundTree) VortexError) → ((ys : List BoundTree) → RoundTold ys (f ys)) → RoundTold xs r → RoundTold xs (on_ok f r)
rounds_after xs f (Ok ys) h k = subst (λ b. MatchResult (f ys) (λ zs. truths zs ≡ b) (λ e. (e ≡ NotBool) × (b ≡ false))) k (h ys)
rounds_after xs f (Err e) h k = k

rounds_told : (op : Operation) → binary_type op ≡ logic_type → (n : ℕ) (xs : List BoundTree) → RoundTold xs (rounds (paired_bounds op) n xs)
rounds_told op logic zero xs = refl
rounds_told op logic (suc n) xs = rounds_after xs (rounds (paired_bounds op) n) (round (paired_bounds op) xs) (rounds_told op logic n) (round_told op logic xs)

-- ---- what pairs at least two items is a truth type

paired_truth : (op : Operation) → binary_type op ≡ logic_type → (k : ℕ) (items : List BoundTree) (e : BoundTree) → 2 ≤ length items → Pairs (paired_bounds op) k items e → truth_at e ≡ true
paired_truth op logic k items e some only = absurd (omega arith)
paired_truth op logic k items e some (paired {x = x} {y = y} a b j) = (subst (PairTold x y) j (paired_told op logic x y)).0

few : (n : ℕ) → suc n ≤ 2 ^ n
few zero = omega arith
few (suc n) = omega (arith, few n)

left_truths : (op : Operation) → binary_type op ≡ logic_type → (items left : List BoundTree) → 2 ≤ length items → length left ≡ 1 → IsCollected (paired_bounds op) items (slice_get left 0) → truths left ≡ true
left_truths op logic items [] some one c = absurd (omega arith)
left_truths op logic items (e ∷ []) some one c = ap (λ b. b && true) (paired_truth op logic (length items) items e some (c (length items) (omega (arith, few (length items)))))
left_truths op logic items (e ∷ d ∷ left) some one c = absurd (omega arith)

abbrev first_bound : List BoundTree → Result (Option BoundTree) VortexError
first_bound xs = Ok (slice_get xs 0)

abbrev Told : List BoundTree → Result (Option BoundTree) VortexError → Type 0
Told items r = MatchBool (truths items) (IsOk r) (r ≡ Err NotBool)

told : (op : Operation) → binary_type op ≡ logic_type → (items : List BoundTree) → 2 ≤ length items → (r : Result (List BoundTree) VortexError) → rounds (paired_bounds op) (length items) items ≡ r
    → RoundTold items r → Told items (on_ok first_bound r)
told op logic items some (Ok left) is k =
    let join : Pairing BoundTree = paired_bounds op in
    let one = found (λ xs. length xs ≡ 1) (rounds join (length items) items) left is (one_is_left join (length items) items (omega arith) (omega arith)) in
    let answer = found (IsCollected join items) (collected join items) (slice_get left 0) (ap (on_ok first_bound) is) (collects_in_order join items) in
    subst (λ b. MatchBool b (IsOk (first_bound left)) (first_bound left ≡ Err NotBool)) (sym (left_truths op logic items left some one answer) ∙ k) refl
told op logic items some (Err e) is k = subst (λ b. MatchBool b (IsOk (on_ok first_bound (Err e))) (on_ok first_bound (Err e) ≡ Err NotBool)) (sym k.1) (ap (λ x. Err x) k.0)

pub collects_truths_alone : (op : Operation) → binary_type op ≡ logic_type → CollectsTruthsAlone op
collects_truths_alone op logic bs some = told op logic bs some (rounds (paired_bounds op) (length bs) bs) refl (rounds_told op logic (length bs) bs)
