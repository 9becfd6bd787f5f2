-- Rounds join the items in their order, each with few joins above it.
use Rattle.std.proofs.Common.{◌≡◌, ℕ, zero, suc, ◌+◌, ◌^◌, ◌≤◌, List, [], ◌∷◌, ◌++◌, length, Ok, refl, sym, subst, IfOk, append_assoc, arith}
use Rattle.std.proofs.lemmas.List.{append-nil}
use Rattle.std.specs.Prelude.{IfSome, slice_get}
use Rattle.vx_build.specs.Rounds.{Pairing, round, rounds, Pairs, only, paired, IsCollected, CollectsInOrder}
use Rattle.vx_build.proofs.Rounding.{found, on_round, then_ok, round_halves, rounds_none, rounds_one, one_is_left}

-- xs are what the items become, group by group, with at most n pairs above each item
data Covers {X : Type 0} (join : Pairing X) (n : ℕ) : List X → List X → Type 0 where
  none : Covers join n [] []
  more : {group items xs : List X} {x : X} → Pairs join n group x → Covers join n items xs → Covers join n (group ++ items) (x ∷ xs)

deeper : {X : Type 0} {join : Pairing X} (n m : ℕ) {xs : List X} {x : X} → n ≤ m → Pairs join n xs x → Pairs join m xs x
deeper n m h only = only
deeper (suc n) zero h (paired a b j) = absurd (omega arith)
deeper (suc n) (suc m) h (paired a b j) = paired (deeper n m (omega arith) a) (deeper n m (omega arith) b) j

each_alone : {X : Type 0} (join : Pairing X) (items : List X) → Covers join 0 items items
each_alone join [] = none
each_alone join (x ∷ items) = more only (each_alone join items)

abbrev CoversOn : {X : Type 0} → Pairing X → ℕ → List X → List X → Type 0
CoversOn {X} join n xs ys = (items : List X) → Covers join n items xs → Covers join (suc n) items ys

none_covered : {X : Type 0} (join : Pairing X) (n : ℕ) (items : List X) → Covers join n items [] → Covers join (suc n) items []
none_covered join n items none = none

one_covered : {X : Type 0} (join : Pairing X) (n : ℕ) (x : X) (items : List X) → Covers join n items (x ∷ []) → Covers join (suc n) items (x ∷ [])
one_covered join n x items (more j none) = more (deeper n (suc n) (omega arith) j) none

pair_covered : {X : Type 0} (join : Pairing X) (n : ℕ) (x y z : X) (rest zs : List X) → join x y ≡ Ok z → CoversOn join n rest zs → (items : List X) → Covers join n items (x ∷ y ∷ rest) → Covers join (suc n) items (z ∷ zs)
pair_covered join n x y z rest zs h k _ (more {group = g} a (more {group = g'} {items = i} b c)) = subst (λ items. Covers join (suc n) items (z ∷ zs)) (append_assoc g g' i) (more (paired a b h) (k i c))

round_covers : {X : Type 0} (join : Pairing X) (n : ℕ) (items xs ys : List X) → round join xs ≡ Ok ys → Covers join n items xs → Covers join (suc n) items ys
round_covers join n items xs ys h c = found (CoversOn join n xs) (round join xs) ys h (on_round join (CoversOn join n) (none_covered join n) (one_covered join n) (pair_covered join n) xs) items c

alone_pairs : {X : Type 0} (join : Pairing X) (d t : ℕ) (items : List X) (x : X) → d ≤ t → Covers join d items (x ∷ []) → Pairs join t items x
alone_pairs join d t items x h (more j none) = subst (λ i. Pairs join t i x) (sym (append-nil _)) (deeper d t h j)

abbrev LeavesPaired : {X : Type 0} → Pairing X → ℕ → List X → List X → Type 0
LeavesPaired join t items left = IfSome (slice_get left 0) (Pairs join t items)

rounds_pair : {X : Type 0} (join : Pairing X) (n k d t : ℕ) (items xs : List X) → Covers join d items xs → length xs ≤ n → length xs ≤ 2 ^ k → d + k ≤ t
    → IfOk (rounds join n xs) (LeavesPaired join t items)
rounds_pair {X} join n k d t items [] c few narrow deep = subst (λ r. IfOk r (LeavesPaired join t items)) (sym (rounds_none {X = X} join n)) tt
rounds_pair join n k d t items (x ∷ []) c few narrow deep = subst (λ r. IfOk r (LeavesPaired join t items)) (sym (rounds_one join n x)) (alone_pairs join d t items x (omega arith) c)
rounds_pair join zero k d t items (x ∷ y ∷ rest) c few narrow deep = absurd (omega arith)
rounds_pair join (suc n) zero d t items (x ∷ y ∷ rest) c few narrow deep = absurd (omega arith)
rounds_pair join (suc n) (suc k) d t items (x ∷ y ∷ rest) c few narrow deep =
    then_ok (LeavesPaired join t items) (rounds join n) (round join (x ∷ y ∷ rest)) (λ ys h.
    let half = round_halves join (x ∷ y ∷ rest) ys h in
    rounds_pair join n k (suc d) t items ys (round_covers join d items (x ∷ y ∷ rest) ys h c) (omega (arith, half.0)) (omega (arith, half.0, narrow)) (omega arith))

first_collected : {X : Type 0} (join : Pairing X) (items left : List X) → length left ≡ 1 → ((k : ℕ) → length items ≤ 2 ^ k → LeavesPaired join k items left)
    → IsCollected join items (slice_get left 0)
first_collected join items [] one j = absurd (omega arith)
first_collected join items (e ∷ es) one j = j

pub collects_in_order : {X : Type 0} (join : Pairing X) → CollectsInOrder join
collects_in_order join [] = refl
collects_in_order {X} join (x ∷ rest) =
    let items : List X = x ∷ rest in
    let n : ℕ = length items in
    then_ok (IsCollected join items) (λ left. Ok (slice_get left 0)) (rounds join n items) (λ left is.
    let one = found (λ left. length left ≡ 1) (rounds join n items) left is (one_is_left join n items (omega arith) (omega arith)) in
    first_collected join items left one (λ k narrow.
    found (LeavesPaired join k items) (rounds join n items) left is (rounds_pair join n k 0 k items items (each_alone join items) (omega arith) narrow (omega arith))))
