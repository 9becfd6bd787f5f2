-- A round as far as its loop has come, and the rounds as far as theirs has.
use Rattle.std.proofs.Common.{◌≡◌, ℕ, zero, suc, ◌+◌, ◌<◌, ◌≤◌, List, [], ◌∷◌, ◌++◌, length, map, Some, Result, Ok, Err, refl, sym, ap, ◌∙◌, append_assoc, arith}
use Rattle.std.proofs.lemmas.List.{append-nil, map-append, length-map}
use Rattle.std.specs.Prelude.{Option, None, MatchOption, slice_get, option_map}
use Rattle.vx_dtype.specs.declared.error.VortexError.{VortexError}
use Rattle.vx_tree.specs.Trees.{on_ok}
use Rattle.vx_build.specs.Rounds.{Pairing, round, rounds, collected}
use Rattle.vx_build.proofs.Rounding.{round_halves, rounds_one, rounds_none}

abbrev ok_items : {X : Type 0} → List X → Result (List X) VortexError
ok_items xs = Ok xs

abbrev put : {X : Type 0} → X → Result (List X) VortexError → Result (List X) VortexError
put z rest = on_ok (λ zs. Ok (z ∷ zs)) rest

abbrev pub after : {X : Type 0} → List X → Result (List X) VortexError → Result (List X) VortexError
after made rest = on_ok (λ zs. Ok (made ++ zs)) rest

after_push : {X : Type 0} (made : List X) (z : X) (rest : Result (List X) VortexError) → after (made ++ z ∷ []) rest ≡ after made (put z rest)
after_push made z (Ok zs) = ap ok_items (append_assoc made (z ∷ []) zs)
after_push made z (Err e) = refl

-- ---- one round: what is made of all items, before a round of the rest
abbrev pub RoundGoes : {A X : Type 0} → (A → X) → Pairing X → List A → List A → List A → Type 0
RoundGoes seen join all made rest = round join (map seen all) ≡ after (map seen made) (round join (map seen rest))

turn : {A X : Type 0} (seen : A → X) (join : Pairing X) (all made new rest left : List A) (z : A) → round join (map seen rest) ≡ put (seen z) (round join (map seen left)) → new ≡ made ++ z ∷ []
    → RoundGoes seen join all made rest → RoundGoes seen join all new left
turn seen join all made new rest left z here pushed h =
    let more : map seen new ≡ map seen made ++ seen z ∷ [] = ap (map seen) pushed ∙ map-append seen made (z ∷ []) in
    let left_round = round join (map seen left) in
    h ∙ ap (after (map seen made)) here ∙ sym (after_push (map seen made) (seen z) left_round) ∙ ap (λ m. after m left_round) (sym more)

pub pair_turn : {A X : Type 0} (seen : A → X) (join : Pairing X) (all made new rest mid left : List A) (l r z : A) → rest ≡ l ∷ mid → mid ≡ r ∷ left → join (seen l) (seen r) ≡ Ok (seen z) → new ≡ made ++ z ∷ []
    → RoundGoes seen join all made rest → RoundGoes seen join all new left
pair_turn seen join all made new rest mid left l r z at next joins pushed h =
    let two : rest ≡ l ∷ r ∷ left = at ∙ ap (λ xs. l ∷ xs) next in
    turn seen join all made new rest left z (ap (λ xs. round join (map seen xs)) two ∙ ap (on_ok (λ x. put x (round join (map seen left)))) joins) pushed h

pub last_turn : {A X : Type 0} (seen : A → X) (join : Pairing X) (all made new rest mid left : List A) (l : A) → rest ≡ l ∷ mid → mid ≡ [] → left ≡ [] → new ≡ made ++ l ∷ []
    → RoundGoes seen join all made rest → RoundGoes seen join all new left
last_turn seen join all made new rest mid left l at none end pushed h =
    let one : rest ≡ l ∷ [] = at ∙ ap (λ xs. l ∷ xs) none in
    turn seen join all made new rest left l (ap (λ xs. round join (map seen xs)) one ∙ ap (λ xs. put (seen l) (round join (map seen xs))) (sym end)) pushed h

pub pair_refused : {A X : Type 0} (seen : A → X) (join : Pairing X) (all made rest mid left : List A) (l r : A) (e : VortexError) → rest ≡ l ∷ mid → mid ≡ r ∷ left → join (seen l) (seen r) ≡ Err e
    → RoundGoes seen join all made rest → round join (map seen all) ≡ Err e
pair_refused seen join all made rest mid left l r e at next joins h =
    let two : rest ≡ l ∷ r ∷ left = at ∙ ap (λ xs. l ∷ xs) next in
    h ∙ ap (after (map seen made)) (ap (λ xs. round join (map seen xs)) two ∙ ap (on_ok (λ x. put x (round join (map seen left)))) joins)

pub round_end : {A X : Type 0} (seen : A → X) (join : Pairing X) (all made rest : List A) → rest ≡ [] → RoundGoes seen join all made rest → round join (map seen all) ≡ Ok (map seen made)
round_end seen join all made rest end h = h ∙ ap (λ xs. after (map seen made) (round join (map seen xs))) end ∙ ap ok_items (append-nil (map seen made))

-- ---- all rounds: enough of them for the items that are left give what is collected
abbrev first_of : {X : Type 0} → List X → Result (Option X) VortexError
first_of xs = Ok (slice_get xs 0)

abbrev pub CollectGoes : {A X : Type 0} → (A → X) → Pairing X → List A → List A → Type 0
CollectGoes seen join all left = (length left ≤ length all) × ((n : ℕ) × (length left ≤ n) × (collected join (map seen all) ≡ on_ok (λ xs. Ok (slice_get xs 0)) (rounds join n (map seen left))))

pub collect_starts : {A X : Type 0} (seen : A → X) (join : Pairing X) (all : List A) → CollectGoes seen join all all
collect_starts seen join all = (omega arith, (length (map seen all), omega (arith, length-map all seen), refl))

left_fewer : {A X : Type 0} (seen : A → X) (join : Pairing X) (left new : List A) → 2 ≤ length left → round join (map seen left) ≡ Ok (map seen new) → length new < length left
left_fewer seen join left new more is =
    let half = round_halves join (map seen left) (map seen new) is in omega (arith, half.0, length-map left seen, length-map new seen)

collect_goes : {A X : Type 0} (seen : A → X) (join : Pairing X) (all left new : List A) (n : ℕ) → 2 ≤ length left → round join (map seen left) ≡ Ok (map seen new) → length left ≤ length all → length left ≤ n
    → collected join (map seen all) ≡ on_ok (λ xs. Ok (slice_get xs 0)) (rounds join n (map seen left)) → CollectGoes seen join all new
collect_goes seen join all left new zero more is fewer few h = absurd (omega arith)
collect_goes seen join all left new (suc n) more is fewer few h =
    let less = left_fewer seen join left new more is in
    (omega (arith, less), (n, omega (arith, less), h ∙ ap (λ r. on_ok first_of (on_ok (rounds join n) r)) is))

pub collect_turn : {A X : Type 0} (seen : A → X) (join : Pairing X) (all left new : List A) → 2 ≤ length left → round join (map seen left) ≡ Ok (map seen new) → CollectGoes seen join all left
    → CollectGoes seen join all new × (length new < length left)
collect_turn seen join all left new more is g = (collect_goes seen join all left new g.1.0 more is g.0 g.1.1 g.1.2, left_fewer seen join left new more is)

refused_at : {A X : Type 0} (seen : A → X) (join : Pairing X) (left : List A) (n : ℕ) (e : VortexError) → 2 ≤ length left → length left ≤ n → round join (map seen left) ≡ Err e
    → on_ok first_of (rounds join n (map seen left)) ≡ Err e
refused_at seen join left zero e more few is = absurd (omega arith)
refused_at seen join left (suc n) e more few is = ap (λ r. on_ok first_of (on_ok (rounds join n) r)) is

pub collect_refused : {A X : Type 0} (seen : A → X) (join : Pairing X) (all left : List A) (e : VortexError) → 2 ≤ length left → round join (map seen left) ≡ Err e → CollectGoes seen join all left
    → collected join (map seen all) ≡ Err e
collect_refused seen join all left e more is g = g.1.2 ∙ refused_at seen join left g.1.0 e more g.1.1 is

end_at : {A X : Type 0} (seen : A → X) (join : Pairing X) (left : List A) (n : ℕ) → length left ≤ 1 → on_ok first_of (rounds join n (map seen left)) ≡ Ok (option_map seen (slice_get left 0))
end_at seen join [] n few = ap (on_ok first_of) (rounds_none join n)
end_at seen join (x ∷ []) n few = ap (on_ok first_of) (rounds_one join n (seen x))
end_at seen join (x ∷ y ∷ left) n few = absurd (omega arith)

pub collect_end : {A X : Type 0} (seen : A → X) (join : Pairing X) (all left : List A) (o : Option A) → length left ≤ 1 → o ≡ slice_get left 0 → CollectGoes seen join all left
    → collected join (map seen all) ≡ Ok (option_map seen o)
collect_end seen join all left o few is g = g.1.2 ∙ end_at seen join left g.1.0 few ∙ ap (λ x. Ok (option_map seen x)) (sym is)

-- the first item of a list that is gone through
pub first_is : {A : Type 0} (left new : List A) (n m : ℕ) (o : Option A) → n ≡ length left → MatchOption o ((n ≡ 0) × (m ≡ 0)) (λ x. (left ≡ x ∷ new) × (m + 1 ≡ n)) → o ≡ slice_get left 0
first_is [] new n m None is h = refl
first_is (x ∷ left) new n m None is h = absurd (omega (arith, is, h.0))
first_is left new n m (Some x) is h = ap (λ xs. slice_get xs 0) (sym h.0)
