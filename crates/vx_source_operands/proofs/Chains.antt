-- A chain joined in pairs, as far as its loops have come.
use Rattle.std.proofs.Common.{◌≡◌, ℕ, zero, suc, ◌+◌, ◌*◌, ◌<◌, ◌≤◌, List, [], ◌∷◌, ◌++◌, length, Result, Ok, Err, refl, sym, ap, ◌∙◌, subst, append_assoc, arith}
use Rattle.std.proofs.lemmas.List.{append-nil, map-append, length-map}
use Rattle.std.specs.Prelude.{IfOk}
use Rattle.vx_fn.specs.Functions.{Operation, binary}
use Rattle.vx_tree.specs.Trees.{Tree}
use Rattle.vx_source_types.specs.declared.expectation.Expected.{Expected}
use Rattle.vx_source_types.specs.declared.expectation.Expected.TheVariants.{Operand as NoOperand}
use Rattle.vx_source_grammar.specs.Joining.{over, paired, rounds, only_left, chained}
use Rattle.vx_source_types.specs.declared.error.ParseError.{ParseError}
use Rattle.vx_source_types.specs.declared.error.ParseError.TheVariants.{OutOfMemory, Unexpected}
use Rattle.vx_source_grammar.specs.States.{when_read}
use Rattle.vx_source_operands.specs.Places.{ReadsUpTo}
use Rattle.vx_source_operands.specs.declared.operand.Operand.{Operand}
use Rattle.vx_source_operands.specs.OperandViews.{operand_of, operands_of}

abbrev trees_read : List Tree → Result (List Tree) Expected
trees_read zs = Ok zs

abbrev put : Tree → Result (List Tree) Expected → Result (List Tree) Expected
put z rest = when_read (λ zs. Ok (z ∷ zs)) rest

abbrev after : List Tree → Result (List Tree) Expected → Result (List Tree) Expected
after made rest = when_read (λ zs. Ok (made ++ zs)) rest

after_push : (made : List Tree) (z : Tree) (rest : Result (List Tree) Expected) → after (made ++ z ∷ []) rest ≡ after made (put z rest)
after_push made z (Ok zs) = ap trees_read (append_assoc made (z ∷ []) zs)
after_push made z (Err e) = refl

-- ---- one round: what is made of all items, before a round of the rest
abbrev pub PairGoes : Operation → ℕ → List Operand → List Operand → List Operand → Type 0
PairGoes op r all made rest = paired op r (operands_of all) ≡ after (operands_of made) (paired op r (operands_of rest))

turn : (op : Operation) (r : ℕ) (all made new rest left : List Operand) (z : Operand) → paired op r (operands_of rest) ≡ put (operand_of z) (paired op r (operands_of left)) → new ≡ made ++ z ∷ []
    → PairGoes op r all made rest → PairGoes op r all new left
turn op r all made new rest left z here pushed h =
    let more : operands_of new ≡ operands_of made ++ operand_of z ∷ [] = ap operands_of pushed ∙ map-append operand_of made (z ∷ []) in
    let left_round = paired op r (operands_of left) in
    h ∙ ap (after (operands_of made)) here ∙ sym (after_push (operands_of made) (operand_of z) left_round) ∙ ap (λ m. after m left_round) (sym more)

pub pair_turn : (op : Operation) (r : ℕ) (all made new rest mid left : List Operand) (lhs rhs z : Operand) → rest ≡ lhs ∷ mid → mid ≡ rhs ∷ left → over (binary op) (operand_of lhs ∷ operand_of rhs ∷ []) r ≡ Ok (operand_of z)
    → new ≡ made ++ z ∷ [] → PairGoes op r all made rest → PairGoes op r all new left
pair_turn op r all made new rest mid left lhs rhs z at next joins pushed h =
    let two : rest ≡ lhs ∷ rhs ∷ left = at ∙ ap (λ xs. lhs ∷ xs) next in
    turn op r all made new rest left z (ap (λ xs. paired op r (operands_of xs)) two ∙ ap (when_read (λ x. put x (paired op r (operands_of left)))) joins) pushed h

pub last_turn : (op : Operation) (r : ℕ) (all made new rest mid left : List Operand) (lhs : Operand) → rest ≡ lhs ∷ mid → mid ≡ [] → left ≡ [] → new ≡ made ++ lhs ∷ []
    → PairGoes op r all made rest → PairGoes op r all new left
last_turn op r all made new rest mid left lhs at none end pushed h =
    let one : rest ≡ lhs ∷ [] = at ∙ ap (λ xs. lhs ∷ xs) none in
    turn op r all made new rest left lhs (ap (λ xs. paired op r (operands_of xs)) one ∙ ap (λ xs. put (operand_of lhs) (paired op r (operands_of xs))) (sym end)) pushed h

pub pair_refused : (op : Operation) (r : ℕ) (all made rest mid left : List Operand) (lhs rhs : Operand) (e : Expected) → rest ≡ lhs ∷ mid → mid ≡ rhs ∷ left → over (binary op) (operand_of lhs ∷ operand_of rhs ∷ []) r ≡ Err e
    → PairGoes op r all made rest → paired op r (operands_of all) ≡ Err e
pair_refused op r all made rest mid left lhs rhs e at next joins h =
    let two : rest ≡ lhs ∷ rhs ∷ left = at ∙ ap (λ xs. lhs ∷ xs) next in
    h ∙ ap (after (operands_of made)) (ap (λ xs. paired op r (operands_of xs)) two ∙ ap (when_read (λ x. put x (paired op r (operands_of left)))) joins)

pub pair_end : (op : Operation) (r : ℕ) (all made rest : List Operand) → rest ≡ [] → PairGoes op r all made rest → paired op r (operands_of all) ≡ Ok (operands_of made)
pair_end op r all made rest end h = h ∙ ap (λ xs. after (operands_of made) (paired op r (operands_of xs))) end ∙ ap trees_read (append-nil (operands_of made))

-- ---- all rounds: enough of them for the items that are left give what is collected

-- a round leaves half of the items, rounded up
abbrev Halved : List Tree → List Tree → Type 0
Halved es zs = 2 * length zs ≤ length es + 1

halved_put : (d e z : Tree) (es : List Tree) (rest : Result (List Tree) Expected) → IfOk rest (Halved es) → IfOk (put z rest) (Halved (d ∷ e ∷ es))
halved_put d e z es (Ok zs) h = omega (arith, h)
halved_put d e z es (Err x) h = tt

halved_join : (d e : Tree) (es : List Tree) (made : Result Tree Expected) (rest : Result (List Tree) Expected) → IfOk rest (Halved es) → IfOk (when_read (λ z. put z rest) made) (Halved (d ∷ e ∷ es))
halved_join d e es (Ok z) rest h = halved_put d e z es rest h
halved_join d e es (Err x) rest h = tt

halved : (op : Operation) (r : ℕ) (es : List Tree) → IfOk (paired op r es) (Halved es)
halved op r [] = omega arith
halved op r (e ∷ []) = omega arith
halved op r (d ∷ e ∷ es) = halved_join d e es (over (binary op) (d ∷ e ∷ []) r) (paired op r es) (halved op r es)

one_left : (n : ℕ) (op : Operation) (r : ℕ) (e : Tree) → rounds n op r (e ∷ []) ≡ Ok (e ∷ [])
one_left zero op r e = refl
one_left (suc n) op r e = one_left n op r e

none_left : (n : ℕ) (op : Operation) (r : ℕ) → rounds n op r [] ≡ Ok []
none_left zero op r = refl
none_left (suc n) op r = none_left n op r

abbrev pub ChainGoes : Operation → ℕ → List Operand → List Operand → Type 0
ChainGoes op r all left = (n : ℕ) × (length left ≤ n) × (chained op r (operands_of all) ≡ when_read only_left (rounds n op r (operands_of left)))

pub chain_starts : (op : Operation) (r : ℕ) (all : List Operand) → ChainGoes op r all all
chain_starts op r all = (length (operands_of all), omega (arith, length-map all operand_of), refl)

fewer : (op : Operation) (r : ℕ) (left new : List Operand) → 2 ≤ length left → paired op r (operands_of left) ≡ Ok (operands_of new) → length new < length left
fewer op r left new more is =
    let half : Halved (operands_of left) (operands_of new) = subst (λ x. IfOk x (Halved (operands_of left))) is (halved op r (operands_of left)) in
    omega (arith, half, length-map left operand_of, length-map new operand_of)

goes : (op : Operation) (r : ℕ) (all left new : List Operand) (n : ℕ) → 2 ≤ length left → paired op r (operands_of left) ≡ Ok (operands_of new) → length left ≤ n
    → chained op r (operands_of all) ≡ when_read only_left (rounds n op r (operands_of left)) → ChainGoes op r all new
goes op r all left new zero more is few h = absurd (omega arith)
goes op r all left new (suc n) more is few h =
    let less = fewer op r left new more is in
    (n, omega (arith, less), h ∙ ap (λ x. when_read only_left (when_read (rounds n op r) x)) is)

pub chain_turn : (op : Operation) (r : ℕ) (all left new : List Operand) → 2 ≤ length left → paired op r (operands_of left) ≡ Ok (operands_of new) → ChainGoes op r all left → ChainGoes op r all new × (length new < length left)
chain_turn op r all left new more is g = (goes op r all left new g.0 more is g.1 g.2, fewer op r left new more is)

refused_at : (op : Operation) (r : ℕ) (left : List Operand) (n : ℕ) (e : Expected) → 2 ≤ length left → length left ≤ n → paired op r (operands_of left) ≡ Err e → when_read only_left (rounds n op r (operands_of left)) ≡ Err e
refused_at op r left zero e more few is = absurd (omega arith)
refused_at op r left (suc n) e more few is = ap (λ x. when_read only_left (when_read (rounds n op r) x)) is

pub chain_refused : (op : Operation) (r : ℕ) (all left : List Operand) (e : Expected) → 2 ≤ length left → paired op r (operands_of left) ≡ Err e → ChainGoes op r all left → chained op r (operands_of all) ≡ Err e
chain_refused op r all left e more is g = g.2 ∙ refused_at op r left g.0 e more g.1 is

end_at : (op : Operation) (r : ℕ) (left : List Operand) (n : ℕ) → length left ≤ 1 → when_read only_left (rounds n op r (operands_of left)) ≡ only_left (operands_of left)
end_at op r [] n few = ap (when_read only_left) (none_left n op r)
end_at op r (o ∷ []) n few = ap (when_read only_left) (one_left n op r (operand_of o))
end_at op r (o ∷ p ∷ left) n few = absurd (omega arith)

pub chain_end : (op : Operation) (r : ℕ) (all left : List Operand) → length left ≤ 1 → ChainGoes op r all left → chained op r (operands_of all) ≡ only_left (operands_of left)
chain_end op r all left few g = g.2 ∙ end_at op r left g.0 few

-- the only item that is left
pub only_item : (left new : List Operand) (o : Operand) → left ≡ new ++ o ∷ [] → length left ≤ 1 → only_left (operands_of left) ≡ Ok (operand_of o)
only_item left [] o is few = ap (λ xs. only_left (operands_of xs)) is
only_item left (p ∷ []) o is few = absurd (omega (arith, ap length is))
only_item left (p ∷ q ∷ new) o is few = absurd (omega (arith, ap length is))

pub no_item : (left : List Operand) → ¬ (0 < length left) → only_left (operands_of left) ≡ Err NoOperand
no_item [] none = refl
no_item (o ∷ left) none = absurd (none (omega arith))

-- what refuses for some reason refuses so, where something else does for the same
pub refused_up_to : {A B C D : Type 0} (at : ℕ) (view : A → B) (other : C → D) (error : ParseError) (said : Result B Expected) (wanted : Result D Expected) → ((e : Expected) → said ≡ Err e → wanted ≡ Err e) → ReadsUpTo at view (Err error) said
    → ReadsUpTo at other (Err error) wanted
refused_up_to at view other OutOfMemory said wanted f h = tt
refused_up_to at view other (Unexpected place e) said wanted f h = (h.0, f e h.1)
