-- Operators between parentheses.
use Rattle.std.proofs.Common.{◌≡◌, ℕ, zero, suc, ◌<◌, Bool, true, false, List, [], ◌∷◌, ◌++◌, Ok, Result, refl, ap, ◌∙◌, append_assoc, arith}
use Rattle.std.specs.Prelude.{codes}
use Rattle.vx_floats.specs.declared.arithmetic.Arithmetic.TheVariants.{Sum, Difference, Product, Quotient, Remainder}
use Rattle.vx_fn.specs.Functions.{Comparison, equal, not_equal, greater, greater_or_equal, less, less_or_equal, Operation, compares, and_also, or_else, computes, binary, between, like}
use Rattle.vx_fn.specs.Texts.{operation_text, bound_text, like_text}
use Rattle.vx_tree.specs.Trees.{Tree, call, no_tree, tree}
use Rattle.vx_source_types.specs.declared.expectation.Expected.{Expected}
use Rattle.vx_source_types.specs.declared.token.Sign.TheVariants.{OpenParen, CloseParen, Equal, NotEqual, Less, LessEqual, Greater, GreaterEqual, Plus, Minus, Star, Slash, Percent}
use Rattle.vx_source_types.specs.Tokens.{word, sign}
use Rattle.vx_source_types.proofs.FirstSigns.{first_open_paren, first_close_paren}
use Rattle.vx_source_types.specs.Reading.{more, stays, leads}
use Rattle.vx_source_types.proofs.Reading.{then}
use Rattle.vx_source_writer.specs.SourceTexts.{source}
use Rattle.vx_source_grammar.specs.Closing.{bracket_goes, closes}
use Rattle.vx_source_grammar.specs.ExpressionReading.{expression_step}
use Rattle.vx_source_grammar.specs.Joining.{over, paired, rounds, only_left, reduced}
use Rattle.vx_source_grammar.specs.Nodes.{heights_of}
use Rattle.vx_source_grammar.specs.States.{Frame, in_chain, in_binary, in_like, in_upper, in_paren, operand_due, tight, ExpressionState, ExpressionAnswer, when_read}
use Rattle.vx_source_laws.proofs.Owns.{IsOwnAgain}
use Rattle.vx_source_laws.proofs.TreesRead.{at, Goes, IsBehind, Reads, due, due_behind_blank, of_grouped, IsAgain, over_is}

-- an open parenthesis, with what is read between it and the closing one
in_parens : {fs : List Frame} {r : ℕ} {e : Tree} {bs rest : List ℕ} → Goes (at (in_paren (suc r) ∷ fs) operand_due r) bs (at fs (tight e) (suc r)) rest → Reads fs (suc r) e (40 ∷ bs) rest
in_parens {fs} {r} {e} {bs} {rest} g =
    record {
      token = sign OpenParen;
      behind = bs;
      state = at (in_paren (suc r) ∷ fs) operand_due r;
      last = at fs (tight e) (suc r);
      found = first_open_paren bs;
      taken = refl;
      opens = refl;
      more_of = g;
      is_behind = λ x p. refl;
    }

-- what the closing parenthesis makes of the operand that the operator makes, if there is one
abbrev closed : List Frame → ℕ → ℕ → Result Tree Expected → ExpressionAnswer
closed fs r outside made = when_read (λ p. bracket_goes r (sign CloseParen) p.0 p.1) (when_read (reduced 1 r (in_paren outside ∷ fs)) made)

-- ---- operators of two operands

-- the operator that waits for its second operand
abbrev waits : Operation → Tree → Frame
waits (compares c) a = in_binary (compares c) a
waits and_also a = in_chain and_also (a ∷ [])
waits or_else a = in_chain or_else (a ∷ [])
waits (computes c) a = in_binary (computes c) a

operator_read : (op : Operation) (a : Tree) (fs : List Frame) (r outside : ℕ) (s : ExpressionState) (bs : List ℕ) → IsBehind (in_paren outside ∷ fs) r a s
    → Goes s (32 ∷ (operation_text op ++ 32 ∷ bs)) (at (waits op a ∷ in_paren outside ∷ fs) operand_due r) (32 ∷ bs)
operator_read (compares equal) a fs r outside s bs b = leads refl (b (sign Equal) refl) stays
operator_read (compares not_equal) a fs r outside s bs b = leads refl (b (sign NotEqual) refl) stays
operator_read (compares greater) a fs r outside s bs b = leads refl (b (sign Greater) refl) stays
operator_read (compares greater_or_equal) a fs r outside s bs b = leads refl (b (sign GreaterEqual) refl) stays
operator_read (compares less) a fs r outside s bs b = leads refl (b (sign Less) refl) stays
operator_read (compares less_or_equal) a fs r outside s bs b = leads refl (b (sign LessEqual) refl) stays
operator_read and_also a fs r outside s bs b = leads refl (b (word (codes "and")) refl) stays
operator_read or_else a fs r outside s bs b = leads refl (b (word (codes "or")) refl) stays
operator_read (computes Sum) a fs r outside s bs b = leads refl (b (sign Plus) refl) stays
operator_read (computes Difference) a fs r outside s bs b = leads refl (b (sign Minus) refl) stays
operator_read (computes Product) a fs r outside s bs b = leads refl (b (sign Star) refl) stays
operator_read (computes Quotient) a fs r outside s bs b = leads refl (b (sign Slash) refl) stays
operator_read (computes Remainder) a fs r outside s bs b = leads refl (b (sign Percent) refl) stays

-- two items of a chain are joined as they are
chained_of : (op : Operation) (fs : List Frame) (r outside : ℕ) (a b : Tree) → heights_of (tree a (tree b no_tree)) < r
    → (let made = when_read only_left (when_read (rounds 1 op r) (when_read (λ z. when_read (λ zs. Ok (z ∷ zs)) (paired op r [])) (over (binary op) (a ∷ b ∷ []) r))) in closed fs r outside made ≡ Ok (more (at fs (tight (call (binary op) (tree a (tree b no_tree)))) outside)))
chained_of op fs r outside a b h =
    ap (λ o. closed fs r outside (when_read only_left (when_read (rounds 1 op r) (when_read (λ z. when_read (λ zs. Ok (z ∷ zs)) (paired op r [])) o)))) (over_is (binary op) (tree a (tree b no_tree)) r h)

operands_joined : (op : Operation) (fs : List Frame) (r outside : ℕ) (a b : Tree) → heights_of (tree a (tree b no_tree)) < r
    → closes (waits op a ∷ in_paren outside ∷ fs) r b (sign CloseParen) ≡ Ok (more (at fs (tight (call (binary op) (tree a (tree b no_tree)))) outside))
operands_joined (compares c) fs r outside a b h = ap (closed fs r outside) (over_is (binary (compares c)) (tree a (tree b no_tree)) r h)
operands_joined and_also fs r outside a b h = chained_of and_also fs r outside a b h
operands_joined or_else fs r outside a b h = chained_of or_else fs r outside a b h
operands_joined (computes Sum) fs r outside a b h = ap (closed fs r outside) (over_is (binary (computes Sum)) (tree a (tree b no_tree)) r h)
operands_joined (computes Difference) fs r outside a b h = ap (closed fs r outside) (over_is (binary (computes Difference)) (tree a (tree b no_tree)) r h)
operands_joined (computes Product) fs r outside a b h = ap (closed fs r outside) (over_is (binary (computes Product)) (tree a (tree b no_tree)) r h)
operands_joined (computes Quotient) fs r outside a b h = ap (closed fs r outside) (over_is (binary (computes Quotient)) (tree a (tree b no_tree)) r h)
operands_joined (computes Remainder) fs r outside a b h = ap (closed fs r outside) (over_is (binary (computes Remainder)) (tree a (tree b no_tree)) r h)

pub binary_again : (op : Operation) (a b : Tree) → IsAgain a → IsAgain b → IsOwnAgain (binary op) (tree a (tree b no_tree))
binary_again op a b k l fs zero rest h m = absurd (omega arith)
binary_again op a b k l fs (suc r) rest h m =
    let behind : List ℕ = 32 ∷ (operation_text op ++ 32 ∷ (source b ++ 41 ∷ rest)) in
    let grouped : (codes "(" ++ (source a ++ (codes " " ++ (operation_text op ++ (codes " " ++ (source b ++ codes ")")))))) ++ rest ≡ 40 ∷ (source a ++ behind) = simp append_assoc in
    let left = k (in_paren (suc r) ∷ fs) r behind (omega arith) refl in
    let right = l (waits op a ∷ in_paren (suc r) ∷ fs) r (41 ∷ rest) (omega arith) refl in
    of_grouped grouped
    (in_parens
    (then expression_step (due left)
    (then expression_step (operator_read op a fs r (suc r) left.last (source b ++ 41 ∷ rest) left.is_behind)
    (then expression_step (due_behind_blank right)
    (leads (first_close_paren rest) (right.is_behind (sign CloseParen) refl ∙ operands_joined op fs r (suc r) a b (omega arith)) stays)))))

-- ---- LIKE

like_read : (negated case_insensitive : Bool) (a : Tree) (fs : List Frame) (r outside : ℕ) (s : ExpressionState) (bs : List ℕ) → IsBehind (in_paren outside ∷ fs) r a s
    → Goes s (32 ∷ (like_text negated case_insensitive ++ 32 ∷ bs)) (at (in_like negated case_insensitive a ∷ in_paren outside ∷ fs) operand_due r) (32 ∷ bs)
like_read false false a fs r outside s bs b = leads refl (b (word (codes "like")) refl) stays
like_read false true a fs r outside s bs b = leads refl (b (word (codes "ilike")) refl) stays
like_read true false a fs r outside s bs b = leads refl (b (word (codes "not")) refl) (leads refl refl stays)
like_read true true a fs r outside s bs b = leads refl (b (word (codes "not")) refl) (leads refl refl stays)

pub like_again : (negated case_insensitive : Bool) (a b : Tree) → IsAgain a → IsAgain b → IsOwnAgain (like negated case_insensitive) (tree a (tree b no_tree))
like_again negated case_insensitive a b k l fs zero rest h m = absurd (omega arith)
like_again negated case_insensitive a b k l fs (suc r) rest h m =
    let behind : List ℕ = 32 ∷ (like_text negated case_insensitive ++ 32 ∷ (source b ++ 41 ∷ rest)) in
    let grouped : (codes "(" ++ (source a ++ (codes " " ++ (like_text negated case_insensitive ++ (codes " " ++ (source b ++ codes ")")))))) ++ rest ≡ 40 ∷ (source a ++ behind) = simp append_assoc in
    let left = k (in_paren (suc r) ∷ fs) r behind (omega arith) refl in
    let right = l (in_like negated case_insensitive a ∷ in_paren (suc r) ∷ fs) r (41 ∷ rest) (omega arith) refl in
    of_grouped grouped
    (in_parens
    (then expression_step (due left)
    (then expression_step (like_read negated case_insensitive a fs r (suc r) left.last (source b ++ 41 ∷ rest) left.is_behind)
    (then expression_step (due_behind_blank right)
    (leads (first_close_paren rest) (right.is_behind (sign CloseParen) refl ∙ ap (closed fs r (suc r)) (over_is (like negated case_insensitive) (tree a (tree b no_tree)) r (omega arith))) stays)))))

-- ---- BETWEEN

-- the comparison of a bound
abbrev bound : Bool → Comparison
bound true = less
bound false = less_or_equal

lower_read : (strict : Bool) (a : Tree) (fs : List Frame) (r outside : ℕ) (s : ExpressionState) (bs : List ℕ) → IsBehind (in_paren outside ∷ fs) r a s
    → Goes s (32 ∷ (bound_text strict ++ 32 ∷ bs)) (at (in_binary (compares (bound strict)) a ∷ in_paren outside ∷ fs) operand_due r) (32 ∷ bs)
lower_read true a fs r outside s bs b = leads refl (b (sign Less) refl) stays
lower_read false a fs r outside s bs b = leads refl (b (sign LessEqual) refl) stays

upper_read : (lower_strict upper_strict : Bool) (array lower : Tree) (fs : List Frame) (r outside : ℕ) (s : ExpressionState) (bs : List ℕ)
    → IsBehind (in_binary (compares (bound lower_strict)) lower ∷ in_paren outside ∷ fs) r array s
    → Goes s (32 ∷ (bound_text upper_strict ++ 32 ∷ bs)) (at (in_upper lower_strict upper_strict array lower ∷ in_paren outside ∷ fs) operand_due r) (32 ∷ bs)
upper_read true true array lower fs r outside s bs b = leads refl (b (sign Less) refl) stays
upper_read true false array lower fs r outside s bs b = leads refl (b (sign LessEqual) refl) stays
upper_read false true array lower fs r outside s bs b = leads refl (b (sign Less) refl) stays
upper_read false false array lower fs r outside s bs b = leads refl (b (sign LessEqual) refl) stays

pub between_again : (lower_strict upper_strict : Bool) (array lower upper : Tree) → IsAgain array → IsAgain lower → IsAgain upper → IsOwnAgain (between lower_strict upper_strict) (tree array (tree lower (tree upper no_tree)))
between_again lower_strict upper_strict array lower upper j k l fs zero rest h m = absurd (omega arith)
between_again lower_strict upper_strict array lower upper j k l fs (suc r) rest h m =
    let third : List ℕ = source upper ++ 41 ∷ rest in
    let second : List ℕ = source array ++ 32 ∷ (bound_text upper_strict ++ 32 ∷ third) in
    let grouped : (codes "(" ++ (source lower ++ (codes " " ++ (bound_text lower_strict ++ (codes " " ++ (source array ++ (codes " " ++ (bound_text upper_strict ++ (codes " " ++ (source upper ++ codes ")")))))))))) ++ rest
    ≡ 40 ∷ (source lower ++ 32 ∷ (bound_text lower_strict ++ 32 ∷ second)) = simp append_assoc in
    let first = k (in_paren (suc r) ∷ fs) r (32 ∷ (bound_text lower_strict ++ 32 ∷ second)) (omega arith) refl in
    let middle = j (in_binary (compares (bound lower_strict)) lower ∷ in_paren (suc r) ∷ fs) r (32 ∷ (bound_text upper_strict ++ 32 ∷ third)) (omega arith) refl in
    let last = l (in_upper lower_strict upper_strict array lower ∷ in_paren (suc r) ∷ fs) r (41 ∷ rest) (omega arith) refl in
    of_grouped grouped
    (in_parens
    (then expression_step (due first)
    (then expression_step (lower_read lower_strict lower fs r (suc r) first.last second first.is_behind)
    (then expression_step (due_behind_blank middle)
    (then expression_step (upper_read lower_strict upper_strict array lower fs r (suc r) middle.last third middle.is_behind)
    (then expression_step (due_behind_blank last)
    (leads (first_close_paren rest) (last.is_behind (sign CloseParen) refl ∙ ap (closed fs r (suc r)) (over_is (between lower_strict upper_strict) (tree array (tree lower (tree upper no_tree))) r (omega arith))) stays)))))))
