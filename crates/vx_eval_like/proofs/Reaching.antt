-- How a run along parts keeps what they match.
use Rattle.std.proofs.Common.{◌≡◌, ℕ, List, [], ◌∷◌, length, refl, sym, ap, ◌∙◌, Bool, true, false, inl, inr, ◌==◌, arith}
use Rattle.std.proofs.lemmas.Bool.{and_parts, or_cases, or_right}
use Rattle.std.specs.Str.{IsUtf8}
use Rattle.vx_fn.specs.Values.{Part, any_text, any_one, just, matches, some_rest}
use Rattle.vx_fn.proofs.Patterns.{some_rest-all}
use Rattle.vx_eval_like.specs.declared.parts.Part as program
use Rattle.vx_eval_like.specs.Patterns.{characters, is_any_text, parts_view, takes}
use Rattle.vx_eval_like.specs.Walks.{Reaches}
use Rattle.vx_eval_like.proofs.Reading.{matches-nothing}

-- two tests that pass together are one
same : (a b : Bool) → (a ≡ true → b ≡ true) → (b ≡ true → a ≡ true) → a ≡ b
same true b f g = sym (f refl)
same false true f g = g refl
same false false f g = refl

-- any text twice is any text once
some_rest-twice : (ps : List Part) (cs : List ℕ) → some_rest (matches (any_text ∷ ps)) cs ≡ true → some_rest (matches ps) cs ≡ true
some_rest-twice ps [] e = e
some_rest-twice ps (c ∷ cs) e = elim (or_cases _ _ e) [ inl h ↦ h | inr h ↦ or_right _ _ (some_rest-twice ps cs h) ]

-- a part that takes the character leaves the rest of both
matches-taken : (p : Part) (ps : List Part) (c : ℕ) (cs : List ℕ) → takes p c ≡ true → matches (p ∷ ps) (c ∷ cs) ≡ matches ps cs
matches-taken any_text ps c cs e = cc
matches-taken any_one ps c cs e = refl
matches-taken (just d) ps c cs e = rw e

-- a part for one character matches no text without one
matches-ended : (p : Part) (ps : List Part) → is_any_text p ≡ false → matches (p ∷ ps) [] ≡ false
matches-ended any_text ps i = cc
matches-ended any_one ps i = refl
matches-ended (just d) ps i = refl

-- the parts after one for one character match the text after its first
matches-tail : (p : Part) (ps : List Part) (c : ℕ) (cs : List ℕ) → is_any_text p ≡ false → matches (p ∷ ps) (c ∷ cs) ≡ true → matches ps cs ≡ true
matches-tail any_text ps c cs i e = cc
matches-tail any_one ps c cs i e = e
matches-tail (just d) ps c cs i e = (and_parts _ _ e).1

-- and so do they after some front of each
some_rest-tail : (p : Part) (ps : List Part) (c : ℕ) (cs : List ℕ) → is_any_text p ≡ false → some_rest (matches (p ∷ ps)) (c ∷ cs) ≡ true → some_rest (matches ps) cs ≡ true
some_rest-tail p ps c [] i e = elim (or_cases _ _ e) [ inl h ↦ matches-tail p ps c [] i h | inr h ↦ let ended = matches-ended p ps i in cc ]
some_rest-tail p ps c (d ∷ ds) i e = elim (or_cases _ _ e) [ inl h ↦ some_rest-all ps (d ∷ ds) (matches-tail p ps c (d ∷ ds) i h) | inr h ↦ or_right _ _ (some_rest-tail p ps d ds i h) ]

-- a part that takes a character stands for one
takes-one : (p : Part) (c : ℕ) → takes p c ≡ true → is_any_text p ≡ false
takes-one any_text c e = cc
takes-one any_one c e = refl
takes-one (just d) c e = refl

-- one part and the character that it takes
pub reaches-more : (ps : List Part) (ts : List ℕ) (ahead : List Part) (left : List ℕ) (p : Part) (qs : List Part) (c : ℕ) (cs : List ℕ) → ahead ≡ p ∷ qs → left ≡ c ∷ cs → takes p c ≡ true → Reaches ps ts ahead left → Reaches ps ts qs cs
reaches-more ps ts ahead left p qs c cs first second e r =
    let s : Reaches ps ts (p ∷ qs) (c ∷ cs) = rw (← first, ← second) r in record {
      here = s.here ∙ matches-taken p qs c cs e;
      later = λ h. some_rest-tail p qs c cs (takes-one p c e) (s.later h);
      fewer = omega (arith, s.fewer);
      shorter = omega (arith, s.shorter);
    }

-- at the next part for any text, what lies before it is settled
pub settled : (ps : List Part) (ts : List ℕ) (rest : List Part) (cs : List ℕ) → Reaches ps ts (any_text ∷ rest) cs → some_rest (matches ps) ts ≡ some_rest (matches rest) cs
settled ps ts rest cs r = same _ _ (λ h. some_rest-twice rest cs (r.later h)) (λ h. some_rest-all ps ts (r.here ∙ h))

-- past all parts, no text may be left
pub reaches-end : (ci : Bool) (ps : List Part) (ts : List ℕ) (ahead : List program.Part) (left : List ℕ) → IsUtf8 left → length ahead ≡ 0 → Reaches ps ts (parts_view ahead) (characters ci left) → matches ps ts ≡ (length left == 0)
reaches-end ci ps ts [] left u e r = r.here ∙ matches-nothing ci left u
reaches-end ci ps ts (p ∷ ahead) left u e r = absurd (omega (arith, e))

-- no parts match after the whole text
pub some_rest-end : (ahead : List program.Part) (cs : List ℕ) → length ahead ≡ 0 → some_rest (matches (parts_view ahead)) cs ≡ true
some_rest-end [] [] e = refl
some_rest-end [] (c ∷ cs) e = some_rest-end [] cs e
some_rest-end (p ∷ ahead) cs e = absurd (omega (arith, e))

-- a match does not begin at a character that its first part, one for one character, does not take
pub past-untaken : (p : Part) (ps : List Part) (c : ℕ) (cs : List ℕ) → is_any_text p ≡ false → takes p c ≡ false → some_rest (matches (p ∷ ps)) (c ∷ cs) ≡ some_rest (matches (p ∷ ps)) cs
past-untaken any_text ps c cs i e = cc
past-untaken any_one ps c cs i e = cc
past-untaken (just d) ps c cs i e = rw e refl

-- nor does one begin at the front that is left behind so
pub rests-past : (p : Part) (ps : List Part) (c : ℕ) (left rest text : List ℕ) → left ≡ c ∷ rest → is_any_text p ≡ false → takes p c ≡ false → some_rest (matches (p ∷ ps)) left ≡ some_rest (matches (p ∷ ps)) text → some_rest (matches (p ∷ ps)) rest ≡ some_rest (matches (p ∷ ps)) text
rests-past p ps c left rest text is i e so_far = sym (past-untaken p ps c rest i e) ∙ ap (some_rest (matches (p ∷ ps))) (sym is) ∙ so_far

-- a match that is looked for further on decides the same
pub begun : (ps qs : List Part) (p : Part) (rest : List Part) (cs ds ts : List ℕ) → ps ≡ p ∷ rest → some_rest (matches (p ∷ rest)) ds ≡ some_rest (matches (p ∷ rest)) cs → some_rest (matches ps) cs ≡ some_rest (matches qs) ts → some_rest (matches ps) ds ≡ some_rest (matches qs) ts
begun ps qs p rest cs ds ts is later so_far = ap (λ x. some_rest (matches x) ds) is ∙ later ∙ ap (λ x. some_rest (matches x) cs) (sym is) ∙ so_far
