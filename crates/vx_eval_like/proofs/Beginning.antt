-- A text begins with another by its characters exactly where it does by its bytes.
use Rattle.std.proofs.Common.{◌≡◌, ℕ, ◌==◌, true, false, Bool, List, [], ◌∷◌, ◌++◌, ◌||◌, map, length, drop, refl, sym, ap, subst, ◌∙◌, chars, encode_utf8_all, nat_eq, IsUtf8, Option, Some, None}
use Rattle.std.specs.Prelude.{◌≢◌, option_map, option_and_then, if◌then◌else◌, MatchOption}
use denote.Ref.{Bor}
use Rattle.std.specs.List.{starts_with, list_all}
use Rattle.std.proofs.lemmas.Bool.{eqb-true, eq-eqb, and_parts, or_parts, not-true}
use Rattle.std.proofs.lemmas.Slice.Eq.{starts_is}
use Rattle.std.proofs.lemmas.Str.{encodes-chars, encodes-append, chars-append, chars-encodes, IsUtf8-from_is_utf8}
use Rattle.vx_fn.specs.Values.{Part, any_text, just, parts, some_rest, matches, is_like, starts_with_text}
use Rattle.vx_eval_like.specs.Beginnings.{stands_for_itself, is_plain_text, before_percent, LikeIsBeginning}

-- what begins with a list is that list and more
parted : (xs p : List ℕ) → starts_with nat_eq xs p ≡ true → xs ≡ p ++ drop (length p) xs
parted xs p e = (starts_is (λ a b. (eqb-true a b, eq-eqb a b)) xs p (starts_with nat_eq xs p) refl).0 e

-- and what is that list and more begins with it
joined : (xs p rest : List ℕ) → xs ≡ p ++ rest → starts_with nat_eq xs p ≡ true
joined xs p rest e = (starts_is (λ a b. (eqb-true a b, eq-eqb a b)) xs p (starts_with nat_eq xs p) refl).1 rest e

-- two truth values of which each gives the other
same : (a b : Bool) → (a ≡ true → b ≡ true) → (b ≡ true → a ≡ true) → a ≡ b
same true b f g = sym (f refl)
same false true f g = g refl
same false false f g = refl

pub by_characters : (t p : List ℕ) → IsUtf8 t → IsUtf8 p → starts_with nat_eq t p ≡ starts_with nat_eq (chars t) (chars p)
by_characters t p u v =
    same (starts_with nat_eq t p) (starts_with nat_eq (chars t) (chars p))
    (λ e. joined (chars t) (chars p) (chars (drop (length p) t)) (ap chars (parted t p e) ∙ chars-append p (drop (length p) t) v))
    (λ e.
    let rest = drop (length (chars p)) (chars t) in
    joined t p (encode_utf8_all rest)
    (sym (encodes-chars t u) ∙ ap encode_utf8_all (parted (chars t) (chars p) e) ∙ encodes-append (chars p) rest ∙ ap (λ q. q ++ encode_utf8_all rest) (encodes-chars p v)))

-- ---- patterns of a beginning

percent_found : (p q : List ℕ) → before_percent p ≡ Some q → p ≡ q ++ 37 ∷ []
percent_found [] q e = cc
percent_found (c ∷ []) q e = go (c == 37) refl e
  where
    go : (b : Bool) → (c == 37) ≡ b → (if b then Some [] else None) ≡ Some q → c ∷ [] ≡ q ++ 37 ∷ []
    go true h e = let none : [] ≡ q = cc in rw (← none) (ap (λ x. x ∷ []) (eqb-true c 37 h))
    go false h e = cc
percent_found (c ∷ d ∷ cs) q e = go (before_percent (d ∷ cs)) (percent_found (d ∷ cs)) e
  where
    go : (o : Option (List ℕ)) → ((r : List ℕ) → o ≡ Some r → d ∷ cs ≡ r ++ 37 ∷ []) → option_map (λ r. c ∷ r) o ≡ Some q → c ∷ d ∷ cs ≡ q ++ 37 ∷ []
    go None found e = cc
    go (Some r) found e = let same : c ∷ r ≡ q = cc in ap (λ x. c ∷ x) (found r refl) ∙ ap (λ x. x ++ 37 ∷ []) same

pub percent_behind : (q : List ℕ) → before_percent (q ++ 37 ∷ []) ≡ Some q
percent_behind [] = refl
percent_behind (c ∷ []) = refl
percent_behind (c ∷ d ∷ q) = ap (option_map (λ r. c ∷ r)) (percent_behind (d ∷ q))

pub no_percent : (p : List ℕ) → ((q : List ℕ) → p ≡ q ++ 37 ∷ [] → ⊥) → before_percent p ≡ None
no_percent p h = go (before_percent p) refl
  where
    go : (o : Option (List ℕ)) → before_percent p ≡ o → before_percent p ≡ None
    go None e = e
    go (Some q) e = absurd (h q (percent_found p q e))

-- such a pattern's parts are its characters, and then any text
abbrev then_any : List ℕ → List Part
then_any cs = map just cs ++ any_text ∷ []

plain_part : (c : ℕ) (cs : List ℕ) → stands_for_itself c ≡ true → parts false (c ∷ cs) ≡ just c ∷ parts false cs
plain_part c cs h =
    let percent = or_parts (c == 37) (c == 95 || c == 92) (not-true _ h) in
    let others = or_parts (c == 95) (c == 92) percent.1 in
    rw (others.1, percent.0, others.0) refl

spelled : (cs : List ℕ) → list_all stands_for_itself cs ≡ true → parts false (cs ++ 37 ∷ []) ≡ then_any cs
spelled [] h = refl
spelled (c ∷ cs) h = let x = and_parts _ _ h in plain_part c (cs ++ 37 ∷ []) x.0 ∙ ap (λ ps. just c ∷ ps) (spelled cs x.1)

any_rest : (cs : List ℕ) → some_rest (matches []) cs ≡ true
any_rest [] = refl
any_rest (c ∷ cs) = any_rest cs

-- the one way round or the other
turned : (a b : ℕ) → (a == b) ≡ nat_eq b a
turned a b = same (a == b) (nat_eq b a) (λ e. eq-eqb b a (sym (eqb-true a b e))) (λ e. eq-eqb a b (sym (eqb-true b a e)))

begun_matches : (cs ds : List ℕ) → matches (then_any cs) ds ≡ starts_with nat_eq ds cs
begun_matches [] ds = any_rest ds
begun_matches (c ∷ cs) [] = refl
begun_matches (c ∷ cs) (d ∷ ds) = rw (turned d c, begun_matches cs ds) refl

percent_alone : chars (37 ∷ []) ≡ 37 ∷ []
unfolding lib.Utf8.encode
percent_alone = chars-encodes (37 ∷ []) refl

pub like_is : LikeIsBeginning
like_is t p q e = go (before_percent p) refl e
  where
    told : (r : List ℕ) → before_percent p ≡ Some r → (b : Bool) → is_plain_text r ≡ b → (if b then Some r else None) ≡ Some q → is_like false t p ≡ starts_with_text t q
    told r h true plain e =
        let same : r ≡ q = cc in
        let x = and_parts _ _ plain in
        let text = IsUtf8-from_is_utf8 r x.0 in
        let read : chars p ≡ chars r ++ 37 ∷ [] = ap chars (percent_found p r h) ∙ chars-append r (37 ∷ []) text ∙ ap (λ cs. chars r ++ cs) percent_alone in
        subst (λ z. is_like false t p ≡ starts_with_text t z) same
        (ap (λ cs. matches (parts false cs) (chars t)) read ∙ ap (λ ps. matches ps (chars t)) (spelled (chars r) x.1) ∙ begun_matches (chars r) (chars t))
    told r h false plain e = cc

    go : (o : Option (List ℕ)) → before_percent p ≡ o → option_and_then (λ r. if is_plain_text r then Some r else None) o ≡ Some q → is_like false t p ≡ starts_with_text t q
    go None h e = cc
    go (Some r) h e = told r h (is_plain_text r) refl e

-- what is left of a pattern whose last character is taken off
pub stripped : (p : List ℕ) (r : Option (Bor (List ℕ))) → MatchOption r ((front : List ℕ) → p ≢ front ++ 37 ∷ []) (λ x. p ≡ x.now ++ 37 ∷ []) → option_map (λ s. s.now) r ≡ before_percent p
stripped p None h = sym (no_percent p h)
stripped p (Some x) h = sym (ap before_percent h ∙ percent_behind x.now)
