-- The patterns of LIKE, character by character.
use Rattle.std.proofs.Common.{◌≡◌, ◌+◌, ◌<◌, ℕ, add-one, Bool, true, false, List, ◌∷◌, ◌++◌, length, get_or, drop, drop-cons, Option, Some, None, refl, sym, ap, ◌∙◌, append_assoc}
use Rattle.std.specs.Prelude.{◌==◌, ◌||◌}
use Rattle.std.proofs.lemmas.Bool.{cond-true, cond-false}
use Rattle.vx_sql_parser.specs.Patterns.{is_that, is_sign, put, behind, respelled}

at_place : (p : List ℕ) (i : ℕ) → i < length p → drop i p ≡ get_or p i 0 ∷ drop (i + 1) p
at_place p i h = rw add-one (drop-cons p i 0 h)

pub behind_behind : (cs ds : List ℕ) (o : Option (List ℕ)) → behind cs (behind ds o) ≡ behind (cs ++ ds) o
behind_behind cs ds None = refl
behind_behind cs ds (Some more) = ap Some (sym (append_assoc cs ds more))

-- where an escape may stand before the character
abbrev pub follows : Option ℕ → ℕ → Bool
follows e c = is_that e c || (c == 37 || c == 95)

pub plain : (e : Option ℕ) (p : List ℕ) (i : ℕ) (made more : List ℕ) (all : Option (List ℕ)) → i < length p → is_that e (get_or p i 0) ≡ false
    → more ≡ made ++ put (get_or p i 0 == 92) (get_or p i 0) → behind made (respelled e false (drop i p)) ≡ all → behind more (respelled e false (drop (i + 1) p)) ≡ all
plain e p i made more all l t m h =
    let c = get_or p i 0 in
    let rest = respelled e false (drop (i + 1) p) in
    let here : respelled e false (drop i p) ≡ behind (put (c == 92) c) rest = ap (respelled e false) (at_place p i l) ∙ cond-false (is_that e c) (respelled e true (drop (i + 1) p)) (behind (put (c == 92) c) rest) t in
    ap (λ xs. behind xs rest) m ∙ sym (behind_behind made (put (c == 92) c) rest) ∙ ap (behind made) (sym here) ∙ h

pub escape : (e : Option ℕ) (p : List ℕ) (i : ℕ) (made : List ℕ) (all : Option (List ℕ)) → i < length p → is_that e (get_or p i 0) ≡ true
    → behind made (respelled e false (drop i p)) ≡ all → behind made (respelled e true (drop (i + 1) p)) ≡ all
escape e p i made all l t h =
    let c = get_or p i 0 in
    let here : respelled e false (drop i p) ≡ respelled e true (drop (i + 1) p) = ap (respelled e false) (at_place p i l) ∙ cond-true (is_that e c) (respelled e true (drop (i + 1) p)) (behind (put (c == 92) c) (respelled e false (drop (i + 1) p))) t in
    ap (behind made) (sym here) ∙ h

pub escaped : (e : Option ℕ) (p : List ℕ) (i : ℕ) (made more : List ℕ) (all : Option (List ℕ)) → i < length p → follows e (get_or p i 0) ≡ true
    → more ≡ made ++ put (is_sign (get_or p i 0)) (get_or p i 0) → behind made (respelled e true (drop i p)) ≡ all → behind more (respelled e false (drop (i + 1) p)) ≡ all
escaped e p i made more all l t m h =
    let c = get_or p i 0 in
    let rest = respelled e false (drop (i + 1) p) in
    let here : respelled e true (drop i p) ≡ behind (put (is_sign c) c) rest = ap (respelled e true) (at_place p i l) ∙ cond-true (follows e c) (behind (put (is_sign c) c) rest) None t in
    ap (λ xs. behind xs rest) m ∙ sym (behind_behind made (put (is_sign c) c) rest) ∙ ap (behind made) (sym here) ∙ h
