-- Texts with commas between them, written one at a time.
use Rattle.std.proofs.Common.{◌≡◌, ℕ, zero, suc, ◌+◌, ◌<◌, ◌≤◌, List, [], ◌∷◌, ◌++◌, length, get_or, drop, codes, refl, sym, ap, ◌∙◌, add-one, append_assoc, append-nil, arith}
use Rattle.std.specs.Prelude.{◌==◌, flat_map, if◌then◌else◌}
use Rattle.std.proofs.Math.Dec.{eqb-suc-zero}
use Rattle.std.proofs.lemmas.List.{at_drop_more, drop_more, drop_all}
use Rattle.vx_dtype.specs.Texts.{with_commas}

-- the texts, each behind a comma
abbrev pub after_commas : List (List ℕ) → List ℕ
after_commas = flat_map (λ t. codes ", " ++ t)

-- ---- the first text, and the others behind it

pub with_commas-first : (cs : List (List ℕ)) → 0 < length cs → get_or cs 0 [] ++ after_commas (drop 1 cs) ≡ with_commas cs
with_commas-first [] h = absurd (omega arith)
with_commas-first (c ∷ cs) h = refl

pub after_commas-turn : (done : List ℕ) (cs : List (List ℕ)) (i : ℕ) → i < length cs → ((done ++ codes ", ") ++ get_or cs i []) ++ after_commas (drop (i + 1) cs) ≡ done ++ after_commas (drop i cs)
after_commas-turn done cs i lt =
    append_assoc (done ++ codes ", ") (get_or cs i []) _ ∙ append_assoc done (codes ", ") _
    ∙ ap (λ t. done ++ t) (sym (at_drop_more after_commas cs i [] lt))

-- ---- each text behind what separates it from the ones before

-- what is left to write behind the first i texts
abbrev pub behind : ℕ → List (List ℕ) → List ℕ
behind zero cs = with_commas cs
behind (suc i) cs = after_commas cs

next_behind : (i : ℕ) (cs : List (List ℕ)) → behind (i + 1) cs ≡ after_commas cs
next_behind i cs = rw add-one

pub written_next : (i : ℕ) (done separator c all : List ℕ) (cs : List (List ℕ)) → separator ≡ (if i == 0 then [] else codes ", ")
    → done ++ behind i (c ∷ cs) ≡ all → ((done ++ separator) ++ c) ++ behind (i + 1) cs ≡ all
written_next zero done separator c all cs e so_far =
    rw (next_behind 0 cs, e) (ap (λ d. (d ++ c) ++ after_commas cs) (append-nil done) ∙ append_assoc done c _ ∙ so_far)
written_next (suc i) done separator c all cs e so_far =
    rw (next_behind (suc i) cs, e, eqb-suc-zero i) (append_assoc (done ++ codes ", ") c _ ∙ append_assoc done (codes ", ") _ ∙ so_far)

pub written_all : (i : ℕ) (done all : List ℕ) → done ++ behind i [] ≡ all → done ≡ all
written_all zero done all so_far = sym (append-nil done) ∙ so_far
written_all (suc i) done all so_far = sym (append-nil done) ∙ so_far

-- ---- the same, of the texts that a list holds

pub text_next : (cs : List (List ℕ)) (i : ℕ) (c done separator all : List ℕ) → i < length cs → c ≡ get_or cs i c → separator ≡ (if i == 0 then [] else codes ", ")
    → done ++ behind i (drop i cs) ≡ all → ((done ++ separator) ++ c) ++ behind (i + 1) (drop (i + 1) cs) ≡ all
text_next cs i c done separator all h is s e =
    let here = drop_more cs i c h ∙ ap (λ x. x ∷ drop (i + 1) cs) (sym is) in
    written_next i done separator c all _ s (ap (λ ts. done ++ behind i ts) (sym here) ∙ e)

pub text_all : (cs : List (List ℕ)) (i : ℕ) (done all : List ℕ) → length cs ≤ i → done ++ behind i (drop i cs) ≡ all → done ≡ all
text_all cs i done all h e = written_all i done all (ap (λ ts. done ++ behind i ts) (sym (drop_all i cs h)) ∙ e)
