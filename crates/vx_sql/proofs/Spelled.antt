-- Characters inside texts, one after another.
use Rattle.std.proofs.Common.{◌≡◌, ℕ, List, [], ◌∷◌, ◌++◌, codes, sym, ap, ◌∙◌, append_assoc, append-nil, map}
use Rattle.std.specs.List.{flat_map}
use Rattle.std.specs.Prelude.{encode_utf8_all}
use Rattle.std.proofs.lemmas.Grind.{flat_map-append}
use Rattle.std.proofs.lemmas.Str.{encodes-append}
use Rattle.vx_fn.specs.Values.{Part, any_text, just}
use Rattle.vx_sql.specs.declared.quotes.Quoting.{Quoting}
use Rattle.vx_sql.specs.Quotes.{inside}
use Rattle.vx_sql.specs.Patterns.{enclosed}

-- what stands for characters inside a text, as it is written
abbrev pub written : Quoting → List ℕ → List ℕ
written q cs = encode_utf8_all (flat_map (inside q) cs)

pub written-append : (q : Quoting) (cs ds : List ℕ) → written q (cs ++ ds) ≡ written q cs ++ written q ds
written-append q cs ds = ap encode_utf8_all (flat_map-append (inside q) cs ds) ∙ encodes-append (flat_map (inside q) cs) (flat_map (inside q) ds)

-- one character more, of those that are left
pub character_turn : (q : Quoting) (done cs rest all : List ℕ) (c : ℕ) → cs ≡ c ∷ rest → done ++ written q cs ≡ all
    → (done ++ encode_utf8_all (inside q c)) ++ written q rest ≡ all
character_turn q done cs rest all c e h =
    let one : written q cs ≡ encode_utf8_all (inside q c) ++ written q rest = ap (written q) e ∙ encodes-append (inside q c) (flat_map (inside q) rest) in
    append_assoc done _ _ ∙ ap (λ x. done ++ x) (sym one) ∙ h

-- one thing more, which is spelled by characters
pub thing_turn : {A : Type 0} (spell : A → List ℕ) (q : Quoting) (done all : List ℕ) (ps rest : List A) (p : A) → ps ≡ p ∷ rest → done ++ written q (flat_map spell ps) ≡ all
    → (done ++ written q (spell p)) ++ written q (flat_map spell rest) ≡ all
thing_turn spell q done all ps rest p e h =
    let one : written q (flat_map spell ps) ≡ written q (spell p) ++ written q (flat_map spell rest) = ap (λ x. written q (flat_map spell x)) e ∙ written-append q (spell p) (flat_map spell rest) in
    append_assoc done _ _ ∙ ap (λ x. done ++ x) (sym one) ∙ h

-- ---- a character that is enclosed, alone or with another one

pub written-enclosed : (q : Quoting) (c : ℕ) → (codes "[" ++ encode_utf8_all (inside q c)) ++ codes "]" ≡ written q (enclosed c)
unfolding lib.Utf8.encode
written-enclosed q c = ap (λ x. 91 ∷ x) (sym (encodes-append (inside q c) (93 ∷ [])))

pub written-enclosed_pair : (q : Quoting) (c d : ℕ) → ((codes "[" ++ encode_utf8_all (inside q c)) ++ encode_utf8_all (inside q d)) ++ codes "]" ≡ written q (91 ∷ c ∷ d ∷ 93 ∷ [])
unfolding lib.Utf8.encode
written-enclosed_pair q c d =
    ap (λ x. 91 ∷ x) (append_assoc (encode_utf8_all (inside q c)) _ _ ∙ ap (λ x. encode_utf8_all (inside q c) ++ x) (sym (encodes-append (inside q d) (93 ∷ []))) ∙ sym (encodes-append (inside q c) (inside q d ++ 93 ∷ [])))

-- ---- two characters

pub written-pair : (q : Quoting) (c d : ℕ) → encode_utf8_all (inside q c) ++ encode_utf8_all (inside q d) ≡ written q (c ∷ d ∷ [])
written-pair q c d =
    ap (λ xs. encode_utf8_all (inside q c) ++ encode_utf8_all xs) (sym (append-nil (inside q d))) ∙ sym (encodes-append (inside q c) (inside q d ++ []))

-- ---- what begins with some characters

abbrev pub beginning_of : List ℕ → List Part
beginning_of cs = map just cs ++ any_text ∷ []
