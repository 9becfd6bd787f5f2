-- Texts in which a backslash says something of the byte behind it, byte by byte.
use Rattle.std.proofs.Common.{◌≡◌, ◌+◌, ◌<◌, ℕ, add-one, Bool, true, false, List, [], ◌∷◌, ◌++◌, length, get_or, drop, drop-cons, Option, Some, None, refl, sym, ap, ◌∙◌, append_assoc, arith}
use Rattle.std.specs.Prelude.{◌==◌, ◌||◌}
use Rattle.std.proofs.lemmas.Bool.Decides.{nat_tests}
use Rattle.vx_source_types.specs.Tokens.{with_byte, after_bytes}
use Rattle.vx_dtype.proofs.Choice.{yes, no}
use Rattle.vx_sql.specs.Quotes.{Reading, anywhere, behind_quote, behind_backslash}
use Rattle.vx_sql_parser.specs.declared.escapes.Inside.{Inside}
use Rattle.vx_sql_parser.specs.declared.escapes.Inside.TheVariants.{Anywhere, BehindQuote, BehindBackslash}
use Rattle.vx_sql_parser.specs.SqlTokens.{escaped_read}
use Rattle.vx_sql_parser.specs.Views.{reading_of}

at_place : (bs : List ℕ) (i : ℕ) → i < length bs → drop i bs ≡ get_or bs i 0 ∷ drop (i + 1) bs
at_place bs i h = rw add-one (drop-cons bs i 0 h)

after_with : (made : List ℕ) (b : ℕ) (o : Option (List ℕ × List ℕ)) → after_bytes made (with_byte b o) ≡ after_bytes (made ++ b ∷ []) o
after_with made b None = refl
after_with made b (Some (xs, rest)) = ap (λ m. Some (m, rest)) (sym (append_assoc made (b ∷ []) xs))

same : (b q : ℕ) → b ≡ q → (b == q) ≡ true
same b q e = grind (arith, nat_tests)

other : (b q : ℕ) → ¬ (b ≡ q) → (b == q) ≡ false
other b q e = grind (arith, nat_tests)

-- what a byte does, wherever it stands

quote_opens : (b : ℕ) (bs : List ℕ) → (b == 39) ≡ true → escaped_read true anywhere (b ∷ bs) ≡ escaped_read true behind_quote bs
quote_opens b bs e = yes (b == 39) _ _ e

backslash_opens : (d : Bool) (b : ℕ) (bs : List ℕ) → (b == 39) ≡ false → (b == 92) ≡ true → escaped_read d anywhere (b ∷ bs) ≡ escaped_read d behind_backslash bs
backslash_opens true b bs e h = no (b == 39) _ _ e ∙ yes (b == 92) _ _ h
backslash_opens false b bs e h = no (b == 39) _ _ e ∙ yes (b == 92) _ _ h

other_stays : (d : Bool) (b : ℕ) (bs : List ℕ) → (b == 39) ≡ false → (b == 92) ≡ false → escaped_read d anywhere (b ∷ bs) ≡ with_byte b (escaped_read d anywhere bs)
other_stays d b bs e h = no (b == 39) _ _ e ∙ no (b == 92) _ _ h

second_stays : (d : Bool) (b : ℕ) (bs : List ℕ) → (b == 39) ≡ true → escaped_read d behind_quote (b ∷ bs) ≡ with_byte b (escaped_read d anywhere bs)
second_stays d b bs e = yes (b == 39) _ _ e

escaped_stays : (d : Bool) (b : ℕ) (bs : List ℕ) → (b == 39 || b == 92) ≡ true → escaped_read d behind_backslash (b ∷ bs) ≡ with_byte b (escaped_read d anywhere bs)
escaped_stays d b bs e = yes (b == 39 || b == 92) _ _ e

-- what the program does with it

passes : (d : Bool) (s t : Reading) (bs : List ℕ) (i : ℕ) (made : List ℕ) (all : Option (List ℕ × List ℕ)) → i < length bs
    → ((rest : List ℕ) → escaped_read d s (get_or bs i 0 ∷ rest) ≡ escaped_read d t rest)
    → after_bytes made (escaped_read d s (drop i bs)) ≡ all → after_bytes made (escaped_read d t (drop (i + 1) bs)) ≡ all
passes d s t bs i made all l step h = ap (after_bytes made) (sym (ap (escaped_read d s) (at_place bs i l) ∙ step (drop (i + 1) bs))) ∙ h

keeps : (d : Bool) (s : Reading) (bs : List ℕ) (i : ℕ) (made : List ℕ) (all : Option (List ℕ × List ℕ)) → i < length bs
    → ((rest : List ℕ) → escaped_read d s (get_or bs i 0 ∷ rest) ≡ with_byte (get_or bs i 0) (escaped_read d anywhere rest))
    → after_bytes made (escaped_read d s (drop i bs)) ≡ all → after_bytes (made ++ get_or bs i 0 ∷ []) (escaped_read d anywhere (drop (i + 1) bs)) ≡ all
keeps d s bs i made all l step h =
    sym (after_with made (get_or bs i 0) (escaped_read d anywhere (drop (i + 1) bs)))
    ∙ ap (after_bytes made) (sym (ap (escaped_read d s) (at_place bs i l) ∙ step (drop (i + 1) bs))) ∙ h

-- the same where s and t are the program's

abbrev State : Bool → List ℕ → ℕ → List ℕ → Inside → Option (List ℕ × List ℕ) → Type 0
State d bs i made s all = after_bytes made (escaped_read d (reading_of s) (drop i bs)) ≡ all

pub at_quote : (d : Bool) (bs : List ℕ) (i : ℕ) (made more : List ℕ) (s t : Inside) (all : Option (List ℕ × List ℕ)) → i < length bs → d ≡ true → get_or bs i 0 ≡ 39
    → s ≡ Anywhere → t ≡ BehindQuote → more ≡ made → State d bs i made s all → State d bs (i + 1) more t all
at_quote true bs i made more Anywhere BehindQuote all l z q f g m h =
    ap (λ xs. after_bytes xs (escaped_read true behind_quote (drop (i + 1) bs))) m
    ∙ passes true anywhere behind_quote bs i made all l (λ rest. quote_opens (get_or bs i 0) rest (same _ 39 q)) h
at_quote false bs i made more s t all l z q f g m h = cc
at_quote true bs i made more BehindQuote t all l z q f g m h = cc
at_quote true bs i made more BehindBackslash t all l z q f g m h = cc
at_quote true bs i made more Anywhere Anywhere all l z q f g m h = cc
at_quote true bs i made more Anywhere BehindBackslash all l z q f g m h = cc

pub at_backslash : (d : Bool) (bs : List ℕ) (i : ℕ) (made more : List ℕ) (s t : Inside) (all : Option (List ℕ × List ℕ)) → i < length bs → ¬ (get_or bs i 0 ≡ 39) → get_or bs i 0 ≡ 92
    → s ≡ Anywhere → t ≡ BehindBackslash → more ≡ made → State d bs i made s all → State d bs (i + 1) more t all
at_backslash d bs i made more Anywhere BehindBackslash all l n q f g m h =
    ap (λ xs. after_bytes xs (escaped_read d behind_backslash (drop (i + 1) bs))) m
    ∙ passes d anywhere behind_backslash bs i made all l (λ rest. backslash_opens d (get_or bs i 0) rest (other _ 39 n) (same _ 92 q)) h
at_backslash d bs i made more BehindQuote t all l n q f g m h = cc
at_backslash d bs i made more BehindBackslash t all l n q f g m h = cc
at_backslash d bs i made more Anywhere Anywhere all l n q f g m h = cc
at_backslash d bs i made more Anywhere BehindQuote all l n q f g m h = cc

-- a byte that is kept: another one anywhere, a quote behind a quote, or either behind a backslash
kept : (d : Bool) (bs : List ℕ) (i : ℕ) (made more : List ℕ) (s : Reading) (t : Inside) (all : Option (List ℕ × List ℕ)) → i < length bs
    → ((rest : List ℕ) → escaped_read d s (get_or bs i 0 ∷ rest) ≡ with_byte (get_or bs i 0) (escaped_read d anywhere rest))
    → t ≡ Anywhere → more ≡ made ++ get_or bs i 0 ∷ [] → after_bytes made (escaped_read d s (drop i bs)) ≡ all → State d bs (i + 1) more t all
kept d bs i made more s t all l step g m h =
    ap (λ u. after_bytes more (escaped_read d (reading_of u) (drop (i + 1) bs))) g
    ∙ ap (λ xs. after_bytes xs (escaped_read d anywhere (drop (i + 1) bs))) m ∙ keeps d s bs i made all l step h

pub at_other : (d : Bool) (bs : List ℕ) (i : ℕ) (made more : List ℕ) (s t : Inside) (all : Option (List ℕ × List ℕ)) → i < length bs → ¬ (get_or bs i 0 ≡ 39) → ¬ (get_or bs i 0 ≡ 92)
    → s ≡ Anywhere → t ≡ Anywhere → more ≡ made ++ get_or bs i 0 ∷ [] → State d bs i made s all → State d bs (i + 1) more t all
at_other d bs i made more s t all l n o f g m h =
    kept d bs i made more anywhere t all l (λ rest. other_stays d (get_or bs i 0) rest (other _ 39 n) (other _ 92 o)) g m
    (ap (λ u. after_bytes made (escaped_read d (reading_of u) (drop i bs))) (sym f) ∙ h)

pub at_second : (d : Bool) (bs : List ℕ) (i : ℕ) (made more : List ℕ) (s t : Inside) (all : Option (List ℕ × List ℕ)) → i < length bs → get_or bs i 0 ≡ 39
    → s ≡ BehindQuote → t ≡ Anywhere → more ≡ made ++ get_or bs i 0 ∷ [] → State d bs i made s all → State d bs (i + 1) more t all
at_second d bs i made more s t all l q f g m h =
    kept d bs i made more behind_quote t all l (λ rest. second_stays d (get_or bs i 0) rest (same _ 39 q)) g m
    (ap (λ u. after_bytes made (escaped_read d (reading_of u) (drop i bs))) (sym f) ∙ h)

pub at_escaped : (d : Bool) (bs : List ℕ) (i : ℕ) (made more : List ℕ) (s t : Inside) (all : Option (List ℕ × List ℕ)) → i < length bs → (get_or bs i 0 == 39 || get_or bs i 0 == 92) ≡ true
    → s ≡ BehindBackslash → t ≡ Anywhere → more ≡ made ++ get_or bs i 0 ∷ [] → State d bs i made s all → State d bs (i + 1) more t all
at_escaped d bs i made more s t all l q f g m h =
    kept d bs i made more behind_backslash t all l (λ rest. escaped_stays d (get_or bs i 0) rest q) g m
    (ap (λ u. after_bytes made (escaped_read d (reading_of u) (drop i bs))) (sym f) ∙ h)
