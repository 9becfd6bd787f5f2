-- What tokens are written as, one after another.
use Rattle.std.proofs.Common.{◌≡◌, ℕ, List, [], ◌∷◌, ◌++◌, Result, Ok, Err, refl, sym, ap, ◌∙◌, append_assoc}
use Rattle.vx_sql.specs.declared.dialect.Dialect.{Dialect}
use Rattle.vx_sql_parser.specs.declared.reason.Unread.{Unread}
use Rattle.vx_sql_parser.specs.SqlTokens.{SqlLexeme}
use Rattle.vx_sql_parser.specs.Steps.{State, Said, Answer, innermost, changed}
use Rattle.vx_sql_parser.specs.Rules.{rule, onto, written}
use Rattle.vx_sql_parser.specs.declared.step.Stop.{Stop}
use Rattle.vx_sql_parser.specs.declared.step.Stop.TheVariants as stops
use Rattle.vx_sql_parser.specs.RuleViews.{Answers, IsStop, after}

after_onto : (before t : List ℕ) (r : Result (List ℕ) Unread) → after before (onto t r) ≡ after (before ++ (t ++ 32 ∷ [])) r
after_onto before t (Ok ts) = ap Ok (sym (append_assoc before (t ++ 32 ∷ []) ts ∙ ap (λ xs. before ++ xs) (append_assoc t (32 ∷ []) ts)))
after_onto before t (Err r) = refl

-- what comes of what a token is written as
abbrev pub behind : Dialect → State → List SqlLexeme → Answer → Result (List ℕ) Unread
behind d s xs (Ok said) = onto said.text (written d (changed said.change s) said.more xs)
behind d s xs (Err r) = Err r

opened : (d : Dialect) (s : State) (x : SqlLexeme) (xs : List SqlLexeme) → written d s 0 (x ∷ xs) ≡ behind d s xs (rule d (innermost s.brackets) s.chained x xs)
opened d s x xs = refl

-- a token that is written
said_goes : (d : Dialect) (s : State) (x : SqlLexeme) (xs : List SqlLexeme) (said : Said) (before : List ℕ) → rule d (innermost s.brackets) s.chained x xs ≡ Ok said
    → after (before ++ (said.text ++ 32 ∷ [])) (written d (changed said.change s) said.more xs) ≡ after before (written d s 0 (x ∷ xs))
said_goes d s x xs said before e = sym (ap (after before) (opened d s x xs ∙ ap (behind d s xs) e) ∙ after_onto before said.text _)

-- one that isn't read
refused_stops : (d : Dialect) (s : State) (x : SqlLexeme) (xs : List SqlLexeme) (r : Unread) (before : List ℕ) → rule d (innermost s.brackets) s.chained x xs ≡ Err r
    → after before (written d s 0 (x ∷ xs)) ≡ Err r
refused_stops d s x xs r before e = ap (after before) (opened d s x xs ∙ ap (behind d s xs) e)

-- ---- what the program does with a token

pub stopped : (d : Dialect) (s : State) (n : ℕ) (x : SqlLexeme) (xs : List SqlLexeme) (before : List ℕ) (stop : Stop) → n ≡ 0
    → Answers (Err stop) (rule d (innermost s.brackets) s.chained x xs) → IsStop stop (after before (written d s n (x ∷ xs)))
stopped d s n x xs before stops.OutOfMemory z h = tt
stopped d s n x xs before (stops.Unread r) z h = ap (λ k. after before (written d s k (x ∷ xs))) z ∙ refused_stops d s x xs r before h

pub took : (d e : Dialect) (s t : State) (n m : ℕ) (before more : List ℕ) (x : SqlLexeme) (xs : List SqlLexeme) (said : Said) → n ≡ 0
    → rule d (innermost s.brackets) s.chained x xs ≡ Ok said → e ≡ d → more ≡ before ++ (said.text ++ 32 ∷ []) → t ≡ changed said.change s → m ≡ said.more
    → after more (written e t m xs) ≡ after before (written d s n (x ∷ xs))
took d e s t n m before more x xs said z h p q r v =
    ap (λ ys. after ys (written e t m xs)) q
    ∙ ap (λ y. after (before ++ (said.text ++ 32 ∷ [])) (written y t m xs)) p
    ∙ ap (λ y. after (before ++ (said.text ++ 32 ∷ [])) (written d y m xs)) r
    ∙ ap (λ y. after (before ++ (said.text ++ 32 ∷ [])) (written d (changed said.change s) y xs)) v
    ∙ said_goes d s x xs said before h
    ∙ ap (λ y. after before (written d s y (x ∷ xs))) (sym z)
