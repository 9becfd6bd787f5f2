-- A pattern's bytes spell the bytes of what its characters spell.
use Rattle.std.proofs.Common.{◌≡◌, ℕ, suc, ◌<◌, ◌≤◌, Bool, true, false, List, [], ◌∷◌, ◌++◌, refl, sym, ap, ◌∙◌, length, get_or, arith, eqb, encode_utf8, encode_utf8_all, chars, IsUtf8, inl, inr, append-nil}
use Rattle.std.proofs.lemmas.Bool.{cases_lt, cases_Bool, and_parts, and_from}
use Rattle.std.proofs.lemmas.Str.{encode_ascii, inside_one, encodes-chars, scalars-chars, length-encode, len_utf8_bounds, IsUtf8-nil}
use Rattle.std.specs.Str.{all_scalars}
use Rattle.std.proofs.lemmas.Grind.{common_steps}
use Rattle.vx_fn.specs.Values.{parts}
use Rattle.vx_prune_bounds.specs.Beginnings.{fixed_characters, beginning}

-- no byte is ASCII
abbrev Highs : List ℕ → Type 0
Highs hs = (k : ℕ) → k < length hs → 128 ≤ get_or hs k 0

fixed_high : (h : ℕ) (bs : List ℕ) → 128 ≤ h → fixed_characters (parts false (h ∷ bs)) ≡ h ∷ fixed_characters (parts false bs)
fixed_high h bs le = grind (arith, common_steps)

fixed_highs : (hs bs : List ℕ) → Highs hs → fixed_characters (parts false (hs ++ bs)) ≡ hs ++ fixed_characters (parts false bs)
fixed_highs [] bs all = refl
fixed_highs (h ∷ hs) bs all = fixed_high h (hs ++ bs) (all 0 (omega arith)) ∙ ap (λ x. h ∷ x) (fixed_highs hs bs (λ k l. all (suc k) (omega arith)))

quoted_highs : (hs bs : List ℕ) → Highs hs → 0 < length hs → fixed_characters (parts true (hs ++ bs)) ≡ hs ++ fixed_characters (parts false bs)
quoted_highs [] bs all l = absurd (omega arith)
quoted_highs (h ∷ hs) bs all l = ap (λ x. h ∷ x) (fixed_highs hs bs (λ k l. all (suc k) (omega arith)))

highs : (c : ℕ) → 128 ≤ c → Highs (encode_utf8 c)
highs c le k l = elim (cases_lt (get_or (encode_utf8 c) k 0) 128) [
  | inl low ↦ let e = inside_one c [] (encode_utf8 c) k (sym (append-nil (encode_utf8 c))) l low in absurd (omega arith)
  | inr high ↦ high
]

some_byte : (c : ℕ) → 0 < length (encode_utf8 c)
some_byte c = omega (arith, length-encode c, (len_utf8_bounds c).0)

-- the bytes spell what the characters do, after a backslash or not
abbrev Agrees : List ℕ → List ℕ → Type 0
Agrees bs cs = (q : Bool) → fixed_characters (parts q bs) ≡ encode_utf8_all (fixed_characters (parts q cs))

quoted_low : (c : ℕ) (bs cs : List ℕ) → c < 128 → Agrees bs cs → c ∷ fixed_characters (parts false bs) ≡ encode_utf8_all (c ∷ fixed_characters (parts false cs))
quoted_low c bs cs lt later = ap (λ x. c ∷ x) (later false) ∙ ap (λ x. x ++ encode_utf8_all (fixed_characters (parts false cs))) (sym (encode_ascii c lt))

plain_low : (c : ℕ) (bs cs : List ℕ) → c < 128 → Agrees bs cs → fixed_characters (parts false (c ∷ bs)) ≡ encode_utf8_all (fixed_characters (parts false (c ∷ cs)))
plain_low c bs cs lt later = elim (cases_Bool (eqb c 92)) [
  | inl backslash ↦ rw backslash (later true)
  | inr other ↦ rw other (elim (cases_Bool (eqb c 37)) [
    | inl percent ↦ rw percent refl
    | inr more ↦ rw more (elim (cases_Bool (eqb c 95)) [
      | inl line ↦ rw line refl
      | inr plain ↦ rw plain (quoted_low c bs cs lt later)
    ])
  ])
]

agrees_low : (c : ℕ) (bs cs : List ℕ) → c < 128 → Agrees bs cs → Agrees (c ∷ bs) (c ∷ cs)
agrees_low c bs cs lt later true = quoted_low c bs cs lt later
agrees_low c bs cs lt later false = plain_low c bs cs lt later

agrees_high : (c : ℕ) (bs cs : List ℕ) → 128 ≤ c → Agrees bs cs → Agrees (encode_utf8 c ++ bs) (c ∷ cs)
agrees_high c bs cs high later true = quoted_highs (encode_utf8 c) bs (highs c high) (some_byte c) ∙ ap (λ x. encode_utf8 c ++ x) (later false)
agrees_high c bs cs high later false = fixed_highs (encode_utf8 c) bs (highs c high) ∙ ap (λ x. encode_utf8 c ++ x) (later false) ∙ ap encode_utf8_all (sym (fixed_high c cs high))

agrees_encoded : (cs : List ℕ) → Agrees (encode_utf8_all cs) cs
agrees_encoded [] false = refl
agrees_encoded [] true = ap (λ x. x ++ []) (sym (encode_ascii 92 (omega arith)))
agrees_encoded (c ∷ cs) q = elim (cases_lt c 128) [
  | inl low ↦ rw (encode_ascii c low) (agrees_low c (encode_utf8_all cs) cs low (agrees_encoded cs) q)
  | inr high ↦ agrees_high c (encode_utf8_all cs) cs high (agrees_encoded cs) q
]

-- the bytes of a pattern tell its beginning
pub beginning-bytes : (p : List ℕ) → IsUtf8 p → fixed_characters (parts false p) ≡ beginning false p
beginning-bytes p u = ap (λ x. fixed_characters (parts false x)) (sym (encodes-chars p u)) ∙ agrees_encoded (chars p) false

-- what is fixed of characters is characters
scalars_fixed : (q : Bool) (cs : List ℕ) → all_scalars cs ≡ true → all_scalars (fixed_characters (parts q cs)) ≡ true
scalars_fixed false [] e = refl
scalars_fixed true [] e = refl
scalars_fixed true (c ∷ cs) e = let x = and_parts _ _ e in and_from _ _ x.0 (scalars_fixed false cs x.1)
scalars_fixed false (c ∷ cs) e =
    let x = and_parts _ _ e in
    elim (cases_Bool (eqb c 92)) [
      | inl backslash ↦ rw backslash (scalars_fixed true cs x.1)
      | inr other ↦ rw other (elim (cases_Bool (eqb c 37)) [
        | inl percent ↦ rw percent refl
        | inr more ↦ rw more (elim (cases_Bool (eqb c 95)) [ inl line ↦ rw line refl | inr plain ↦ rw plain (and_from _ _ x.0 (scalars_fixed false cs x.1)) ])
      ])
    ]

pub beginning-IsUtf8 : (ci : Bool) (p : List ℕ) → IsUtf8 p → IsUtf8 (beginning ci p)
beginning-IsUtf8 true p u = IsUtf8-nil
beginning-IsUtf8 false p u = (fixed_characters (parts false (chars p)), (scalars_fixed false (chars p) (scalars-chars p u), refl))
