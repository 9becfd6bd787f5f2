-- Loops over paths, fields and values: what was made stands in front of what is left.
use Rattle.std.proofs.Common.{◌≡◌, ℕ, suc, ◌+◌, ◌<◌, ◌≤◌, ◌==◌, List, [], ◌∷◌, ◌++◌, length, get_or, drop, drop-cons, drop_of_length-le, add-one, min, ◌⊎◌, inl, inr, refl, sym, ap, ◌∙◌, Bool, true, false, ◌||◌, arith}
use Rattle.std.specs.Borrow.{Bor}
use Rattle.std.proofs.lemmas.Bool.{cases_lt, eqb-true}
use Rattle.vx_dtype.specs.declared.dtype.DType.{DType}
use Rattle.vx_dtype.proofs.Lists.{in_front, in_front-push, in_front-all}
use Rattle.vx_dtype.proofs.Pairs.{fields_next, fields_step, fields_end}
use Rattle.vx_value.specs.Fields.{field_count}
use Rattle.vx_value.specs.Paths.{Path, path_of, is_member, equal_path}
use Rattle.vx_value.specs.Types.{Name, Data, no_datum, datum}
use Rattle.vx_value.specs.Views.{type_of, fields_view, value_of, data_view}
use Rattle.vx_value.specs.declared.field_path.Field.{Field}
use Rattle.vx_value.specs.declared.value.Value.{Value}
use Rattle.vx_projection.specs.Defaults.{default_of, field_defaults}
use Rattle.vx_projection.specs.Kept.{rests, others}
use Rattle.vx_projection.specs.Wanted.{Wants, no_want, want, wanted, fields_wanted, taken, each_taken, wanted_of, wanted_view, lent_paths}
use Rattle.vx_projection.specs.declared.wanted.Wanted.{Wanted}

-- ---- values in front of others

abbrev put_value : Value → Data → Data
put_value v rest = datum (value_of v) rest

abbrev pub behind : List Value → Data → Data
behind = in_front put_value

behind_push : (made : List Value) (v : Value) (rest : Data) → behind (made ++ v ∷ []) rest ≡ behind made (datum (value_of v) rest)
behind_push made v rest = in_front-push put_value made v rest

behind_nothing : (made : List Value) → behind made no_datum ≡ data_view made
behind_nothing made = in_front-all put_value no_datum data_view refl (λ x xs. refl) made

-- ---- and wants

abbrev put_want : Wanted → Wants → Wants
put_want w rest = want (wanted_of w) rest

abbrev pub behind_wants : List Wanted → Wants → Wants
behind_wants = in_front put_want

wants_push : (made : List Wanted) (w : Wanted) (rest : Wants) → behind_wants (made ++ w ∷ []) rest ≡ behind_wants made (want (wanted_of w) rest)
wants_push made w rest = in_front-push put_want made w rest

wants_nothing : (made : List Wanted) → behind_wants made no_want ≡ wanted_view made
wants_nothing made = in_front-all put_want no_want wanted_view refl (λ x xs. refl) made

-- ---- defaults of fields

pub default_next : (names : List Name) (types : List DType) (made new : List Value) (i : ℕ) (t : DType) (v : Value) (all : Data) → i < length names → i < length types → t ≡ get_or types i t → new ≡ made ++ v ∷ [] → value_of v ≡ default_of (type_of t)
    → all ≡ behind made (field_defaults (fields_view (drop i names) (drop i types))) → all ≡ behind new (field_defaults (fields_view (drop (i + 1) names) (drop (i + 1) types)))
default_next names types made new i t v all h k q pushed is so_far =
    let rest = field_defaults (fields_view (drop (i + 1) names) (drop (i + 1) types)) in
    so_far ∙ ap (λ fs. behind made (field_defaults fs)) (fields_step names types i [] t h k q) ∙ ap (λ d. behind made (datum d rest)) (sym is) ∙ sym (behind_push made v rest) ∙ ap (λ m. behind m rest) (sym pushed)

pub default_end : (names : List Name) (types : List DType) (made : List Value) (i : ℕ) (all : Data) → field_count (fields_view names types) ≤ i
    → all ≡ behind made (field_defaults (fields_view (drop i names) (drop i types))) → data_view made ≡ all
default_end names types made i all h so_far = sym (so_far ∙ ap (λ fs. behind made (field_defaults fs)) (fields_end names types i h) ∙ behind_nothing made)

-- ---- wants of fields

pub want_next : (names : List Name) (types : List DType) (made new : List Wanted) (left after : List Path) (i : ℕ) (a : Name) (t : DType) (w : Wanted) (all : Wants) → i < length names → i < length types → a ≡ get_or names i a → t ≡ get_or types i t → new ≡ made ++ w ∷ []
    → wanted_of w ≡ wanted (rests a left) (type_of t) → after ≡ others a left
    → all ≡ behind_wants made (fields_wanted left (fields_view (drop i names) (drop i types))) → all ≡ behind_wants new (fields_wanted after (fields_view (drop (i + 1) names) (drop (i + 1) types)))
want_next names types made new left after i a t w all h k p q pushed is others_are so_far =
    let rest = fields_wanted after (fields_view (drop (i + 1) names) (drop (i + 1) types)) in
    so_far ∙ ap (λ fs. behind_wants made (fields_wanted left fs)) (fields_next names types i a t h k p q)
    ∙ ap (λ ps. behind_wants made (want (wanted (rests a left) (type_of t)) (fields_wanted ps (fields_view (drop (i + 1) names) (drop (i + 1) types))))) (sym others_are)
    ∙ ap (λ x. behind_wants made (want x rest)) (sym is) ∙ sym (wants_push made w rest) ∙ ap (λ m. behind_wants m rest) (sym pushed)

pub want_end : (names : List Name) (types : List DType) (made : List Wanted) (left : List Path) (i : ℕ) (all : Wants) → field_count (fields_view names types) ≤ i
    → all ≡ behind_wants made (fields_wanted left (fields_view (drop i names) (drop i types))) → wanted_view made ≡ all
want_end names types made left i all h so_far = sym (so_far ∙ ap (λ fs. behind_wants made (fields_wanted left fs)) (fields_end names types i h) ∙ wants_nothing made)

-- ---- what is taken of values

pub taken_next : (ws : List Wanted) (vs made new : List Value) (i : ℕ) (w : Wanted) (v u : Value) (all : Data) → i < length ws → i < length vs → w ≡ get_or ws i w → v ≡ get_or vs i v → new ≡ made ++ u ∷ [] → value_of u ≡ taken (wanted_of w) (value_of v)
    → all ≡ behind made (each_taken (wanted_view (drop i ws)) (data_view (drop i vs))) → all ≡ behind new (each_taken (wanted_view (drop (i + 1) ws)) (data_view (drop (i + 1) vs)))
taken_next ws vs made new i w v u all h k p q pushed is so_far =
    let rest = each_taken (wanted_view (drop (i + 1) ws)) (data_view (drop (i + 1) vs)) in
    let a : wanted_view (drop i ws) ≡ want (wanted_of w) (wanted_view (drop (i + 1) ws)) = rw (add-one, drop-cons ws i w h, ← p) in
    let b : data_view (drop i vs) ≡ datum (value_of v) (data_view (drop (i + 1) vs)) = rw (add-one, drop-cons vs i v k, ← q) in
    so_far ∙ ap (λ x. behind made (each_taken x (data_view (drop i vs)))) a ∙ ap (λ x. behind made (each_taken (want (wanted_of w) (wanted_view (drop (i + 1) ws))) x)) b
    ∙ ap (λ d. behind made (datum d rest)) (sym is) ∙ sym (behind_push made u rest) ∙ ap (λ m. behind m rest) (sym pushed)

none_taken : (ws : Wants) → each_taken ws no_datum ≡ no_datum
none_taken no_want = refl
none_taken (want w ws) = refl

-- where one of the two has no more
pub taken_end : (ws : List Wanted) (vs made : List Value) (i : ℕ) (all : Data) → min (length ws) (length vs) ≤ i → all ≡ behind made (each_taken (wanted_view (drop i ws)) (data_view (drop i vs))) → data_view made ≡ all
taken_end ws vs made i all h so_far = sym (so_far ∙ ap (behind made) (ends (cases_lt (length ws) (length vs))) ∙ behind_nothing made)
  where
    ends : (length ws < length vs) ⊎ (length vs ≤ length ws) → each_taken (wanted_view (drop i ws)) (data_view (drop i vs)) ≡ no_datum
    ends (inl l) = let k : length ws ≤ i = omega arith in rw (drop_of_length-le ws k) refl
    ends (inr l) = let k : length vs ≤ i = omega arith in rw (drop_of_length-le vs k) (none_taken (wanted_view (drop i ws)))

-- ---- paths

nothing_is_more : (n : ℕ) → (suc n == 0) ≡ false
nothing_is_more n = go (suc n == 0) refl
  where
    go : (b : Bool) → (suc n == 0) ≡ b → b ≡ false
    go false e = refl
    go true e = let none : suc n ≡ 0 = eqb-true (suc n) 0 e in absurd (omega arith)

root_is_empty : (p : List Field) → equal_path [] (path_of p) ≡ (length p == 0)
root_is_empty [] = refl
root_is_empty (x ∷ p) = sym (nothing_is_more (length p))

lent_at : (ps : List (Bor (List Field))) (i : ℕ) (p : Bor (List Field)) → i < length ps → p ≡ get_or ps i p → lent_paths (drop i ps) ≡ path_of p.now ∷ lent_paths (drop (i + 1) ps)
lent_at ps i p h q = rw (add-one, drop-cons ps i p h, ← q)

pub root_next : (ps : List (Bor (List Field))) (i : ℕ) (p : Bor (List Field)) (b : Bool) → i < length ps → p ≡ get_or ps i p → b ≡ (length p.now == 0) → is_member (lent_paths (drop i ps)) [] ≡ (b || is_member (lent_paths (drop (i + 1) ps)) [])
root_next ps i p b h q e = ap (λ xs. is_member xs []) (lent_at ps i p h q) ∙ ap (λ c. c || is_member (lent_paths (drop (i + 1) ps)) []) (root_is_empty p.now ∙ sym e)
