-- A type at the front of a text, inside an expression.
use Rattle.std.proofs.Common.{◌≡◌, ℕ, ◌≤◌, true, false, List, [], ◌∷◌, ◌++◌, Ok, refl, ap}
use Rattle.vx_dtype.specs.Types.{LogicalType, ty}
use Rattle.vx_source_types.specs.Characters.{is_word}
use Rattle.vx_source_types.specs.declared.token.Sign.TheVariants.{Question}
use Rattle.vx_source_types.specs.Tokens.{Lexeme, sign, next}
use Rattle.vx_source_types.specs.Reading.{Step, done, Leads, stays, leads}
use Rattle.vx_source_types.specs.TypePrintable.{IsPrintable, type_nesting}
use Rattle.vx_source_types.specs.TypeReading.{type_due, unmarked, whole, TypeState, type_start, type_step}
use Rattle.vx_source_types.specs.TypeTexts.{type_source}
use Rattle.vx_source_grammar.specs.Beginning.{type_goes, type_ends}
use Rattle.vx_source_grammar.specs.States.{Frame, TypeFor, in_type}
use Rattle.vx_source_laws.proofs.TreesRead.{at, Goes, is_suffix}
use Rattle.vx_source_types.proofs.TypesAgain.{type_again, read_mode}

-- a type that is read
abbrev pub read_type : LogicalType → ℕ → TypeState
read_type t r = record { frames = []; mode = read_mode t; room = r }

-- it has ended where no question mark follows
pub type_ended : (t : LogicalType) (r : ℕ) (x : Lexeme) → is_suffix x ≡ false → type_step (read_type t r) x ≡ Ok (done t)
type_ended (ty s true) r x p = refl
type_ended (ty s false) r (sign Question) p = cc
type_ended (ty s false) r x p = refl

pub whole_type : (fs : List Frame) (r : ℕ) (wanted : TypeFor) (t : LogicalType) (inner : ℕ) (x : Lexeme) → is_suffix x ≡ false
    → type_goes fs r wanted x (type_step (read_type t inner) x) ≡ type_ends fs r wanted t x
whole_type fs r wanted t inner x p = ap (type_goes fs r wanted x) (type_ended t inner x p)

type_in : {s u : TypeState} {bs ds : List ℕ} (fs : List Frame) (r : ℕ) (wanted : TypeFor) → Leads type_step s bs u ds → Goes (at fs (in_type wanted s) r) bs (at fs (in_type wanted u) r) ds
type_in fs r wanted stays = stays
type_in fs r wanted (leads {x = x} p q h) = leads p (ap (type_goes fs r wanted x) q) (type_in fs r wanted h)

-- something that is read is read behind a blank
behind_blank : {S A : Type 0} (step : Step S A) {s u : S} {bs ds : List ℕ} → ¬ (s ≡ u) → Leads step s bs u ds → Leads step s (32 ∷ bs) u ds
behind_blank step n stays = absurd (n refl)
behind_blank step n (leads p q h) = leads p q h

begun : (t : LogicalType) (r : ℕ) → ¬ (type_start r ≡ read_type t r)
begun (ty s true) r = λ q. let modes : type_due ≡ whole (ty s true) = ap (λ (z : TypeState). z.mode) q in (cc)
begun (ty s false) r = λ q. let modes : type_due ≡ unmarked (ty s false) = ap (λ (z : TypeState). z.mode) q in (cc)

pub type_read : (t : LogicalType) (fs : List Frame) (r : ℕ) (wanted : TypeFor) (inner : ℕ) (rest : List ℕ) → IsPrintable t → type_nesting t ≤ inner → is_word (next rest) ≡ false
    → Goes (at fs (in_type wanted (type_start inner)) r) (type_source t ++ rest) (at fs (in_type wanted (read_type t inner)) r) rest
type_read t fs r wanted inner rest u h e = type_in fs r wanted (type_again t [] inner rest u h e)

pub type_read_behind_blank : (t : LogicalType) (fs : List Frame) (r : ℕ) (wanted : TypeFor) (inner : ℕ) (rest : List ℕ) → IsPrintable t → type_nesting t ≤ inner → is_word (next rest) ≡ false
    → Goes (at fs (in_type wanted (type_start inner)) r) (32 ∷ (type_source t ++ rest)) (at fs (in_type wanted (read_type t inner)) r) rest
type_read_behind_blank t fs r wanted inner rest u h e = type_in fs r wanted (behind_blank type_step (begun t inner) (type_again t [] inner rest u h e))
