-- Quotes of a record that are read one byte at a time.
use Rattle.std.proofs.Common.{◌≡◌, ℕ, ◌+◌, ◌<◌, ◌≤◌, ◌==◌, ◌||◌, Bool, true, false, List, [], ◌∷◌, length, get_or, ap, refl}
use Rattle.std.specs.Prelude.{None, Some, drop, if◌then◌else◌}
use Rattle.std.specs.List.{list_any}
use Rattle.std.proofs.lemmas.Bool.{or_parts}
use Rattle.std.proofs.lemmas.List.{drop_more, drop_all}
use Rattle.vx_data.specs.declared.csv_files.quotes.WrongQuotes.TheVariants.{Behind}
use Rattle.vx_data.specs.declared.csv_files.quotes.Place.{Place}
use Rattle.vx_data.specs.declared.csv_files.quotes.Place.TheVariants.{Bare, Closed, Quoted, Start}
use Rattle.vx_data.specs.Quotes.{has_quote, is_behind, left_open, misquoted_from, place_after, quote}

-- whether a place is outside of quotes
abbrev is_outside : Place → Bool
is_outside Start = true
is_outside Bare = true
is_outside (Quoted from) = false
is_outside (Closed from) = false

-- outside of quotes, where no quote stands, none is wrong
none_outside : (d i : ℕ) (place : Place) (bs : List ℕ) → is_outside place ≡ true → list_any (λ b. b == quote) bs ≡ false → misquoted_from d place i bs ≡ None
unfolding misquoted_from
none_outside d i Start [] o h = refl
none_outside d i Bare [] o h = refl
none_outside d i (Quoted from) bs o h = cc
none_outside d i (Closed from) bs o h = cc
none_outside d i Start (b ∷ bs) o h =
    let parts = or_parts (b == quote) (list_any (λ c. c == quote) bs) h in
    rw (parts.0) (either (b == d) (none_outside d (i + 1) Start bs refl parts.1) (none_outside d (i + 1) Bare bs refl parts.1))
  where
    either : (t : Bool) → misquoted_from d Start (i + 1) bs ≡ None → misquoted_from d Bare (i + 1) bs ≡ None → misquoted_from d (if t then Start else Bare) (i + 1) bs ≡ None
    either true p q = p
    either false p q = q
none_outside d i Bare (b ∷ bs) o h =
    let parts = or_parts (b == quote) (list_any (λ c. c == quote) bs) h in
    either (b == d) (none_outside d (i + 1) Start bs refl parts.1) (none_outside d (i + 1) Bare bs refl parts.1)
  where
    either : (t : Bool) → misquoted_from d Start (i + 1) bs ≡ None → misquoted_from d Bare (i + 1) bs ≡ None → misquoted_from d (if t then Start else Bare) (i + 1) bs ≡ None
    either true p q = p
    either false p q = q

pub unquoted : (d : ℕ) (bs : List ℕ) → list_any (λ b. b == quote) bs ≡ false → misquoted_from d Start 0 bs ≡ None
unquoted d bs h = none_outside d 0 Start bs refl h

-- the i-th byte is read
read_at : (d i : ℕ) (place : Place) (bs : List ℕ) → i < length bs
    → misquoted_from d place i (drop i bs) ≡ (if is_behind d place (get_or bs i 0) then Some (Behind i) else misquoted_from d (place_after d place i (get_or bs i 0)) (i + 1) (drop (i + 1) bs))
unfolding misquoted_from
read_at d i place bs h = ap (misquoted_from d place i) (drop_more bs i 0 h)

pub behind_at : (d i : ℕ) (place : Place) (bs : List ℕ) → i < length bs → is_behind d place (get_or bs i 0) ≡ true → misquoted_from d place i (drop i bs) ≡ Some (Behind i)
behind_at d i place bs h e = rw (read_at d i place bs h, e) refl

pub after_at : (d i : ℕ) (place : Place) (bs : List ℕ) → i < length bs → is_behind d place (get_or bs i 0) ≡ false
    → misquoted_from d place i (drop i bs) ≡ misquoted_from d (place_after d place i (get_or bs i 0)) (i + 1) (drop (i + 1) bs)
after_at d i place bs h e = rw (read_at d i place bs h, e) refl

pub end_at : (d i : ℕ) (place : Place) (bs : List ℕ) → length bs ≤ i → misquoted_from d place i (drop i bs) ≡ left_open place
unfolding misquoted_from
end_at d i place bs h = ap (misquoted_from d place i) (drop_all i bs h)

-- a quote that was found, or stands from the i-th byte on
pub found_at : (bs : List ℕ) (i : ℕ) (found : Bool) → i < length bs → (found || has_quote (drop i bs)) ≡ ((found || get_or bs i 0 == quote) || has_quote (drop (i + 1) bs))
found_at bs i true h = refl
found_at bs i false h = ap has_quote (drop_more bs i 0 h)

pub found_all : (bs : List ℕ) (i : ℕ) (found : Bool) → length bs ≤ i → (found || has_quote (drop i bs)) ≡ found
found_all bs i true h = refl
found_all bs i false h = ap has_quote (drop_all i bs h)
