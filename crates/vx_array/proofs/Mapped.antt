-- What is made of each row that is shown.
use Rattle.std.proofs.Common.{◌≡◌, List, [], ◌∷◌, map, refl, sym, ap, ◌∙◌, Bool, true, false}
use Rattle.std.specs.Prelude.{if◌then◌else◌}
use Rattle.vx_value.specs.Types.{Datum, null}
use Rattle.vx_array.specs.declared.validity.Validity.{Validity}
use Rattle.vx_array.specs.declared.validity.Validity.TheVariants.{All, Nothing, Rows}
use Rattle.vx_array.specs.Shown.{masked, shown}

pub map_map : {A B C : Type 0} (f : B → C) (g : A → B) (xs : List A) → map f (map g xs) ≡ map (λ x. f (g x)) xs
map_map f g [] = refl
map_map f g (x ∷ xs) = ap (λ l. f (g x) ∷ l) (map_map f g xs)

pub map_same : {A B : Type 0} (f g : A → B) (xs : List A) → ((x : A) → f x ≡ g x) → map f xs ≡ map g xs
map_same f g [] h = refl
map_same f g (x ∷ xs) h = ap (λ y. y ∷ map f xs) (h x) ∙ ap (λ l. g x ∷ l) (map_same f g xs h)

map-masked : (h : Datum → Datum) (bs : List Bool) (ds : List Datum) → h null ≡ null → map h (masked bs ds) ≡ masked bs (map h ds)
map-masked h [] [] e = refl
map-masked h [] (d ∷ ds) e = refl
map-masked h (b ∷ bs) [] e = refl
map-masked h (b ∷ bs) (d ∷ ds) e = ap (λ x. x ∷ map h (masked bs ds)) (one b) ∙ ap (λ l. (if b then h d else null) ∷ l) (map-masked h bs ds e)
  where
    one : (b : Bool) → h (if b then d else null) ≡ (if b then h d else null)
    one true = refl
    one false = e

-- what gives null of null keeps which rows are shown
pub map-shown : (h : Datum → Datum) (v : Validity) (ds : List Datum) → h null ≡ null → map h (shown v ds) ≡ shown v (map h ds)
map-shown h All ds e = refl
map-shown h Nothing ds e = map_map h (λ _. null) ds ∙ map_same (λ _. h null) (λ _. null) ds (λ _. e) ∙ sym (map_map (λ _. null) h ds)
map-shown h (Rows bits) ds e = map-masked h bits ds e
