-- The text of names, one at a time.
use Rattle.std.proofs.Common.{◌≡◌, ℕ, ◌+◌, ◌<◌, ◌≤◌, List, [], ◌∷◌, ◌++◌, length, get_or, drop, map, codes, sym, ap, ◌∙◌}
use Rattle.std.specs.Prelude.{◌==◌, if◌then◌else◌}
use Rattle.std.proofs.lemmas.List.{drop_more, drop_all}
use Rattle.vx_dtype.specs.Types.{Name}
use Rattle.vx_dtype.proofs.Commas.{behind, written_next, written_all}
use Rattle.vx_source_types.specs.Names.{name_source}

pub names_next : (names : List Name) (i : ℕ) (a : Name) (done separator all : List ℕ) → i < length names → a ≡ get_or names i a → separator ≡ (if i == 0 then [] else codes ", ")
    → done ++ behind i (map name_source (drop i names)) ≡ all
    → ((done ++ separator) ++ name_source a) ++ behind (i + 1) (map name_source (drop (i + 1) names)) ≡ all
names_next names i a done separator all h is s e =
    let here = drop_more names i a h ∙ ap (λ x. x ∷ drop (i + 1) names) (sym is) in
    written_next i done separator _ all _ s (ap (λ ns. done ++ behind i (map name_source ns)) (sym here) ∙ e)

pub names_all : (names : List Name) (i : ℕ) (done all : List ℕ) → length names ≤ i → done ++ behind i (map name_source (drop i names)) ≡ all → done ≡ all
names_all names i done all h e = written_all i done all (ap (λ ns. done ++ behind i (map name_source ns)) (sym (drop_all i names h)) ∙ e)
