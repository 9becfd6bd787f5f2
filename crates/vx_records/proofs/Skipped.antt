-- What a reader gives behind refusals that are left out.
use Rattle.std.proofs.Common.{◌≡◌, List, [], ◌∷◌, ◌++◌, ap, ◌∙◌}
use Rattle.std.specs.List.{filter}
use Rattle.std.proofs.lemmas.List.Elements.{filter-append}
use Rattle.vx_records.specs.Reading.{Reading, Leads}
use Rattle.vx_records.specs.Skipped.{stays}
use Rattle.vx_records.proofs.Going.{leads_on}

-- readings that are left out lead from before to after
abbrev pub SkipsTo : (List Reading → Type 0) → (List Reading → Type 0) → Type 0
SkipsTo before after = (gs : List Reading) × Leads before after gs × (filter stays gs ≡ [])

-- one more
pub skips_on : (a b c : List Reading → Type 0) (g : Reading) → filter stays (g ∷ []) ≡ [] → SkipsTo a b → Leads b c (g ∷ []) → SkipsTo a c
skips_on a b c g out (gs, leads, none) more =
    (gs ++ g ∷ [], leads_on a b c gs (g ∷ []) leads more, filter-append stays gs (g ∷ []) ∙ ap (λ xs. xs ++ filter stays (g ∷ [])) none ∙ out)
