-- Paths that aren't lost lead to a place.
use Rattle.std.proofs.Common.{◌≡◌, List, [], ◌∷◌, Option, Some, None, Ok, refl}
use Rattle.std.specs.Option.{IsSomeAnd}
use Rattle.vx_tree.proofs.Trees.{or_none}
use Rattle.vx_dtype.specs.declared.error.VortexError.{VortexError}
use Rattle.vx_value.specs.Fields.{field_type}
use Rattle.vx_value.specs.Paths.{Path}
use Rattle.vx_value.specs.Types.{LogicalType, ty, struct}
use Rattle.vx_rewrite_paths.specs.Leading.{Leads, EachLeads}
use Rattle.vx_projection.specs.Lost.{in_field, lost, first_lost, unless_lost}

found-leads : (path : Path) (t : LogicalType) → lost path t ≡ None → Leads path t
found-leads [] t e = tt
found-leads (a ∷ path) (ty (struct fs) n) e = go (field_type a fs) e (λ t. found-leads path t)
  where
    go : (o : Option LogicalType) → in_field a o (λ t. lost path t) ≡ None → ((t : LogicalType) → lost path t ≡ None → Leads path t) → IsSomeAnd o (λ t. Leads path t)
    go None e k = cc
    go (Some t) e k = k t e
found-leads (a ∷ path) _ e = cc

pub all_found-lead : (paths : List Path) (t : LogicalType) → first_lost paths t ≡ None → EachLeads paths t
all_found-lead [] t e = tt
all_found-lead (path ∷ paths) t e = let h = or_none (lost path t) (first_lost paths t) e in (found-leads path t h.0, all_found-lead paths t h.1)

-- what isn't refused isn't lost
pub unrefused : {A : Type 0} (o : Option VortexError) (answer x : A) → unless_lost o answer ≡ Ok x → o ≡ None
unrefused None answer x e = refl
unrefused (Some refusal) answer x e = cc
