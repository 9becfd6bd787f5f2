-- Fills that are one value differ nowhere.
use Rattle.std.proofs.Common.{◌≡◌, List, [], ◌∷◌, map, refl, false}
use Rattle.std.specs.Prelude.{not}
use Rattle.std.specs.List.{list_any}
use Rattle.std.specs.declared.cmp.Ordering.{Ordering}
use Rattle.std.specs.declared.cmp.Ordering.TheVariants.{Less, Equal, Greater}
use Rattle.std.specs.Ordering.{is_eq, ordering_reverse}
use Rattle.std.proofs.lemmas.Bool.{or_from}
use Rattle.vx_value.specs.Types.{Datum}
use Rattle.vx_fn.specs.Faults.{differs, some_differ}
use Rattle.vx_fn.specs.Values.{order}
use Rattle.vx_fn.proofs.Swaps.{order-turned}

-- an ordering that is its own reverse is of equal ones
own_reverse : (o : Ordering) → o ≡ ordering_reverse o → not (is_eq o) ≡ false
own_reverse Less e = cc
own_reverse Equal e = refl
own_reverse Greater e = cc

differs_not : (v : Datum) → differs v v ≡ false
differs_not v = own_reverse (order v v) (order-turned v v)

none_differ_from : (c : Datum) (batch : List Datum) → list_any (differs c) (map (λ (v : Datum). c) batch) ≡ false
none_differ_from c [] = refl
none_differ_from c (v ∷ batch) = or_from _ _ (differs_not c) (none_differ_from c batch)

pub none_differ : (c : Datum) (batch : List Datum) → some_differ (map (λ (v : Datum). c) batch) ≡ false
none_differ c [] = refl
none_differ c (v ∷ batch) = none_differ_from c batch
