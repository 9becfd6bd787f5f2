-- Reading some records, and then some more.
use Rattle.std.proofs.Common.{◌≡◌, List, ◌++◌, [], ◌∷◌, subst, sym, ap, ◌∙◌, append_assoc, Err}
use Rattle.std.proofs.lemmas.List.{map-append}
use Rattle.vx_data.specs.declared.error.DataError.{DataError}
use Rattle.vx_records.specs.Reading.{Reading, Leads, Reads, ReadsUntil, given}
use Rattle.vx_records.specs.Records.{Record}

pub reads_none : (a : List Reading → Type 0) → Reads a a []
reads_none a more left = left

pub leads_on : (a b c : List Reading → Type 0) (xs ys : List Reading) → Leads a b xs → Leads b c ys → Leads a c (xs ++ ys)
leads_on a b c xs ys first second more left = subst a (sym (append_assoc xs ys more)) (first (ys ++ more) (second more left))

given_on : (xs ys : List Record) → given (xs ++ ys) ≡ given xs ++ given ys
given_on xs ys = map-append _ xs ys

pub reads_on : (a b c : List Reading → Type 0) (xs ys : List Record) → Reads a b xs → Reads b c ys → Reads a c (xs ++ ys)
reads_on a b c xs ys first second = subst (Leads a c) (sym (given_on xs ys)) (leads_on a b c (given xs) (given ys) first second)

-- up to one that can't be read, behind some
pub until_on : (a b c : List Reading → Type 0) (xs ys : List Record) (e : DataError) → Reads a b xs → ReadsUntil b c ys e → ReadsUntil a c (xs ++ ys) e
until_on a b c xs ys e first second =
    subst (Leads a c) (sym (ap (λ gs. gs ++ Err e ∷ []) (given_on xs ys) ∙ append_assoc (given xs) (given ys) (Err e ∷ []))) (leads_on a b c (given xs) (given ys ++ Err e ∷ []) first second)

-- the last records behind some
pub ends_on : (a b : List Reading → Type 0) (xs ys : List Record) → Reads a b xs → b (given ys) → a (given (xs ++ ys))
ends_on a b xs ys first last = subst a (sym (given_on xs ys)) (first (given ys) last)
