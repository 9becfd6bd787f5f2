-- Rows that are all valid.
use Rattle.std.proofs.Common.{◌≡◌, ◌+◌, List, [], ◌∷◌, length, refl, ap, arith, Bool, true, false}
use Rattle.std.specs.Prelude.{cond}
use Rattle.std.proofs.lemmas.List.Sums.{count_by-le-length, sum_by-cons}
use Rattle.vx_value.specs.Types.{Datum}
use Rattle.vx_array.specs.Shown.{masked}
use Rattle.vx_array_loops.specs.WordBits.{count_true}

-- bits of which as many are true as there are rows hide none
pub all_shown : (bs : List Bool) (ds : List Datum) → length ds ≡ length bs → count_true bs ≡ length bs → ds ≡ masked bs ds
all_shown [] [] long all = refl
all_shown [] (d ∷ ds) long all = absurd (omega (arith, long))
all_shown (b ∷ bs) [] long all = absurd (omega (arith, long))
all_shown (true ∷ bs) (d ∷ ds) long all =
    let more : count_true (true ∷ bs) ≡ 1 + count_true bs = sum_by-cons (λ b. cond b 1 0) true bs in
    ap (λ l. d ∷ l) (all_shown bs ds (omega (arith, long)) (omega (arith, all, more)))
all_shown (false ∷ bs) (d ∷ ds) long all =
    let same : count_true (false ∷ bs) ≡ 0 + count_true bs = sum_by-cons (λ b. cond b 1 0) false bs in
    absurd (omega (arith, all, same, count_by-le-length (λ b. b) bs))
