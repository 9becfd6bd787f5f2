-- The rows at which a condition is true.
use Rattle.std.proofs.Common.{◌≡◌, ℕ, ◌<◌, ◌≤◌, List, map, length, get_or, take, refl, sym, ap, ◌∙◌, arith, Bool, true, false, ◌&&◌}
use Rattle.std.specs.Prelude.{if◌then◌else◌}
use Rattle.std.proofs.Math.ListN.{replicate}
use Rattle.std.proofs.lemmas.List.{get_or-map, get_or-take, get_or-replicate, length-replicate, length-take}
use Rattle.std.proofs.lemmas.Simd.{length-zip2, get_or-zip2}
use Rattle.vx_value.specs.Types.{Datum, null, bool}
use Rattle.vx_fn.specs.Values.{is_true}
use Rattle.vx_array_loops.specs.Logic.{both}
use Rattle.vx_array.specs.declared.validity.Validity.{Validity}
use Rattle.vx_array.specs.declared.validity.Validity.TheVariants.{Rows}
use Rattle.vx_array.specs.Shown.{is_valid, masked, shown}
use Rattle.vx_array.proofs.Masked.{get_or-shown, length-masked}
use Rattle.vx_array_kernels.specs.Choices.{IsMask, masked_rows}
use Rattle.vx_array_kernels.proofs.Bits.{rows_there}
use Rattle.vx_array_kernels.proofs.Told.{rows_as}

told : (v b : Bool) → (v && b) ≡ is_true (if v then bool b else null)
told true b = refl
told false b = refl

-- of truth values in bits: those that are valid and true
pub truth_mask : (v : Validity) (xs vs bs mask : List Bool) (rows : List Datum) (n : ℕ) → rows ≡ shown v (map bool xs) → length rows ≡ n → length vs ≡ n → ((k : ℕ) → k < n → get_or vs k false ≡ is_valid v k) → bs ≡ take n xs → mask ≡ both vs bs → IsMask mask rows
truth_mask v xs vs bs mask rows n is long many each are made = (masked ∙ sym long, at)
  where
    there : n ≤ length xs
    there = (rows_there v xs n (ap length (sym is) ∙ long)).0

    counted : length bs ≡ n
    counted = ap length are ∙ length-take n xs ∙ omega (arith, there)

    masked : length mask ≡ n
    masked = ap length made ∙ length-zip2 (λ a b. a && b) vs bs (many ∙ sym counted) ∙ many

    at : (k : ℕ) → k < length rows → get_or mask k false ≡ is_true (get_or rows k null)
    at k lt =
        let low : k < n = omega (arith, long) in
        let within : k < length xs = omega (arith, there) in
        ap (λ l. get_or l k false) made ∙ get_or-zip2 (λ a b. a && b) vs bs k false false false (omega (arith, many)) (omega (arith, counted))
        ∙ ap (λ b. b && get_or bs k false) (each k low) ∙ ap (λ b. is_valid v k && b) (ap (λ l. get_or l k false) are ∙ get_or-take n xs k false low)
        ∙ told (is_valid v k) (get_or xs k false) ∙ ap (λ d. is_true (if is_valid v k then d else null)) (sym (get_or-map bool xs k false null within))
        ∙ ap is_true (sym (ap (λ l. get_or l k null) is ∙ get_or-shown v (map bool xs) k))

-- of one value in all rows
pub same_mask : (n m : ℕ) (d : Datum) (b : Bool) (mask : List Bool) (rows : List Datum) → rows ≡ replicate m d → length rows ≡ n → b ≡ is_true d → mask ≡ replicate n b → IsMask mask rows
same_mask n m d b mask rows one long is made = (
  ap length made ∙ length-replicate n b ∙ sym long,
  λ k lt. ap (λ l. get_or l k false) made ∙ get_or-replicate n k b false (omega (arith, long)) ∙ is ∙ ap is_true (sym (ap (λ l. get_or l k null) one ∙ get_or-replicate m k d null (omega (arith, ap length one, length-replicate m d)))),
)

-- values that are shown by a mask
pub masked_by : (n : ℕ) (mask bits : List Bool) (vs cs out : List Datum) → IsMask mask cs → length cs ≡ n → length vs ≡ n → bits ≡ mask → out ≡ shown (Rows bits) vs → out ≡ masked_rows n vs cs
masked_by n mask bits vs cs out told long wide same is =
    is ∙ ap (λ l. masked l vs) same
    ∙ rows_as n (λ k. if is_true (get_or cs k null) then get_or vs k null else null) (masked mask vs) (length-masked mask vs ∙ omega (arith, told.0))
    (λ k lt. get_or-shown (Rows mask) vs k ∙ ap (λ b. if b then get_or vs k null else null) (told.1 k (omega (arith, long))))
