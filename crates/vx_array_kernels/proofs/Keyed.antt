-- Floating-point numbers and their places.
use Rattle.std.proofs.Common.{◌≡◌, ℕ, ℤ, zero, suc, pos, List, [], ◌∷◌, map, length, get_or, refl, sym, ap, subst, ◌∙◌, arith, Bool, true, false}
use Rattle.std.specs.Prelude.{if◌then◌else◌}
use Rattle.std.specs.List.{range_with_len}
use Rattle.std.specs.Ordering.{int_cmp, nat_cmp}
use Rattle.std.proofs.lemmas.Int.{ints}
use Rattle.std.proofs.Math.ListN.{replicate}
use Rattle.std.proofs.lemmas.List.{length-map}
use Rattle.vx_dtype.specs.declared.float_type.FloatType.{FloatType}
use Rattle.vx_dtype.specs.declared.float_type.FloatType.TheVariants as formats
use Rattle.vx_floats.specs.declared.float.Float.TheVariants.{F32, F64}
use Rattle.vx_floats.specs.Floats.{format_of}
use Rattle.vx_value.specs.Types.{Datum, null, bool, int, float, utf8, bytes, list_of, struct_of}
use Rattle.vx_fn.specs.Functions.{Comparison}
use Rattle.vx_fn.specs.Values.{agrees, compared}
use Rattle.vx_array.specs.declared.floats.Floats.{Floats}
use Rattle.vx_array.specs.declared.validity.Validity.{Validity}
use Rattle.vx_array.specs.Kinds.{bits_in, float_of, floats_in, format_in}
use Rattle.vx_array.specs.Shown.{is_valid, shown}
use Rattle.vx_array.proofs.Mapped.{map_map, map_same, map-shown}
use Rattle.vx_array.proofs.Masked.{get_or-shown}
use Rattle.vx_array_kernels.specs.Choices.{blended}
use Rattle.vx_array_kernels.specs.Keys.{AreKeys, IsReal, float_key, key_row}
use Rattle.vx_array_kernels.specs.Truths.{both_rows}

-- ---- what is made of each row

-- at each place, also where there is none
pub get_or-made : (h : Datum → Datum) (rows : List Datum) (k : ℕ) → h null ≡ null → get_or (map h rows) k null ≡ h (get_or rows k null)
get_or-made h [] k e = sym e
get_or-made h (d ∷ rows) zero e = refl
get_or-made h (d ∷ rows) (suc k) e = get_or-made h rows k e

-- rows that are written over by others
pub map-blended : (h : Datum → Datum) (mask : List Bool) (xs ys : List Datum) → h null ≡ null → map h (blended mask xs ys) ≡ blended mask (map h xs) (map h ys)
map-blended h mask xs ys e =
    map_map h pick (range_with_len 0 (length ys)) ∙ map_same (λ k. h (pick k)) made (range_with_len 0 (length ys)) each ∙ ap (λ n. map made (range_with_len 0 n)) (sym (length-map ys h))
  where
    pick : ℕ → Datum
    pick k = if get_or mask k false then get_or xs k null else get_or ys k null

    made : ℕ → Datum
    made k = if get_or mask k false then get_or (map h xs) k null else get_or (map h ys) k null

    go : (b : Bool) (k : ℕ) → h (if b then get_or xs k null else get_or ys k null) ≡ (if b then get_or (map h xs) k null else get_or (map h ys) k null)
    go true k = sym (get_or-made h xs k e)
    go false k = sym (get_or-made h ys k e)

    each : (k : ℕ) → h (pick k) ≡ made k
    each k = go (get_or mask k false) k

-- ---- keys

-- numbers without a sign stand in one order with and without it
cmp_pos : (m n : ℕ) → int_cmp (pos m) (pos n) ≡ nat_cmp m n
cmp_pos m n = grind (arith, ints)

places_compared : (c : Comparison) (m n : ℕ) → compared c (int (pos m)) (int (pos n)) ≡ bool (agrees c (nat_cmp m n))
places_compared c m n = ap (λ r. bool (agrees c r)) (cmp_pos m n)

-- comparing the places of two floating-point numbers of a format compares them
same_order : (c : Comparison) (f : FloatType) (d e : Datum) → IsReal f d → IsReal f e → compared c (key_row d) (key_row e) ≡ compared c d e
same_order c f null null p q = refl
same_order c f null (float y) p q = refl
same_order c f (float x) null p q = refl
same_order c f (float (F32 a)) (float (F32 b)) p q = places_compared c (float_key (F32 a)) (float_key (F32 b))
same_order c f (float (F64 a)) (float (F64 b)) p q = places_compared c (float_key (F64 a)) (float_key (F64 b))
same_order c f (float (F32 a)) (float (F64 b)) p q = cc
same_order c f (float (F64 a)) (float (F32 b)) p q = cc
same_order c f null (bool b) p q = absurd q
same_order c f null (int z) p q = absurd q
same_order c f null (utf8 s) p q = absurd q
same_order c f null (bytes b) p q = absurd q
same_order c f null (list_of vs) p q = absurd q
same_order c f null (struct_of vs) p q = absurd q
same_order c f (float x) (bool b) p q = absurd q
same_order c f (float x) (int z) p q = absurd q
same_order c f (float x) (utf8 s) p q = absurd q
same_order c f (float x) (bytes b) p q = absurd q
same_order c f (float x) (list_of vs) p q = absurd q
same_order c f (float x) (struct_of vs) p q = absurd q
same_order c f (bool b) e p q = absurd p
same_order c f (int z) e p q = absurd p
same_order c f (utf8 s) e p q = absurd p
same_order c f (bytes b) e p q = absurd p
same_order c f (list_of vs) e p q = absurd p
same_order c f (struct_of vs) e p q = absurd p

-- and so row by row
pub keys_compared : (c : Comparison) (f : FloatType) (n : ℕ) (xs ys ks ls : List Datum) → AreKeys f xs ks → AreKeys f ys ls → both_rows n (compared c) ks ls ≡ both_rows n (compared c) xs ys
keys_compared c f n xs ys ks ls left right =
    map_same (λ k. compared c (get_or ks k null) (get_or ls k null)) (λ k. compared c (get_or xs k null) (get_or ys k null)) (range_with_len 0 n)
    (λ k. ap (λ d. compared c d (get_or ls k null)) (at xs ks left.1 k) ∙ ap (compared c (key_row (get_or xs k null))) (at ys ls right.1 k) ∙ same_order c f (get_or xs k null) (get_or ys k null) (left.0 k) (right.0 k))
  where
    at : (rows keys : List Datum) → keys ≡ map key_row rows → (k : ℕ) → get_or keys k null ≡ key_row (get_or rows k null)
    at rows keys are k = ap (λ l. get_or l k null) are ∙ get_or-made key_row rows k refl

-- keys are as many as rows
pub keys_long : (f : FloatType) (rows keys : List Datum) (n : ℕ) → AreKeys f rows keys → length rows ≡ n → length keys ≡ n
keys_long f rows keys n are long = ap length are.1 ∙ length-map rows key_row ∙ long

-- ---- of buffers

-- the format of a number that bits stand for
own_format : (f : FloatType) (b : ℕ) → format_of (float_of f b) ≡ f
own_format formats.F32 b = refl
own_format formats.F64 b = refl

bits_real : (f : FloatType) (bs : List ℕ) (k : ℕ) → IsReal f (get_or (map float (map (float_of f) bs)) k null)
bits_real f [] k = tt
bits_real f (b ∷ bs) zero = own_format f b
bits_real f (b ∷ bs) (suc k) = bits_real f bs k

-- floating-point numbers that are shown
pub floats_keyed : (f : FloatType) (fs : Floats) (v : Validity) (ks : List ℤ) (rows keys : List Datum) → format_in fs ≡ f → ks ≡ map (λ x. pos (float_key x)) (floats_in fs) → rows ≡ shown v (map float (floats_in fs)) → keys ≡ shown v (map int ks) → AreKeys f rows keys
floats_keyed f fs v ks rows keys is are held seen = (real, seen ∙ ap (λ l. shown v (map int l)) are ∙ ap (shown v) (map_map int (λ x. pos (float_key x)) (floats_in fs) ∙ sym (map_map key_row float (floats_in fs))) ∙ sym (map-shown key_row v (map float (floats_in fs)) refl) ∙ ap (map key_row) (sym held))
  where
    one : (b : Bool) (d : Datum) → IsReal f d → IsReal f (if b then d else null)
    one true d r = r
    one false d r = tt

    real : (k : ℕ) → IsReal f (get_or rows k null)
    real k =
        subst (IsReal f) (sym (ap (λ l. get_or l k null) held ∙ get_or-shown v (map float (floats_in fs)) k))
        (one (is_valid v k) (get_or (map float (floats_in fs)) k null) (subst (λ g. IsReal f (get_or (map float (map (float_of g) (bits_in fs))) k null)) (sym is) (bits_real f (bits_in fs) k)))

-- one value in all rows
pub same_keyed : (f : FloatType) (n : ℕ) (d e : Datum) (rows keys : List Datum) → IsReal f d → e ≡ key_row d → rows ≡ replicate n d → keys ≡ replicate n e → AreKeys f rows keys
same_keyed f n d e rows keys real is held seen = (λ k. subst (λ l. IsReal f (get_or l k null)) (sym held) (each n k), seen ∙ ap (replicate n) is ∙ sym (over n) ∙ ap (map key_row) (sym held))
  where
    each : (n k : ℕ) → IsReal f (get_or (replicate n d) k null)
    each zero k = tt
    each (suc n) zero = real
    each (suc n) (suc k) = each n k

    over : (n : ℕ) → map key_row (replicate n d) ≡ replicate n (key_row d)
    over zero = refl
    over (suc n) = ap (λ l. key_row d ∷ l) (over n)
