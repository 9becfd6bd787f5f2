-- Bits that are written as bytes.
use Rattle.std.proofs.Common.{◌≡◌, ℕ, zero, suc, ◌+◌, ◌*◌, ◌<◌, ◌/◌, ◌%◌, Bool, true, false, List, length, get_or, refl, sym, subst, ap, ◌∙◌, arith}
use Rattle.std.specs.Global.{Vec}
use Rattle.std.specs.Prelude.{◌==◌, IfOk, Result, Ok, Err, Some, option_map, if◌then◌else◌}
use Rattle.std.specs.Int.{bit_at, div_ceil}
use Rattle.std.proofs.lemmas.List.FromFn.{get_or-map-range_with_len, length-map-range_with_len}
use Rattle.std.proofs.lemmas.Option.{slice_get-get_or}
use Rattle.vx_array.specs.declared.validity.Validity.{Validity}
use Rattle.vx_array.specs.Shown as shown
use Rattle.std.proofs.lemmas.Grind.{div_ceil_times}
use Rattle.std.proofs.Math.Dec.{eqb-suc-zero}
use Rattle.std.proofs.lemmas.Nat.Bits.{bit_at-suc, bit_at_lowest}
use Rattle.vx_data_buffers.specs.Laid.{SayValid, packed_bits, packed_bytes}
use Rattle.vx_data_buffers.specs.Arrays.{AreBits}

low : (b : Bool) (n : ℕ) → (bit_at ((if b then 1 else 0) + 2 * n) 0 == 1) ≡ b
low true n = let e : (1 + 2 * n) % 2 ≡ 1 = omega arith in ap (λ m. m == 1) (bit_at_lowest (1 + 2 * n) ∙ e)
low false n = let e : (0 + 2 * n) % 2 ≡ 0 = omega arith in ap (λ m. m == 1) (bit_at_lowest (0 + 2 * n) ∙ e)

high : (b : Bool) (n : ℕ) → ((if b then 1 else 0) + 2 * n) / 2 ≡ n
high true n = omega arith
high false n = omega arith

-- each bit of the number is the truth value of that index
pub packed_bit : (f : ℕ → Bool) (n k : ℕ) → k < n → (bit_at (packed_bits f n) k == 1) ≡ f k
packed_bit f zero k h = absurd (omega arith)
packed_bit f (suc n) zero h = low (f 0) (packed_bits (λ k. f (suc k)) n)
packed_bit f (suc n) (suc k) h =
    ap (λ m. m == 1) (bit_at-suc (packed_bits f (suc n)) k ∙ ap (λ m. bit_at m k) (high (f 0) (packed_bits (λ k. f (suc k)) n)))
    ∙ packed_bit (λ k. f (suc k)) n k (omega arith)

-- one more bit before others
pub packed_more : (f : ℕ → Bool) (n : ℕ) (b : Bool) (rest whole : ℕ) → b ≡ f 0 → rest ≡ packed_bits (λ k. f (suc k)) n → whole ≡ (if b then 1 else 0) + 2 * rest → whole ≡ packed_bits f (suc n)
packed_more f n b rest whole bit so_far is = is ∙ ap (λ c. (if c then 1 else 0) + 2 * rest) bit ∙ ap (λ m. (if f 0 then 1 else 0) + 2 * m) so_far

-- the bits of the bytes are the truth values
pub packed_are : (bits : List Bool) → AreBits (packed_bytes bits) (length bits) bits
packed_are bits = (
  refl,
  λ i h.
      let n = length bits in
      let up = div_ceil_times n 8 (omega arith) in
      let within : i / 8 < div_ceil n 8 = omega (arith, up.0) in
      let f : ℕ → ℕ = λ k. packed_bits (λ j. get_or bits (k * 8 + j) false) 8 in
      let g : ℕ → Bool = λ j. get_or bits (i / 8 * 8 + j) false in
      let low : i % 8 < 8 = omega arith in
      let back : i / 8 * 8 + i % 8 ≡ i = omega arith in
      ap (option_map (λ byte. bit_at byte (i % 8) == 1))
      (slice_get-get_or (packed_bytes bits) (i / 8) 0 (subst (λ m. i / 8 < m) (sym (length-map-range_with_len f 0 (div_ceil n 8))) within)
      ∙ ap Some (get_or-map-range_with_len f 0 (div_ceil n 8) (i / 8) (i / 8) 0 within (omega arith)))
      ∙ ap Some (packed_bit g 8 (i % 8) low ∙ ap (λ k. get_or bits k false) back),
)

not_none : (n : ℕ) → 0 < n → (n == 0) ≡ false
not_none zero h = absurd (omega arith)
not_none (suc n) h = eqb-suc-zero n

-- a byte is there for each row
some_byte : (bits : List Bool) (i : ℕ) → i < length bits → (length (packed_bytes bits) == 0) ≡ false
some_byte bits i h =
    let n = length bits in
    let up = div_ceil_times n 8 (omega arith) in
    let long = length-map-range_with_len (λ (k : ℕ). packed_bits (λ j. get_or bits (k * 8 + j) false) 8) 0 (div_ceil n 8) in
    not_none (length (packed_bytes bits)) (omega (arith, up.0, long, h))

-- bits that say of each row whether it is valid
pub packed_valid : (bits : List Bool) (v : Validity) → ((i : ℕ) → i < length bits → get_or bits i false ≡ shown.is_valid v i) → SayValid (packed_bytes bits) (length bits) v
packed_valid bits v same i h = rw (some_byte bits i h, (packed_are bits).1 i h) (ap Ok (same i h))

-- the same of a buffer that is made
pub valid_from : {E : Type 0} (r : Result (Vec ℕ) E) (bits : List Bool) (v : Validity) (rows : ℕ) → IfOk r (λ b. b.items ≡ packed_bytes bits) → length bits ≡ rows
    → ((i : ℕ) → i < length bits → get_or bits i false ≡ shown.is_valid v i) → IfOk r (λ b. SayValid b.items rows v)
valid_from (Ok b) bits v rows is long same = subst (λ n. SayValid b.items n v) long (rw is (packed_valid bits v same))
valid_from (Err e) bits v rows is long same = tt
