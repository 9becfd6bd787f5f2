-- Numbers in buckets, by which they are looked up.
use Rattle.std.specs.Prelude.{ℕ, ◌/◌, ◌%◌, ◌*◌, ◌^◌, ◌==◌, List, [], get_or, Bool}
use Rattle.std.specs.List.{list_any}
use Rattle.vx_array_kernels.specs.declared.buckets.Buckets.{Buckets}

-- the place of a number's bucket: the upper bits of a product that spreads numbers which lie side by side
abbrev pub place_of : ℕ → ℕ → ℕ
place_of shift n = n * 0x9E37_79B9_7F4A_7C15 % 2 ^ 64 / 2 ^ (shift % 64)

-- whether the number is one of these
abbrev pub is_one_of : List ℕ → ℕ → Bool
is_one_of ns n = list_any (λ m. m == n) ns

-- whether the number's bucket has it
abbrev pub is_there : Buckets → ℕ → Bool
is_there b n = is_one_of (get_or b.buckets.items (place_of b.shift n) []) n
