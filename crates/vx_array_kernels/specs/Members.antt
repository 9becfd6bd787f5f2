-- Values that are looked up among the elements of one list.
use Rattle.std.specs.Prelude.{◌≡◌, ◌<◌, ◌+ℤ◌, ℕ, ℤ, pos, List, Bool, false, get_or, length}
use Rattle.std.specs.Borrow.{Bor}
use Rattle.std.specs.HashSet.{HashSet, contains}
use Rattle.std.specs.List.{list_any}
use Rattle.std.specs.Ordering.{int_eq}
use Rattle.std.specs.Str.{bytes_eq}
use Rattle.vx_value.specs.Types.{Data, Datum, null, utf8, is_null_datum}
use Rattle.vx_fn.specs.Values.{has_element}
use Rattle.vx_array_kernels.specs.Buckets.{is_there}
use Rattle.vx_array_kernels.specs.declared.buckets.Buckets.{Buckets}

-- whether the number is one of these
abbrev pub has_number : {A : Type 0} → (A → ℤ) → List A → ℤ → Bool
has_number number xs n = list_any (λ x. int_eq (number x) n) xs

-- the buckets have the code of a number, so far above it, just where the number is one of these
abbrev pub HasCodes : {A : Type 0} → (A → ℤ) → ℤ → Buckets → List A → Type 0
HasCodes number above b xs = (n : ℤ) (c : ℕ) → pos c ≡ n +ℤ above → is_there b c ≡ has_number number xs n

-- whether two texts that are lent have the same bytes
abbrev pub same_bytes : Bor (List ℕ) → Bor (List ℕ) → Bool
same_bytes a b = bytes_eq a.now b.now

-- the set has a text just where it is one of the elements
abbrev pub HasTexts : {S : Type 0} → HashSet (Bor (List ℕ)) S → Data → Type 0
HasTexts set ws = (q : Bor (List ℕ)) → contains same_bytes set q ≡ has_element ws (utf8 q.now)

-- as many bits as rows say of each row that isn't null whether it is one of the elements
abbrev pub TellsMembers : Data → List Bool → List Datum → Type 0
TellsMembers ws told rows = (length told ≡ length rows) × ((k : ℕ) → k < length rows → is_null_datum (get_or rows k null) ≡ false → get_or told k false ≡ has_element ws (get_or rows k null))
