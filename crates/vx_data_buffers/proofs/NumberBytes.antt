-- Numbers that are written as bytes.
use Rattle.std.proofs.Common.{◌≡◌, ℕ, ◌+◌, ◌*◌, ◌≤◌, List, [], ◌∷◌, ◌++◌, length, take, drop, map, refl, sym, ap, ◌∙◌, subst, arith, add-one, ℤ}
use Rattle.std.specs.Prelude.{Some, option_map}
use Rattle.std.proofs.Math.Seq.{drop-append_seam}
use Rattle.std.proofs.lemmas.List.{drop-append-le, length-append, length-drop, take-append-le, take_all}
use Rattle.std.proofs.lemmas.Bool.{le-leb}
use Rattle.std.proofs.lemmas.Nat.{mul-le}
use Rattle.std.proofs.Math.Nat.{suc-mul}
use Rattle.vx_dtype.specs.declared.dtype.PType.{PType}
use Rattle.vx_data_buffers.specs.Arrays.{AreNumbers}
use Rattle.vx_data_buffers.specs.Bytes.{number_at, number_of, part, width}
use Rattle.vx_data_buffers.specs.Laid.{AddsNumber}
use Rattle.vx_data_buffers.proofs.Columns.{number_more}

mul_suc : (i w : ℕ) → (i + 1) * w ≡ i * w + w
mul_suc i w = ap (λ k. k * w) (add-one i) ∙ suc-mul i w

-- as many bytes as so many numbers have
pub record SoFar (p : PType) (bytes : List ℕ) (ns : List ℤ) : Type 0 where
  pub long : length bytes ≡ length ns * width p
  pub are : AreNumbers p bytes (length ns) ns

-- a part is the same where more bytes follow
part_before : (bytes more : List ℕ) (from size : ℕ) → from + size ≤ length bytes → part (bytes ++ more) from size ≡ part bytes from size
part_before bytes more from size h =
    let long = length-append bytes more in
    let room : size ≤ length (drop from bytes) = omega (arith, length-drop from bytes) in
    let whole : from + size ≤ length (bytes ++ more) = omega (arith, long) in
    let same : take size (drop from (bytes ++ more)) ≡ take size (drop from bytes) = ap (take size) (drop-append-le from bytes more (omega arith)) ∙ take-append-le size (drop from bytes) more room in
    rw (le-leb (from + size) (length (bytes ++ more)) whole, le-leb (from + size) (length bytes) h) (ap Some same)

-- the part that was added
part_behind : (bytes new : List ℕ) (from size : ℕ) → from ≡ length bytes → size ≡ length new → part (bytes ++ new) from size ≡ Some new
part_behind bytes new from size at wide =
    let long = length-append bytes new in
    let whole : from + size ≤ length (bytes ++ new) = omega (arith, long, at, wide) in
    let read : take size (drop from (bytes ++ new)) ≡ new =
    ap (λ n. take size (drop n (bytes ++ new))) at ∙ ap (take size) (drop-append_seam bytes new) ∙ ap (λ n. take n new) wide ∙ take_all (length new) new (omega arith) in
    rw (le-leb (from + size) (length (bytes ++ new)) whole) (ap Some read)

-- numbers are the same where more bytes follow
are_before : (p : PType) (bytes more : List ℕ) (ns : List ℤ) → SoFar p bytes ns → AreNumbers p (bytes ++ more) (length ns) ns
are_before p bytes more ns so_far = (
  refl,
  λ i h.
      let below : (i + 1) * width p ≤ length ns * width p = mul-le (i + 1) (width p) (length ns) (width p) (omega arith) (omega arith) in
      let next : (i + 1) * width p ≡ i * width p + width p = mul_suc i (width p) in
      ap (option_map (number_of p)) (part_before bytes more (i * width p) (width p) (omega (arith, below, next, so_far.long))) ∙ so_far.are.1 i h,
)

-- one more number
pub spelled_more : {A : Type 0} (f : A → ℤ) (p : PType) (bytes after : List ℕ) (xs ys : List A) (x : A) → SoFar p bytes (map f xs) → AddsNumber p bytes (f x) after → ys ≡ xs ++ x ∷ [] → SoFar p after (map f ys)
spelled_more f p bytes after xs ys x so_far adds grown =
    let new = adds.0 in
    let n = length (map f xs) in
    let is : after ≡ bytes ++ new = adds.1 in
    let wide : length new ≡ width p = adds.2 in
    let before : AreNumbers p after n (map f xs) = subst (λ bs. AreNumbers p bs n (map f xs)) (sym is) (are_before p bytes new (map f xs) so_far) in
    let here : number_at p after n ≡ Some (f x) =
    ap (λ bs. number_at p bs n) is ∙ ap (option_map (number_of p)) (part_behind bytes new (n * width p) (width p) (sym so_far.long) (sym wide)) ∙ ap Some adds.3 in
    let more = number_more f p after xs ys x n before here grown in
    let count : length (map f ys) ≡ n + 1 = more.0 in record {
      long = ap length is ∙ length-append bytes new ∙ ap (λ m. m + length new) so_far.long ∙ ap (λ m. n * width p + m) wide ∙ sym (mul_suc n (width p)) ∙ ap (λ m. m * width p) (sym count);
      are = subst (λ m. AreNumbers p after m (map f ys)) (sym count) more;
    }
