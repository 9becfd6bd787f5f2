-- How many records are kept, by what was read and of one part after another.
use Rattle.std.proofs.Common.{◌≡◌, ◌≤◌, ◌+◌, ℕ, List, [], ◌∷◌, ◌++◌, map, Bool, refl, sym, ap, ◌∙◌, inl, inr, arith}
use Rattle.std.specs.Prelude.{cond, count_by}
use Rattle.std.proofs.lemmas.List.Sums.{count_by-le-length, sum_by-append, sum_by-cons}
use Rattle.vx_value.specs.Types.{LogicalType}
use Rattle.vx_value.specs.Views.{value_of}
use Rattle.vx_value.specs.declared.value.Value.{Value}
use Rattle.vx_fn.specs.Values.{is_true}
use Rattle.vx_tree.specs.Meaning.{mean}
use Rattle.vx_tree.specs.Trees.{Tree}
use Rattle.vx_records.specs.Chunks.{IsStep}
use Rattle.vx_records.specs.Reading.{Reading}
use Rattle.vx_records.specs.Records.{Record, holds, kept_count, meanings}

of_map : {X Y : Type 0} (p : Y → Bool) (f : X → Y) (xs : List X) → count_by p (map f xs) ≡ count_by (λ x. p (f x)) xs
of_map p f [] = refl
of_map p f (x ∷ xs) = sum_by-cons (λ y. cond (p y) 1 0) (f x) (map f xs) ∙ ap (λ n. cond (p (f x)) 1 0 + n) (of_map p f xs) ∙ sym (sum_by-cons (λ x. cond (p (f x)) 1 0) x xs)

-- by what was read
pub count_read : (e : Tree) (s : LogicalType) (vs : List Value) (rs : List Record) (n : ℕ) → n ≡ count_by (λ v. is_true (value_of v)) vs → map value_of vs ≡ meanings e s rs → n ≡ kept_count e s rs
count_read e s vs rs n is meant = is ∙ sym (of_map is_true value_of vs) ∙ ap (count_by is_true) meant ∙ of_map is_true (λ (r : Record). mean e s r.row) rs

-- of one part after another
pub count_on : (e : Tree) (s : LogicalType) (xs ys : List Record) (n m : ℕ) → n ≡ kept_count e s xs → m ≡ kept_count e s ys → n + m ≡ kept_count e s (xs ++ ys)
count_on e s xs ys n m first second = ap (λ k. k + m) first ∙ ap (λ k. kept_count e s xs + k) second ∙ sym (sum_by-append (λ (r : Record). cond (holds e s r) 1 0) xs ys)

-- no more than were asked for
pub count_few : {R : Type 0} (leaves : R → List Reading → Type 0) (n : ℕ) (before after : R) (last : Bool) (e : Tree) (s : LogicalType) (k : ℕ) → IsStep leaves n before after last (λ rs. k ≡ kept_count e s rs) → k ≤ n
count_few leaves n before after last e s k (rs, (reads, inl full), is, same) = let few = count_by-le-length (holds e s) rs in omega arith
count_few leaves n before after last e s k (rs, (reads, inr (short, ends)), is, same) = let few = count_by-le-length (holds e s) rs in omega arith
