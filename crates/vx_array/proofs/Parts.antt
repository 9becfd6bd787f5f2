-- Parts of lists.
use Rattle.std.proofs.Common.{◌≡◌, ℕ, ◌+◌, ◌-◌, ◌<◌, ◌≤◌, List, map, length, get_or, take, drop, sym, ap, ◌∙◌, arith, length-take, length-drop, Vec, Global}
use Rattle.std.proofs.lemmas.List.{same_lists, get_or-take, get_or-drop, take-map, drop-map, take-replicate, drop-replicate}
use Rattle.std.proofs.Math.ListN.{replicate}

-- a part of a part
pub part_again : {A : Type 0} (xs : List A) (a n b l : ℕ) → a + n ≤ length xs → b + l ≤ n → take l (drop (a + b) xs) ≡ take l (drop b (take n (drop a xs)))
part_again xs a n b l whole within =
    same_lists (take l (drop (a + b) xs)) (take l (drop b (take n (drop a xs)))) (simp (length-take, length-drop) (omega arith))
    (λ k d lt.
    let low : k < l = omega (arith, length-take l (drop (a + b) xs)) in
    let here : (a + b) + k ≡ a + (b + k) = omega arith in
    let inside : b + k < n = omega arith in
    get_or-take l (drop (a + b) xs) k d low ∙ get_or-drop (a + b) xs k d ∙ ap (λ i. get_or xs i d) here
    ∙ sym (get_or-take l (drop b (take n (drop a xs))) k d low ∙ get_or-drop b (take n (drop a xs)) k d ∙ get_or-take n (drop a xs) (b + k) d inside ∙ get_or-drop a xs (b + k) d))

-- a part of what is made of each
pub part-map : {A B : Type 0} (f : A → B) (from len : ℕ) (xs : List A) → take len (drop from (map f xs)) ≡ map f (take len (drop from xs))
part-map f from len xs = ap (take len) (drop-map f from xs) ∙ take-map f len (drop from xs)

-- a part of a part, seen through what holds them
pub moved_bits : {A : Type 0} (xs ys seen : List A) (a n b l : ℕ) → ys ≡ xs → take n (drop a xs) ≡ seen → a + n ≤ length xs → b + l ≤ length seen → take l (drop (a + b) ys) ≡ take l (drop b seen)
moved_bits xs ys seen a n b l same is whole within =
    ap (λ zs. take l (drop (a + b) zs)) same ∙ part_again xs a n b l whole (omega (arith, ap length is, length-take n (drop a xs))) ∙ ap (λ zs. take l (drop b zs)) is

pub moved_part : {A : Type 0} (v w : Vec A Global) (seen : List A) (a n b l : ℕ) → w ≡ v → take n (drop a v.items) ≡ seen → a + n ≤ length v.items → b + l ≤ length seen → take l (drop (a + b) w.items) ≡ take l (drop b seen)
moved_part v w seen a n b l same is whole within = moved_bits v.items w.items seen a n b l (ap (λ u. u.items) same) is whole within

-- a part of so many copies
pub part-replicate : {A : Type 0} (n from len : ℕ) (x : A) → from + len ≤ n → replicate len x ≡ take len (drop from (replicate n x))
part-replicate n from len x le = sym (ap (take len) (drop-replicate from n x) ∙ take-replicate len (n - from) x (omega arith))
