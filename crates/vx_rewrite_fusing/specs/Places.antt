-- The conjuncts of a tree while pairs are merged, and where the ranges of an item stand. No public contract names this file.
use Rattle.std.specs.Prelude.{◌≡◌, ◌⊎◌, ℕ, zero, suc, ◌<◌, ◌≤◌, List, [], ◌∷◌, ◌++◌, Option, Some, None, Result, Ok, Err, Bool, true, false, IsFalse, IsTrue, option_map, length, set, slice_get}
use Rattle.std.specs.HashMap.{HashMap, get_by}
use Rattle.std.specs.declared.alloc.Global.{Global}
use Rattle.std.specs.declared.boxed.Box.{Box}
use denote.Ref.{Bor}
use Rattle.vx_dtype.specs.declared.error.VortexError.{VortexError}
use Rattle.vx_dtype.specs.declared.error.VortexError.TheVariants.{OutOfMemory}
use Rattle.vx_value.specs.Types.{LogicalType}
use Rattle.vx_tree.specs.Equality.{equal_bound}
use Rattle.vx_tree.specs.Trees.{BoundTree}
use Rattle.vx_tree.specs.Views.{bound_of}
use Rattle.vx_tree.specs.declared.bound.BoundExpression.{BoundExpression}
use Rattle.vx_rewrite_fusing.specs.declared.heads.Firsts.{Firsts}
use Rattle.vx_rewrite_fusing.specs.declared.heads.Heads.{Heads}
use Rattle.vx_rewrite_fusing.specs.declared.places.Link.{Link}
use Rattle.vx_rewrite_fusing.specs.declared.places.Places.{Places}
use Rattle.vx_rewrite_fusing.specs.declared.places.Place.{Place}
use Rattle.vx_rewrite_fusing.specs.declared.places.Place.TheVariants.{Other, Open, Merged, Gone}
use Rattle.vx_rewrite_fusing.specs.declared.ranges.RangeComparison.{RangeComparison}
use Rattle.vx_rewrite_fusing.specs.declared.ranges.Side.{Side}
use Rattle.vx_rewrite_fusing.specs.declared.ranges.Side.TheVariants.{Below, Above}
use Rattle.vx_rewrite_fusing.specs.Conjuncts.{and_node, and_of, is_and, range_of, tree_in, conjoined, MergeTo}
use Rattle.vx_rewrite_fusing.specs.Finding.{range_seen}

-- ---- the ranges of an item

-- what is read of the element at an index, if there is one
abbrev pub read_at : {A B : Type 0} → (A → Option B) → List A → ℕ → Option B
read_at f [] i = None
read_at f (x ∷ xs) zero = f x
read_at f (x ∷ xs) (suc i) = read_at f xs i

-- the other side
abbrev pub opposite : Side → Side
opposite Below = Above
opposite Above = Below

-- a side, and the item that is bounded from it
abbrev pub Bounded : Type 0
Bounded = Side × BoundTree

-- the same item, bounded from the other side
abbrev pub turned : Bounded → Bounded
turned k = (opposite k.0, k.1)

-- what the range at a place bounds, if it is still to be merged
abbrev pub bounded_by : Place → Option Bounded
bounded_by (Open r link) = Some (r.side, bound_of r.item.now)
bounded_by p = None

abbrev pub bounded_at : List Place → ℕ → Option Bounded
bounded_at = read_at bounded_by

-- the place that is kept as the next one
abbrev pub next_of : Place → Option ℕ
next_of (Open r link) = link.next
next_of p = None

abbrev pub next_at : List Place → ℕ → Option ℕ
next_at = read_at next_of

-- the last place below n at which k is bounded, if there is one
abbrev pub IsLast : List Place → Bounded → ℕ → Option ℕ → Type 0
IsLast ps k n None = (i : ℕ) → i < n → bounded_at ps i ≡ Some k → ⊥
IsLast ps k n (Some j) = (j < n) × (bounded_at ps j ≡ Some k) × ((i : ℕ) → j < i → i < n → bounded_at ps i ≡ Some k → ⊥)

-- what a map has at an item
abbrev pub place_at : {X S : Type 0} → HashMap (Bor BoundExpression) X S → BoundTree → Option X
place_at m b = get_by (λ q. equal_bound b (bound_of q.now)) m

-- the number of an item
abbrev pub number_at : Heads → Bor BoundExpression → Option ℕ
number_at h x = place_at h.numbers (bound_of x.now)

-- the place that is kept as the first one of that side
abbrev pub first_of : Firsts → Side → Option ℕ
first_of f Below = f.below
first_of f Above = f.above

-- the same of a number, if there is one
abbrev pub first_at : List Firsts → Side → ℕ → Option ℕ
first_at fs s = read_at (λ f. first_of f s) fs

abbrev pub first_by : List Firsts → Side → Option ℕ → Option ℕ
first_by fs s None = None
first_by fs s (Some n) = first_at fs s n

-- the same of an item
abbrev pub head_of : Heads → Side → Bor BoundExpression → Option ℕ
head_of h s x = first_by h.firsts.items s (number_at h x)

-- an item's number is a place in the list, and no other item's
pub record IsNumbered (h : Heads) : Type 0 where
  pub inside : (x : Bor BoundExpression) (n : ℕ) → number_at h x ≡ Some n → n < length h.firsts.items
  pub apart : (x y : Bor BoundExpression) (n : ℕ) → number_at h x ≡ Some n → number_at h y ≡ Some n → bound_of x.now ≡ bound_of y.now

-- nothing that is kept changes, and items that have numbers keep them
abbrev pub KeepsNumbers : Heads → Heads → Type 0
KeepsNumbers h g = ((s : Side) (x : Bor BoundExpression) → head_of g s x ≡ head_of h s x) × ((x : Bor BoundExpression) (n : ℕ) → number_at h x ≡ Some n → number_at g x ≡ Some n)

-- one place is kept anew by its number
abbrev pub SetsFirst : List Firsts → List Firsts → Side → ℕ → Option ℕ → Type 0
SetsFirst fs gs s n o = (length gs ≡ length fs) × ((t : Side) (m : ℕ) →
    let same : Type 0 = (t ≡ s) × (m ≡ n) in
    (same → m < length fs → first_at gs t m ≡ o) × ((same → ⊥) → first_at gs t m ≡ first_at fs t m))

-- one place is kept anew
abbrev pub SetsHead : Heads → Heads → Side → Bor BoundExpression → Option ℕ → Type 0
SetsHead h g s x o = (t : Side) (y : Bor BoundExpression) →
    let same : Type 0 = (t ≡ s) × (bound_of y.now ≡ bound_of x.now) in
    (same → head_of g t y ≡ o) × ((same → ⊥) → head_of g t y ≡ head_of h t y)

-- the first place of each side and item is kept, and behind each place the next one; places stand from the last one to the first
pub record IsLinked (places : Places) : Type 0 where
  pub heads : (s : Side) (x : Bor BoundExpression) → IsLast places.list.items (s, bound_of x.now) (length places.list.items) (head_of places.heads s x)
  pub nexts : (i : ℕ) (k : Bounded) → bounded_at places.list.items i ≡ Some k → IsLast places.list.items k i (next_at places.list.items i)
  pub numbered : IsNumbered places.heads
  pub own : (i : ℕ) (r : RangeComparison) (link : Link) → slice_get places.list.items i ≡ Some (Open r link) → number_at places.heads r.item ≡ Some link.number

-- some place is one of the item
abbrev pub Has : List Place → Bounded → Type 0
Has [] k = ⊥
Has (p ∷ ps) k = (bounded_by p ≡ Some k) ⊎ Has ps k

-- no item is bounded at a place of the one list from one side and at one of the other from the other side
abbrev pub NoPair : List Place → List Place → Type 0
NoPair ps qs = (k : Bounded) → Has ps k → Has qs (turned k) → ⊥

-- the one list bounds nothing that the other doesn't
abbrev pub IsWithin : List Place → List Place → Type 0
IsWithin ps qs = (k : Bounded) → Has ps k → Has qs k

-- ---- what is left of a tree

-- whether a conjunct was merged
abbrev pub has_merged : List Place → Bool
has_merged [] = false
has_merged (Merged b ∷ ps) = true
has_merged (Gone ∷ ps) = true
has_merged (p ∷ ps) = has_merged ps

-- o is what is left of the tree: its conjuncts with what is merged of them, each And typed anew
pub data Holds : BoundTree → List Place → Option BoundTree → Type 0 where
  no_range : {c : BoundTree} → IsFalse (is_and c) → range_of c ≡ None → Holds c (Other ∷ []) (Some c)
  open_range : {c : BoundTree} {r : RangeComparison} {next : Link} → IsFalse (is_and c) → range_of c ≡ Some (range_seen r) → Holds c (Open r next ∷ []) (Some c)
  merged_range : {c : BoundTree} {b : Box BoundExpression Global} → IsFalse (is_and c) → IsFalse (is_and (tree_in b)) → range_of (tree_in b) ≡ None → Holds c (Merged b ∷ []) (Some (tree_in b))
  gone_range : {c : BoundTree} → IsFalse (is_and c) → Holds c (Gone ∷ []) None
  both : {t : LogicalType} {l r : BoundTree} {l' r' : Option BoundTree} {ls rs : List Place} → and_node t l r ≡ and_of l r → Holds l ls l' → Holds r rs r' → Holds (and_node t l r) (rs ++ ls) (conjoined l' r')

-- what is kept of a conjunct with that range
abbrev pub IsPlaceOf : Option RangeComparison → Place → Type 0
IsPlaceOf None p = p ≡ Other
IsPlaceOf (Some r) p = (next : Link) × (p ≡ Open r next)

-- nothing is merged yet
abbrev pub IsNoted : BoundTree → List Place → Type 0
IsNoted l ps = Holds l ps (Some l) × (has_merged ps ≡ false)

-- what is left of a tree, None where all stays
abbrev pub rests : Option (Option (Box BoundExpression Global)) → Option (Option BoundTree)
rests None = None
rests (Some o) = Some (option_map tree_in o)

-- what is left of an And, by what is left of its children
abbrev pub rest_of : BoundTree → Option (Option BoundTree) → BoundTree → Option (Option BoundTree) → Option (Option BoundTree)
rest_of x (Some l) y (Some r) = Some (conjoined l r)
rest_of x (Some l) y None = Some (conjoined l (Some y))
rest_of x None y (Some r) = Some (conjoined (Some x) r)
rest_of x None y None = None

-- what is left of a tree is told: None where it is the tree, and something changed where it isn't None
abbrev pub IsTold : Bool → BoundTree → Option BoundTree → Option (Option (Box BoundExpression Global)) → Type 0
IsTold changed b o None = o ≡ Some b
IsTold changed b o (Some rest) = IsTrue changed × (option_map tree_in rest ≡ o)

-- the last places are taken, and what is left of the tree is told
abbrev pub IsLeftOver : Bool → List Place → List Place → BoundTree → Option BoundTree → Result (Option (Option (Box BoundExpression Global))) VortexError → Type 0
IsLeftOver changed now front b o (Ok rest) = (now ≡ front) × IsTold changed b o rest
IsLeftOver changed now front b o (Err e) = IsTrue changed × (e ≡ OutOfMemory)

-- what a merged conjunct is, or one that is gone
abbrev pub became_place : Option (Box BoundExpression Global) → Place
became_place (Some b) = Merged b
became_place None = Gone

-- ---- one pair

-- no place from there on bounds the item of that conjunct from the other side
abbrev pub NoneFrom : List Place → ℕ → Place → Type 0
NoneFrom ps from p = (i : ℕ) (k : Bounded) → bounded_by p ≡ Some k → from ≤ i → bounded_at ps i ≡ Some (turned k) → ⊥

-- that place is the first one that does
abbrev pub IsFirstOf : List Place → ℕ → Place → Type 0
IsFirstOf ps i p = (k : Bounded) × (bounded_by p ≡ Some k) × IsLast ps (turned k) (length ps) (Some i)

-- the first ranges of an item from opposite sides
abbrev pub IsPair : List Place → ℕ → ℕ → Type 0
IsPair ps left right = (k : Bounded) × IsLast ps (turned k) (length ps) (Some left) × IsLast ps k (length ps) (Some right)

-- they are merged: the one is the Between, and the other is gone
abbrev pub PairIsMerged : List Place → ℕ → ℕ → List Place → Type 0
PairIsMerged ps left right qs = (b : Box BoundExpression Global) × (qs ≡ set (set ps left (Merged b)) right Gone) × ((c d : RangeComparison) (after next : Link) (x y : BoundTree) →
    slice_get ps left ≡ Some (Open c after) → slice_get ps right ≡ Some (Open d next) → range_of x ≡ Some (range_seen c) → range_of y ≡ Some (range_seen d) → MergeTo x y (tree_in b))
