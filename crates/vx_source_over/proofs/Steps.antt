-- What settling says from step to step, and the refusal that ends it.
use Rattle.std.proofs.Common.{◌≡◌, List, [], ◌∷◌, ◌++◌, Result, Ok, Err, refl, ap}
use Rattle.std.specs.Prelude.{Option, option_map}
use Rattle.vx_tree.specs.Trees.{Tree, Trees, no_tree, tree}
use Rattle.vx_source_over.specs.declared.error.OverError.{OverError}
use Rattle.vx_source_over.specs.declared.error.OverError.TheVariants.{OutOfMemory, Unexpected, Misfit}
use Rattle.vx_source_over.specs.declared.nodes.Settled.{Settled}
use Rattle.vx_source_over.specs.Reading.{Refuses}
use Rattle.vx_source_over.specs.Settling.{Refusal, when_settled}
use Rattle.vx_source_over.specs.Views.{settled_tree, settled_trees, own_trees}

-- the refusal of one part is that of the whole
pub refuses_all : {A B : Type 0} (e : OverError) (one : Result A Refusal) (all : Result B Refusal) → ((r : Refusal) → one ≡ Err r → all ≡ Err r) → Refuses e one → Refuses e all
refuses_all OutOfMemory one all k h = tt
refuses_all (Unexpected at x) one all k h = k _ h
refuses_all (Misfit start end v t) one all k h = k _ h

-- what runs out of memory alone refuses anything
pub refuses_any : {A : Type 0} (e : OverError) (said : Result A Refusal) → e ≡ OutOfMemory → Refuses e said
refuses_any OutOfMemory said h = tt
refuses_any (Unexpected at x) said h = cc
refuses_any (Misfit start end v t) said h = cc

-- the parts of what was settled
pub settled_parts : {A B : Type 0} (f : A → Result B Refusal) (r : Result A Refusal) (b : B) → when_settled f r ≡ Ok b → (a : A) × (r ≡ Ok a) × (f a ≡ Ok b)
settled_parts f (Ok a) b h = (a, refl, h)
settled_parts f (Err r) b h = cc

-- ---- lists that are made one after another

abbrev pub own_after : List (Option Settled) → Result (List (Option Tree)) Refusal → Result (List (Option Tree)) Refusal
own_after made said = when_settled (λ ts. Ok (own_trees made ++ ts)) said

own_push : (made : List (Option Settled)) (x : Option Settled) (ts : List (Option Tree)) → own_trees (made ++ x ∷ []) ++ ts ≡ own_trees made ++ (option_map settled_tree x ∷ ts)
own_push [] x ts = refl
own_push (y ∷ made) x ts = ap (λ zs. option_map settled_tree y ∷ zs) (own_push made x ts)

pub own_after-push : (made : List (Option Settled)) (x : Option Settled) (said : Result (List (Option Tree)) Refusal) → own_after (made ++ x ∷ []) said ≡ own_after made (when_settled (λ ts. Ok (option_map settled_tree x ∷ ts)) said)
own_after-push made x (Ok ts) = ap (λ zs. Ok zs) (own_push made x ts)
own_after-push made x (Err r) = refl

own_nothing : (made : List (Option Settled)) → own_trees made ++ [] ≡ own_trees made
own_nothing [] = refl
own_nothing (y ∷ made) = ap (λ zs. option_map settled_tree y ∷ zs) (own_nothing made)

pub own_after-end : (made : List (Option Settled)) → own_after made (Ok []) ≡ Ok (own_trees made)
own_after-end made = ap (λ zs. Ok zs) (own_nothing made)

abbrev pub before : List Settled → Trees → Trees
before [] ts = ts
before (x ∷ made) ts = tree (settled_tree x) (before made ts)

abbrev pub rest_after : List Settled → Result Trees Refusal → Result Trees Refusal
rest_after made said = when_settled (λ ts. Ok (before made ts)) said

before_push : (made : List Settled) (x : Settled) (ts : Trees) → before (made ++ x ∷ []) ts ≡ before made (tree (settled_tree x) ts)
before_push [] x ts = refl
before_push (y ∷ made) x ts = ap (tree (settled_tree y)) (before_push made x ts)

pub rest_after-push : (made : List Settled) (x : Settled) (said : Result Trees Refusal) → rest_after (made ++ x ∷ []) said ≡ rest_after made (when_settled (λ ts. Ok (tree (settled_tree x) ts)) said)
rest_after-push made x (Ok ts) = ap (λ zs. Ok zs) (before_push made x ts)
rest_after-push made x (Err r) = refl

before_nothing : (made : List Settled) → before made no_tree ≡ settled_trees made
before_nothing [] = refl
before_nothing (y ∷ made) = ap (tree (settled_tree y)) (before_nothing made)

pub rest_after-end : (made : List Settled) → rest_after made (Ok no_tree) ≡ Ok (settled_trees made)
rest_after-end made = ap (λ zs. Ok zs) (before_nothing made)

-- a refusal after what was made
pub own_refused : (made : List (Option Settled)) (said : Result (List (Option Tree)) Refusal) (r : Refusal) → said ≡ Err r → own_after made said ≡ Err r
own_refused made (Ok ts) r h = cc
own_refused made (Err q) r h = h

pub rest_refused : (made : List Settled) (said : Result Trees Refusal) (r : Refusal) → said ≡ Err r → rest_after made said ≡ Err r
rest_refused made (Ok ts) r h = cc
rest_refused made (Err q) r h = h
