-- Runs of steps.
use Rattle.std.proofs.Common.{List, [], ◌∷◌, ◌++◌, ap, sym, subst}
use Rattle.std.specs.List.{FoldsTo}
use Rattle.vx_walk.specs.Walks.{Event, down, up, Step}

-- two runs of steps, one after the other
pub FoldsTo-append : {V A : Type 0} (R : V → A → V → Type 0) (u v w : V) (xs ys : List A) → FoldsTo R u xs v → FoldsTo R v ys w → FoldsTo R u (xs ++ ys) w
FoldsTo-append R u v w [] ys a b = subst (λ x. FoldsTo R x ys w) (sym a) b
FoldsTo-append R u v w (x ∷ xs) ys a b = (a.0, a.1, FoldsTo-append R a.0 v w xs ys a.2 b)

-- the same steps, the state seen by p
pub FoldsTo-through : {V W A : Type 0} (p : V → W) (R : V → A → V → Type 0) (S : W → A → W → Type 0) → ((v : V) (x : A) (w : V) → R v x w → S (p v) x (p w)) → (v : V) (xs : List A) (w : V) → FoldsTo R v xs w → FoldsTo S (p v) xs (p w)
FoldsTo-through p R S k v [] w e = ap p e
FoldsTo-through p R S k v (x ∷ xs) w e = (p e.0, k v x e.0 e.1, FoldsTo-through p R S k e.0 xs w e.2)

-- the same step, the state seen by p
pub Step-through : {V W M A : Type 0} (p : V → W) (D U : V → M → A → V → Type 0) (D' U' : W → M → A → W → Type 0) → ((v : V) (m : M) (a : A) (w : V) → D v m a w → D' (p v) m a (p w)) → ((v : V) (m : M) (a : A) (w : V) → U v m a w → U' (p v) m a (p w)) → (v : V) (x : Event M A) (w : V) → Step D U v x w → Step D' U' (p v) x (p w)
Step-through p D U D' U' k l v (down m a) w s = k v m a w s
Step-through p D U D' U' k l v (up m a) w s = l v m a w s
