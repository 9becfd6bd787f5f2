-- The folds of siblings, one after another, and of a node over them.
use Rattle.std.proofs.Common.{◌≡◌, ℕ, suc, ◌+◌, ◌<◌, ◌≤◌, List, [], ◌∷◌, ◌++◌, length, map, get_or, drop, add-one, append_assoc, append-nil, refl, sym, subst, Result, Ok, Err}
use Rattle.std.specs.List.{FoldsTo}
use Rattle.std.proofs.Math.Seq.{drop-cons}
use Rattle.std.proofs.lemmas.List.{drop_all}
use Rattle.vx_dtype.specs.declared.error.VortexError.{VortexError}
use Rattle.vx_dtype.specs.declared.error.VortexError.TheVariants.{OutOfMemory}
use Rattle.vx_walk.specs.declared.fold.FoldDownContext.{FoldDownContext}
use Rattle.vx_walk.specs.declared.fold.FoldDownContext.TheVariants as Down
use Rattle.vx_walk.specs.declared.fold.FoldUp.{FoldUp}
use Rattle.vx_walk.specs.declared.fold.FoldUp.TheVariants as Up
use Rattle.vx_walk.specs.Folds.{FoldEvent, down, up, FoldedRow, all, ended, in_front, FoldAll, refused, skipped, stopped, lost, cut, whole, none, next, end, fail, spent, FoldStep, Folded, HandedUp, not_cloned, handed}
use Rattle.vx_walk.proofs.Steps.{FoldsTo-append}

-- rs before the rest
abbrev pub before : {R : Type 0} → List R → Result (FoldedRow R) VortexError → Result (FoldedRow R) VortexError
before rs (Ok (all ss)) = Ok (all (rs ++ ss))
before rs (Ok (ended r)) = Ok (ended r)
before rs (Err e) = Err e

before-in_front : {R : Type 0} (rs : List R) (r : R) (a : Result (FoldedRow R) VortexError) → before rs (in_front r a) ≡ before (rs ++ r ∷ []) a
before-in_front rs r (Ok (all ss)) = simp append_assoc
before-in_front rs r (Ok (ended s)) = refl
before-in_front rs r (Err e) = refl

before-none : {R : Type 0} (a : Result (FoldedRow R) VortexError) → before [] a ≡ a
before-none (Ok (all ss)) = refl
before-none (Ok (ended s)) = refl
before-none (Err e) = refl

module _ {V N M X R : Type 0} (mirror : N → M) (kids : M → List M) (D : V → X → N → Result (FoldDownContext X R) VortexError → V → Type 0) (U : V → N → X → List R → Result (FoldUp R) VortexError → V → Type 0) where
  -- the siblings `all` have been folded down to `left`, with the results rs, and the folder went from v to w
  pub record FoldFront (y : X) (ns left : List M) (v w : V) (rs : List R) : Type 0 where
    pub events : List (FoldEvent M X R)
    pub steps : FoldsTo (FoldStep mirror kids D U) v events w
    pub rest : (fs : List (FoldEvent M X R)) (a : Result (FoldedRow R) VortexError) → FoldAll kids y left fs a → FoldAll kids y ns (events ++ fs) (before rs a)

  pub record FoldedAll (y : X) (ns : List M) (v w : V) (a : Result (FoldedRow R) VortexError) : Type 0 where
    pub events : List (FoldEvent M X R)
    pub is : FoldAll kids y ns events a
    pub steps : FoldsTo (FoldStep mirror kids D U) v events w

  pub FoldFront-start : (y : X) (ns : List M) (v : V) → FoldFront y ns ns v v []
  FoldFront-start y ns v = record { events = []; steps = refl; rest = λ fs a h. subst (λ z. FoldAll kids y ns fs z) (sym (before-none a)) h }

  pub FoldFront-next : {y : X} {ns left : List M} {n : M} {v w x : V} {rs : List R} {r : R} → FoldFront y ns (n ∷ left) v w rs → Folded mirror kids D U y n w x (Ok (Up.Continue r)) → FoldFront y ns left v x (rs ++ r ∷ [])
  FoldFront-next {y} {ns} {left} {n} {v} {w} {x} {rs} {r} f k = record {
    events = f.events ++ k.events;
    steps = FoldsTo-append (FoldStep mirror kids D U) v w x f.events k.events f.steps k.steps;
    rest = λ fs a h. rw (append_assoc, ← before-in_front rs r a) (f.rest (k.events ++ fs) (in_front r a) (next a k.is h));
  }

  pub FoldFront-end_early : {y : X} {ns left : List M} {n : M} {v w x : V} {rs : List R} {r : R} → FoldFront y ns (n ∷ left) v w rs → Folded mirror kids D U y n w x (Ok (Up.Stop r)) → FoldedAll y ns v x (Ok (ended r))
  FoldFront-end_early {v = v} {w = w} {x = x} {r = r} f k = record {
    events = f.events ++ k.events;
    is = f.rest k.events (Ok (ended r)) (end k.is);
    steps = FoldsTo-append (FoldStep mirror kids D U) v w x f.events k.events f.steps k.steps;
  }

  pub FoldFront-fail : {y : X} {ns left : List M} {n : M} {v w x : V} {rs : List R} {e : VortexError} → FoldFront y ns (n ∷ left) v w rs → Folded mirror kids D U y n w x (Err e) → FoldedAll y ns v x (Err e)
  FoldFront-fail {v = v} {w = w} {x = x} {e = e} f k = record {
    events = f.events ++ k.events;
    is = f.rest k.events (Err e) (fail k.is);
    steps = FoldsTo-append (FoldStep mirror kids D U) v w x f.events k.events f.steps k.steps;
  }

  pub FoldFront-spent : {y : X} {ns left : List M} {v w : V} {rs : List R} → FoldFront y ns left v w rs → FoldedAll y ns v w (Err OutOfMemory)
  FoldFront-spent {v = v} {w = w} f = record {
    events = f.events ++ [];
    is = f.rest [] (Err OutOfMemory) spent;
    steps = FoldsTo-append (FoldStep mirror kids D U) v w w f.events [] f.steps refl;
  }

  pub FoldFront-done : {y : X} {ns : List M} {v w : V} {rs : List R} → FoldFront y ns [] v w rs → FoldedAll y ns v w (Ok (all rs))
  FoldFront-done {y} {ns} {v} {w} {rs} f = record {
    events = f.events ++ [];
    is = subst (λ z. FoldAll kids y ns (f.events ++ []) (Ok (all z))) (append-nil rs) (f.rest [] (Ok (all [])) none);
    steps = FoldsTo-append (FoldStep mirror kids D U) v w w f.events [] f.steps refl;
  }

  -- the sibling x stands at i
  pub FoldFront-at : (items : List N) (i : ℕ) (x : N) {y : X} {ns : List M} {v w : V} {rs : List R} → i < length items → x ≡ get_or items i x → FoldFront y ns (map mirror (drop i items)) v w rs → FoldFront y ns (mirror x ∷ map mirror (drop (i + 1) items)) v w rs
  FoldFront-at items i x {y} {ns} {v} {w} {rs} h e f =
      rw add-one (subst (λ z. FoldFront y ns (mirror z ∷ map mirror (drop (suc i) items)) v w rs) (sym e) (rw (drop-cons items i x h) at f))

  -- no sibling is left
  pub FoldFront-end : (items : List N) (i : ℕ) {y : X} {ns : List M} {v w : V} {rs : List R} → length items ≤ i → FoldFront y ns (map mirror (drop i items)) v w rs → FoldFront y ns [] v w rs
  FoldFront-end items i h f = rw (drop_all i items h) at f

  pub Folded-refused : {x : X} (n : N) {v w : V} {e : VortexError} → D v x n (Err e) w → Folded mirror kids D U x (mirror n) v w (Err e)
  Folded-refused {x} n {v} {w} {e} d = record { events = down x (mirror n) (Err e) ∷ []; is = refused; steps = (w, (n, refl, d), refl) }

  pub Folded-skipped : {x : X} (n : N) {v w : V} {r : R} → D v x n (Ok (Down.Skip r)) w → Folded mirror kids D U x (mirror n) v w (Ok (Up.Continue r))
  Folded-skipped {x} n {v} {w} {r} d = record { events = down x (mirror n) (Ok (Down.Skip r)) ∷ []; is = skipped; steps = (w, (n, refl, d), refl) }

  pub Folded-stopped : {x : X} (n : N) {v w : V} {r : R} → D v x n (Ok (Down.Stop r)) w → Folded mirror kids D U x (mirror n) v w (Ok (Up.Stop r))
  Folded-stopped {x} n {v} {w} {r} d = record { events = down x (mirror n) (Ok (Down.Stop r)) ∷ []; is = stopped; steps = (w, (n, refl, d), refl) }

  pub Folded-lost : {x y : X} (n : N) {u v w : V} {e : VortexError} → D u x n (Ok (Down.Continue y)) v → FoldedAll y (kids (mirror n)) v w (Err e) → Folded mirror kids D U x (mirror n) u w (Err e)
  Folded-lost {x} {y} n {u} {v} {w} d k = record { events = down x (mirror n) (Ok (Down.Continue y)) ∷ k.events; is = lost k.is; steps = (v, (n, refl, d), k.steps) }

  pub Folded-cut : {x y : X} (n : N) {u v w : V} {r : R} → D u x n (Ok (Down.Continue y)) v → FoldedAll y (kids (mirror n)) v w (Ok (ended r)) → Folded mirror kids D U x (mirror n) u w (Ok (Up.Stop r))
  Folded-cut {x} {y} n {u} {v} {w} d k = record { events = down x (mirror n) (Ok (Down.Continue y)) ∷ k.events; is = cut k.is; steps = (v, (n, refl, d), k.steps) }

  -- the children, then the way up of a clone of the node, unless there was no memory for that
  pub Folded-handed_up : {x y : X} (n : N) {u v w z : V} {rs : List R} {a : Result (FoldUp R) VortexError} → D u x n (Ok (Down.Continue y)) v → FoldFront y (kids (mirror n)) [] v w rs → HandedUp mirror U (mirror n) y rs w a z → Folded mirror kids D U x (mirror n) u z a
  Folded-handed_up n d f not_cloned = Folded-lost n d (FoldFront-spent f)
  Folded-handed_up {x} {y} n {u} {v} {w} {z} {rs} {a} d f (handed m same s) =
      let k = FoldFront-done f in
      record {
        events = down x (mirror n) (Ok (Down.Continue y)) ∷ (k.events ++ (up (mirror n) y rs a ∷ []));
        is = whole k.is;
        steps = (v, (n, refl, d), FoldsTo-append (FoldStep mirror kids D U) v w z k.events (up (mirror n) y rs a ∷ []) k.steps (z, (m, same, s), refl));
      }
