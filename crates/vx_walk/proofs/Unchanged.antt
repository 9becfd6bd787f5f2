-- A rewriter that hands every node back equal, unchanged, with Continue.
use Rattle.std.proofs.Common.{◌≡◌, List, [], ◌∷◌, ◌++◌, refl, ap, sym, subst, ◌∙◌, ◌⊎◌, inl, inr, Result, Ok, Err, Bool, false, ◌||◌}
use Rattle.std.specs.List.{FoldsTo}
use Rattle.vx_dtype.specs.declared.error.VortexError.{VortexError}
use Rattle.vx_dtype.specs.declared.error.VortexError.TheVariants.{OutOfMemory}
use Rattle.vx_value.specs.Returns.{ReturnsOrOom}
use Rattle.vx_walk.specs.declared.order.TraversalOrder.{TraversalOrder}
use Rattle.vx_walk.specs.declared.order.TraversalOrder.TheVariants.{Continue}
use Rattle.vx_walk.specs.declared.transformed.Transformed.{Transformed}
use Rattle.vx_walk.specs.Handed.{Back, unchanged, looking, seen, marked, in_front}
use Rattle.vx_walk.specs.Mapping.{AtOwned, RebuiltAs}
use Rattle.vx_walk.specs.Rewrites.{Rewrite, RewriteAll, refused, stopped, skipped, lost, not_rebuilt, cut, whole, none, keep, next, fail, spent, Rewritten, HandsBack}
use Rattle.vx_walk.specs.Walks.{Event, down, up, Step}

-- the event's node is handed back as it is
abbrev pub Keeps : {M : Type 0} → Event M (Back M) → Type 0
Keeps (down m a) = a ≡ Ok (unchanged m)
Keeps (up m a) = a ≡ Ok (unchanged m)

abbrev pub AllKeep : {M : Type 0} → List (Event M (Back M)) → Type 0
AllKeep [] = Unit {0}
AllKeep (e ∷ es) = Keeps e × AllKeep es

AllKeep-front : {M : Type 0} (es fs : List (Event M (Back M))) → AllKeep (es ++ fs) → AllKeep es
AllKeep-front [] fs k = tt
AllKeep-front (e ∷ es) fs k = (k.0, AllKeep-front es fs k.1)

AllKeep-rest : {M : Type 0} (es fs : List (Event M (Back M))) → AllKeep (es ++ fs) → AllKeep fs
AllKeep-rest [] fs k = k
AllKeep-rest (e ∷ es) fs k = AllKeep-rest es fs k.1

-- the answer is the thing as it is, or there was no memory
abbrev pub Stays : {A : Type 0} → A → Back A → Type 0
Stays x a = (a ≡ Ok (unchanged x)) ⊎ (a ≡ Err OutOfMemory)

ok-value : {A : Type 0} {s t : Transformed A} → ◌≡◌ {A = Back A} (Ok s) (Ok t) → s ≡ t
ok-value e = cc

err-value : {A : Type 0} {d e : VortexError} → ◌≡◌ {A = Back A} (Err d) (Err e) → d ≡ e
err-value e = cc

-- a refusal that stays is want of memory
Stays-refused : {A : Type 0} {x : A} {e : VortexError} → Stays x (Err e) → e ≡ OutOfMemory
Stays-refused (inl q) = absurd cc
Stays-refused (inr q) = err-value q

-- what was answered stays as it is
Stays-answered : {A : Type 0} {x : A} {t : Transformed A} → Stays x (Ok t) → t ≡ unchanged x
Stays-answered (inl q) = ok-value q
Stays-answered (inr q) = absurd cc

goes_on : {A : Type 0} {x : A} {t : Transformed A} → t ≡ unchanged x → t.order ≡ Continue
goes_on {A} e = ap (λ (t : Transformed A). t.order) e

same_value : {A : Type 0} {x : A} {t : Transformed A} → t ≡ unchanged x → t.value ≡ x
same_value {A} e = ap (λ (t : Transformed A). t.value) e

marks_unchanged : {A : Type 0} {x : A} {t : Transformed A} → t ≡ unchanged x → t.changed ≡ false
marks_unchanged {A} e = ap (λ (t : Transformed A). t.changed) e

node-value : {A : Type 0} {m n : A} → ◌≡◌ {A = Result A VortexError} (Ok m) (Ok n) → m ≡ n
node-value e = cc

marked-unchanged : {M : Type 0} (m n : M) (a : Back M) (c d : Bool) → a ≡ Ok (unchanged m) → m ≡ n → c ≡ false → d ≡ false → marked (c || d) a ≡ Ok (unchanged n)
marked-unchanged m n a c d p q r s = rw (p, q, r, s) refl

in_front-unchanged : {M : Type 0} (m n : M) (ns : List M) (c : Bool) (r : Back (List M)) → m ≡ n → c ≡ false → r ≡ Ok (unchanged ns) → in_front m c r ≡ Ok (unchanged (n ∷ ns))
in_front-unchanged m n ns c r p q s = rw (p, q, s) refl

module _ {M : Type 0} (kids : M → List M) (B : M → List M → Result M VortexError → Type 0) where
  -- of children that stay the node itself is made
  same_node : (n m : M) (r : Transformed (List M)) (ms : List M) → r ≡ unchanged ms → RebuiltAs B n r.value r.changed (Ok m) → m ≡ n
  same_node n m r ms e b = node-value (subst (λ c. RebuiltAs B n r.value c (Ok m)) (marks_unchanged e) b)

  no_refusal : (n : M) (d : VortexError) (r : Transformed (List M)) (ms : List M) → r ≡ unchanged ms → RebuiltAs B n r.value r.changed (Err d) → ⊥
  no_refusal n d r ms e b = let q = subst (λ c. RebuiltAs B n r.value c (Err d)) (marks_unchanged e) b in cc

  mutual
    -- a node whose events hand every node back as it is stays
    pub Rewrite-stays : {n : M} {es : List (Event M (Back M))} {a : Back M} → Rewrite kids B n es a → AllKeep es → Stays n a
    Rewrite-stays refused k = let q = k.0 in absurd cc
    Rewrite-stays (stopped {t = t} o) k = let q = goes_on (ok-value k.0) in absurd cc
    Rewrite-stays (skipped {t = t} a o) k = let q = goes_on (ok-value k.0) in absurd cc
    Rewrite-stays (lost o r) k = inr (ap Err (Stays-refused (RewriteAll-stays refl r k.1)))
    Rewrite-stays (not_rebuilt {t = t} {r = r} {e = e} o rs b) k = absurd (no_refusal t.value e r _ (Stays-answered (RewriteAll-stays refl rs k.1)) b)
    Rewrite-stays (cut m {r = r} o rs b g) k = absurd (g (goes_on (Stays-answered (RewriteAll-stays refl rs k.1))))
    Rewrite-stays (whole {n = n} m {t = t} {es = es} {r = r} a o rs b p) k =
        let here : t ≡ unchanged n = ok-value k.0 in
        let below : r ≡ unchanged (kids t.value) = Stays-answered (RewriteAll-stays refl rs (AllKeep-front es (up m a ∷ []) k.1)) in
        inl (marked-unchanged m n a r.changed t.changed (AllKeep-rest es (up m a ∷ []) k.1).0 (same_node t.value m r _ below b ∙ same_value here) (marks_unchanged below) (marks_unchanged here))

    -- and so do siblings
    pub RewriteAll-stays : {o : TraversalOrder} {ns : List M} {es : List (Event M (Back M))} {r : Back (List M)} → o ≡ Continue → RewriteAll kids B o ns es r → AllKeep es → Stays ns r
    RewriteAll-stays c none k = inl (rw c refl)
    RewriteAll-stays c (keep r h) k = absurd cc
    RewriteAll-stays c (next {n = n} {ns = ns} {es = es} {fs = fs} {t = t} r g w h) k =
        let here : t ≡ unchanged n = Stays-answered (Rewrite-stays w (AllKeep-front es fs k)) in
        elim (RewriteAll-stays (goes_on here) h (AllKeep-rest es fs k)) [
          | inl q ↦ inl (in_front-unchanged t.value n ns t.changed r (same_value here) (marks_unchanged here) q)
          | inr q ↦ inr (rw q refl)
        ]
    RewriteAll-stays c (fail g w) k = inr (ap Err (Stays-refused (Rewrite-stays w k)))
    RewriteAll-stays c spent k = inr refl

-- steps that hand every node back
AllKeep-steps : {V M : Type 0} (D U : V → M → Back M → V → Type 0) → ((v : V) (m : M) (a : Back M) (w : V) → D v m a w → a ≡ Ok (unchanged m)) → ((v : V) (m : M) (a : Back M) (w : V) → U v m a w → a ≡ Ok (unchanged m)) → (v : V) (es : List (Event M (Back M))) (w : V) → FoldsTo (Step D U) v es w → AllKeep es
AllKeep-steps D U d u v [] w s = tt
AllKeep-steps D U d u v (down m a ∷ es) w s = (d v m a s.0 s.1, AllKeep-steps D U d u s.0 es w s.2)
AllKeep-steps D U d u v (up m a ∷ es) w s = (u v m a s.0 s.1, AllKeep-steps D U d u s.0 es w s.2)

AtOwned-keeps : {V N M : Type 0} (mirror : N → M) (R : V → N → Back N → V → Type 0) → HandsBack mirror R → (v : V) (m : M) (a : Back M) (w : V) → AtOwned mirror R v m a w → a ≡ Ok (unchanged m)
AtOwned-keeps mirror R h v m a w k = sym k.sees ∙ (h v k.node k.answer w k.step ∙ ap (λ x. Ok (unchanged x)) k.looks)

told : {N M : Type 0} (mirror : N → M) (n : M) (result : Back N) → Stays n (seen mirror result) → ReturnsOrOom (looking mirror) result (Ok (unchanged n))
told mirror n (Ok t) (inl q) = sym q
told mirror n (Ok t) (inr q) = absurd cc
told mirror n (Err e) k = inl (Stays-refused k)

-- the law
pub Rewritten-unchanged : {V N M : Type 0} (mirror : N → M) (kids : M → List M) (B : M → List M → Result M VortexError → Type 0) (D U : V → N → Back N → V → Type 0) (n : M) (v w : V) (result : Back N) → Rewritten kids B (AtOwned mirror D) (AtOwned mirror U) n v w (seen mirror result) → HandsBack mirror D → HandsBack mirror U → ReturnsOrOom (looking mirror) result (Ok (unchanged n))
Rewritten-unchanged mirror kids B D U n v w result r d u =
    told mirror n result (Rewrite-stays kids B r.is (AllKeep-steps _ _ (AtOwned-keeps mirror D d) (AtOwned-keeps mirror U u) v r.events w r.steps))
