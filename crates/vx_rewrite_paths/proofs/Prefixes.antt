-- Agreement along the minimal members of a set is agreement along all of them.
use Rattle.std.proofs.Common.{◌≡◌, ℕ, zero, suc, ◌+◌, ◌<◌, inl, inr, List, [], ◌∷◌, ◌++◌, length, append_assoc, filter, refl, sym, ap, ◌∙◌, subst, Bool, true, false, ◌||◌, arith}
use Rattle.std.specs.Prelude.{cond, if◌then◌else◌, not}
use Rattle.std.specs.List.{list_any}
use Rattle.std.specs.Str.{bytes_eq}
use Rattle.std.specs.Cmp.Lexicographic.{pointwise_decides}
use Rattle.std.proofs.lemmas.Bool.{and_parts}
use Rattle.std.proofs.lemmas.List.{append-nil}
use Rattle.std.proofs.lemmas.Slice.Eq.{bytes_eq-Decides}
use Rattle.vx_value.specs.Fits.{Fits}
use Rattle.vx_value.specs.Paths.{Path, equal_path, is_member, add_path, add_paths, is_proper_prefix, has_proper_prefix, minimal_paths}
use Rattle.vx_value.specs.Types.{LogicalType, Datum}
use Rattle.vx_dtype.specs.Lists.{IsIn}
use Rattle.vx_dtype.proofs.Lists.{in_left}
use Rattle.vx_rewrite_paths.specs.Agreement.{Agree, AgreeAlong}
use Rattle.vx_rewrite_paths.specs.Leading.{Leads, EachLeads}
use Rattle.vx_rewrite_paths.proofs.Leading.{agree-longer}

-- ---- members

in_append-last : {A : Type 0} (x : A) (xs : List A) → IsIn x (xs ++ x ∷ [])
in_append-last x [] = inl refl
in_append-last x (y ∷ xs) = inr (in_append-last x xs)

in_filter : {A : Type 0} (test : A → Bool) (x : A) (xs : List A) → test x ≡ true → IsIn x xs → IsIn x (filter test xs)
in_filter test x [] t i = elim i [ ]
in_filter test x (y ∷ xs) t (inl e) = let here : test y ≡ true = ap test (sym e) ∙ t in rw here (inl e)
in_filter test x (y ∷ xs) t (inr i) = go (test y) (in_filter test x xs t i)
  where
    go : (b : Bool) → IsIn x (filter test xs) → IsIn x (cond b (y ∷ filter test xs) (filter test xs))
    go true j = inr j
    go false j = j

some_member : {A : Type 0} (test : A → Bool) (xs : List A) → list_any test xs ≡ true → (x : A) × IsIn x xs × (test x ≡ true)
some_member test [] e = cc
some_member test (x ∷ xs) e = go (test x) refl e (some_member test xs)
  where
    go : (b : Bool) → test x ≡ b → (b || list_any test xs) ≡ true → (list_any test xs ≡ true → (y : _) × IsIn y xs × (test y ≡ true)) → (y : _) × IsIn y (x ∷ xs) × (test y ≡ true)
    go true t e r = (x, inl refl, t)
    go false t e r = let m = r e in (m.0, inr m.1, m.2)

-- ---- sets of paths

in_member : (ps : List Path) (p : Path) → is_member ps p ≡ true → IsIn p ps
in_member ps p e =
    let m = some_member (equal_path p) ps e in
    let same : p ≡ m.0 = (pointwise_decides bytes_eq-Decides p m.0).0 m.2 in
    subst (λ q. IsIn q ps) (sym same) m.1

in_add-old : (ps : List Path) (x p : Path) → IsIn p ps → IsIn p (add_path ps x)
in_add-old ps x p i = go (is_member ps x)
  where
    go : (b : Bool) → IsIn p (if b then ps else ps ++ x ∷ [])
    go true = i
    go false = in_left p ps (x ∷ []) i

in_add-new : (ps : List Path) (x : Path) → IsIn x (add_path ps x)
in_add-new ps x = go (is_member ps x) refl
  where
    go : (b : Bool) → is_member ps x ≡ b → IsIn x (if b then ps else ps ++ x ∷ [])
    go true e = in_member ps x e
    go false e = in_append-last x ps

in_adds-old : (ps xs : List Path) (p : Path) → IsIn p ps → IsIn p (add_paths ps xs)
in_adds-old ps [] p i = i
in_adds-old ps (x ∷ xs) p i = in_adds-old (add_path ps x) xs p (in_add-old ps x p i)

-- what is added is a member
pub in_adds : (ps xs : List Path) (p : Path) → IsIn p xs → IsIn p (add_paths ps xs)
in_adds ps [] p i = elim i [ ]
in_adds ps (x ∷ xs) p (inl e) = in_adds-old (add_path ps x) xs p (subst (λ q. IsIn q (add_path ps x)) (sym e) (in_add-new ps x))
in_adds ps (x ∷ xs) p (inr i) = in_adds (add_path ps x) xs p i

-- ---- prefixes

prefix_rest : (q p : Path) → is_proper_prefix q p ≡ true → (rest : Path) × (p ≡ q ++ rest) × (length q < length p)
prefix_rest q [] e = cc
prefix_rest [] (a ∷ p) e = (a ∷ p, refl, omega arith)
prefix_rest (b ∷ q) (a ∷ p) e =
    let parts = and_parts (bytes_eq b a) (is_proper_prefix q p) e in
    let same : b ≡ a = (bytes_eq-Decides b a).0 parts.0 in
    let r = prefix_rest q p parts.1 in
    let whole : (a ∷ p) ≡ b ∷ (q ++ r.0) = let tail : p ≡ q ++ r.0 = r.1 in cc in
    let less : length q < length p = r.2 in
    (r.0, whole, omega arith)

-- each member goes on from a minimal one
pub minimal_of : (ps : List Path) (n : ℕ) (p : Path) → length p < n → IsIn p ps → (q : Path) × (more : Path) × IsIn q (minimal_paths ps) × (p ≡ q ++ more)
minimal_of ps zero p h i = absurd (omega arith)
minimal_of ps (suc n) p h i = go (has_proper_prefix ps p) refl (minimal_of ps n)
  where
    go : (b : Bool) → has_proper_prefix ps p ≡ b → ((r : Path) → length r < n → IsIn r ps → (q : Path) × (more : Path) × IsIn q (minimal_paths ps) × (r ≡ q ++ more)) → (q : Path) × (more : Path) × IsIn q (minimal_paths ps) × (p ≡ q ++ more)
    go false e k = (p, [], in_filter (λ r. not (has_proper_prefix ps r)) p ps (ap not e) i, sym (append-nil p))
    go true e k =
        let m = some_member (λ r. is_proper_prefix r p) ps e in
        let r = prefix_rest m.0 p m.2 in
        let less : length m.0 < length p = r.2 in
        let s = k m.0 (omega arith) m.1 in
        (s.0, s.1 ++ r.0, s.2, r.1 ∙ ap (λ x. x ++ r.0) s.3 ∙ append_assoc s.0 s.1 r.0)

-- ---- agreement

along_each : (ps : List Path) (t : LogicalType) (v w : Datum) → ((p : Path) → IsIn p ps → Agree p t v w) → AgreeAlong ps t v w
along_each [] t v w h = tt
along_each (p ∷ ps) t v w h = (h p (inl refl), along_each ps t v w (λ q i. h q (inr i)))

along_one : (ps : List Path) (t : LogicalType) (v w : Datum) (p : Path) → AgreeAlong ps t v w → IsIn p ps → Agree p t v w
along_one [] t v w p a i = elim i [ ]
along_one (q ∷ ps) t v w p a (inl e) = subst (λ r. Agree r t v w) (sym e) a.0
along_one (q ∷ ps) t v w p a (inr i) = along_one ps t v w p a.1 i

leads_one : (ps : List Path) (t : LogicalType) (p : Path) → EachLeads ps t → IsIn p ps → Leads p t
leads_one [] t p l i = elim i [ ]
leads_one (q ∷ ps) t p l (inl e) = subst (λ r. Leads r t) (sym e) l.0
leads_one (q ∷ ps) t p l (inr i) = leads_one ps t p l.1 i

-- values that agree along the minimal paths of those that were added agree along all of these
pub along_minimal : (xs : List Path) (t : LogicalType) (v w : Datum) → EachLeads xs t → Fits v t → AgreeAlong (minimal_paths (add_paths [] xs)) t v w → AgreeAlong xs t v w
along_minimal xs t v w l e a = along_each xs t v w (λ p i.
    let ps = add_paths [] xs in
    let m = minimal_of ps (length p + 1) p (omega arith) (in_adds [] xs p i) in
    let leads : Leads (m.0 ++ m.1) t = subst (λ q. Leads q t) m.3 (leads_one xs t p l i) in
    subst (λ q. Agree q t v w) (sym m.3) (agree-longer m.0 m.1 t v w leads e (along_one (minimal_paths ps) t v w m.0 a m.2)))
