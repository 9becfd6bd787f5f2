-- Sets of paths: their members by key, and what is a beginning of what.
use Rattle.std.proofs.Common.{◌≡◌, ℕ, ◌<◌, Bool, true, false, ◌||◌, Option, Some, None, List, [], ◌∷◌, ◌++◌, length, map, take, refl, sym, ap, ◌∙◌, is_some, true≢false, zero, suc, arith}
use Rattle.std.specs.List.{list_any}
use Rattle.std.specs.Map.{keys_of, values_of, lookup}
use Rattle.std.specs.Str.{bytes_eq}
use Rattle.std.specs.Cmp.Lexicographic.{pointwise}
use Rattle.std.specs.Cmp.Derive.Mapped.{pointwise-map}
use Rattle.std.proofs.lemmas.Bool.{and_parts, and_from, or_parts, or_right}
use Rattle.std.proofs.lemmas.Map.Made.{is_some-lookup}
use Rattle.indexmap.specs.IndexMap.{IndexMap, keys, values, insert_entry}
use Rattle.indexmap.proofs.CallerLemmas.{insert_entry-new}
use Rattle.vx_value.specs.declared.field_path.Field.{Field}
use Rattle.vx_value.specs.Paths.{Path, part_name, path_of, equal_path, is_member, add_path, is_proper_prefix, has_proper_prefix}
use Rattle.vx_value.specs.Deciding.{name_equiv}

-- comparing parts is comparing paths
pub parts_alike : (xs ys : List Field) → pointwise (λ a b. bytes_eq (part_name a) (part_name b)) xs ys ≡ equal_path (path_of xs) (path_of ys)
parts_alike xs ys = sym (pointwise-map part_name bytes_eq xs ys)

-- a test of keys is the test of what they stand for
any_alike : {K : Type 0} (view : K → Path) (p : Path) (test : K → Bool) → ((k : K) → test k ≡ equal_path p (view k)) → (ks : List K) → list_any test ks ≡ is_member (map view ks) p
any_alike view p test says [] = refl
any_alike view p test says (k ∷ ks) = rw (says k, any_alike view p test says ks) refl

-- a key is found where its path is a member
pub found-member : {K : Type 0} (view : K → Path) (p : Path) (test : K → Bool) → ((k : K) → test k ≡ equal_path p (view k)) → (es : List (K × Path)) → map view (keys_of es) ≡ values_of es → is_some (lookup test es) ≡ is_member (values_of es) p
found-member view p test says es agree = is_some-lookup test es ∙ any_alike view p test says (keys_of es) ∙ ap (λ ps. is_member ps p) agree

pub none_from_is_some : {A : Type 0} (o : Option A) → is_some o ≡ false → o ≡ None
none_from_is_some None e = refl
none_from_is_some (Some x) e = cc

-- a path that is no member goes behind the others, and one that is stays
pub add_path-new : (ps : List Path) (p : Path) → is_member ps p ≡ false → add_path ps p ≡ ps ++ p ∷ []
add_path-new ps p e = rw e refl

pub add_path-known : (ps : List Path) (p : Path) → is_member ps p ≡ true → add_path ps p ≡ ps
add_path-known ps p e = rw e refl

pub keys_push : {K : Type 0} (es : List (K × Path)) (k : K) (p : Path) → keys_of (es ++ (k, p) ∷ []) ≡ keys_of es ++ k ∷ []
keys_push [] k p = refl
keys_push (e ∷ es) k p = ap (λ ks. e.0 ∷ ks) (keys_push es k p)

pub values_push : {K : Type 0} (es : List (K × Path)) (k : K) (p : Path) → values_of (es ++ (k, p) ∷ []) ≡ values_of es ++ p ∷ []
values_push [] k p = refl
values_push (e ∷ es) k p = ap (λ ps. e.1 ∷ ps) (values_push es k p)

pub map_push : {K : Type 0} (view : K → Path) (ks : List K) (k : K) → map view (ks ++ k ∷ []) ≡ map view ks ++ view k ∷ []
map_push view [] k = refl
map_push view (x ∷ ks) k = ap (λ ps. view x ∷ ps) (map_push view ks k)

-- keys that stand for their paths still do once a path was put behind the others under such a key
pub agree_push : {K : Type 0} (view : K → Path) (es : List (K × Path)) (k : K) (p : Path) → map view (keys_of es) ≡ values_of es → view k ≡ p → map view (keys_of (es ++ (k, p) ∷ [])) ≡ values_of (es ++ (k, p) ∷ [])
agree_push view es k p agree e = rw (keys_push es k p, values_push es k p, map_push view (keys_of es) k, agree, e) refl

-- a path that is no member is put behind the others
pub put_new : {K S : Type 0} (view : K → Path) (eq : K → K → Bool) → ((k j : K) → eq k j ≡ equal_path (view k) (view j)) → (m : IndexMap K Path S) (k : K) (p : Path) → map view (keys m) ≡ values m → view k ≡ p → is_member (values m) p ≡ false → insert_entry eq m.entries k p ≡ m.entries ++ (k, p) ∷ []
put_new view eq says m k p agree e none =
    let says_k : (j : _) → eq k j ≡ equal_path p (view j) = λ j. says k j ∙ ap (λ q. equal_path q (view j)) e in
    insert_entry-new eq m k p (none_from_is_some _ (found-member view p (eq k) says_k m.entries agree ∙ none))

-- a proper prefix of a path is one of the path's own beginnings
prefix_front : (q p : Path) → is_proper_prefix q p ≡ true → (k : ℕ) × (k < length p) × (equal_path (take k p) q ≡ true)
prefix_front q [] e = cc
prefix_front [] (a ∷ p) e = (0, omega arith, refl)
prefix_front (b ∷ q) (a ∷ p) e =
    let parts = and_parts (bytes_eq b a) (is_proper_prefix q p) e in
    let w = prefix_front q p parts.1 in
    (suc w.0, omega arith, and_from _ _ (name_equiv.symm a b ∙ parts.0) w.2)

front_prefix : (q p : Path) (k : ℕ) → k < length p → equal_path (take k p) q ≡ true → is_proper_prefix q p ≡ true
front_prefix q [] k h e = absurd (omega arith)
front_prefix [] (a ∷ p) k h e = refl
front_prefix (b ∷ q) (a ∷ p) zero h e = cc
front_prefix (b ∷ q) (a ∷ p) (suc k) h e =
    let parts = and_parts (bytes_eq a b) (equal_path (take k p) q) e in
    and_from _ _ (name_equiv.symm b a ∙ parts.0) (front_prefix q p k (omega arith) parts.1)

-- a member that is a beginning is a proper prefix
pub some_prefix : (ps : List Path) (p : Path) (k : ℕ) → k < length p → is_member ps (take k p) ≡ true → has_proper_prefix ps p ≡ true
some_prefix [] p k h e = cc
some_prefix (q ∷ qs) p k h e = go (equal_path (take k p) q) refl e (some_prefix qs p k h)
  where
    go : (b : Bool) → equal_path (take k p) q ≡ b → (b || is_member qs (take k p)) ≡ true → (is_member qs (take k p) ≡ true → has_proper_prefix qs p ≡ true) → (is_proper_prefix q p || has_proper_prefix qs p) ≡ true
    go true i m r = rw (front_prefix q p k h i) refl
    go false i m r = or_right _ _ (r m)

-- where no beginning is a member there is no proper prefix
pub no_prefix : (ps : List Path) (p : Path) → ((k : ℕ) → k < length p → is_member ps (take k p) ≡ false) → has_proper_prefix ps p ≡ false
no_prefix [] p h = refl
no_prefix (q ∷ qs) p h = go (is_proper_prefix q p) refl (no_prefix qs p (λ k b. (or_parts (equal_path (take k p) q) _ (h k b)).1))
  where
    go : (b : Bool) → is_proper_prefix q p ≡ b → has_proper_prefix qs p ≡ false → (b || has_proper_prefix qs p) ≡ false
    go true i m = let w = prefix_front q p i in absurd (true≢false (sym w.2 ∙ (or_parts _ _ (h w.0 w.1)).0))
    go false i m = m
