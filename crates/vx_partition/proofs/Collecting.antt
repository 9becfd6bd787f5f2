-- Marks and pieces of one more child, and of a node.
use Rattle.std.proofs.Common.{◌≡◌, ℕ, ◌+◌, ◌<◌, ◌≤◌, Bool, true, false, List, [], ◌∷◌, ◌++◌, length, take, get_or, drop, drop-cons, drop_of_length-le, add-one, Option, Some, None, refl, sym, ap, subst, ◌∙◌, append_assoc, append-nil}
use Rattle.std.specs.Prelude.{◌||◌}
use Rattle.vx_fn.specs.Functions.{Function}
use Rattle.vx_value.specs.Types.{LogicalType}
use Rattle.vx_tree.specs.declared.bound.BoundExpression.{BoundExpression}
use Rattle.vx_tree.specs.Trees.{BoundTree, scope, node, BoundTrees, no_bound, bound}
use Rattle.vx_tree.specs.Views.{bound_of, bounds_of}
use Rattle.vx_partition_laws.specs.Pieces.{Piece, Group, pieces, each_pieces}
use Rattle.vx_partition.specs.declared.mark.Mark.{Mark}
use Rattle.vx_partition.specs.declared.mark.Mark.TheVariants.{Kept, Above}
use Rattle.vx_partition.specs.Collecting.{collected, SameGroups, has_some, hole_mark, marked, marks_of, marks_of_each, IsWalked}

has_some-append : {X : Type 0} (xs ys : List X) → has_some (xs ++ ys) ≡ (has_some xs || has_some ys)
has_some-append [] ys = refl
has_some-append (x ∷ xs) ys = refl

pub bounds_next : (es : List BoundExpression) (i : ℕ) (e : BoundExpression) → i < length es → e ≡ get_or es i e → bounds_of (drop i es) ≡ bound (bound_of e) (bounds_of (drop (i + 1) es))
bounds_next es i e h is = rw (add-one, drop-cons es i e h, ← is) refl

pub bounds_end : (es : List BoundExpression) (i : ℕ) → length es ≤ i → bounds_of (drop i es) ≡ no_bound
bounds_end es i h = rw (drop_of_length-le es h) refl

take-front : {X : Type 0} (xs ys : List X) → take (length xs) (xs ++ ys) ≡ xs
take-front [] ys = refl
take-front (x ∷ xs) ys = ap (λ l. x ∷ l) (take-front xs ys)

module _ {A : Type 0} (eq : A → A → Bool) where
  above_some : (before xs : List (Piece A)) (ms : List Mark) → has_some xs ≡ true → marked eq None before xs ms ≡ Above ∷ ms
  above_some before [] ms e = cc
  above_some before (x ∷ xs) ms e = refl

  kept_none : (before xs : List (Piece A)) (ms : List Mark) → has_some xs ≡ false → marked eq None before xs ms ≡ Kept ∷ []
  kept_none before [] ms e = refl
  kept_none before (x ∷ xs) ms e = cc

  module _ (only : BoundTree → Option A) where
    -- what the walk has of the children so far, and what is left of them
    pub record WalkedSo (before : List (Piece A)) (all rest : BoundTrees) (some : Bool) (old new : List Mark) (gs : List (Group A)) : Type 0 where
      pub done : List (Piece A)
      pub told : some ≡ has_some done
      pub groups : SameGroups eq gs (collected eq (before ++ done))
      pub pieces_left : done ++ each_pieces only rest ≡ each_pieces only all
      pub marks_left : new ++ marks_of_each eq only (before ++ done) rest ≡ old ++ (Above ∷ marks_of_each eq only before all)

    pub starts : (before : List (Piece A)) (all rest : BoundTrees) (old new : List Mark) (gs : List (Group A)) → rest ≡ all → new ≡ old ++ Above ∷ [] → SameGroups eq gs (collected eq before) → WalkedSo before all rest false old new gs
    starts before all rest old new gs same put s = record {
      done = [];
      told = refl;
      groups = subst (λ xs. SameGroups eq gs (collected eq xs)) (sym (append-nil before)) s;
      pieces_left = ap (each_pieces only) same;
      marks_left = rw (same, put, append-nil before) (append_assoc old (Above ∷ []) (marks_of_each eq only before all));
    }

    pub goes_on : (before : List (Piece A)) (all : BoundTrees) (es : List BoundExpression) (i : ℕ) (e : BoundExpression) (some found : Bool) (old marks new : List Mark) (gs hs : List (Group A))
        → i < length es → e ≡ get_or es i e
        → ((bs : List (Piece A)) → SameGroups eq gs (collected eq bs) → IsWalked eq bs (pieces only (bound_of e)) (marks_of eq only bs (bound_of e)) found marks new hs)
        → WalkedSo before all (bounds_of (drop i es)) some old marks gs → WalkedSo before all (bounds_of (drop (i + 1) es)) (some || found) old new hs
    goes_on before all es i e some found old marks new gs hs h is one w =
        let r = one (before ++ w.done) w.groups in
        let ps = pieces only (bound_of e) in
        let rest = bounds_of (drop (i + 1) es) in
        let next = bounds_next es i e h is in
        record {
          done = w.done ++ ps;
          told = rw (w.told, r.told) (sym (has_some-append w.done ps));
          groups = subst (λ xs. SameGroups eq hs (collected eq xs)) (append_assoc before w.done ps) r.groups;
          pieces_left = append_assoc w.done ps (each_pieces only rest) ∙ ap (λ bs. w.done ++ each_pieces only bs) (sym next) ∙ w.pieces_left;
          marks_left = rw (r.noted, ← append_assoc before w.done ps) (append_assoc marks (marks_of eq only (before ++ w.done) (bound_of e)) (marks_of_each eq only ((before ++ w.done) ++ ps) rest))
              ∙ ap (λ bs. marks ++ marks_of_each eq only (before ++ w.done) bs) (sym next) ∙ w.marks_left;
        }

    -- the pieces of all children, and the marks behind the node's
    ended : (before : List (Piece A)) (all : BoundTrees) (es : List BoundExpression) (i : ℕ) (some : Bool) (old new : List Mark) (gs : List (Group A)) → length es ≤ i → WalkedSo before all (bounds_of (drop i es)) some old new gs
        → (some ≡ has_some (each_pieces only all)) × (new ≡ old ++ (Above ∷ marks_of_each eq only before all)) × SameGroups eq gs (collected eq (before ++ each_pieces only all))
    ended before all es i some old new gs h w =
        let end = bounds_end es i h in
        let whole : w.done ≡ each_pieces only all = sym (append-nil w.done) ∙ ap (λ bs. w.done ++ each_pieces only bs) (sym end) ∙ w.pieces_left in (
          w.told ∙ ap has_some whole,
          sym (append-nil new) ∙ ap (λ bs. new ++ marks_of_each eq only (before ++ w.done) bs) (sym end) ∙ w.marks_left,
          subst (λ xs. SameGroups eq gs (collected eq (before ++ xs))) whole w.groups,
        )

    pub some_below : (before : List (Piece A)) (all : BoundTrees) (es : List BoundExpression) (i : ℕ) (some : Bool) (old new : List Mark) (gs : List (Group A)) → length es ≤ i → WalkedSo before all (bounds_of (drop i es)) some old new gs → some ≡ true
        → IsWalked eq before (each_pieces only all) (marked eq None before (each_pieces only all) (marks_of_each eq only before all)) some old new gs
    some_below before all es i some old new gs h w e =
        let r = ended before all es i some old new gs h w in
        record {
          told = r.0;
          noted = r.1 ∙ ap (λ ms. old ++ ms) (sym (above_some before (each_pieces only all) (marks_of_each eq only before all) (sym r.0 ∙ e)));
          groups = r.2;
        }

    pub none_below : (before : List (Piece A)) (all : BoundTrees) (es : List BoundExpression) (i : ℕ) (some : Bool) (old marks cut new : List Mark) (gs : List (Group A)) → length es ≤ i → WalkedSo before all (bounds_of (drop i es)) some old marks gs → some ≡ false
        → cut ≡ take (length old) marks → new ≡ cut ++ Kept ∷ []
        → IsWalked eq before (each_pieces only all) (marked eq None before (each_pieces only all) (marks_of_each eq only before all)) some old new gs
    none_below before all es i some old marks cut new gs h w e short put =
        let r = ended before all es i some old marks gs h w in
        let back : cut ≡ old = short ∙ ap (take (length old)) r.1 ∙ take-front old (Above ∷ marks_of_each eq only before all) in
        record {
          told = r.0;
          noted = put ∙ ap (λ ms. ms ++ Kept ∷ []) back ∙ ap (λ ms. old ++ ms) (sym (kept_none before (each_pieces only all) (marks_of_each eq only before all) (sym r.0 ∙ e)));
          groups = r.2;
        }

    -- ---- a node

    pub piece_walked : (before : List (Piece A)) (b : BoundTree) (a : A) (mark : Mark) (old new : List Mark) (gs : List (Group A)) → only b ≡ Some a → mark ≡ hole_mark eq before a → new ≡ old ++ mark ∷ []
        → SameGroups eq gs (collected eq (before ++ (a, b) ∷ [])) → IsWalked eq before (pieces only b) (marks_of eq only before b) true old new gs
    piece_walked before (scope t) a mark old new gs e is put s = rw e record { told = refl; noted = put ∙ ap (λ m. old ++ m ∷ []) is; groups = s }
    piece_walked before (node t f bs) a mark old new gs e is put s = rw e record { told = refl; noted = put ∙ ap (λ m. old ++ m ∷ []) is; groups = s }

    pub scope_walked : (before : List (Piece A)) (b : BoundTree) (t : LogicalType) (old new : List Mark) (gs : List (Group A)) → b ≡ scope t → only b ≡ None → new ≡ old ++ Kept ∷ [] → SameGroups eq gs (collected eq before)
        → IsWalked eq before (pieces only b) (marks_of eq only before b) false old new gs
    scope_walked before b t old new gs is e put s =
        let none : only (scope t) ≡ None = ap only (sym is) ∙ e in
        rw is (rw none record { told = refl; noted = put; groups = subst (λ xs. SameGroups eq gs (collected eq xs)) (sym (append-nil before)) s })

    pub node_walked : (before : List (Piece A)) (b : BoundTree) (t : LogicalType) (f : Function) (bs : BoundTrees) (some : Bool) (old new : List Mark) (gs : List (Group A)) → b ≡ node t f bs → only b ≡ None
        → IsWalked eq before (each_pieces only bs) (marked eq None before (each_pieces only bs) (marks_of_each eq only before bs)) some old new gs → IsWalked eq before (pieces only b) (marks_of eq only before b) some old new gs
    node_walked before b t f bs some old new gs is e w =
        let none : only (node t f bs) ≡ None = ap only (sym is) ∙ e in
        rw is (rw none w)
