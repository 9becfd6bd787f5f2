-- What is read at one more child, and at a node.
use Rattle.std.proofs.Common.{◌≡◌, ℕ, ◌+◌, ◌<◌, ◌≤◌, Bor, Bool, true, List, [], ◌∷◌, ◌++◌, length, map, take, get_or, drop, Option, Some, None, refl, sym, ap, subst, ◌∙◌, append_assoc, append-nil}
use Rattle.std.specs.Prelude.{◌&&◌, ◌||◌, is_some}
use Rattle.std.specs.Option.{option_copied}
use Rattle.std.proofs.lemmas.List.{length-map, take-map}
use Rattle.std.proofs.Math.Bool.{and-true, and_assoc}
use Rattle.std.proofs.Math.Seq.{take-append_seam}
use Rattle.vx_fn.specs.Functions.{Function}
use Rattle.vx_value.specs.Types.{Name, LogicalType}
use Rattle.vx_tree.specs.declared.bound.BoundExpression.{BoundExpression}
use Rattle.vx_tree.specs.Trees.{BoundTree, scope, node, BoundTrees}
use Rattle.vx_tree.specs.Views.{bound_of, bounds_of}
use Rattle.vx_rewrite_analysis.specs.Covers.{are_covered}
use Rattle.vx_rewrite_analysis.specs.Fields.{free_fields}
use Rattle.vx_partition.specs.Only.{met_at, annotations_met, annotations_met_in}
use Rattle.vx_tree.proofs.Children.{bounds_next, bounds_end}
use Rattle.vx_query_split.specs.Reading.{only_name, own_or, fields_at, fields_in, only_field, reads_one}
use Rattle.vx_query_split.specs.Reads.{IsReadBy, IsReadAt, IsReadBelow}
use Rattle.vx_query_split.specs.declared.reading.Reads.{Reads}
use Rattle.vx_query_split.specs.declared.reading.Reads.TheVariants.{Nothing, One, Several}

not_one : (reads : Reads) (xs : List Name) → ((a : Bor Name) → reads ≡ One a → ⊥) → IsReadBy reads xs → only_name xs ≡ None
not_one Nothing xs other told = ap only_name told
not_one (One a) xs other told = absurd (other a refl)
not_one Several xs other told = told.0

module _ (names : List Name) where
  -- what is told of the children so far, and what is left of them
  pub record ReadSo (all rest : BoundTrees) (reads : Reads) (covered : Bool) (old new : List (Option Name)) : Type 0 where
    pub done : List Name
    pub told : IsReadBy reads done
    pub fields : done ++ fields_in names rest ≡ fields_in names all
    pub covers : (covered && are_covered (reads_one names) rest) ≡ are_covered (reads_one names) all
    pub met : new ++ annotations_met_in (only_field names) rest ≡ old ++ (None ∷ annotations_met_in (only_field names) all)

  pub starts : (all rest : BoundTrees) (old new : List (Option Name)) → rest ≡ all → new ≡ old ++ None ∷ [] → ReadSo all rest Nothing true old new
  starts all rest old new same put = record {
    done = [];
    told = refl;
    fields = ap (fields_in names) same;
    covers = ap (are_covered (reads_one names)) same;
    met = rw (same, put) (append_assoc old (None ∷ []) (annotations_met_in (only_field names) all));
  }

  pub goes_on : (all : BoundTrees) (es : List BoundExpression) (i : ℕ) (e : BoundExpression) (reads own after : Reads) (covered here : Bool) (old so_far new : List (Option Name)) → i < length es → e ≡ get_or es i e
      → ((xs ys : List Name) → IsReadBy reads xs → IsReadBy own ys → IsReadBy after (xs ++ ys)) → IsReadAt names (bound_of e) own here so_far new
      → ReadSo all (bounds_of (drop i es)) reads covered old so_far → ReadSo all (bounds_of (drop (i + 1) es)) after (covered && here) old new
  goes_on all es i e reads own after covered here old so_far new h is joins r s =
      let rest = bounds_of (drop (i + 1) es) in
      let next = bounds_next es i e h is in
      let only = only_field names in
      let one = reads_one names in
      record {
        done = s.done ++ fields_at names (bound_of e);
        told = joins s.done (fields_at names (bound_of e)) s.told r.told;
        fields = append_assoc s.done (fields_at names (bound_of e)) (fields_in names rest) ∙ ap (λ bs. s.done ++ fields_in names bs) (sym next) ∙ s.fields;
        covers = and_assoc covered here (are_covered one rest) ∙ ap (λ t. covered && (t && are_covered one rest)) r.covers ∙ ap (λ bs. covered && are_covered one bs) (sym next) ∙ s.covers;
        met = ap (λ ms. ms ++ annotations_met_in only rest) r.met ∙ append_assoc so_far (annotations_met only (bound_of e)) (annotations_met_in only rest) ∙ ap (λ bs. so_far ++ annotations_met_in only bs) (sym next) ∙ s.met;
      }

  module _ (all : BoundTrees) (es : List BoundExpression) (i : ℕ) (reads : Reads) (covered : Bool) (old so_far : List (Option Name)) (h : length es ≤ i) (s : ReadSo all (bounds_of (drop i es)) reads covered old so_far) where
    whole : s.done ≡ fields_in names all
    whole = sym (append-nil s.done) ∙ ap (λ bs. s.done ++ fields_in names bs) (sym (bounds_end es i h)) ∙ s.fields

    all_told : IsReadBy reads (fields_in names all)
    all_told = subst (IsReadBy reads) whole s.told

    all_covers : covered ≡ are_covered (reads_one names) all
    all_covers = sym (and-true covered) ∙ ap (λ bs. covered && are_covered (reads_one names) bs) (sym (bounds_end es i h)) ∙ s.covers

    pub all_met : so_far ≡ old ++ (None ∷ annotations_met_in (only_field names) all)
    all_met = sym (append-nil so_far) ∙ ap (λ bs. so_far ++ annotations_met_in (only_field names) bs) (sym (bounds_end es i h)) ∙ s.met

    -- the children read just one field together
    pub one_below : (a : Bor Name) (cut new : List (Option Name)) → reads ≡ One a → cut ≡ old → new ≡ cut ++ Some a.now ∷ [] → IsReadBelow names all reads true old new
    one_below a cut new is back put =
        let one : only_name (fields_in names all) ≡ Some a.now = subst (λ r. IsReadBy r (fields_in names all)) is all_told in
        record {
          told = all_told;
          covers = rw one refl;
          met = put ∙ ap (λ ms. ms ++ Some a.now ∷ []) back ∙ ap (λ o. old ++ met_at o (annotations_met_in (only_field names) all)) (sym one);
        }

    -- they read none, or several
    pub not_one_below : ((a : Bor Name) → reads ≡ One a → ⊥) → IsReadBelow names all reads covered old so_far
    not_one_below other =
        let none = not_one reads (fields_in names all) other all_told in
        record {
          told = all_told;
          covers = all_covers ∙ ap (λ o. is_some o || are_covered (reads_one names) all) (sym none);
          met = all_met ∙ ap (λ o. old ++ met_at o (annotations_met_in (only_field names) all)) (sym none);
        }

  -- ---- a node

  pub scope_read : (b : BoundTree) (t : LogicalType) (reads : Reads) (o : Option Name) (old new : List (Option Name)) → b ≡ scope t → IsReadBy reads names → o ≡ only_name names → new ≡ old ++ o ∷ [] → IsReadAt names b reads (is_some o) old new
  scope_read b t reads o old new is told one put = rw (is, one) record { told = told; covers = refl; met = put ∙ ap (λ p. old ++ p ∷ []) one ∙ go (only_name names) }
    where
      go : (p : Option Name) → old ++ p ∷ [] ≡ old ++ met_at p []
      go None = refl
      go (Some a) = refl

  pub item_read : (b : BoundTree) (t : LogicalType) (f : Function) (bs : BoundTrees) (a : Bor Name) (old new : List (Option Name)) → b ≡ node t f bs → free_fields (node t f bs) names ≡ a.now ∷ [] → new ≡ old ++ Some a.now ∷ [] → IsReadAt names b (One a) true old new
  item_read b t f bs a old new is own put =
      let one : only_field names (node t f bs) ≡ Some a.now = ap (λ xs. only_name (own_or xs (fields_in names bs))) own in
      rw is record { told = one; covers = rw one refl; met = put ∙ ap (λ o. old ++ met_at o (annotations_met_in (only_field names) bs)) (sym one) }

  pub node_read : (b : BoundTree) (t : LogicalType) (f : Function) (bs : BoundTrees) (reads : Reads) (covered : Bool) (old new : List (Option Name)) → b ≡ node t f bs → free_fields (node t f bs) names ≡ [] → IsReadBelow names bs reads covered old new → IsReadAt names b reads covered old new
  node_read b t f bs reads covered old new is own r =
      let same : fields_at names (node t f bs) ≡ fields_in names bs = ap (λ xs. own_or xs (fields_in names bs)) own in
      rw is record {
        told = subst (IsReadBy reads) (sym same) r.told;
        covers = r.covers ∙ ap (λ xs. is_some (only_name xs) || are_covered (reads_one names) bs) (sym same);
        met = r.met ∙ ap (λ xs. old ++ met_at (only_name xs) (annotations_met_in (only_field names) bs)) (sym same);
      }

pub copied_some : {A : Type 0} (o : Option (Bor A)) → is_some o ≡ is_some (option_copied o)
copied_some None = refl
copied_some (Some a) = refl

-- what was met behind others, cut off again
pub cut_back : {A : Type 0} (old so_far cut : List (Option (Bor A))) (n : ℕ) (more : List (Option A)) → map option_copied so_far ≡ map option_copied old ++ more → n ≡ length old → cut ≡ take n so_far → map option_copied cut ≡ map option_copied old
cut_back old so_far cut n more met is short =
    let copied = option_copied in
    ap (map copied) short ∙ sym (take-map copied n so_far) ∙ ap (take n) met ∙ ap (λ k. take k (map copied old ++ more)) (is ∙ sym (length-map old copied)) ∙ take-append_seam (map copied old) more
