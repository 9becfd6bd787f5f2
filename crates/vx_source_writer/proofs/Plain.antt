-- Where nothing has to be written otherwise, source text is SQL text.
use Rattle.std.proofs.Common.{◌≡◌, ℕ, suc, List, [], ◌∷◌, ◌++◌, length, get_or, map, codes, ◌==◌, true, false, not, refl, sym, ap, ◌∙◌, append-nil, arith}
use Rattle.std.proofs.lemmas.Bool.{and_parts, cond-true, eq-eqb, not-true}
use Rattle.std.specs.List.{list_all}
use Rattle.std.specs.Fmt.{decimal}
use Rattle.vx_dtype.specs.Texts.{with_commas, mark, type_text, shape_text, field_texts}
use Rattle.vx_value.specs.Types.{Name, truth, number, text, octets, LogicalType, ty, Shape, atomic, list, fixed, struct, Fields, no_field, field, Datum, bool, int, utf8, bytes}
use Rattle.vx_value.specs.ValueTexts.{value_text}
use Rattle.vx_fn.specs.declared.options.FieldSelection.{FieldSelection}
use Rattle.vx_fn.specs.declared.options.FieldSelection.TheVariants.{Include, Exclude}
use Rattle.vx_fn.specs.Functions.{Function, case_when, get_item, literal, pack, select, fill_null, zip, binary, logical_not, between, like, is_null, is_not_null, mask, cast, starts_with, byte_length, list_contains, arity_of, selection_names}
use Rattle.vx_fn.specs.Texts.{pack_sql, select_sql, own_sql, call_sql, node_sql}
use Rattle.vx_tree.specs.Nodes.{count_of}
use Rattle.vx_tree.specs.Texts.{sql, sqls}
use Rattle.vx_tree.specs.Trees.{Tree, root, call, Trees, no_tree, tree}
use Rattle.vx_dtype.specs.Quotes.{doubled, between_quotes}
use Rattle.vx_source_types.specs.Names.{is_plain, name_source, names_source}
use Rattle.vx_source_types.specs.TypeTexts.{type_source, shape_source, field_sources}
use Rattle.vx_source_types.specs.ScalarTexts.{scalar_source}
use Rattle.vx_source_writer.specs.SourceTexts.{source, sources, node_source, own_source, select_source, is_shown}
use Rattle.vx_source_writer.specs.Plain.{ArePlainNames, HasPlainNames, HasPlainShape, HavePlainNames, IsPlainLiteral, IsPlainFunction, IsPlain, ArePlain}
use Rattle.vx_source_writer.proofs.Nodes.{node_source-own}

-- ---- names

name-plain : (a : Name) → is_plain a ≡ true → name_source a ≡ a
name-plain a p = ap (λ b. elim b as (λ v. List ℕ) [ true ↦ a | false ↦ between_quotes 96 a ]) p

each-plain : (names : List Name) → ArePlainNames names → map name_source names ≡ names
each-plain [] p = refl
each-plain (a ∷ names) (p, ps) = ap (λ x. x ∷ map name_source names) (name-plain a p) ∙ ap (λ x. a ∷ x) (each-plain names ps)

names-plain : (names : List Name) → ArePlainNames names → names_source names ≡ with_commas names
names-plain names p = ap with_commas (each-plain names p)

-- ---- types

mutual
  type-plain : (t : LogicalType) → HasPlainNames t → type_source t ≡ type_text t
  type-plain (ty s n) p = ap (λ x. x ++ mark n) (shape-plain s p)

  shape-plain : (s : Shape) → HasPlainShape s → shape_source s ≡ shape_text s
  shape-plain (atomic q) p = refl
  shape-plain (list t) p = ap (λ x. codes "list(" ++ (x ++ codes ")")) (type-plain t p)
  shape-plain (fixed t k) p = ap (λ x. codes "fixed_size_list(" ++ (x ++ (codes ")[" ++ (decimal k ++ codes "]")))) (type-plain t p)
  shape-plain (struct fs) p = ap (λ xs. codes "{" ++ (with_commas xs ++ codes "}")) (fields-plain fs p)

  fields-plain : (fs : Fields) → HavePlainNames fs → field_sources fs ≡ field_texts fs
  fields-plain no_field p = refl
  fields-plain (field a t fs) (p, q, r) =
      ap (λ x. (x ++ (codes "=" ++ type_source t)) ∷ field_sources fs) (name-plain a p)
      ∙ ap (λ x. (a ++ (codes "=" ++ x)) ∷ field_sources fs) (type-plain t q)
      ∙ ap (λ xs. (a ++ (codes "=" ++ type_text t)) ∷ xs) (fields-plain fs r)

-- ---- literals

undoubled : (s : List ℕ) → list_all (λ b. not (b == 34)) s ≡ true → doubled 34 s ≡ s
undoubled [] h = refl
undoubled (b ∷ s) h =
    let parts = and_parts (not (b == 34)) (list_all (λ c. not (c == 34)) s) h in
    ap (λ c. elim c as (λ v. List ℕ) [ true ↦ 34 ∷ 34 ∷ doubled 34 s | false ↦ b ∷ doubled 34 s ]) (not-true (b == 34) parts.0) ∙ ap (λ x. b ∷ x) (undoubled s parts.1)

literal-plain : (t : LogicalType) (v : Datum) → IsPlainLiteral t v → scalar_source v t ≡ value_text v t
literal-plain (ty (atomic truth) false) (bool true) h = refl
literal-plain (ty (atomic truth) false) (bool false) h = refl
literal-plain (ty (atomic (number p)) false) (int i) h = refl
literal-plain (ty (atomic text) false) (utf8 s) h = append-nil (between_quotes 34 s) ∙ ap (λ x. 34 ∷ (x ++ 34 ∷ [])) (undoubled s h)
literal-plain (ty (atomic octets) false) (bytes bs) h = append-nil _
literal-plain _ _ h = absurd h

-- ---- functions

select-plain : (selection : FieldSelection) (c : List ℕ) → ArePlainNames (selection_names selection) → select_source selection c ≡ select_sql selection c
select-plain (Include names) c p = ap (λ x. c ++ (codes "{" ++ (x ++ codes "}"))) (names-plain names p)
select-plain (Exclude names) c p = ap (λ x. c ++ (codes "{~ " ++ (x ++ codes "}"))) (names-plain names p)

own-plain : (f : Function) (cs : List (List ℕ)) → IsPlainFunction f → own_source f cs ≡ own_sql f cs
own-plain (get_item a) cs p = ap (λ x. get_or cs 0 [] ++ (codes "." ++ x)) (name-plain a p)
own-plain (literal t v) cs p = literal-plain t v p
own-plain (pack names n) cs p = ap (λ x. pack_sql x n cs) (each-plain names p)
own-plain (select selection) cs p = select-plain selection (get_or cs 0 []) p
own-plain (cast t) cs p = ap (λ x. codes "cast(" ++ (get_or cs 0 [] ++ (codes " as " ++ (x ++ codes ")")))) (type-plain t p)
own-plain (case_when pairs has_else) cs p = refl
own-plain fill_null cs p = refl
own-plain zip cs p = refl
own-plain (binary op) cs p = refl
own-plain logical_not cs p = refl
own-plain (between lower_strict upper_strict) cs p = refl
own-plain (like negated case_insensitive) cs p = refl
own-plain is_null cs p = refl
own-plain is_not_null cs p = refl
own-plain mask cs p = refl
own-plain starts_with cs p = refl
own-plain byte_length cs p = refl
own-plain list_contains cs p = refl

node-plain : (f : Function) (cs : List (List ℕ)) → is_shown f ≡ true → length cs ≡ arity_of f → IsPlainFunction f → node_source f cs ≡ node_sql f cs
node-plain f cs s h p =
    node_source-own f cs s h ∙ own-plain f cs p ∙ sym (cond-true (arity_of f == length cs) (own_sql f cs) (call_sql f cs) (eq-eqb (arity_of f) (length cs) (sym h)))

-- ---- trees

length-sqls : (es : Trees) → length (sqls es) ≡ count_of es
length-sqls no_tree = refl
length-sqls (tree e es) = omega (arith, length-sqls es)

mutual
  pub tree-plain : (e : Tree) → IsPlain e → source e ≡ sql e
  tree-plain root p = refl
  tree-plain (call f es) (shown, fits, own, below) = ap (node_source f) (trees-plain es below) ∙ node-plain f (sqls es) shown (length-sqls es ∙ fits) own

  trees-plain : (es : Trees) → ArePlain es → sources es ≡ sqls es
  trees-plain no_tree p = refl
  trees-plain (tree e es) (p, ps) = ap (λ x. x ∷ sources es) (tree-plain e p) ∙ ap (λ xs. sql e ∷ xs) (trees-plain es ps)
