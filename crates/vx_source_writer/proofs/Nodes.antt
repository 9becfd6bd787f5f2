-- The source text of a node, and source text as a notation.
use Rattle.std.proofs.Common.{◌≡◌, ℕ, List, ◌++◌, ◌==◌, codes, length, true, refl, sym, ap, ◌∙◌, append_assoc}
use Rattle.std.specs.Prelude.{◌&&◌, if◌then◌else◌}
use Rattle.std.proofs.lemmas.Bool.{and_from, cond-true, eq-eqb}
use Rattle.vx_fn.specs.declared.options.FieldSelection.TheVariants.{Include, Exclude}
use Rattle.vx_fn.specs.Functions.{Function, select, arity_of, id_of}
use Rattle.vx_fn.specs.Texts.{with_commas}
use Rattle.vx_tree.specs.Notations.{own_in, full_in, node_in, text_in, texts_in}
use Rattle.vx_tree.specs.Trees.{Tree, root, call, Trees, no_tree, tree}
use Rattle.vx_source_writer.specs.Options.{options_source}
use Rattle.vx_source_writer.specs.SourceTexts.{source, sources, node_source, own_source, full_source, is_shown, source_words}

pub node_source-own : (f : Function) (cs : List (List ℕ)) → is_shown f ≡ true → length cs ≡ arity_of f → node_source f cs ≡ own_source f cs
node_source-own f cs s n = cond-true _ (own_source f cs) (full_source f cs) (and_from (is_shown f) (arity_of f == length cs) s (eq-eqb (arity_of f) (length cs) (sym n)))

-- ---- source text is what its words make

own_as_source : (f : Function) (cs : List (List ℕ)) → own_in source_words f cs ≡ own_source f cs
own_as_source (select (Include names)) cs = refl
own_as_source (select (Exclude names)) cs = refl
own_as_source f cs = refl

full_as_source : (f : Function) (cs : List (List ℕ)) → full_in source_words f cs ≡ full_source f cs
full_as_source f cs =
    let o = options_source f in
    let rest = with_commas cs ++ codes ")" in
    ap (λ x. id_of f ++ x) (append_assoc (codes "[") (o ++ codes "](") rest ∙ ap (λ x. codes "[" ++ x) (append_assoc o (codes "](") rest))

node_as_source : (f : Function) (cs : List (List ℕ)) → node_in source_words f cs ≡ node_source f cs
node_as_source f cs =
    ap (λ t. if is_shown f && arity_of f == length cs then t else full_in source_words f cs) (own_as_source f cs)
    ∙ ap (λ t. if is_shown f && arity_of f == length cs then own_source f cs else t) (full_as_source f cs)

mutual
  pub text_as_source : (e : Tree) → text_in source_words e ≡ source e
  text_as_source root = refl
  text_as_source (call f es) = ap (node_in source_words f) (texts_as_sources es) ∙ node_as_source f (sources es)

  texts_as_sources : (es : Trees) → texts_in source_words es ≡ sources es
  texts_as_sources no_tree = refl
  texts_as_sources (tree e es) = rw (text_as_source e, texts_as_sources es) refl
