use Rattle.std.proofs.Common.{◌≡◌, ◌≢◌, true, false, ◌+◌, ◌*◌, ◌/◌, ◌<◌, [], ◌++◌, codes, length, get_or, drop, map, refl, sym, ap, append_assoc, ◌∙◌, append-nil, rules, arith}
use Rattle.std.proofs.lemmas.List.{drop_all}
use Rattle.std.proofs.Output.{has_written_append, has_written_of_eq}
use Rattle.vx_dtype.proofs.Commas.{after_commas, after_commas-turn, with_commas-first}
use Rattle.vx_fn.specs.Functions.{arity_of}
use Rattle.vx_fn.specs.Views.{function_of}
use Rattle.vx_fn.specs.Texts.{with_commas, named_texts, pairs_sql}
use Rattle.vx_tree.specs.Texts.{pair_sql}
use Rattle.vx_tree.proofs.Seen.{item_smaller}
use Rattle.vx_tree.proofs.Texts.{length-named_texts, get_or-named_texts, pairs_sql-turn, pairs_sql-else, pairs_sql-none}
use Rattle.vx_tree.specs.Notations.{name_in, names_in, is_shown_in, texts_of}
use Rattle.vx_tree.proofs.Written.{length-texts_of, get_or-texts_of, written-own, written-hidden, written-other, length-names_in, get_or-names_in}
use Rattle.vx_tree.proofs.notation.+written.Goals as goal

pub write_child-write_tree-requires : goal.write_child-write_tree-requires
write_child-write_tree-requires g t c κs within =
    let below = item_smaller g.T.TreeNode.tree c.args.children.now c.args.index c.index-children-index.result c.requires c.index-children-index.is in
    (omega (arith, below, c.decreases), within)

pub write_child-returns : goal.write_child-returns
write_child-returns g t c plain ok =
    let same = get_or-texts_of g.N.Notation.words g.T.TreeNode.tree c.args.children.now c.args.index c.index-children-index.result c.requires c.index-children-index.is in
    has_written_of_eq _ _ _ _ _ same (c.write_tree.ensures plain ok)

pub write_list-loop-index-init : goal.write_list-loop-index-init
write_list-loop-index-init g t c = λ plain. ([], record { wrote = record { parts = []; calls = refl; whole = refl }; plain = plain }, refl)

pub write_list-loop-index-preserved : goal.write_list-loop-index-preserved
write_list-loop-index-preserved g t c = λ plain.
    let l = c.loop-index in
    let all = texts_of g.N.Notation.words g.T.TreeNode.tree c.args.children.now in
    let (done, wrote, left) = l.invariant plain in
    let one = c.write_str.ensures.writes wrote.plain (search rules) in
    let two = c.write_child-in-loop-index.ensures one.plain (search rules) in (
      (done ++ codes ", ") ++ get_or all l.index [],
      has_written_append _ _ _ _ _ _ (has_written_append _ _ _ _ _ _ wrote one) two,
      after_commas-turn done all l.index (omega (arith, length-texts_of g.N.Notation.words g.T.TreeNode.tree c.args.children.now)) ∙ left,
    )

pub write_list-returns : goal.write_list-returns
write_list-returns g t c plain ok =
    let l = c.loop-index in
    let trees = c.args.children.now in
    let all = texts_of g.N.Notation.words g.T.TreeNode.tree trees in
    let many = length-texts_of g.N.Notation.words g.T.TreeNode.tree trees in
    let some : 0 < length all = grind (arith, many) in
    let first = c.write_child.ensures plain (search rules) in
    let (done, wrote, left) = l.invariant first.plain in
    let none = ap after_commas (drop_all l.index all (omega (arith, many))) in
    let rest : done ≡ after_commas (drop 1 all) = sym (append-nil done) ∙ ap (λ x. done ++ x) (sym none) ∙ left in
    let whole : get_or all 0 [] ++ done ≡ with_commas all = ap (λ x. get_or all 0 [] ++ x) rest ∙ with_commas-first all some in
    has_written_of_eq _ _ _ _ _ whole (has_written_append _ _ _ _ _ _ first wrote)

pub write_tree-returns-then-not-is_shown : goal.write_tree-returns-then-not-is_shown
write_tree-returns-then-not-is_shown g t c plain ok =
    let f = function_of c.in-Some.scalar_fn.now in
    let hidden : is_shown_in g.N.Notation.words f ≡ false = search rules in
    let whole = written-hidden g.N.Notation.words g.T.TreeNode.tree (g.T.TreeNode.tree c.args.node.now) f c.node_children-children.result.now c.in-Some.ensures c.node_children-children.ensures hidden in
    has_written_of_eq _ _ _ _ _ whole (c.write_full.ensures plain ok)

pub write_tree-returns-then-children-arity : goal.write_tree-returns-then-children-arity
write_tree-returns-then-children-arity g t c plain ok =
    let f = function_of c.in-Some.scalar_fn.now in
    let shown : is_shown_in g.N.Notation.words f ≡ true = search rules in
    let fits : length c.node_children-children.result.now ≡ arity_of f = grind arith in
    let whole = written-own g.N.Notation.words g.T.TreeNode.tree (g.T.TreeNode.tree c.args.node.now) f c.node_children-children.result.now c.in-Some.ensures c.node_children-children.ensures shown fits in
    has_written_of_eq _ _ _ _ _ whole (c.write_own.ensures plain ok)

pub write_tree-returns-else-children-arity : goal.write_tree-returns-else-children-arity
write_tree-returns-else-children-arity g t c plain ok =
    let f = function_of c.in-Some.scalar_fn.now in
    let other : length c.node_children-children.result.now ≢ arity_of f = grind arith in
    let whole = written-other g.N.Notation.words g.T.TreeNode.tree (g.T.TreeNode.tree c.args.node.now) f c.node_children-children.result.now c.in-Some.ensures c.node_children-children.ensures other in
    has_written_of_eq _ _ _ _ _ whole (c.write_full-else-children-arity.ensures plain ok)

pub case::write_branches-loop-pair-preserved : goal.case::write_branches-loop-pair-preserved
case::write_branches-loop-pair-preserved g t c = λ plain.
    let l = c.loop-pair in
    let all = texts_of g.N.Notation.words g.T.TreeNode.tree c.args.children.now in
    let (done, wrote, left) = l.invariant plain in
    let one = c.write_pair.ensures wrote.plain (search rules) in (
      done ++ pair_sql all (2 * l.pair),
      has_written_append _ _ _ _ _ _ wrote one,
      pairs_sql-turn done all (2 * l.pair) (2 * (l.pair + 1)) (omega arith) (omega (arith, length-texts_of g.N.Notation.words g.T.TreeNode.tree c.args.children.now)) ∙ left,
    )

pub case::write_branches-returns-in_ok-write_child : goal.case::write_branches-returns-in_ok-write_child
case::write_branches-returns-in_ok-write_child g t c plain ok =
    let l = c.loop-pair in
    let all = texts_of g.N.Notation.words g.T.TreeNode.tree c.args.children.now in
    let (done, wrote, left) = l.invariant plain in
    let word = c.write_str.ensures.writes wrote.plain (search rules) in
    let last = c.write_child.ensures word.plain (search rules) in
    let many = length-texts_of g.N.Notation.words g.T.TreeNode.tree c.args.children.now in
    let whole = pairs_sql-else done all (2 * l.pair) (2 * (length c.args.children.now / 2)) (omega arith) (omega (arith, many)) ∙ left in
    has_written_of_eq _ _ _ _ _ whole (has_written_append _ _ _ _ _ _ (has_written_append _ _ _ _ _ _ wrote word) last)

pub case::write_branches-returns-else-pairs-children : goal.case::write_branches-returns-else-pairs-children
case::write_branches-returns-else-pairs-children g t c plain ok =
    let l = c.loop-pair in
    let all = texts_of g.N.Notation.words g.T.TreeNode.tree c.args.children.now in
    let (done, wrote, left) = l.invariant plain in
    let none = pairs_sql-none all (2 * l.pair) (omega (arith, length-texts_of g.N.Notation.words g.T.TreeNode.tree c.args.children.now)) in
    let whole : done ≡ pairs_sql all = sym (append-nil done) ∙ ap (λ x. done ++ x) (sym none) ∙ left in
    has_written_of_eq _ _ _ _ _ whole wrote

pub pack::write_named-loop-index-init : goal.pack::write_named-loop-index-init
pack::write_named-loop-index-init g t c = λ plain. ([], record { wrote = record { parts = []; calls = refl; whole = refl }; plain = plain }, refl)

pub pack::write_named-loop-index-preserved : goal.pack::write_named-loop-index-preserved
pack::write_named-loop-index-preserved g t c = λ plain.
    let l = c.loop-index in
    let cs = texts_of g.N.Notation.words g.T.TreeNode.tree c.args.children.now in
    let all = named_texts (names_in g.N.Notation.words c.args.names.now) cs in
    let many = length-named_texts (names_in g.N.Notation.words c.args.names.now) cs (omega (arith, length-texts_of g.N.Notation.words g.T.TreeNode.tree c.args.children.now, length-names_in g.N.Notation.words c.args.names.now)) in
    let (done, wrote, left) = l.invariant plain in
    let one = c.write_str.ensures.writes wrote.plain (search rules) in
    let two = c.write_named_child-in-loop-index.ensures one.plain (search rules) in (
      (done ++ codes ", ") ++ get_or all l.index [],
      has_written_append _ _ _ _ _ _ (has_written_append _ _ _ _ _ _ wrote one) two,
      after_commas-turn done all l.index (omega (arith, many, length-texts_of g.N.Notation.words g.T.TreeNode.tree c.args.children.now)) ∙ left,
    )

pub pack::write_named-returns : goal.pack::write_named-returns
pack::write_named-returns g t c plain ok =
    let l = c.loop-index in
    let children = c.args.children.now in
    let cs = texts_of g.N.Notation.words g.T.TreeNode.tree children in
    let all = named_texts (names_in g.N.Notation.words c.args.names.now) cs in
    let count = length-texts_of g.N.Notation.words g.T.TreeNode.tree children in
    let many = length-named_texts (names_in g.N.Notation.words c.args.names.now) cs (omega (arith, count, length-names_in g.N.Notation.words c.args.names.now)) in
    let given : 0 < length children = grind arith in
    let first = c.write_named_child.ensures plain (search rules) in
    let (done, wrote, left) = l.invariant first.plain in
    let none = ap after_commas (drop_all l.index all (omega (arith, many, count))) in
    let rest : done ≡ after_commas (drop 1 all) = sym (append-nil done) ∙ ap (λ x. done ++ x) (sym none) ∙ left in
    let whole : get_or all 0 [] ++ done ≡ with_commas all = ap (λ x. get_or all 0 [] ++ x) rest ∙ with_commas-first all (omega (arith, many, count)) in
    has_written_of_eq _ _ _ _ _ whole (has_written_append _ _ _ _ _ _ first wrote)

pub pack::write_named_child-returns : goal.pack::write_named_child-returns
pack::write_named_child-returns g t c plain ok =
    let cs = texts_of g.N.Notation.words g.T.TreeNode.tree c.args.children.now in
    let names = c.args.names.now in
    let name = c.write_name.ensures plain (search rules) in
    let colon = c.write_str.ensures.writes name.plain (search rules) in
    let child = c.write_child.ensures colon.plain ok in
    let a = name_in g.N.Notation.words c.index-names-index.result in
    let within : c.args.index < length (names_in g.N.Notation.words names) = omega (arith, length-names_in g.N.Notation.words names, c.requires.named) in
    let at : a ≡ get_or (names_in g.N.Notation.words names) c.args.index a = get_or-names_in g.N.Notation.words names c.args.index c.index-names-index.result c.requires.named c.index-names-index.is in
    let whole : (a ++ codes ": ") ++ get_or cs c.args.index [] ≡ get_or (named_texts (names_in g.N.Notation.words names) cs) c.args.index [] =
    append_assoc a _ _ ∙ get_or-named_texts (names_in g.N.Notation.words names) cs c.args.index a within (omega (arith, length-texts_of g.N.Notation.words g.T.TreeNode.tree c.args.children.now)) at in
    has_written_of_eq _ _ _ _ _ whole (has_written_append _ _ _ _ _ _ (has_written_append _ _ _ _ _ _ name colon) child)
