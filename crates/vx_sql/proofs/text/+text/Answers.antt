use Rattle.std.proofs.Common.{◌≡◌, ◌+◌, ◌*◌, ◌/◌, ◌<◌, [], ◌++◌, codes, length, get_or, drop, refl, sym, ap, ◌∙◌, append-nil, rules, arith}
use Rattle.std.proofs.lemmas.List.{drop_all}
use Rattle.std.proofs.Output.{has_written_append, has_written_of_eq}
use Rattle.vx_dtype.proofs.Commas.{after_commas, after_commas-turn, with_commas-first}
use Rattle.vx_fn.specs.Texts.{with_commas, pairs_sql}
use Rattle.vx_fn.specs.Views.{function_of}
use Rattle.vx_tree.specs.Nodes.{size_of}
use Rattle.vx_tree.specs.Texts.{pair_sql}
use Rattle.vx_tree.specs.Trees.{unbound}
use Rattle.vx_tree.specs.Views.{bound_of}
use Rattle.vx_tree.proofs.Texts.{pairs_sql-turn, pairs_sql-else, pairs_sql-none}
use Rattle.vx_value.specs.Views.{type_of}
use Rattle.vx_sql.specs.SqlTexts.{sql, sqls_in, fields_sql}
use Rattle.vx_sql.proofs.Seen.{child_smaller, bound_node}
use Rattle.vx_sql.proofs.Texts.{length-sqls, get_or-sqls, node_sql-fits, node_sql-other, length-fields_sql, get_or-fields_sql}
use Rattle.vx_sql.proofs.text.+text.Goals as goal

pub write_child-write_sql-requires : goal.write_child-write_sql-requires
write_child-write_sql-requires g t c κs within =
    let below = child_smaller c.args.children.nodes.now c.args.index c.index-children-index.result c.requires c.index-children-index.is in
    (omega (arith, below, c.decreases, ap (λ b. size_of (unbound (bound_of b))) c.index-children-index.is), within)

pub write_child-returns : goal.write_child-returns
write_child-returns g t c plain ok =
    let same = get_or-sqls c.args.children.dialect c.args.children.nodes.now c.args.index c.index-children-index.result c.requires c.index-children-index.is in
    let shown = ap (λ b. sql c.args.children.dialect (bound_of b)) (sym c.index-children-index.is) in
    has_written_of_eq _ _ _ _ _ (shown ∙ same) (c.write_sql.ensures plain ok)

pub write_sql-returns-then-nodes-arity : goal.write_sql-returns-then-nodes-arity
write_sql-returns-then-nodes-arity g t c plain ok =
    let d = c.args.dialect in
    let dtype = type_of c.in-Scalar.dtype in
    let f = function_of c.in-Scalar.scalar_fn in
    let xs = c.as_slice-nodes.result.now in
    let seen = bound_node c.args.b.now _ _ _ xs c.in-Scalar.is (c.as_slice-nodes.ensures.value ∙ ap (λ v. v.items) c.deref.ensures) in
    let fits = node_sql-fits d dtype f xs (c.if-nodes-arity.true ∙ c.arity.ensures) in
    has_written_of_eq _ _ _ _ _ (fits ∙ sym (ap (sql d) seen)) (c.write_own.ensures plain ok)

pub write_sql-returns-else-nodes-arity : goal.write_sql-returns-else-nodes-arity
write_sql-returns-else-nodes-arity g t c plain ok =
    let d = c.args.dialect in
    let dtype = type_of c.in-Scalar.dtype in
    let f = function_of c.in-Scalar.scalar_fn in
    let xs = c.as_slice-nodes.result.now in
    let seen = bound_node c.args.b.now _ _ _ xs c.in-Scalar.is (c.as_slice-nodes.ensures.value ∙ ap (λ v. v.items) c.deref.ensures) in
    let other = node_sql-other d dtype f xs (λ e. c.if-nodes-arity.false (e ∙ sym c.arity.ensures)) in
    has_written_of_eq _ _ _ _ _ (other ∙ sym (ap (sql d) seen)) (record { wrote = record { parts = []; calls = refl; whole = refl }; plain = plain })

pub choices::write_branches-loop-pair-preserved : goal.choices::write_branches-loop-pair-preserved
choices::write_branches-loop-pair-preserved g t c = λ plain.
    let l = c.loop-pair in
    let all = sqls_in c.args.children in
    let (done, wrote, left) = l.invariant plain in
    let one = c.write_pair.ensures wrote.plain (search rules) in (
      done ++ pair_sql all (2 * l.pair),
      has_written_append _ _ _ _ _ _ wrote one,
      pairs_sql-turn done all (2 * l.pair) (2 * (l.pair + 1)) (omega arith) (omega (arith, length-sqls c.args.children.dialect c.args.children.nodes.now)) ∙ left,
    )

pub choices::write_branches-returns-in_ok-write_child : goal.choices::write_branches-returns-in_ok-write_child
choices::write_branches-returns-in_ok-write_child g t c plain ok =
    let l = c.loop-pair in
    let all = sqls_in c.args.children in
    let (done, wrote, left) = l.invariant plain in
    let word = c.write_str.ensures.writes wrote.plain (search rules) in
    let last = c.write_child.ensures word.plain (search rules) in
    let many = length-sqls c.args.children.dialect c.args.children.nodes.now in
    let whole = pairs_sql-else done all (2 * l.pair) (2 * (length c.args.children.nodes.now / 2)) (omega arith) (omega (arith, many)) ∙ left in
    has_written_of_eq _ _ _ _ _ whole (has_written_append _ _ _ _ _ _ (has_written_append _ _ _ _ _ _ wrote word) last)

pub choices::write_branches-returns-else-pairs-children : goal.choices::write_branches-returns-else-pairs-children
choices::write_branches-returns-else-pairs-children g t c plain ok =
    let l = c.loop-pair in
    let all = sqls_in c.args.children in
    let (done, wrote, left) = l.invariant plain in
    let none = pairs_sql-none all (2 * l.pair) (omega (arith, length-sqls c.args.children.dialect c.args.children.nodes.now)) in
    let whole : done ≡ pairs_sql all = sym (append-nil done) ∙ ap (λ x. done ++ x) (sym none) ∙ left in
    has_written_of_eq _ _ _ _ _ whole wrote

pub structs::write_fields-loop-index-init : goal.structs::write_fields-loop-index-init
structs::write_fields-loop-index-init g t c = λ plain. ([], record { wrote = record { parts = []; calls = refl; whole = refl }; plain = plain }, refl)

pub structs::write_fields-loop-index-preserved : goal.structs::write_fields-loop-index-preserved
structs::write_fields-loop-index-preserved g t c = λ plain.
    let l = c.loop-index in
    let cs = sqls_in c.args.children in
    let all = fields_sql c.args.children.dialect c.args.names.now cs in
    let count = length-sqls c.args.children.dialect c.args.children.nodes.now in
    let many = length-fields_sql c.args.children.dialect c.args.names.now cs (omega (arith, count)) in
    let (done, wrote, left) = l.invariant plain in
    let one = c.write_str.ensures.writes wrote.plain (search rules) in
    let two = c.write_field-in-loop-index.ensures one.plain (search rules) in (
      (done ++ codes ", ") ++ get_or all l.index [],
      has_written_append _ _ _ _ _ _ (has_written_append _ _ _ _ _ _ wrote one) two,
      after_commas-turn done all l.index (omega (arith, many, count)) ∙ left,
    )

pub structs::write_fields-returns : goal.structs::write_fields-returns
structs::write_fields-returns g t c plain ok =
    let l = c.loop-index in
    let children = c.args.children.nodes.now in
    let cs = sqls_in c.args.children in
    let all = fields_sql c.args.children.dialect c.args.names.now cs in
    let count = length-sqls c.args.children.dialect children in
    let many = length-fields_sql c.args.children.dialect c.args.names.now cs (omega (arith, count)) in
    let given : 0 < length children = grind arith in
    let first = c.write_field.ensures plain (search rules) in
    let (done, wrote, left) = l.invariant first.plain in
    let none = ap after_commas (drop_all l.index all (omega (arith, many, count))) in
    let rest : done ≡ after_commas (drop 1 all) = sym (append-nil done) ∙ ap (λ x. done ++ x) (sym none) ∙ left in
    let whole : get_or all 0 [] ++ done ≡ with_commas all = ap (λ x. get_or all 0 [] ++ x) rest ∙ with_commas-first all (omega (arith, many, count)) in
    has_written_of_eq _ _ _ _ _ whole (has_written_append _ _ _ _ _ _ first wrote)

pub structs::write_field-returns : goal.structs::write_field-returns
structs::write_field-returns g t c plain ok =
    let cs = sqls_in c.args.children in
    let name = c.write_before_field.ensures plain (search rules) in
    let child = c.write_child.ensures name.plain ok in
    let whole = get_or-fields_sql c.args.children.dialect c.args.names.now cs c.args.index c.index-names-index.result c.requires.named (omega (arith, length-sqls c.args.children.dialect c.args.children.nodes.now, c.requires.given)) c.index-names-index.is in
    has_written_of_eq _ _ _ _ _ whole (has_written_append _ _ _ _ _ _ name child)
