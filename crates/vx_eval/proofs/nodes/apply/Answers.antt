use Rattle.std.proofs.Common.{◌∙◌, ap, refl, sym}
use Rattle.vx_value.specs.Views.{admits_null}
use Rattle.vx_fn.specs.Views.{function_of}
use Rattle.vx_tree.specs.Trees.{node_types}
use Rattle.vx_tree.specs.Views.{bounds_of}
use Rattle.vx_eval.specs.Columns.{rows_views}
use Rattle.vx_eval.proofs.Transposed.{no_columns, one_child, one_struct, left_number, at_node}
use Rattle.vx_eval.proofs.nodes.apply.Goals as goal

pub returns-in-CaseWhen : goal.returns-in-CaseWhen
returns-in-CaseWhen c = at_node _ _ _ _ _ _ _ _ (ap function_of c.in-CaseWhen.is) refl refl (c.case_when.ensures c.in-CaseWhen.field-0.num_when_then_pairs c.in-CaseWhen.field-0.has_else (node_types (bounds_of c.args.children.now)))

pub only-requires : goal.only-requires
only-requires c = one_child _ c.args.children.now (rw c.in-GetItem.is at c.requires.typed)

pub only-requires-in-Select : goal.only-requires-in-Select
only-requires-in-Select c = one_struct c.in-Select.selection c.args.children.now (rw c.in-Select.is at c.requires.typed)

pub returns-in-Literal : goal.returns-in-Literal
returns-in-Literal c =
    let typed = rw c.in-Literal.is at c.requires.typed in
    at_node _ _ _ _ _ _ _ _ (ap function_of c.in-Literal.is) refl (no_columns _ c.in-Literal.scalar.value _ _ typed c.requires.number) (c.literal.ensures (node_types (bounds_of c.args.children.now)))

pub binary-requires-clause-numbers : goal.binary-requires-clause-numbers
binary-requires-clause-numbers c = λ computes. left_number _ _ _ _ computes c.first_type-in-Binary.ensures.1 (rw c.in-Binary.is at c.requires.typed)

pub returns-in-Pack : goal.returns-in-Pack
returns-in-Pack c = at_node _ _ _ _ _ _ _ _ (ap function_of c.in-Pack.is) refl refl (c.pack.ensures c.in-Pack.field-0.names (admits_null c.in-Pack.field-0.nullability) (node_types (bounds_of c.args.children.now)))

pub returns-in-FillNull : goal.returns-in-FillNull
returns-in-FillNull c = at_node _ _ _ _ _ _ _ _ (ap function_of c.in-FillNull.is) c.first_type.ensures.1 (ap rows_views c.two-input.ensures) (c.fill_null-filled.ensures c.first_type.ensures.0)

pub returns-in-Zip : goal.returns-in-Zip
returns-in-Zip c = at_node _ _ _ _ _ _ _ _ (ap function_of c.in-Zip.is) refl (ap rows_views c.three-if_true.ensures) (c.zip.ensures (node_types (bounds_of c.args.children.now)))

pub returns-in-Binary : goal.returns-in-Binary
returns-in-Binary c = at_node _ _ _ _ _ _ _ _ (ap function_of c.in-Binary.is) c.first_type-in-Binary.ensures.1 refl (c.binary.ensures c.first_type-in-Binary.ensures.0)

pub returns-in-Not : goal.returns-in-Not
returns-in-Not c = at_node _ _ _ _ _ _ _ _ (ap function_of c.in-Not.is) refl (ap rows_views (sym c.as_slice-in-Not.ensures.value ∙ c.single-in-Not.ensures)) (c.not.ensures (node_types (bounds_of c.args.children.now)))

pub returns-in-Between : goal.returns-in-Between
returns-in-Between c = at_node _ _ _ _ _ _ _ _ (ap function_of c.in-Between.is) refl (ap rows_views (sym c.as_slice-in-Between.ensures.value ∙ c.triple.ensures)) (c.between.ensures (node_types (bounds_of c.args.children.now)))

pub returns-in-IsNull : goal.returns-in-IsNull
returns-in-IsNull c = at_node _ _ _ _ _ _ _ _ (ap function_of c.in-IsNull.is) refl (ap rows_views (sym c.as_slice-in-IsNull.ensures.value ∙ c.single-in-IsNull.ensures)) (c.is_null.ensures (node_types (bounds_of c.args.children.now)))

pub returns-in-IsNotNull : goal.returns-in-IsNotNull
returns-in-IsNotNull c = at_node _ _ _ _ _ _ _ _ (ap function_of c.in-IsNotNull.is) refl (ap rows_views (sym c.as_slice-in-IsNotNull.ensures.value ∙ c.single-in-IsNotNull.ensures)) (c.is_not_null.ensures (node_types (bounds_of c.args.children.now)))

pub returns-in-Mask : goal.returns-in-Mask
returns-in-Mask c = at_node _ _ _ _ _ _ _ _ (ap function_of c.in-Mask.is) refl (ap rows_views c.two-input-in-Mask.ensures) (c.mask.ensures (node_types (bounds_of c.args.children.now)))

pub returns-in-Cast : goal.returns-in-Cast
returns-in-Cast c = at_node _ _ _ _ _ _ _ _ (ap function_of c.in-Cast.is) refl (ap rows_views c.one-in-Cast.ensures) (c.cast.ensures (node_types (bounds_of c.args.children.now)))

pub returns-in-StartsWith : goal.returns-in-StartsWith
returns-in-StartsWith c = at_node _ _ _ _ _ _ _ _ (ap function_of c.in-StartsWith.is) refl (ap rows_views (sym c.as_slice-in-StartsWith.ensures.value ∙ c.pair-in-StartsWith.ensures)) (c.starts_with.ensures (node_types (bounds_of c.args.children.now)))

pub returns-in-ByteLength : goal.returns-in-ByteLength
returns-in-ByteLength c = at_node _ _ _ _ _ _ _ _ (ap function_of c.in-ByteLength.is) refl (ap rows_views (sym c.as_slice-in-ByteLength.ensures.value ∙ c.single-in-ByteLength.ensures)) (c.byte_length.ensures (node_types (bounds_of c.args.children.now)))

pub returns : goal.returns
returns c = at_node _ _ _ _ _ _ _ _ (ap function_of c.in-ListContains.is) refl (ap rows_views (sym c.as_slice-in-ListContains.ensures.value ∙ c.pair-in-ListContains.ensures)) (c.list_contains.ensures (node_types (bounds_of c.args.children.now)))

pub returns-in-Like : goal.returns-in-Like
returns-in-Like c = at_node _ _ _ _ _ _ _ _ (ap function_of c.in-Like.is) refl (ap rows_views (sym c.as_slice-in-Like.ensures.value ∙ c.pair.ensures)) (c.like.ensures (node_types (bounds_of c.args.children.now)))
