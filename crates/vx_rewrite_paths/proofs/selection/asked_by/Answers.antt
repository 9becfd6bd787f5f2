use Rattle.std.proofs.Common.{◌≡◌, ◌++◌, ◌∷◌, [], ◌==◌, length, map, filter, sym, ap, ◌∙◌, Ok, true, false, rules}
use Rattle.vx_dtype.specs.declared.dtype.DType.{the_lemmas}
use Rattle.vx_value.specs.Fields.{is_among}
use Rattle.vx_value.specs.Types.{ty, struct}
use Rattle.vx_value.specs.Views.{type_of, fields_of, admits_null}
use Rattle.vx_fn.specs.Functions.{included}
use Rattle.vx_rewrite_paths.specs.Asked.{each_alone}
use Rattle.vx_rewrite_paths.specs.Requests.{front_path, end_paths, requested}
use Rattle.vx_rewrite_paths.proofs.Requests.{selects_item, selects_no_item, selects_names}
use Rattle.vx_rewrite_paths.proofs.selection.asked_by.Goals as goal

pub returns-then-contains : goal.returns-then-contains
returns-then-contains c =
    let type : type_of c.args.dtype.now ≡ ty (struct (fields_of c.in-Struct.fields)) (admits_null c.in-Struct.nullability) = search (rules, the_lemmas) in
    let kept : included c.args.selection.now (fields_of c.in-Struct.fields) ≡ c.in_ok-names.names = cc c.in_ok-names.ensures in
    let some : (length c.in_ok-names.names == 0) ≡ false = sym c.is_empty.ensures ∙ c.if-is_empty.false in
    let among : is_among c.in_ok-names.names c.in-Item.first.now ≡ true = sym c.contains.ensures ∙ c.if-contains.true in
    let front : requested c.args.asked.now ≡ map (λ end. (c.in-Item.first.now ∷ front_path c.in-Item.field-1.now) ++ end) (end_paths c.args.asked.now.ends) =
    ap (λ f. map (λ end. front_path f ++ end) (end_paths c.args.asked.now.ends)) c.in-Item.is in
    rw (type, front) (ap Ok (selects_item c.args.selection.now (fields_of c.in-Struct.fields) (admits_null c.in-Struct.nullability) c.in_ok-names.names c.in-Item.first.now (front_path c.in-Item.field-1.now) (end_paths c.args.asked.now.ends) kept some among))

pub returns-else-contains : goal.returns-else-contains
returns-else-contains c =
    let type : type_of c.args.dtype.now ≡ ty (struct (fields_of c.in-Struct.fields)) (admits_null c.in-Struct.nullability) = search (rules, the_lemmas) in
    let kept : included c.args.selection.now (fields_of c.in-Struct.fields) ≡ c.in_ok-names.names = cc c.in_ok-names.ensures in
    let some : (length c.in_ok-names.names == 0) ≡ false = sym c.is_empty.ensures ∙ c.if-is_empty.false in
    let among : is_among c.in_ok-names.names c.in-Item.first.now ≡ false = sym c.contains.ensures ∙ c.if-contains.false in
    let front : requested c.args.asked.now ≡ map (λ end. (c.in-Item.first.now ∷ front_path c.in-Item.field-1.now) ++ end) (end_paths c.args.asked.now.ends) =
    ap (λ f. map (λ end. front_path f ++ end) (end_paths c.args.asked.now.ends)) c.in-Item.is in
    rw (type, front) (ap Ok (selects_no_item c.args.selection.now (fields_of c.in-Struct.fields) (admits_null c.in-Struct.nullability) c.in_ok-names.names c.in-Item.first.now (front_path c.in-Item.field-1.now) (end_paths c.args.asked.now.ends) kept some among))

pub returns-in_ok-among-in-Some : goal.returns-in_ok-among-in-Some
returns-in_ok-among-in-Some c =
    let type : type_of c.args.dtype.now ≡ ty (struct (fields_of c.in-Struct.fields)) (admits_null c.in-Struct.nullability) = search (rules, the_lemmas) in
    let kept : included c.args.selection.now (fields_of c.in-Struct.fields) ≡ c.in_ok-names.names = cc c.in_ok-names.ensures in
    let some : (length c.in_ok-names.names == 0) ≡ false = sym c.is_empty.ensures ∙ c.if-is_empty.false in
    let all : requested c.args.asked.now ≡ map (λ end. [] ++ end) (each_alone c.in-Some.ends.now) =
    ap (λ f. map (λ end. front_path f ++ end) (end_paths c.args.asked.now.ends)) c.in-Empty.is
    ∙ ap (λ ends. map (λ end. [] ++ end) (end_paths ends)) c.in-Some.is in
    let ends : filter (is_among c.in_ok-names.names) c.in-Some.ends.now ≡ c.in_ok-among-in-Some.field-0 = cc c.in_ok-among-in-Some.ensures in
    rw (type, all) (ap Ok (selects_names c.args.selection.now (fields_of c.in-Struct.fields) (admits_null c.in-Struct.nullability) c.in_ok-names.names c.in-Some.ends.now kept some ∙ ap each_alone ends))
