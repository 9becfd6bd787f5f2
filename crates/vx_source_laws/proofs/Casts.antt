-- Casts.
use Rattle.std.proofs.Common.{◌≡◌, ℕ, zero, suc, List, ◌∷◌, ◌++◌, refl, ◌∙◌, append_assoc, arith}
use Rattle.std.specs.Prelude.{codes}
use Rattle.vx_dtype.specs.Types.{LogicalType}
use Rattle.vx_fn.specs.Functions.{cast}
use Rattle.vx_tree.specs.Trees.{Tree, call, no_tree, tree}
use Rattle.vx_source_types.proofs.FirstSigns.{first_open_paren, first_close_paren}
use Rattle.vx_source_types.specs.declared.token.Sign.TheVariants.{CloseParen}
use Rattle.vx_source_types.specs.Tokens.{word, sign}
use Rattle.vx_source_types.specs.Reading.{stays, leads}
use Rattle.vx_source_types.specs.TypePrintable.{IsPrintable}
use Rattle.vx_source_types.specs.TypeReading.{type_start}
use Rattle.vx_source_types.specs.TypeTexts.{type_source}
use Rattle.vx_source_types.proofs.Reading.{then}
use Rattle.vx_source_writer.specs.SourceTexts.{source}
use Rattle.vx_source_grammar.specs.ExpressionReading.{expression_step}
use Rattle.vx_source_grammar.specs.States.{for_cast_call, in_cast, in_type, operand_due, tight, at_word}
use Rattle.vx_source_laws.proofs.Heights.{height_below}
use Rattle.vx_source_laws.proofs.Owns.{IsOwnAgain}
use Rattle.vx_source_laws.proofs.TreesRead.{at, due, of_grouped, IsAgain, node_is}
use Rattle.vx_source_laws.proofs.TypesRead.{whole_type, type_read_behind_blank}

pub cast_again : (t : LogicalType) (e : Tree) → IsPrintable t → IsAgain e → IsOwnAgain (cast t) (tree e no_tree)
cast_again t e u k fs zero rest h m = absurd (omega arith)
cast_again t e u k fs (suc r) rest h m =
    let behind : List ℕ = codes " as " ++ (type_source t ++ 41 ∷ rest) in
    let grouped : (codes "cast(" ++ (source e ++ (codes " as " ++ (type_source t ++ codes ")")))) ++ rest ≡ codes "cast(" ++ (source e ++ behind) = simp append_assoc in
    let it = k (in_cast (suc r) ∷ fs) r behind (omega arith) refl in
    let below = height_below e in
    of_grouped grouped
    (record {
      token = word (codes "cast");
      behind = 40 ∷ (source e ++ behind);
      state = at fs (at_word (codes "cast")) (suc r);
      last = at fs (tight (call (cast t) (tree e no_tree))) (suc r);
      found = refl;
      taken = refl;
      opens = refl;
      more_of =
          leads {t = at (in_cast (suc r) ∷ fs) operand_due r} (first_open_paren (source e ++ behind)) refl
          (then expression_step (due it)
          (leads {t = at fs (in_type (for_cast_call e (suc r)) (type_start r)) r} refl (it.is_behind (word (codes "as")) refl)
          (then expression_step (type_read_behind_blank t fs r (for_cast_call e (suc r)) r (41 ∷ rest) u (omega arith) refl)
          (leads (first_close_paren rest) (whole_type fs r (for_cast_call e (suc r)) t r (sign CloseParen) refl ∙ node_is fs (cast t) (tree e no_tree) (suc r) (omega arith)) stays))));
      is_behind = λ x p. refl;
    })
