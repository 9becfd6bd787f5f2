use Rattle.std.proofs.Common.{◌≡◌, [], ◌∷◌, ◌++◌, ◌∙◌, ap, rules}
use Rattle.std.proofs.lemmas.List.Elements.{All-push}
use Rattle.vx_value.specs.Columns.{Constant}
use Rattle.vx_value.specs.Fits.{Fits}
use Rattle.vx_value.specs.Views.{type_of}
use Rattle.vx_forms.proofs.Rows.{seen_next}
use Rattle.vx_forms.proofs.scalars.with_types.Goals as goal

pub loop-scalar-preserved : goal.loop-scalar-preserved
loop-scalar-preserved c =
    let typed : type_of c.in_ok-clone.field-0 ≡ c.in-Some.scalar.type = search rules in
    record {
      typed = seen_next type_of (λ (s : Constant). s.type) _ _ _ _ _ c.loop-scalar.invariant.typed c.in_ok-push.ensures.items typed;
      kept = c.in_ok-push-2.ensures.items ∙ ap (λ xs. xs ++ c.in-Some.scalar ∷ []) c.loop-scalar.invariant.kept;
      fit = All-push (λ (s : Constant). Fits s.value s.type) c.loop-scalar.yielded c.in-Some.scalar c.loop-scalar.invariant.fit c.value-value.ensures.fits;
    }
