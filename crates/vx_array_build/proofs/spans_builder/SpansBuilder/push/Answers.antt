use Rattle.std.proofs.Common.{◌≡◌, ap, sym, ◌∙◌, ◌++◌, [], ◌∷◌, arith, length, subst}
use Rattle.vx_array_build.specs.Cuts.{AreCuts, cuts_in}
use Rattle.vx_array_build.proofs.Cutting.{cut_more, cuts_more}
use Rattle.vx_array_build.proofs.spans_builder.SpansBuilder.push.Goals as goal

pub invariant_of-result : goal.invariant_of-result
invariant_of-result c =
    let s = c.self.inside in
    let long : c.len.result ≡ length c.extend_from_slice.new.self.items = omega (arith, c.len.ensures, c.extend_from_slice.new.self.ok.0) in
    subst (λ l. AreCuts l c.extend_from_slice.new.self.items) (sym c.in_ok-push.ensures.items) (cuts_more s.offsets.items s.bytes.items c.args.row.now c.extend_from_slice.new.self.items c.len.result c.self.invariant c.in_ok-extend_from_slice.ensures.items long)

pub returns : goal.returns
returns c =
    let s = c.self.inside in
    let long : c.len.result ≡ length c.extend_from_slice.new.self.items = omega (arith, c.len.ensures, c.extend_from_slice.new.self.ok.0) in
    ap (λ l. cuts_in l c.extend_from_slice.new.self.items) c.in_ok-push.ensures.items ∙ cut_more s.offsets.items s.bytes.items c.args.row.now c.extend_from_slice.new.self.items c.len.result c.self.invariant c.in_ok-extend_from_slice.ensures.items long
    ∙ ap (λ l. l ++ c.args.row.now ∷ []) c.self.view_is
