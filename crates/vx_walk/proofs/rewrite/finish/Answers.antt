use Rattle.std.proofs.Common.{rules, ◌≡◌, refl, inl, inr, Ok, Err}
use Rattle.vx_walk.specs.Begun.{not_rebuilt}
use Rattle.vx_walk.proofs.Rewriting.{Finishes-handed_on, Finishes-goes_up}
use Rattle.vx_walk.proofs.rewrite.finish.Goals as goal

pub returns-in_err-handed-clause-finished : goal.returns-in_err-handed-clause-finished
returns-in_err-handed-clause-finished g c =
    let e : c.from_residual.result ≡ Err c.in_err-handed.field-0.0 = search rules in
    rw e (not_rebuilt c.in_err-handed.ensures.err)

pub returns-in_err-up-in-Continue-clause-finished : goal.returns-in_err-up-in-Continue-clause-finished
returns-in_err-up-in-Continue-clause-finished g c =
    let e : c.from_residual-in_err-up-in-Continue.result ≡ Err c.in_err-up-in-Continue.field-0.0 = search rules in
    rw e (Finishes-goes_up g.N.Node.mirror _ _ c.args.below c.in_ok-handed.handed (Err c.in_err-up-in-Continue.field-0.0) c.in_ok-handed.ensures.ok c.in-Continue.is
    (record { node = _; looks = refl; answer = _; sees = refl; step = c.in_err-up-in-Continue.ensures.gives }))

pub returns-in_ok-up-in-Continue-clause-finished : goal.returns-in_ok-up-in-Continue-clause-finished
returns-in_ok-up-in-Continue-clause-finished g c =
    rw c.marked.ensures (Finishes-goes_up g.N.Node.mirror _ _ c.args.below c.in_ok-handed.handed (Ok _) c.in_ok-handed.ensures.ok c.in-Continue.is
    (record { node = _; looks = refl; answer = _; sees = refl; step = c.in_ok-up-in-Continue.ensures.gives }))

pub returns-in-Skip-clause-finished : goal.returns-in-Skip-clause-finished
returns-in-Skip-clause-finished g c =
    Finishes-handed_on g.N.Node.mirror _ _ c.args.below c.in_ok-handed.handed c.in_ok-handed.ensures.ok (λ q. elim c.in-Skip.is [ inl a ↦ cc | inr a ↦ cc ])
