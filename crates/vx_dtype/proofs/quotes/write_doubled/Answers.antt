use Rattle.std.proofs.Common.{◌++◌, sym, ap, ◌∙◌, refl, rules}
use Rattle.std.specs.Prelude.{encode_utf8}
use Rattle.std.proofs.Output.{has_written_append, has_written_of_eq}
use Rattle.std.proofs.lemmas.Str.{encode_ascii}
use Rattle.vx_dtype.proofs.Doubling.{doubled_none, doubled_step}
use Rattle.vx_dtype.proofs.quotes.write_doubled.Goals as goal

pub loop-front-preserved : goal.loop-front-preserved
loop-front-preserved g c = (
  search rules,
  λ p.
      let h = c.loop-front.invariant.1 p in
      let q = c.args.quote in
      let parts = c.in-Some.ensures.byte c.requires (λ w o k. k) in
      let one = encode_ascii q c.requires in
      let front = has_written_append _ _ _ _ _ _ h.1 (c.in_ok-write_str.ensures.writes h.1.plain refl) in
      let quote = has_written_append _ _ _ _ _ _ front (c.in_ok-write_char.ensures.writes front.plain refl) in (
        ((h.0 ++ c.in-Some.front.now) ++ encode_utf8 q) ++ encode_utf8 q,
        has_written_append _ _ _ _ _ _ quote (c.in_ok-write_char-2.ensures.writes quote.plain refl),
        doubled_step q h.0 c.in-Some.front.now c.in-Some.back.now c.loop-front.rest.now _ _ _ parts.2 parts.0 parts.1 one one h.2,
      ),
)

pub returns : goal.returns
returns g c = λ p ok.
    let h = c.loop-front.invariant.1 p in
    let none = c.in_default.ensures.byte c.requires (λ w o k. k) in
    has_written_of_eq _ _ _ _ _ (ap (λ xs. h.0 ++ xs) (sym (doubled_none c.args.quote c.loop-front.rest.now none)) ∙ h.2)
    (has_written_append _ _ _ _ _ _ h.1 (c.write_str-2.ensures.writes h.1.plain ok))
