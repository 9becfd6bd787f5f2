-- A line more, behind those of some chunks.
use Rattle.std.proofs.Common.{ℕ, List, [], ◌∷◌, ◌++◌, ap, sym, ◌∙◌}
use Rattle.std.specs.List.{flat_map}
use Rattle.std.proofs.lemmas.Grind.{flat_map-append}
use Rattle.std.proofs.lemmas.List.{append-nil}
use Rattle.vx_tree.specs.Trees.{BoundTree}
use Rattle.vx_ffi_calls.specs.VerdictPages.{AddsVerdictLine, AreVerdictLines, verdict_line}

pub one_more : (b : BoundTree) (before after : List ℕ) → AreVerdictLines b before → AddsVerdictLine b before after → AreVerdictLines b after
one_more b before after (chunks, are) (facts, added) =
    (chunks ++ facts ∷ [], added ∙ ap (λ page. page ++ verdict_line b facts) are ∙ ap (λ line. flat_map (verdict_line b) chunks ++ line) (sym (append-nil (verdict_line b facts))) ∙ sym (flat_map-append (verdict_line b) chunks (facts ∷ [])))
