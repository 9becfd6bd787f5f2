-- The comparisons of an operand with each of some items, as far as their loop has come.
use Rattle.std.proofs.Common.{◌≡◌, ℕ, List, ◌++◌, Result, Ok}
use Rattle.vx_tree.specs.Trees.{Tree}
use Rattle.vx_source_types.specs.declared.expectation.Expected.{Expected}
use Rattle.vx_source_grammar.specs.Joining.{equal_to}
use Rattle.vx_source_grammar.specs.States.{when_read}
use Rattle.vx_source_operands.specs.declared.operand.Operand.{Operand}
use Rattle.vx_source_operands.specs.OperandViews.{operands_of}

abbrev after : List Tree → Result (List Tree) Expected → Result (List Tree) Expected
after made rest = when_read (λ zs. Ok (made ++ zs)) rest

-- what is made of all items, before the comparisons with the rest
abbrev pub EqualGoes : Tree → ℕ → List Operand → List Operand → List Operand → Type 0
EqualGoes e r all made rest = equal_to e r (operands_of all) ≡ after (operands_of made) (equal_to e r (operands_of rest))
