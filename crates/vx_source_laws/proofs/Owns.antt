-- What is to be proved of a node whose text shows its function.
use Rattle.std.proofs.Common.{ℕ, ◌≤◌, List, ◌++◌}
use Rattle.vx_fn.specs.Functions.{Function}
use Rattle.vx_tree.specs.Trees.{call, Trees}
use Rattle.vx_source_writer.specs.SourceTexts.{sources, own_source}
use Rattle.vx_source_grammar.specs.Nodes.{heights_of}
use Rattle.vx_source_grammar.specs.States.{Frame}
use Rattle.vx_source_laws.specs.Nesting.{shown_nesting, nestings}
use Rattle.vx_source_laws.proofs.TreesRead.{Ends, Reads}

-- the text of the function over the texts of the trees is read as the node, wherever an operand is due
abbrev pub IsOwnAgain : Function → Trees → Type 0
IsOwnAgain f es = (fs : List Frame) (r : ℕ) (rest : List ℕ) → shown_nesting f (heights_of es) (nestings es) ≤ r → Ends rest → Reads fs r (call f es) (own_source f (sources es) ++ rest) rest
