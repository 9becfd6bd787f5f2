-- How values are read that no type follows.
use Rattle.vx_source_grammar.specs.Beginning as beginning
use Rattle.vx_source_grammar.specs.Beginning.{PlainReading}
use Rattle.vx_source_grammar.specs.States.{Reading, alone, open_as}
use Rattle.vx_source_operands.specs.declared.plain.PlainValues.{PlainValues}
use Rattle.vx_source_operands.specs.declared.plain.PlainValues.TheVariants.{Alone, Open}

abbrev pub reading_of : PlainValues → Reading
reading_of Alone = alone
reading_of (Open other) = open_as other

abbrev pub plain_by : PlainValues → PlainReading
plain_by plain = beginning.plain_by (reading_of plain)
