-- Source text as a notation.
use Rattle.vx_floats.specs.Texts.{float_text}
use Rattle.vx_value.specs.Notations.{ValueWords}
use Rattle.vx_value.specs.Types.{utf8}
use Rattle.vx_dtype.specs.Quotes.{between_quotes}
use Rattle.vx_source_types.specs.ScalarTexts.{plain_source}
use Rattle.vx_source_types.specs.Untyped.{untyped_number}

-- numbers without their types, as they stand before these, and texts between quotes
abbrev pub source_words : ValueWords
source_words = record { numbered = λ i t. plain_source (untyped_number i t); floated = λ x t. plain_source (utf8 (float_text x)); quoted = between_quotes 34 }
