-- Scaffolding: a code of what is known of a chunk, so that it may be what a `Model` shows.
use Rattle.std.specs.Prelude.{ℕ, List, Option, refl}
use Rattle.std.specs.Coded.{Coded, code_by, coded_ℕ, coded_list, coded_option, coded×}
use Rattle.vx_value.specs.Codes.{name_code, datum_code}
use Rattle.vx_value.specs.Paths.{Path}
use Rattle.vx_value.specs.Types.{Datum}
use Rattle.vx_prune_tree.specs.Stats.{FieldFacts, field_facts, Facts, facts}

abbrev pub field_facts_code : Coded FieldFacts
field_facts_code = code_by (Option ℕ × (Option Datum × Option Datum)) (coded× (coded_option coded_ℕ) (coded× (coded_option datum_code) (coded_option datum_code))) (λ f. (f.nulls, (f.least, f.greatest))) (λ p. field_facts p.0 p.1.0 p.1.1) (λ _. refl)

abbrev pub facts_code : Coded Facts
facts_code = code_by (ℕ × List (Path × FieldFacts)) (coded× coded_ℕ (coded_list (coded× (coded_list name_code) field_facts_code))) (λ f. (f.rows, f.fields)) (λ p. facts p.0 p.1) (λ _. refl)
