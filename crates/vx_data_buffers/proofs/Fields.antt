-- The fields of a struct, one after another.
use Rattle.std.proofs.Common.{◌≡◌, ℕ, ◌+◌, ◌<◌, ◌≤◌, List, [], ◌∷◌, ◌++◌, length, get_or, drop, map, refl, sym, ap, ◌∙◌, append_assoc, ◌⊎◌, inl, inr}
use Rattle.std.specs.Prelude.{Result, Ok, Err}
use Rattle.std.proofs.lemmas.List.{append-nil, map-append}
use Rattle.vx_dtype.specs.declared.dtype.DType.{DType}
use Rattle.vx_dtype.proofs.Pairs.{fields_step, fields_end}
use Rattle.vx_value.specs.declared.value.Value.{Value}
use Rattle.vx_value.specs.Types.{Name, Datum}
use Rattle.vx_value.specs.Fields.{field_count}
use Rattle.vx_value.specs.Views.{type_of, fields_view, value_of}
use Rattle.vx_data_buffers.specs.Results.{and_then, and_so}
use Rattle.vx_data_buffers.specs.Layout.{buffer_count, field_buffer_count, value_at, fields_at}
use Rattle.vx_data_buffers.specs.declared.fault.Fault.{Fault}

-- one field further, there are its buffers less
pub count_next : (names : List Name) (types : List DType) (k : ℕ) (t : DType) → k < length names → k < length types → t ≡ get_or types k t
    → field_buffer_count (fields_view (drop k names) (drop k types)) ≡ buffer_count (type_of t) + field_buffer_count (fields_view (drop (k + 1) names) (drop (k + 1) types))
count_next names types k t h l e = ap field_buffer_count (fields_step names types k [] t h l e)

-- behind the last field there is none
pub count_end : (names : List Name) (types : List DType) (k : ℕ) → field_count (fields_view names types) ≤ k → field_buffer_count (fields_view (drop k names) (drop k types)) ≡ 0
count_end names types k h = ap field_buffer_count (fields_end names types k h)

-- the values that were read, and those behind them
abbrev pub behind : List Datum → Result (List Datum) Fault → Result (List Datum) Fault
behind done rest = and_so rest (λ vs. done ++ vs)

behind_more : (done : List Datum) (d : Datum) (rest : Result (List Datum) Fault) → behind done (and_so rest (λ vs. d ∷ vs)) ≡ behind (done ++ d ∷ []) rest
behind_more done d (Ok vs) = ap Ok (sym (append_assoc done (d ∷ []) vs))
behind_more done d (Err e) = refl

module _ (buffers : List (List ℕ)) (names : List Name) (types : List DType) (i : ℕ) where
  -- what there is from a field on
  abbrev pub fields_from : ℕ → ℕ → Result (List Datum) Fault
  fields_from k at = fields_at buffers (fields_view (drop k names) (drop k types)) at i

  from_next : (k at : ℕ) (t : DType) → k < length names → k < length types → t ≡ get_or types k t
      → fields_from k at ≡ and_then (value_at buffers (type_of t) at i) (λ v. and_so (fields_from (k + 1) (at + buffer_count (type_of t))) (λ vs. v ∷ vs))
  from_next k at t h l e = ap (λ fs. fields_at buffers fs at i) (fields_step names types k [] t h l e)

  -- one more value
  pub field_more : (k at next : ℕ) (t : DType) (d : Datum) (done after : List Datum) (all : Result (List Datum) Fault) → k < length names → k < length types → t ≡ get_or types k t
      → all ≡ behind done (fields_from k at) → value_at buffers (type_of t) at i ≡ Ok d → after ≡ done ++ d ∷ [] → next ≡ at + buffer_count (type_of t)
      → all ≡ behind after (fields_from (k + 1) next)
  field_more k at next t d done after all h l e so_far read grown further =
      let f = λ (r : Result Datum Fault). and_then r (λ d. and_so (fields_from (k + 1) (at + buffer_count (type_of t))) (λ vs. d ∷ vs)) in
      so_far ∙ ap (behind done) (from_next k at t h l e ∙ ap f read)
      ∙ behind_more done d (fields_from (k + 1) (at + buffer_count (type_of t)))
      ∙ ap (λ ds. behind ds (fields_from (k + 1) (at + buffer_count (type_of t)))) (sym grown)
      ∙ ap (λ n. behind after (fields_from (k + 1) n)) (sym further)

  -- the same of values
  pub field_read : (k at next : ℕ) (t : DType) (v : Value) (values after : List Value) (all : Result (List Datum) Fault) → k < length names → k < length types → t ≡ get_or types k t
      → all ≡ behind (map value_of values) (fields_from k at) → value_at buffers (type_of t) at i ≡ Ok (value_of v) → after ≡ values ++ v ∷ [] → next ≡ at + buffer_count (type_of t)
      → all ≡ behind (map value_of after) (fields_from (k + 1) next)
  field_read k at next t v values after all h l e so_far read grown further =
      field_more k at next t (value_of v) (map value_of values) (map value_of after) all h l e so_far read (ap (map value_of) grown ∙ map-append value_of values (v ∷ [])) further

  -- a value that is refused
  pub field_refused : (k at : ℕ) (t : DType) (done : List Datum) (all : Result (List Datum) Fault) (e other : Fault) → k < length names → k < length types → t ≡ get_or types k t
      → all ≡ behind done (fields_from k at) → (e ≡ other) ⊎ (value_at buffers (type_of t) at i ≡ Err e) → (e ≡ other) ⊎ (all ≡ Err e)
  field_refused k at t done all e other h l q so_far (inl p) = inl p
  field_refused k at t done all e other h l q so_far (inr r) =
      let f = λ (r : Result Datum Fault). and_then r (λ d. and_so (fields_from (k + 1) (at + buffer_count (type_of t))) (λ vs. d ∷ vs)) in
      inr (so_far ∙ ap (behind done) (from_next k at t h l q ∙ ap f r))

  -- all of them
  pub fields_read : (k at : ℕ) (done : List Datum) (all : Result (List Datum) Fault) → field_count (fields_view names types) ≤ k → all ≡ behind done (fields_from k at) → all ≡ Ok done
  fields_read k at done all h so_far =
      so_far ∙ ap (λ fs. behind done (fields_at buffers fs at i)) (fields_end names types k h) ∙ ap Ok (append-nil done)
