-- How elements lie in a container.
use Rattle.std.specs.Prelude.{List, [], ◌∷◌, ◌++◌}

-- what holds its parts in memory of its own
pub data Holder : Type 0 where
  vector : Holder
  box : Holder
  rc : Holder

mutual
  -- how elements lie in a container: one element, parts side by side, or parts in a holder
  pub data Shape (E : Type 0) : Type 0 where
    element : E → Shape E
    row : Row E → Shape E
    inside : Holder → Shape E → Shape E

  -- parts, from left to right
  pub data Row (E : Type 0) : Type 0 where
    no_part : Row E
    part : Shape E → Row E → Row E

-- a part for each, by f
abbrev pub parts : {C E : Type 0} → (C → Shape E) → List C → Row E
parts f [] = no_part
parts f (c ∷ cs) = part (f c) (parts f cs)

module _ {E M : Type 0} (f : E → M) where
  abbrev mutual
    -- the same shape, its elements seen by f
    pub shape_seen : Shape E → Shape M
    shape_seen (element e) = element (f e)
    shape_seen (row r) = row (row_seen r)
    shape_seen (inside h s) = inside h (shape_seen s)

    -- the same parts, their elements seen by f
    pub row_seen : Row E → Row M
    row_seen no_part = no_part
    row_seen (part s r) = part (shape_seen s) (row_seen r)

-- the places of a container, whatever stands in them
abbrev pub places : {E : Type 0} → Shape E → Shape (Unit {0})
places s = shape_seen (λ e. tt) s

abbrev mutual
  -- the elements, from left to right
  pub elements : {E : Type 0} → Shape E → List E
  elements (element e) = e ∷ []
  elements (row r) = row_elements r
  elements (inside h s) = elements s

  pub row_elements : {E : Type 0} → Row E → List E
  row_elements no_part = []
  row_elements (part s r) = elements s ++ row_elements r
