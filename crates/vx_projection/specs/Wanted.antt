-- What the code keeps: the paths and the type, read once for many values.
use Rattle.std.specs.Prelude.{List, [], ◌∷◌, map}
use Rattle.std.specs.Borrow.{Bor}
use Rattle.vx_value.specs.Paths.{Path, path_of}
use Rattle.vx_value.specs.Types.{LogicalType, ty, struct, Fields, no_field, field, Datum, struct_of, Data, no_datum, datum}
use Rattle.vx_value.specs.Views.{value_of}
use Rattle.vx_value.specs.declared.field_path.Field.{Field}
use Rattle.vx_projection.specs.Defaults.{default_of}
use Rattle.vx_projection.specs.Kept.{rests, others, at_paths}
use Rattle.vx_projection.specs.declared.wanted.Wanted.{Wanted, fold-Wanted}
use Rattle.vx_projection.specs.declared.wanted.Wanted.TheOpen.{Wanted-F}

-- of a value all of it, nothing of it but this in its place, or of its fields so much each
mutual
  pub data Want : Type 0 where
    want_all : Want
    want_none : Datum → Want
    want_fields : Wants → Want

  pub data Wants : Type 0 where
    no_want : Wants
    want : Want → Wants → Wants

-- these, one after another
abbrev pub wants_of : List Want → Wants
wants_of [] = no_want
wants_of (w ∷ ws) = want w (wants_of ws)

-- what is made of its parts, seen already
abbrev pub wanted_step : Wanted-F Want → Want
wanted_step Wanted-F.All = want_all
wanted_step (Wanted-F.Default v) = want_none (value_of v)
wanted_step (Wanted-F.Fields ws) = want_fields (wants_of ws.items)

-- what a `Wanted` stands for
abbrev pub wanted_of : Wanted → Want
wanted_of = fold-Wanted Want wanted_step

-- what these stand for, one after another
abbrev pub wanted_view : List Wanted → Wants
wanted_view ws = wants_of (map wanted_of ws)

-- what is wanted of values of the type along the paths
abbrev mutual
  pub wanted : List Path → LogicalType → Want
  wanted paths (ty (struct fs) n) = at_paths paths want_all (want_fields (fields_wanted paths fs)) (want_none (default_of (ty (struct fs) n)))
  wanted paths t = at_paths paths want_all (want_none (default_of t)) (want_none (default_of t))

  pub fields_wanted : List Path → Fields → Wants
  fields_wanted paths no_field = no_want
  fields_wanted paths (field a t fs) = want (wanted (rests a paths) t) (fields_wanted (others a paths) fs)

-- what is taken of a value
abbrev mutual
  pub taken : Want → Datum → Datum
  taken want_all v = v
  taken (want_none default) v = default
  taken (want_fields ws) (struct_of vs) = struct_of (each_taken ws vs)
  taken (want_fields ws) v = v

  pub each_taken : Wants → Data → Data
  each_taken (want w ws) (datum v vs) = datum (taken w v) (each_taken ws vs)
  each_taken _ _ = no_datum

-- the paths of parts that are lent
abbrev pub lent_paths : List (Bor (List Field)) → List Path
lent_paths paths = map (λ parts. path_of parts.now) paths
