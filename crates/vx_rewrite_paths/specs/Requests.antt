-- What the code passes down a tree stands for.
use Rattle.std.specs.Prelude.{List, [], ◌∷◌, ◌++◌, map, Option, Some, None}
use Rattle.std.specs.Borrow.{Bor}
use Rattle.vx_value.specs.Paths.{Path}
use Rattle.vx_value.specs.Types.{Name}
use Rattle.vx_rewrite_paths.specs.Asked.{whole, each_alone}
use Rattle.vx_rewrite_paths.specs.declared.request.Front.{Front}
use Rattle.vx_rewrite_paths.specs.declared.request.Front.TheVariants.{Empty, Item'}
use Rattle.vx_rewrite_paths.specs.declared.request.Request.{Request}
use Rattle.vx_rewrite_paths.specs.declared.selection.Selected.{Selected}
use Rattle.vx_rewrite_paths.specs.declared.selection.Selected.TheVariants.{Nothing, Whole, Same, Each}

-- the names of a front, from the outermost field in
abbrev pub front_path : Front → Path
front_path Empty = []
front_path (Item' name p rest) = name.now ∷ front_path rest

-- the ends of the paths behind a front: each of the names, or the front's own end
abbrev pub end_paths : Option (Bor (List Name)) → List Path
end_paths None = whole
end_paths (Some names) = each_alone names.now

-- the paths of a request
abbrev pub requested : Request → List Path
requested r = map (λ end. front_path r.front ++ end) (end_paths r.ends)

-- the paths that a selection asks for, where it is asked for these
abbrev pub selected_of : Selected → List Path → List Path
selected_of Nothing paths = []
selected_of Whole paths = whole
selected_of Same paths = paths
selected_of (Each names) paths = each_alone names
