-- The frames of a value that is read, one more of them.
use Rattle.std.proofs.Common.{◌≡◌, List, [], ◌∷◌, ◌++◌, ap, ◌∙◌}
use Rattle.std.specs.Prelude.{map, reverse}
use Rattle.std.proofs.lemmas.List.{map-append, reverse-append}
use Rattle.vx_source_types.specs.declared.value_state.ValueFrame.{ValueFrame}
use Rattle.vx_source_types.specs.ValueViews.{frame_of, frames_of}

-- the frame that is opened last is the innermost
pub pushed : (fs : List ValueFrame) (f : ValueFrame) → frames_of (fs ++ f ∷ []) ≡ frame_of f ∷ frames_of fs
pushed fs f = ap reverse (map-append frame_of fs (f ∷ [])) ∙ reverse-append (map frame_of fs) (frame_of f ∷ [])
