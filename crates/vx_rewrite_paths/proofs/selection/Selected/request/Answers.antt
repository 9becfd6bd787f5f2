use Rattle.std.proofs.Common.{ap, ◌∙◌}
use Rattle.vx_rewrite_paths.specs.Asked.{each_alone}
use Rattle.vx_rewrite_paths.proofs.Requests.{behind_nothing}
use Rattle.vx_rewrite_paths.proofs.selection.Selected.request.Goals as goal

pub returns-in-Each : goal.returns-in-Each
returns-in-Each c = rw c.in-Each.is (behind_nothing (each_alone c.as_slice.result.now) ∙ ap each_alone c.as_slice.ensures)
