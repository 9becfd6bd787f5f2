use Rattle.std.proofs.Common.{sym, subst, string_bytes, Ok}
use Rattle.vx_dtype.specs.Returns.{ReturnsOrOom}
use Rattle.vx_run.specs.Pages.{page_of}
use Rattle.vx_run.proofs.pages.page.Goals as goal

pub returns-in-Fused : goal.returns-in-Fused
returns-in-Fused c = subst (λ r. ReturnsOrOom string_bytes c.fused_page.result (Ok (page_of r))) (sym c.in-Fused.is) c.fused_page.ensures

pub returns-in-Branches : goal.returns-in-Branches
returns-in-Branches c = subst (λ r. ReturnsOrOom string_bytes c.branches_page.result (Ok (page_of r))) (sym c.in-Branches.is) c.branches_page.ensures

pub returns-in-Scan : goal.returns-in-Scan
returns-in-Scan c = subst (λ r. ReturnsOrOom string_bytes c.scan_page.result (Ok (page_of r))) (sym c.in-Scan.is) c.scan_page.ensures
