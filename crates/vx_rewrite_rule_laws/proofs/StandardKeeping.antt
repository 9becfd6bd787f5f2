-- Each rule keeps the tree at which it applies.
use Rattle.vx_tree.specs.Trees.{BoundTree, WellTyped}
use Rattle.vx_rewrite_core.specs.Keeps.{Keeps}
use Rattle.vx_rewrite_rule_laws.proofs.FillLaws.{keeps_fill_of_not_null}
use Rattle.vx_rewrite_rule_laws.proofs.CaseLaws.{keeps_coalesce_to_null, keeps_coalesce}
use Rattle.vx_rewrite_rule_laws.proofs.PackLaws.{keeps_item_of_pack, keeps_item_of_nullable_pack}
use Rattle.vx_rewrite_rule_laws.proofs.ZipLaws.{keeps_zip_chosen, keeps_zip_cast}
use Rattle.vx_rewrite_rule_laws.proofs.SelectLaws.{keeps_select_none, keeps_select_none_of_pack, keeps_select_of_pack}
use Rattle.vx_rewrite_rule_laws.specs.Rules.{RuleAt, fill_of_not_null, coalesce_to_null, coalesce, item_of_pack, item_of_nullable_pack, zip_chosen, zip_cast, select_none, select_none_of_pack, select_of_pack}

pub rule_keeps : (b u : BoundTree) → WellTyped b → RuleAt b u → Keeps b u
rule_keeps b u w (fill_of_not_null {t = t} {x = x} {y = y} e) = keeps_fill_of_not_null t x y w e
rule_keeps b u w (coalesce_to_null {x = x} {t = t} i) = keeps_coalesce_to_null x t i w
rule_keeps b u w (coalesce {x = x} {t = t} {c = c} i z p) = keeps_coalesce x t c i z p w
rule_keeps b u w (item_of_pack {t = t} {p = p} {a = a} {names = names} {xs = xs} {x = x} e) = keeps_item_of_pack t p a names xs x w e
rule_keeps b u w (item_of_nullable_pack {t = t} {p = p} {a = a} {names = names} {xs = xs} {x = x} e) = keeps_item_of_nullable_pack t p a names xs x w e
rule_keeps b u w (zip_chosen {t = t} {m = m} {c = c} {x = x} {y = y} e) = keeps_zip_chosen t m c x y w
rule_keeps b u w (zip_cast {t = t} {m = m} {c = c} {x = x} {y = y} e) = keeps_zip_cast t m c x y w e
rule_keeps b u w (select_none {t = t} {selection = s} {x = x} {fs = fs} q e) = keeps_select_none t s x fs w q e
rule_keeps b u w (select_none_of_pack {t = t} {selection = s} {fs = fs} {n = n} {names = names} {xs = xs} e) = keeps_select_none_of_pack t s fs n names xs w e
rule_keeps b u w (select_of_pack {gs = gs} {selection = s} {fs = fs} {n = n} {names = names} {xs = xs} e h) = keeps_select_of_pack gs s fs n names xs w
