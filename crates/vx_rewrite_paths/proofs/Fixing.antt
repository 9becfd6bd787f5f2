-- The minimal paths among those that a tree references fix its meaning.
use Rattle.std.proofs.Common.{◌≡◌, inl, inr, List, [], ◌∷◌, refl, sym, ◌∙◌, map}
use Rattle.std.specs.List.{AllZip}
use Rattle.vx_value.specs.Fits.{Fits}
use Rattle.vx_value.specs.Paths.{minimal_paths}
use Rattle.vx_value.specs.Types.{Datum}
use Rattle.vx_dtype.specs.Lists.{IsIn}
use Rattle.vx_tree.proofs.Meant.{mean-unbound}
use Rattle.vx_tree.proofs.Trees.{each_passes}
use Rattle.vx_tree.specs.Meaning.{mean, value}
use Rattle.vx_tree.specs.Trees.{BoundTree, unbound, WellTyped}
use Rattle.vx_rewrite_paths.specs.Agreement.{AgreeAlong, FixTheMeaning}
use Rattle.vx_rewrite_paths.specs.Asked.{whole, asked, referenced}
use Rattle.vx_rewrite_paths.proofs.Interference.{paths-agree, asked-lead}
use Rattle.vx_rewrite_paths.proofs.Prefixes.{along_minimal}

-- lists that are related place by place are mapped alike where related items are
mapped_alike : (R : Datum → Datum → Type 0) (f : Datum → Datum) (vs ws : List Datum) → AllZip R vs ws → ((v w : Datum) → IsIn v vs → IsIn w ws → R v w → f v ≡ f w) → map f vs ≡ map f ws
mapped_alike R f [] [] z h = refl
mapped_alike R f [] (w ∷ ws) z h = elim z [ ]
mapped_alike R f (v ∷ vs) [] z h = elim z [ ]
mapped_alike R f (v ∷ vs) (w ∷ ws) z h =
    let first : f v ≡ f w = h v w (inl refl) (inl refl) z.0 in
    let rest : map f vs ≡ map f ws = mapped_alike R f vs ws z.1 (λ x y i j. h x y (inr i) (inr j)) in
    cc

pub minimal_paths-fix : (b : BoundTree) → WellTyped b → FixTheMeaning b (minimal_paths (referenced b))
minimal_paths-fix b k = λ s first second o x m y n rows. mapped_alike (AgreeAlong (minimal_paths (referenced b)) s) (mean (unbound b) s) first second rows (λ v w i j agree.
    let e : Fits v s = each_passes _ first v x i in
    let h : Fits w s = each_passes _ second w y j in
    let along = along_minimal (asked b whole) s v w (asked-lead b s whole k o (tt, tt)) e agree in
    let same : value b v ≡ value b w = (paths-agree b s first second v w whole k o m n i j e h (tt, tt) along).0 in
    mean-unbound b s v k o ∙ same ∙ sym (mean-unbound b s w k o))
