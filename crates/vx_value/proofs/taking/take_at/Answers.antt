use Rattle.std.proofs.Common.{◌≡◌, sym, subst, IfOk}
use Rattle.vx_value.specs.Views.{value_of}
use Rattle.vx_value.proofs.TakenRows.{row_there, at_place, place_kept, row_kept, lengths_kept}
use Rattle.vx_value.proofs.taking.take_at.Goals as goal

pub take-requires : goal.take-requires
take-requires g c = row_there g.C.TakeRow.rows _ _ _ _ c.requires.row c.requires.within c.index_mut.ensures.value

pub returns-clause-value : goal.returns-clause-value
returns-clause-value g c =
    subst (λ d. IfOk c.take.result (λ v. value_of v ≡ d)) (sym (at_place g.C.TakeRow.rows _ c.args.i _ _ c.requires.within c.index_mut.ensures.value)) c.take.ensures.value

pub returns-clause-rest : goal.returns-clause-rest
returns-clause-rest g c = λ m apart. place_kept g.C.TakeRow.rows _ _ _ m _ apart

pub returns-clause-others : goal.returns-clause-others
returns-clause-others g c = λ k apart. row_kept g.C.TakeRow.rows _ k _ _ _ c.requires.within c.index_mut.ensures.value (c.take.ensures.others k apart)

pub returns-clause-long : goal.returns-clause-long
returns-clause-long g c = lengths_kept g.C.TakeRow.rows _ _ _ _ c.requires.within c.index_mut.ensures.value c.take.ensures.long
