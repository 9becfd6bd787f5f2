use Rattle.vx_array_kernels.proofs.Along.{along_any, along_one, along_places}
use Rattle.vx_array_kernels.proofs.reach.along.Goals as goal

pub returns-in-AnyText : goal.returns-in-AnyText
returns-in-AnyText c = λ ci bytes p ps len is few room ascii. along_any ci bytes p ps c.args.step.now c.args.reached c.upward.result c.args.from len c.in-AnyText.is is few room c.upward.ensures.first c.upward.ensures.next

pub returns-in-AnyOne : goal.returns-in-AnyOne
returns-in-AnyOne c = λ ci bytes p ps len is few room ascii. along_one ci bytes p ps c.args.step.now c.args.reached c.args.from len c.in-AnyOne.is is few room

pub returns-in-One : goal.returns-in-One
returns-in-One c = λ ci bytes p ps len is few room ascii. along_places ci bytes p ps c.args.step.now c.in-One.places c.args.reached c.window.result c.args.from len c.in-One.is is few room ascii c.window.ensures
