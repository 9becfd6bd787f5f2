use Rattle.std.proofs.Output.{has_written_of_eq}
use Rattle.vx_floats.proofs.Shown.{finite_text, infinity_text, nan_text}
use Rattle.vx_floats.proofs.texts.FloatDisplay.fmt.Goals as goal

pub returns-in-Nan-clause-writes : goal.returns-in-Nan-clause-writes
returns-in-Nan-clause-writes g c = λ plain ok. has_written_of_eq _ _ _ _ _ (nan_text c.args.self.now c.in-Nan.ensures) (c.write_str.ensures.writes plain ok)

pub returns-in-Infinite-clause-writes : goal.returns-in-Infinite-clause-writes
returns-in-Infinite-clause-writes g c = λ plain ok. has_written_of_eq _ _ _ _ _ (infinity_text c.args.self.now c.in-Infinite.negative c.in-Infinite.ensures) (c.write_infinity.ensures plain ok)

pub returns-in-Finite-clause-writes : goal.returns-in-Finite-clause-writes
returns-in-Finite-clause-writes g c = λ plain ok. has_written_of_eq _ _ _ _ _ (finite_text c.args.self.now c.in-Finite.fraction c.in-Finite.ensures) (c.write_finite.ensures plain ok)
