use Rattle.std.proofs.Common.{length, subst, sym}
use Rattle.vx_array_kernels.specs.Results.{AreComputed}
use Rattle.vx_array_kernels.proofs.arithmetic.write_results.Goals as goal

pub returns-in-Sum : goal.returns-in-Sum
returns-in-Sum g c none f h left right =
    subst (λ o. AreComputed g.T.Number.fits g.T.Number.number o c.args.validity.now f h (length c.args.rows.now) c.write_by.new.rows) (sym c.in-Sum.is) (c.write_by.ensures none f h left right)

pub returns-in-Difference : goal.returns-in-Difference
returns-in-Difference g c none f h left right =
    subst (λ o. AreComputed g.T.Number.fits g.T.Number.number o c.args.validity.now f h (length c.args.rows.now) c.write_by-in-Difference.new.rows) (sym c.in-Difference.is) (c.write_by-in-Difference.ensures none f h left right)

pub returns-in-Product : goal.returns-in-Product
returns-in-Product g c none f h left right =
    subst (λ o. AreComputed g.T.Number.fits g.T.Number.number o c.args.validity.now f h (length c.args.rows.now) c.write_by-in-Product.new.rows) (sym c.in-Product.is) (c.write_by-in-Product.ensures none f h left right)

pub returns-in-Quotient : goal.returns-in-Quotient
returns-in-Quotient g c none f h left right =
    subst (λ o. AreComputed g.T.Number.fits g.T.Number.number o c.args.validity.now f h (length c.args.rows.now) c.write_by-in-Quotient.new.rows) (sym c.in-Quotient.is) (c.write_by-in-Quotient.ensures none f h left right)

pub returns-in-Remainder : goal.returns-in-Remainder
returns-in-Remainder g c none f h left right =
    subst (λ o. AreComputed g.T.Number.fits g.T.Number.number o c.args.validity.now f h (length c.args.rows.now) c.write_by-in-Remainder.new.rows) (sym c.in-Remainder.is) (c.write_by-in-Remainder.ensures none f h left right)
