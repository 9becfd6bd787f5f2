-- Days of the calendar, as the library of dates has them.
use Rattle.std.specs.Prelude.{unsigned_abs}
use Rattle.jiff_core.specs.declared.civil.date.Date.{Date}
use Rattle.vx_literals.specs.Days.{Civil, civil}

-- the year, the month and the day of a date in a year from 0 on
abbrev pub civil_of : Date → Civil
civil_of d = civil (unsigned_abs d.year) d.month d.day
